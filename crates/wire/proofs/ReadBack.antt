-- The walk's step reads back the frame whose octets end where the unread octets end.
use mathlib.Core.Path.{◌≡◌, refl, ap, ◌∙◌}
use mathlib.Core.List.{List, [], ◌∷◌}
use Prim.Native.Nat.{ℕ, suc, ◌+◌, ◌-◌, ◌≤◌, ◌<◌}
use native.Mathlib.Omega.{arith}
use lib.Dec.{T, ltb, eqb, leb→le, eqb→eq}
use lib.ListN.{length, get_or}
use borrow.Author.Tests.{le-ltb}
use Rattle.std.specs.Prelude.{Ok}
use Rattle.wire.specs.Frame.{LegalRow, base, top, code, count_of, body_octets, wire_octets, wire_of}
use Rattle.wire.specs.Walk.{named, counted, ending, whole, last_frame}
use Rattle.wire.specs.declared.Framing.{Framing, Framing}
use Rattle.wire.specs.declared.Row.{Row, Row}
use Rattle.wire.proofs.TableLaws.{first, second, each, at_number, bounds, octet}
use Rattle.wire.proofs.NameLaws.{agrees, same, same_is, named_by, row_named}
use Rattle.wire.proofs.Octets.{wire-base, wire_count}
use Rattle.wire.proofs.Endings.{ending_one, ending_two}

module _ (fr : Framing) where
  -- the octets of a frame stand in p from a on, and u octets are unread, up to the frame's end
  pub record InPlace (p : List ℕ) (u a : ℕ) (x : Row) (b : List ℕ) : Type 0 where
    pub legal : LegalRow x
    pub agrees : T (agrees fr x.kind)
    pub size : length b ≡ body_octets x
    pub end : get_or b (base x - 1) 0 ≤ top fr x
    pub unread : u ≡ a + wire_octets x
    pub reads : (i : ℕ) → i < wire_octets x → get_or p (a + i) 0 ≡ get_or (wire_of fr x b) i 0

  module _ (p : List ℕ) (u a : ℕ) (x : Row) (b : List ℕ) (h : InPlace p u a x b) where
    -- its base's last octet, and an octet of its count
    base_end : get_or p (a + (base x - 1)) 0 ≡ get_or b (base x - 1) 0 + code fr x
    base_end = let w = bounds x.kind in h.reads (base x - 1) (omega arith) ∙ wire-base fr x b h.size

    count_octet : (i j : ℕ) (cs : List ℕ) → count_of x ≡ cs → i < length (count_of x) → j ≡ a + (body_octets x + i) → get_or p j 0 ≡ get_or cs i 0
    count_octet i j cs c l e =
        ap (λ (n : ℕ). get_or p n 0) e ∙ h.reads (body_octets x + i) (omega arith) ∙ wire_count fr x b h.size i ∙ ap (λ (l : List ℕ). get_or l i 0) c

    ending_by : (cs : List ℕ) → count_of x ≡ cs → T (named_by fr x cs) → ending fr p u ≡ Ok x
    ending_by [] c t =
        let w = bounds x.kind in
        let v = octet fr x.kind in
        let n : length (count_of x) ≡ 0 = ap length c in
        let z : x.tc ≡ 0 = eqb→eq _ _ (first (eqb x.tc 0) (each (λ (y : ℕ). same (named fr y) x) (code fr x) (suc (top fr x))) t) in
        let i : u - 1 ≡ a + (base x - 1) = omega (arith, h.unread) in
        let y : ℕ = get_or b (base x - 1) 0 + code fr x in
        let s : T (same (named fr y) x) =
        at_number (λ (y : ℕ). same (named fr y) x) (code fr x) (suc (top fr x)) (second (eqb x.tc 0) _ t) y (omega arith) (omega (arith, h.end)) in
        ending_one fr p u y (omega (arith, h.unread)) (ap (λ (n : ℕ). get_or p n 0) i ∙ base_end) (omega (arith, h.end)) ∙ same_is (named fr y) x s
    ending_by (c ∷ []) d t =
        let n : length (count_of x) ≡ 1 = ap length d in
        let e = count_octet 0 (u - 1) (c ∷ []) d (omega arith) (omega (arith, h.unread)) in
        ending_one fr p u c (omega (arith, h.unread)) e (leb→le _ _ (first (ltb c 255) (same (named fr c) x) t)) ∙ same_is (named fr c) x (second (ltb c 255) (same (named fr c) x) t)
    ending_by (c ∷ d ∷ []) q t =
        let n : length (count_of x) ≡ 2 = ap length q in
        let l : d ≡ 255 = eqb→eq _ _ (first (eqb d 255) (same (counted c) x) t) in
        let e = count_octet 1 (u - 1) (c ∷ d ∷ []) q (omega arith) (omega (arith, h.unread)) in
        let e₂ = count_octet 0 (u - 2) (c ∷ d ∷ []) q (omega arith) (omega (arith, h.unread)) in
        ending_two fr p u c (omega (arith, h.unread)) (omega (arith, e)) e₂ ∙ same_is (counted c) x (second (eqb d 255) (same (counted c) x) t)
    ending_by (c ∷ d ∷ f ∷ cs) q t = absurd t

    pub last_wire : last_frame fr p u ≡ Ok x
    unfolding last_frame whole
    last_wire =
        let w = bounds x.kind in
        let i : u - wire_octets x + (base x - 1) ≡ a + (base x - 1) = omega (arith, h.unread) in
        let e : get_or p (u - wire_octets x + (base x - 1)) 0 ≡ get_or b (base x - 1) 0 + code fr x = ap (λ (n : ℕ). get_or p n 0) i ∙ base_end in
        rw (ending_by (count_of x) refl (row_named fr x h.agrees h.legal))
        (simp (le-ltb u (wire_octets x) (omega (arith, h.unread)), le-ltb (code fr x + top fr x) (get_or p (u - wire_octets x + (base x - 1)) 0) (omega (arith, h.end))))
