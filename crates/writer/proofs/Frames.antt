-- The frames of rows and bodies: their rows, bodies and octets, and that they are legal.
use mathlib.Core.Path.{◌≡◌, refl, sym, ap, ◌∙◌}
use mathlib.Core.Bool.{Bool, true, false}
use mathlib.Core.List.{List, [], ◌∷◌, ◌++◌}
use Prim.Native.Nat.{ℕ, ◌+◌, ◌-◌, ◌≤◌}
use native.Mathlib.Omega.{arith}
use lib.Dec.{ltb}
use lib.ListN.{length, get_or, take, drop, length-append, length-drop, take-append-drop}
use lib.Seq.{length-take-le, take_at, drop_at}
use borrow.Author.Tests.{le-ltb, ltb-false}
use Rattle.std.specs.Prelude.{Some, None}
use Rattle.std.proofs.lemmas.List.{nil_from_length}
use Rattle.octets.specs.Octet.{Octets}
use Rattle.wire.specs.Frame.{Frame, base, top, body_octets, wire_octets, sum_of, wire_of, octets_of, rows_of, bodies_of, LegalBodies}
use Rattle.wire.specs.declared.Framing.{Framing}
use Rattle.wire.specs.declared.Row.{Row}
use Rattle.wire.proofs.Octets.{length-wire}
use Rattle.writer.specs.Write.{frames_of, bad_end}
use Rattle.octets.proofs.Octet.{octets_take, octets_drop}

-- ---- rows and bodies

pub frames_rows : (xs : List Row) (bs : List ℕ) → rows_of (frames_of xs bs) ≡ xs
frames_rows [] bs = refl
frames_rows (x ∷ xs) bs = ap (λ (l : List Row). x ∷ l) (frames_rows xs (drop (body_octets x) bs))

pub frames_bodies : (xs : List Row) (bs : List ℕ) → length bs ≡ sum_of body_octets xs → bodies_of (frames_of xs bs) ≡ bs
frames_bodies [] bs e = sym (nil_from_length bs e)
frames_bodies (x ∷ xs) bs e =
    ap (λ (l : List ℕ). take (body_octets x) bs ++ l) (frames_bodies xs (drop (body_octets x) bs) (omega (arith, length-drop (body_octets x) bs)))
    ∙ take-append-drop (body_octets x) bs

-- the frames of a sequence's own rows and bodies are the sequence
pub frames_back : (fr : Framing) (fs : List Frame) → LegalBodies fr fs → frames_of (rows_of fs) (bodies_of fs) ≡ fs
frames_back fr [] h = refl
frames_back fr (f ∷ fs) h =
    let n : ℕ = body_octets f.row in
    let t : take n (f.body ++ bodies_of fs) ≡ f.body = take_at f.body (bodies_of fs) n h.0.size in
    let d : drop n (f.body ++ bodies_of fs) ≡ bodies_of fs = drop_at f.body (bodies_of fs) n h.0.size in
    let e : frames_of (rows_of fs) (drop n (f.body ++ bodies_of fs)) ≡ fs = ap (frames_of (rows_of fs)) d ∙ frames_back fr fs h.1 in
    λ i. record { row = f.row; body = t i } ∷ e i

-- ---- body ends

pub ends_legal : (fr : Framing) (fs : List Frame) → LegalBodies fr fs → (a : ℕ) → bad_end fr a fs ≡ None
ends_legal fr [] h a = refl
ends_legal fr (f ∷ fs) h a = simp (le-ltb (top fr f.row) (get_or f.body (base f.row - 1) 0) h.0.end) (ends_legal fr fs h.1 (a + body_octets f.row))

-- where no end is bad, the first is not, nor any behind it
pub good_end : (fr : Framing) (a : ℕ) (f : Frame) (fs : List Frame) → bad_end fr a (f ∷ fs) ≡ None → (get_or f.body (base f.row - 1) 0 ≤ top fr f.row) × (bad_end fr (a + body_octets f.row) fs ≡ None)
good_end fr a f fs e = go (ltb (top fr f.row) (get_or f.body (base f.row - 1) 0)) refl
  where
    go : (b : Bool) → ltb (top fr f.row) (get_or f.body (base f.row - 1) 0) ≡ b → (get_or f.body (base f.row - 1) 0 ≤ top fr f.row) × (bad_end fr (a + body_octets f.row) fs ≡ None)
    go true t = absurd (let d : Some (a + (base f.row - 1)) ≡ None = simp t at e in cc)
    go false t = (ltb-false (top fr f.row) (get_or f.body (base f.row - 1) 0) t, simp t at e)

pub frames_legal : (fr : Framing) (xs : List Row) (bs : List ℕ) → Octets bs → sum_of body_octets xs ≤ length bs → (a : ℕ) → bad_end fr a (frames_of xs bs) ≡ None → LegalBodies fr (frames_of xs bs)
frames_legal fr [] bs o l a e = tt
frames_legal fr (x ∷ xs) bs o l a e =
    let n : ℕ = body_octets x in
    let g = good_end fr a (record { row = x; body = take n bs }) (frames_of xs (drop n bs)) e in (
      record { size = length-take-le n bs (omega arith); end = g.0; octets = octets_take n bs o },
      frames_legal fr xs (drop n bs) (octets_drop n bs o) (omega (arith, length-drop n bs)) (a + n) g.1,
    )

-- ---- octets

pub frames_octets : (fr : Framing) (xs : List Row) (bs : List ℕ) → sum_of body_octets xs ≤ length bs → length (octets_of fr (frames_of xs bs)) ≡ sum_of wire_octets xs
frames_octets fr [] bs h = refl
frames_octets fr (x ∷ xs) bs h =
    let n : ℕ = body_octets x in
    length-append (wire_of fr x (take n bs)) (octets_of fr (frames_of xs (drop n bs)))
    ∙ omega (arith, length-wire fr x (take n bs) (length-take-le n bs (omega arith)), frames_octets fr xs (drop n bs) (omega (arith, length-drop n bs)))
