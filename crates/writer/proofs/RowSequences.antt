-- The checks of rows pass exactly the rows of legal sequences: what they pass, and that they pass it.
use mathlib.Core.Path.{◌≡◌, refl, sym, ap, ◌∙◌, subst}
use mathlib.Core.Logic.{◌⊎◌, inl, inr}
use mathlib.Core.List.{List, [], ◌∷◌, ◌++◌, append_assoc, append-nil}
use Prim.Native.Nat.{ℕ, ◌-◌, ◌*◌, ◌/◌, ◌%◌, ◌≤◌, ◌<◌}
use native.Mathlib.Nat.{div-add-mod}
use native.Mathlib.Omega.{arith}
use lib.Dec.{ltb, eqb}
use lib.ListN.{length}
use borrow.Author.Tests.{lt-ltb, le-ltb, ltb-false, eq-eqb, ne_eqb, eqb-false}
use Rattle.std.specs.Prelude.{Option}
use Rattle.refusal.specs.declared.Reason.TheVariants.{TooLong, OddRows}
use Rattle.std.proofs.lemmas.List.{nil_from_length}
use Rattle.wire.specs.Frame.{AgreedOn, agreed_rate, rate, kind_of, numbers_of, wire_octets, sum_of, OfRate, LegalRows}
use Rattle.wire.specs.declared.Framing.{Framing}
use Rattle.wire.specs.declared.Kind.{Kind}
use Rattle.wire.specs.declared.Row.{Row}
use Rattle.wire.proofs.TableLaws.{kind_of_lem}
use Rattle.wire.proofs.Rates.{either}
use Rattle.writer.specs.Rows.{Outcome, passed, refused, and_then, row_of, row_by_row, total, check_of}
use Rattle.writer.specs.Stages.{AllOf}
use Rattle.writer.proofs.Outcomes.{not_passed, refuse_passed, then_passed}
use Rattle.wire.proofs.Rates.{noise_stands, coder_stands}
use Rattle.writer.proofs.WireRows.{number_of, length_numbers, rows_most}
use Rattle.writer.proofs.RowLaws.{all_snoc, all_front, Standing, Fit, Says, says, fit_passes}

-- ---- what passes

-- behind rows of one rate, the numbers ns hold rows of that rate, which make xs of them
record Held (fr : Framing) (earlier : List Row) (ns : List ℕ) (xs : List Row) : Type 0 where
  rest : List Row
  is : xs ≡ earlier ++ rest
  numbers : ns ≡ numbers_of rest
  common : ℕ
  agreed : AgreedOn fr common
  before : AllOf common earlier
  rated : OfRate common rest

module _ (fr : Framing) (earlier : List Row) (n t : ℕ) (ns : List ℕ) (x : Row) (fit : Fit fr earlier (length ns) (kind_of n) t x) (xs : List Row) where
  named : (rest : List Row) → ns ≡ numbers_of rest → n ∷ t ∷ ns ≡ numbers_of (x ∷ rest)
  named rest e = let k = number_of n x.kind fit.kind in let u = fit.tc in cc

  -- comfort noise, which ends the rows
  held_noise : (s : ℕ) → AgreedOn fr s → AllOf s earlier → rate x ≡ 0 → length ns ≤ 0 → row_by_row fr (earlier ++ (x ∷ [])) ns ≡ passed xs → Held fr earlier (n ∷ t ∷ ns) xs
  held_noise s g a z l e =
      let nil : ns ≡ [] = nil_from_length ns (omega arith) in
      let d : passed (earlier ++ (x ∷ [])) ≡ passed xs = rw nil at e in
      let q : earlier ++ (x ∷ []) ≡ xs = cc in
      record { rest = x ∷ []; is = sym q; numbers = named [] nil; common = s; agreed = g; before = a; rated = (fit.legal, noise_stands s (rate x) [] z refl, tt) }

  -- a coder row, which has the rate of all behind it
  held_coder : (rate x ≡ 0 → ⊥) → Held fr (earlier ++ (x ∷ [])) ns xs → Held fr earlier (n ∷ t ∷ ns) xs
  held_coder z h =
      let w = all_front h.common earlier x h.before in
      record {
        rest = x ∷ h.rest;
        is = h.is ∙ append_assoc earlier (x ∷ []) h.rest;
        numbers = named h.rest h.numbers;
        common = h.common;
        agreed = h.agreed;
        before = w.0;
        rated = (fit.legal, coder_stands h.common (rate x) h.rest z w.1, h.rated);
      }

held : (fr : Framing) (ns : List ℕ) (m : ℕ) → length ns ≡ 2 * m → (earlier : List Row) (s : ℕ) → AgreedOn fr s → AllOf s earlier → (xs : List Row) → row_by_row fr earlier ns ≡ passed xs → Held fr earlier ns xs
held fr [] m l earlier s g a xs e =
    let q : earlier ≡ xs = cc in
    record { rest = []; is = sym q ∙ sym (append-nil earlier); numbers = refl; common = s; agreed = g; before = a; rated = tt }
held fr (n ∷ []) m l earlier s g a xs e = absurd (omega arith)
held fr (n ∷ t ∷ ns) m l earlier s g a xs e = go (row_of fr earlier (length ns) (kind_of n) t) (says fr earlier (length ns) (kind_of n) t) e (held fr ns (m - 1) (omega arith))
  where
    stood : (x : Row) → Fit fr earlier (length ns) (kind_of n) t x → row_by_row fr (earlier ++ (x ∷ [])) ns ≡ passed xs
        → ((p : List Row) (r : ℕ) → AgreedOn fr r → AllOf r p → (ys : List Row) → row_by_row fr p ns ≡ passed ys → Held fr p ns ys) → Standing fr earlier (length ns) x → Held fr earlier (n ∷ t ∷ ns) xs
    stood x fit d ih (inl w) = held_noise fr earlier n t ns x fit xs s g a w.0 w.1 d
    stood x fit d ih (inr w) = held_coder fr earlier n t ns x fit xs w.0 (ih (earlier ++ (x ∷ [])) (rate x) w.1 (all_snoc (rate x) earlier x w.2 refl) xs d)

    go : (o : Outcome Row) → Says fr earlier (length ns) (kind_of n) t o → and_then o (λ x. row_by_row fr (earlier ++ (x ∷ [])) ns) ≡ passed xs
        → ((p : List Row) (r : ℕ) → AgreedOn fr r → AllOf r p → (ys : List Row) → row_by_row fr p ns ≡ passed ys → Held fr p ns ys) → Held fr earlier (n ∷ t ∷ ns) xs
    go (refused reason place) w d ih = not_passed d
    go (passed x) fit d ih = stood x fit d ih fit.stands

-- ---- the rows of a legal sequence pass

pub pass_all : (fr : Framing) (rest : List Row) (r : ℕ) → AgreedOn fr r → OfRate r rest → (earlier : List Row) → AllOf r earlier → row_by_row fr earlier (numbers_of rest) ≡ passed (earlier ++ rest)
pass_all fr [] r g o earlier a = ap passed (sym (append-nil earlier))
pass_all fr (x ∷ rest) r g o earlier a = go (either r (rate x) rest o.1) (pass_all fr rest r g o.2)
  where
    next : Standing fr earlier (length (numbers_of rest)) x → row_by_row fr earlier (numbers_of (x ∷ rest)) ≡ row_by_row fr (earlier ++ (x ∷ [])) (numbers_of rest)
    next s =
        ap (λ (k : Option Kind). and_then (row_of fr earlier (length (numbers_of rest)) k x.tc) (λ y. row_by_row fr (earlier ++ (y ∷ [])) (numbers_of rest))) (kind_of_lem x.kind)
        ∙ ap (λ (w : Outcome Row). and_then w (λ y. row_by_row fr (earlier ++ (y ∷ [])) (numbers_of rest))) (fit_passes fr earlier (length (numbers_of rest)) x o.0 s)

    go : ((rate x ≡ 0) × (rest ≡ [])) ⊎ ((rate x ≡ 0 → ⊥) × (rate x ≡ r)) → ((p : List Row) → AllOf r p → row_by_row fr p (numbers_of rest) ≡ passed (p ++ rest))
        → row_by_row fr earlier (numbers_of (x ∷ rest)) ≡ passed (earlier ++ (x ∷ rest))
    go (inl w) ih =
        next (inl (w.0, omega (arith, ap (λ (l : List Row). length (numbers_of l)) w.1)))
        ∙ ap (λ (l : List Row). row_by_row fr (earlier ++ (x ∷ [])) (numbers_of l)) w.1
        ∙ ap (λ (l : List Row). passed (earlier ++ (x ∷ l))) (sym w.1)
    go (inr w) ih =
        next (inr (w.0, rw w.1 g, rw w.1 a))
        ∙ ih (earlier ++ (x ∷ [])) (all_snoc r earlier x a w.1)
        ∙ ap passed (append_assoc earlier (x ∷ []) rest)

-- ---- the whole list

module _ (fr : Framing) (ns : List ℕ) where
  pub check_odd : length ns % 2 ≡ 1 → check_of fr ns ≡ refused OddRows (length ns)
  unfolding check_of
  check_odd e = simp (eq-eqb (length ns % 2) 1 e)

  pub check_many : (length ns % 2 ≡ 1 → ⊥) → 200 < length ns / 2 → check_of fr ns ≡ refused TooLong 1400
  unfolding check_of
  check_many e h = simp (ne_eqb (length ns % 2) 1 e, lt-ltb 200 (length ns / 2) h)

  pub check_each : (length ns % 2 ≡ 1 → ⊥) → length ns / 2 ≤ 200 → check_of fr ns ≡ and_then (row_by_row fr [] ns) total
  unfolding check_of
  check_each e h = simp (ne_eqb (length ns % 2) 1 e, le-ltb 200 (length ns / 2) h)

  -- what a list that passes holds
  pub checked_legal : (xs : List Row) → check_of fr ns ≡ passed xs → (ns ≡ numbers_of xs) × LegalRows fr xs
  unfolding check_of
  checked_legal xs e =
      let odd = refuse_passed (eqb (length ns % 2) 1) OddRows (length ns) _ xs e in
      let many = refuse_passed (ltb 200 (length ns / 2)) TooLong 1400 _ xs odd.1 in
      let each = then_passed (row_by_row fr [] ns) total xs many.1 in
      let sum = refuse_passed (ltb 1400 (sum_of wire_octets each.0)) TooLong 1400 (passed each.0) xs each.2 in
      let same : each.0 ≡ xs = (let p = sum.1 in cc) in
      let even = eqb-false (length ns % 2) 1 odd.0 in
      let h = held fr ns (length ns / 2) (omega (arith, div-add-mod (length ns) 2)) [] (agreed_rate fr) (inr refl) tt each.0 each.1 in
      let q : h.rest ≡ xs = sym h.is ∙ same in (
        h.numbers ∙ ap numbers_of q,
        record { common = h.common; agreed = h.agreed; rated = subst (OfRate h.common) q h.rated; total = omega (arith, ltb-false 1400 (sum_of wire_octets each.0) sum.0, ap (sum_of wire_octets) same) },
      )

-- and legal rows pass
pub check_legal : (fr : Framing) (xs : List Row) → LegalRows fr xs → check_of fr (numbers_of xs) ≡ passed xs
check_legal fr xs l =
    let n = length_numbers xs in
    let d = div-add-mod (length (numbers_of xs)) 2 in
    check_each fr (numbers_of xs) (λ e. omega arith) (omega (arith, rows_most fr xs l))
    ∙ ap (λ (o : Outcome (List Row)). and_then o total) (pass_all fr xs l.common l.agreed l.rated [] tt)
    ∙ simp (le-ltb 1400 (sum_of wire_octets xs) l.total)
