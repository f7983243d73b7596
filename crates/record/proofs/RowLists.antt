-- Row lists with one row more at their end: their numbers, starts, sums and record; and the rows before the last, which are in order too.
use Rattle.std.proofs.lemmas.List.{length_push}
use Rattle.std.proofs.Common.{◌≡◌, ℕ, suc, ◌+◌, ◌-◌, ◌*◌, ◌≤◌, ◌<◌, ◌⊎◌, inl, inr, List, [], ◌∷◌, ◌++◌, Option, Some, length, get_or, set, refl, sym, ap, ◌∙◌, length-append, arith}
use Rattle.std.proofs.Math.Seq.{get_or_at}
use Rattle.wire.specs.Frame.{table, kind_of, rate, ticks, wire_octets, sum_of, numbers_of, Stands, OfRate, LegalRows}
use Rattle.wire.specs.Answers.{shape_of}
use Rattle.wire.specs.declared.Framing.TheVariants.{Unframed}
use Rattle.wire.specs.declared.Kind.{Kind}
use Rattle.wire.specs.declared.Row.{Row}
use Rattle.wire.specs.declared.Shape.{Shape}
use Rattle.wire.proofs.TableLaws.{kind_of_lem, bounds, count_most}
use Rattle.wire.proofs.Rates.{either, ticks_most}
use Rattle.wire.proofs.Rates.{noise_stands, coder_stands}
use Rattle.writer.proofs.WireRows.{length_numbers, rows_most}
use Rattle.record.specs.Afresh.{padded, starts_from, record_of}
use Rattle.record.specs.Promise.{MadeFrom}
use Rattle.record.specs.Stages.{with_row, without_last, ticks_if}
use Rattle.record.specs.declared.Record.{Record}
use Rattle.record.proofs.Padding.{get_d_second, fill, fill_two, clear, clear_two, get_d_padded}

-- ---- lists

pub numbers_append : (xs ys : List Row) → numbers_of (xs ++ ys) ≡ numbers_of xs ++ numbers_of ys
numbers_append [] ys = refl
numbers_append (x ∷ xs) ys = ap (λ (l : List ℕ). (table x.kind).number ∷ x.tc ∷ l) (numbers_append xs ys)

pub sum-append : (f : Row → ℕ) (xs ys : List Row) → sum_of f (xs ++ ys) ≡ sum_of f xs + sum_of f ys
sum-append f [] ys = omega arith
sum-append f (x ∷ xs) ys = omega (arith, sum-append f xs ys)

pub sum-snoc : (f : Row → ℕ) (xs : List Row) (x : Row) → sum_of f (xs ++ (x ∷ [])) ≡ sum_of f xs + f x
sum-snoc f xs x = omega (arith, sum-append f xs (x ∷ []))

pub length_starts : (a : ℕ) (xs : List Row) → length (starts_from a xs) ≡ length xs
length_starts a [] = refl
length_starts a (x ∷ xs) = ap suc (length_starts (a + wire_octets x) xs)

pub starts_append : (a : ℕ) (xs ys : List Row) → starts_from a (xs ++ ys) ≡ starts_from a xs ++ starts_from (a + sum_of wire_octets xs) ys
starts_append a [] ys = let e : a ≡ a + 0 = omega arith in ap (λ (b : ℕ). starts_from b ys) e
starts_append a (x ∷ xs) ys =
    let e : a + wire_octets x + sum_of wire_octets xs ≡ a + (wire_octets x + sum_of wire_octets xs) = omega arith in
    ap (λ (l : List ℕ). a ∷ l) (starts_append (a + wire_octets x) xs ys ∙ ap (λ (b : ℕ). starts_from (a + wire_octets x) xs ++ starts_from b ys) e)

-- a list is empty or has a last row
abbrev pub Ended : List Row → Type 0
Ended xs = (xs ≡ []) ⊎ ((ys : List Row) × (l : Row) × (xs ≡ ys ++ (l ∷ [])))

pub ended : (xs : List Row) → Ended xs
ended [] = inl refl
ended (x ∷ xs) = go (ended xs)
  where
    go : Ended xs → Ended (x ∷ xs)
    go (inl e) = inr ([], x, ap (λ (l : List Row). x ∷ l) e)
    go (inr w) = inr (x ∷ w.0, w.1, ap (λ (l : List Row). x ∷ l) w.2)

-- the octets of a row: at most 11 of its base, its TC, and two of its count
pub wire_most : (x : Row) {s : Shape} → s ≡ shape_of Unframed x → s.wire ≤ x.tc + 13
wire_most x e = let b = bounds x.kind in rw e (omega (arith, count_most (table x.kind).counting x.tc))

-- ---- in order

-- the rows before others
rated_front : (r : ℕ) (xs ys : List Row) → OfRate r (xs ++ ys) → OfRate r xs
rated_front r [] ys o = tt
rated_front r (x ∷ xs) ys o = (o.0, go (either r (rate x) (xs ++ ys) o.1), rated_front r xs ys o.2)
  where
    nil : (zs : List Row) → zs ++ ys ≡ [] → zs ≡ []
    nil [] e = refl
    nil (z ∷ zs) e = absurd (omega (arith, ap length e))

    go : ((rate x ≡ 0) × (xs ++ ys ≡ [])) ⊎ ((rate x ≡ 0 → ⊥) × (rate x ≡ r)) → Stands r (rate x) xs
    go (inl w) = noise_stands r (rate x) xs w.0 (nil xs w.1)
    go (inr w) = coder_stands r (rate x) xs w.0 w.1

pub legal_front : (xs ys : List Row) → LegalRows Unframed (xs ++ ys) → LegalRows Unframed xs
legal_front xs ys l = record { common = l.common; agreed = l.agreed; rated = rated_front l.common xs ys l.rated; total = omega (arith, l.total, sum-append wire_octets xs ys) }

ticks-sum : (xs : List Row) → sum_of ticks xs ≤ 720 * length xs
ticks-sum [] = omega arith
ticks-sum (x ∷ xs) = omega (arith, ticks_most (rate x), ticks-sum xs)

-- ---- their record

-- no record made from rows is larger
pub record Few (xs : List Row) (p : Record) : Type 0 where
  pub rows : p.rows ≡ length xs
  pub most : p.rows ≤ 200
  pub octets : p.octets ≤ 1400
  pub ticks : p.ticks ≤ 144000

pub few : (xs : List Row) (p : Record) → MadeFrom xs p → Few xs p
unfolding record_of
few xs p m = let n = rows_most Unframed xs m.legal in rw m.is (record { rows = refl; most = n; octets = m.legal.total; ticks = omega (arith, ticks-sum xs) })

module _ (xs : List Row) (x : Row) (h : length xs < 200) where
  numbers_room : length (numbers_of xs) + 2 ≤ 400
  numbers_room = omega (arith, length_numbers xs)

  starts_room : length (starts_from 0 xs) < 200
  starts_room = omega (arith, length_starts 0 xs)

  starts_last : starts_from 0 xs ++ (sum_of wire_octets xs ∷ []) ≡ starts_from 0 (xs ++ (x ∷ []))
  starts_last = let e : sum_of wire_octets xs ≡ 0 + sum_of wire_octets xs = omega arith in ap (λ (a : ℕ). starts_from 0 xs ++ (a ∷ [])) e ∙ sym (starts_append 0 xs (x ∷ []))

  -- one row more
  pub with_row_lem : with_row (record_of xs) x ≡ record_of (xs ++ (x ∷ []))
  unfolding record_of
  with_row_lem =
      let numbers = fill_two 400 (numbers_of xs) numbers_room (table x.kind).number x.tc (2 * length xs) (sym (length_numbers xs)) ∙ ap (padded 400) (sym (numbers_append xs (x ∷ []))) in
      let starts = fill 200 (starts_from 0 xs) starts_room (sum_of wire_octets xs) (length xs) (sym (length_starts 0 xs)) ∙ ap (padded 200) starts_last in
      let rows = sym (length_push xs x) in
      let octets = sym (sum-snoc wire_octets xs x) in
      let time = sym (sum-snoc ticks xs x) in
      λ i. record { numbers = numbers i; starts = starts i; rows = rows i; octets = octets i; ticks = time i }

  -- the numbers of the last row
  inside : (i : ℕ) → i < 2 → get_or (padded 400 (numbers_of (xs ++ (x ∷ [])))) (2 * length xs + i) 0 ≡ get_or (numbers_of xs ++ numbers_of (x ∷ [])) (2 * length xs + i) 0
  inside i l =
      ap (λ (ns : List ℕ). get_or (padded 400 ns) (2 * length xs + i) 0) (numbers_append xs (x ∷ []))
      ∙ get_d_padded 400 (numbers_of xs ++ numbers_of (x ∷ [])) (2 * length xs + i) (omega (arith, length_numbers xs, length-append (numbers_of xs) (numbers_of (x ∷ []))))

  pub number_last : get_or (padded 400 (numbers_of (xs ++ (x ∷ [])))) (2 * length xs) 0 ≡ (table x.kind).number
  number_last =
      let z : 2 * length xs ≡ 2 * length xs + 0 = omega arith in
      ap (λ (i : ℕ). get_or (padded 400 (numbers_of (xs ++ (x ∷ [])))) i 0) z
      ∙ inside 0 (omega arith)
      ∙ get_or_at (numbers_of xs) (table x.kind).number (x.tc ∷ []) 0 (2 * length xs + 0) (length_numbers xs ∙ z)

  pub tc_last : get_or (padded 400 (numbers_of (xs ++ (x ∷ [])))) (2 * length xs + 1) 0 ≡ x.tc
  tc_last = inside 1 (omega arith) ∙ get_d_second (numbers_of xs) (table x.kind).number x.tc [] (2 * length xs) (length_numbers xs)

  kind_last : kind_of (get_or (padded 400 (numbers_of (xs ++ (x ∷ [])))) (2 * length xs) 0) ≡ Some x.kind
  kind_last = ap kind_of number_last ∙ kind_of_lem x.kind

  start_last : get_or (padded 200 (starts_from 0 (xs ++ (x ∷ [])))) (length xs) 0 ≡ sum_of wire_octets xs
  start_last =
      ap (λ (l : List ℕ). get_or (padded 200 l) (length xs) 0) (sym starts_last)
      ∙ get_d_padded 200 (starts_from 0 xs ++ (sum_of wire_octets xs ∷ [])) (length xs) (omega (arith, length_starts 0 xs, length-append (starts_from 0 xs) (sum_of wire_octets xs ∷ [])))
      ∙ get_or_at (starts_from 0 xs) (sum_of wire_octets xs) [] 0 (length xs) (length_starts 0 xs)

  -- one row less
  pub without_last_lem : without_last (record_of (xs ++ (x ∷ []))) (length xs) ≡ record_of xs
  unfolding record_of ticks_if
  without_last_lem =
      let numbers =
      ap (λ (l : List ℕ). set (set (padded 400 l) (2 * length xs) 0) (2 * length xs + 1) 0) (numbers_append xs (x ∷ []))
      ∙ clear_two 400 (numbers_of xs) numbers_room (table x.kind).number x.tc (2 * length xs) (sym (length_numbers xs)) in
      let starts = ap (λ (l : List ℕ). set (padded 200 l) (length xs) 0) (sym starts_last) ∙ clear 200 (starts_from 0 xs) starts_room (sum_of wire_octets xs) (length xs) (sym (length_starts 0 xs)) in
      let time : sum_of ticks (xs ++ (x ∷ [])) - ticks_if (kind_of (get_or (padded 400 (numbers_of (xs ++ (x ∷ [])))) (2 * length xs) 0)) ≡ sum_of ticks xs =
      ap (λ (k : Option Kind). sum_of ticks (xs ++ (x ∷ [])) - ticks_if k) kind_last ∙ omega (arith, sum-snoc ticks xs x) in
      λ i. record { numbers = numbers i; starts = starts i; rows = length xs; octets = start_last i; ticks = time i }
