-- What the operations come to, as the code asks: hypotheses are what a callee ensures, and the conclusion is what is left to show.
use Rattle.std.proofs.lemmas.List.{length_push}
use Rattle.std.proofs.Common.{◌≡◌, ℕ, ◌+◌, ◌-◌, ◌*◌, ◌≤◌, ◌<◌, inl, inr, Bool, true, false, cond, ltb, List, [], ◌∷◌, ◌++◌, Option, Some, None, Result, Ok, Err, length, set, take, refl, sym, ap, ◌∙◌, subst, length-append, arith}
use Rattle.std.proofs.Math.Seq.{take_at}
use borrow.Author.Tests.{lt-ltb, le-ltb, eq-eqb, ne_eqb}
use Rattle.refusal.specs.Report.{refusal}
use Rattle.refusal.specs.declared.Reason.{Reason}
use Rattle.refusal.specs.declared.Reason.TheVariants.{TooLong, Unknown}
use Rattle.refusal.specs.declared.Refusal.{Refusal}
use Rattle.wire.specs.Frame.{kind_of, row, wire_octets, sum_of, numbers_of, OfRate, LegalRows}
use Rattle.wire.specs.declared.Framing.TheVariants.{Unframed}
use Rattle.wire.specs.declared.Kind.{Kind}
use Rattle.wire.specs.declared.Row.{Row}
use Rattle.writer.specs.Rows.{Outcome, passed, refused, total, check_of}
use Rattle.writer.specs.Answers.{row_check_of}
use Rattle.writer.specs.Promise.{Checks}
use Rattle.writer.specs.declared.Totals.{Totals}
use Rattle.writer.proofs.WireRows.{length_numbers}
use Rattle.writer.proofs.RowSequences.{checked_legal, check_legal}
use Rattle.record.specs.Afresh.{record_of}
use Rattle.record.specs.Operations.{Operation, to_push, to_pop, to_replace, outcome_of}
use Rattle.record.specs.Promise.{MadeFrom, change_of, Changes}
use Rattle.record.specs.Stages.{Holds, Afresh, with_row, without_last, end_numbers, among_all, Tells, Behind}
use Rattle.record.specs.declared.Record.{Record}
use Rattle.record.proofs.Padding.{take-set_two}
use Rattle.record.proofs.RowLists.{numbers_append, sum-snoc, Ended, ended, legal_front, few, number_last, tc_last, with_row_lem, without_last_lem}
use Rattle.record.proofs.Ends.{Alike, at_last, at_end_lem, sound, first_row, later_row, many}

-- ---- any change

module _ (op : Operation) (p : Record) where
  pub changes_refused : (r : Reason) (place : ℕ) → ((xs : List Row) → MadeFrom xs p → outcome_of op xs ≡ refused r place) → Changes op p (Err (refusal r place)) p
  changes_refused r place o = record { made = λ xs m. ap (change_of p) (sym (o xs m)); unchanged = refl }

  pub changes_accepted : (q : Record) → ((xs : List Row) → MadeFrom xs p → (ys : List Row) × (outcome_of op xs ≡ passed ys) × (q ≡ record_of ys)) → Changes op p (Ok tt) q
  changes_accepted q o = record { made = λ xs m. let w = o xs m in rw w.1 (rw w.2 refl); unchanged = tt }

-- ---- a row at the end

-- the numbers of the last row
end_of : (ys : List Row) (l : Row) → length ys < 200 → end_numbers (record_of (ys ++ (l ∷ []))) ≡ numbers_of (l ∷ [])
unfolding record_of end_numbers
end_of ys l h =
    let n : length (ys ++ (l ∷ [])) - 1 ≡ length ys = omega (arith, length_push ys l) in
    let some : length (ys ++ (l ∷ [])) ≡ 0 → ⊥ = λ e. omega (arith, length_push ys l) in
    simp (ne_eqb (length (ys ++ (l ∷ []))) 0 some) (rw (n, number_last ys l h, tc_last ys l h) refl)

-- what `row_behind` finds: by the writer's checks of the last row and the new one, then by the kind and the octets
unfoldable pub fitting : ℕ → Row → Result Row Refusal
fitting octets x = cond (ltb 1400 (octets + wire_octets x)) (Err (refusal TooLong 1400)) (Ok x)

abbrev pub named : ℕ → Option Kind → ℕ → Result Row Refusal
named octets None t = Err (refusal Unknown 0)
named octets (Some k) t = fitting octets (row k t)

abbrev pub found : Record → ℕ → ℕ → Result Totals Refusal → Result Row Refusal
found p k t (Ok s) = named p.octets (kind_of k) t
found p k t (Err y) = Err (among_all p y)

module _ (k t : ℕ) (xs : List Row) (p : Record) (m : MadeFrom xs p) (room : p.rows < 200) where
  abbrev Small : Outcome (List Row)
  Small = check_of Unframed (end_numbers p ++ (k ∷ t ∷ []))

  abbrev All : Outcome (List Row)
  All = check_of Unframed (numbers_of xs ++ (k ∷ t ∷ []))

  few_rows : length xs < 200
  few_rows = omega (arith, (few xs p m).rows)

  alike : Alike xs k t Small All
  unfolding end_numbers
  alike = go (ended xs)
    where
      go : Ended xs → Alike xs k t Small All
      go (inl e) = let z : p.rows ≡ 0 = omega (arith, (few xs p m).rows, ap length e) in rw (eq-eqb p.rows 0 z, e) (first_row k t)
      go (inr w) =
          let ys : List Row = w.0 in
          let l : Row = w.1 in
          let q : xs ≡ ys ++ (l ∷ []) = w.2 in
          let n : length (ys ++ (l ∷ [])) < 200 = omega (arith, few_rows, ap length q) in
          rw (m.is, q, end_of ys l (omega (arith, length_push ys l)))
          (later_row k t m.legal.common ys l (subst (λ (zs : List Row). OfRate m.legal.common zs) q m.legal.rated) n)

  fits : (x : Row) → All ≡ total (xs ++ (x ∷ [])) → Tells xs All (fitting p.octets x)
  unfolding fitting record_of
  fits x e =
      let octets : p.octets ≡ sum_of wire_octets xs = rw m.is refl in
      let sum : p.octets + wire_octets x ≡ sum_of wire_octets (xs ++ (x ∷ [])) = omega (arith, octets, sum-snoc wire_octets xs x) in
      rw sum (go (ltb 1400 (sum_of wire_octets (xs ++ (x ∷ [])))) refl)
    where
      go : (b : Bool) → ltb 1400 (sum_of wire_octets (xs ++ (x ∷ []))) ≡ b → Tells xs All (cond b (Err (refusal TooLong 1400)) (Ok x))
      go true q = e ∙ simp q
      go false q = e ∙ simp q

  found_lem : Tells xs All (found p k t (row_check_of Small))
  found_lem = go alike
    where
      rows : p.rows ≡ length xs
      rows = (few xs p m).rows

      go : Alike xs k t Small All → Tells xs All (found p k t (row_check_of Small))
      go (at_last n a b) = rw (a, rows) b
      go (at_end_lem n a b) = rw (a, rows) b
      go (sound x zs i j a b) = let is : row x.kind t ≡ x = ap (row x.kind) j in rw (a, i, is) (fits x b)

pub behind : (k t : ℕ) (p : Record) → p.rows < 200 → {f : Result Totals Refusal} → Checks (end_numbers p ++ (k ∷ t ∷ [])) f → {r : Result Row Refusal} → r ≡ found p k t f → Behind p k t r
behind k t p room c e = λ xs m. rw (e, c.answer) (found_lem k t xs p m room)

-- ---- the operations

-- a record that no operation made
pub too_many : (op : Operation) (p : Record) (r : Reason) (place : ℕ) → (p.rows ≤ 200 → p.octets ≤ 1400 → p.ticks ≤ 144000 → ⊥) → Changes op p (Err (refusal r place)) p
too_many op p r place h = changes_refused op p r place (λ xs m. let f = few xs p m in absurd (h f.most f.octets f.ticks))

module _ (k t : ℕ) (p : Record) where
  pub push_many : (p.octets ≤ 1400 → p.ticks ≤ 144000 → 200 ≤ p.rows) → Changes (to_push k t) p (Err (refusal TooLong 1400)) p
  unfolding outcome_of
  push_many h = changes_refused (to_push k t) p TooLong 1400 (λ xs m.
      let f = few xs p m in
      let rows : 200 ≤ p.rows = h f.octets f.ticks in
      many (numbers_of xs ++ (k ∷ t ∷ [])) (length xs + 1) (omega (arith, length-append (numbers_of xs) (k ∷ t ∷ []), length_numbers xs)) (omega arith))

  module _ {r : Result Row Refusal} (w : Behind p k t r) where
    pub push_refused : (y : Refusal) → r ≡ Err y → Changes (to_push k t) p (Err y) p
    unfolding outcome_of
    push_refused y e = changes_refused (to_push k t) p y.reason y.place (λ xs m. subst (Tells xs (check_of Unframed (numbers_of xs ++ (k ∷ t ∷ [])))) e (w xs m))

    pub push_taken : p.rows < 200 → (x : Row) → r ≡ Ok x → {q : Record} → q ≡ with_row p x → Changes (to_push k t) p (Ok tt) q
    unfolding outcome_of
    push_taken h x e {q = q} i = changes_accepted (to_push k t) p q (λ xs m. (
      xs ++ (x ∷ []),
      subst (Tells xs (check_of Unframed (numbers_of xs ++ (k ∷ t ∷ [])))) e (w xs m),
      i ∙ ap (λ (z : Record). with_row z x) m.is ∙ with_row_lem xs x (omega (arith, (few xs p m).rows)),
    ))

module _ (p : Record) where
  pub pop_none : p.rows ≡ 0 → Changes to_pop p (Err (refusal Unknown 0)) p
  unfolding outcome_of
  pop_none z = changes_refused to_pop p Unknown 0 (λ xs m. simp (le-ltb 0 (length xs) (omega (arith, (few xs p m).rows))))

  pub pop_taken : 0 < p.rows → {q : Record} → q ≡ without_last p (p.rows - 1) → Changes to_pop p (Ok tt) q
  unfolding outcome_of
  pop_taken h {q = q} i = changes_accepted to_pop p q (λ xs m. go xs m (ended xs))
    where
      go : (xs : List Row) → MadeFrom xs p → Ended xs → (ys : List Row) × (outcome_of to_pop xs ≡ passed ys) × (q ≡ record_of ys)
      go xs m (inl e) = absurd (omega (arith, (few xs p m).rows, ap length e))
      go xs m (inr w) =
          let ys : List Row = w.0 in
          let l : Row = w.1 in
          let e : xs ≡ ys ++ (l ∷ []) = w.2 in
          let rows = (few xs p m).rows in
          let n : length xs - 1 ≡ length ys = omega (arith, ap length e, length_push ys l) in
          let legal : LegalRows Unframed (ys ++ (l ∷ [])) = subst (LegalRows Unframed) e m.legal in
          let numbers : take (2 * (length xs - 1)) (numbers_of xs) ≡ numbers_of ys =
          rw (n, e, numbers_append ys (l ∷ [])) (take_at (numbers_of ys) (numbers_of (l ∷ [])) (2 * length ys) (length_numbers ys)) in (
            ys,
            simp (lt-ltb 0 (length xs) (omega (arith, rows))) (ap (check_of Unframed) numbers ∙ check_legal Unframed ys (legal_front ys (l ∷ []) legal)),
            i
                ∙ rw (rows, n, m.is, e) (without_last_lem ys l (omega (arith, rows, (few xs p m).most, ap length e, length_push ys l))),
          )

-- what the writer's checks came to
refused_as : (o : Outcome (List Row)) (y : Refusal) → row_check_of o ≡ Err y → o ≡ refused y.reason y.place
refused_as (passed ys) y e = cc
refused_as (refused r place) y e = let q : refusal r place ≡ y = cc in λ i. refused (q i).reason (q i).place

passed_as : (o : Outcome (List Row)) (s : Totals) → row_check_of o ≡ Ok s → (ys : List Row) × (o ≡ passed ys)
passed_as (passed ys) s e = (ys, refl)
passed_as (refused r place) s e = cc

module _ {ns : List ℕ} {f : Result Totals Refusal} (c : Checks ns f) where
  -- the rows that passed
  passes : (s : Totals) → f ≡ Ok s → (ys : List Row) × (check_of Unframed ns ≡ passed ys) × Holds ns ys
  passes s e =
      let w = passed_as (check_of Unframed ns) s (sym c.answer ∙ e) in
      let l = checked_legal Unframed ns w.0 w.1 in
      (w.0, w.1, record { legal = l.1; numbers = l.0 })

  pub held : (s : Totals) → f ≡ Ok s → (ys : List Row) × Holds ns ys
  held s e = let w = passes s e in (w.0, w.2)

module _ (i k t : ℕ) (p : Record) where
  pub replace_none : p.rows ≤ i → Changes (to_replace i k t) p (Err (refusal Unknown 0)) p
  unfolding outcome_of
  replace_none h = changes_refused (to_replace i k t) p Unknown 0 (λ xs m. simp (le-ltb i (length xs) (omega (arith, (few xs p m).rows))))

  module _ (h : i < p.rows) {ns : List ℕ} (is : ns ≡ take (2 * p.rows) (set (set p.numbers (2 * i) k) (2 * i + 1) t)) {f : Result Totals Refusal} (c : Checks ns f) where
    -- the numbers that are checked
    replaced : (xs : List Row) → MadeFrom xs p → outcome_of (to_replace i k t) xs ≡ check_of Unframed ns
    unfolding outcome_of record_of
    replaced xs m =
        let rows = (few xs p m).rows in
        let q : ns ≡ set (set (numbers_of xs) (2 * i) k) (2 * i + 1) t =
        is
        ∙ ap (λ (z : Record). take (2 * p.rows) (set (set z.numbers (2 * i) k) (2 * i + 1) t)) m.is
        ∙ take-set_two 400 (numbers_of xs) (2 * p.rows) (2 * i) k t (omega (arith, rows, length_numbers xs)) (omega (arith, rows, length_numbers xs)) in
        simp (lt-ltb i (length xs) (omega (arith, rows))) (ap (check_of Unframed) (sym q))

    pub replace_refused : (y : Refusal) → f ≡ Err y → Changes (to_replace i k t) p (Err y) p
    replace_refused y e = changes_refused (to_replace i k t) p y.reason y.place (λ xs m. replaced xs m ∙ refused_as (check_of Unframed ns) y (sym c.answer ∙ e))

    pub replace_taken : (s : Totals) → f ≡ Ok s → {q : Record} → Afresh ns q → Changes (to_replace i k t) p (Ok tt) q
    replace_taken s e {q = q} a = let w = passes c s e in changes_accepted (to_replace i k t) p q (λ xs m. (w.0, replaced xs m ∙ w.1, a w.0 w.2))
