-- A row behind rows that are in order: the writer's checks of all rows come to those of the last row and the new one.
use Rattle.std.proofs.lemmas.List.{length_push}
use Rattle.std.proofs.Common.{◌≡◌, ℕ, ◌+◌, ◌-◌, ◌*◌, ◌≤◌, ◌<◌, ◌⊎◌, inl, inr, Bool, true, false, not, ◌&&◌, ltb, List, [], ◌∷◌, ◌++◌, Option, Some, None, length, refl, sym, ap, ◌∙◌, append_assoc, append-nil, length-append, arith}
use native.Mathlib.Nat.{div-add-mod}
use native.Mathlib.Decide.{ℕ_discrete}
use borrow.Author.Tests.{le-ltb}
use Rattle.refusal.specs.declared.Reason.{Reason}
use Rattle.refusal.specs.declared.Reason.TheVariants.{TooLong, ComfortNoiseNotLast, RatesMixed, WrongTc}
use Rattle.wire.specs.Frame.{table, kind_of, row, rate, wire_octets, sum_of, numbers_of, LegalRow, OfRate}
use Rattle.wire.specs.Walk.{is_noise}
use Rattle.wire.specs.declared.Framing.TheVariants.{Unframed}
use Rattle.wire.specs.declared.Kind.{Kind}
use Rattle.wire.specs.declared.Row.{Row}
use Rattle.wire.proofs.TableLaws.{bounds, kind_of_lem, count_most}
use Rattle.wire.proofs.Rates.{either}
use Rattle.writer.specs.Rows.{Outcome, passed, refused, refuse_if, and_then, is_wrong_tc, is_mixed, row_of, row_by_row, total, check_of}
use Rattle.writer.specs.Stages.{AllOf, OneRate}
use Rattle.writer.proofs.WireRows.{length_numbers}
use Rattle.writer.proofs.RowLaws.{all_snoc, one_same, one_other, noise_followed, Standing, Says, says, fit_passes}
use Rattle.writer.proofs.RowSequences.{check_many, check_each}
use Rattle.record.proofs.RowLists.{numbers_append}

-- ---- the same checks at another place

-- a refusal at another row
abbrev placed : {A : Type 0} → ℕ → Outcome A → Outcome A
placed n (passed x) = passed x
placed n (refused m place) = refused m n

tests : {A : Type 0} (a b c : Bool) (x : A) (p q : ℕ) (i j k : Reason)
    → refuse_if a i p (refuse_if b j p (refuse_if c k p (passed x))) ≡ placed p (refuse_if a i q (refuse_if b j q (refuse_if c k q (passed x))))
tests true b c x p q i j k = refl
tests false true c x p q i j k = refl
tests false false true x p q i j k = refl
tests false false false x p q i j k = refl

module _ (r : ℕ) (z : r ≡ 0 → ⊥) (xs ys : List Row) (one : OneRate Unframed r xs) (two : OneRate Unframed r ys) where
  same_mixed : (s : ℕ) → is_mixed Unframed s xs ≡ is_mixed Unframed s ys
  same_mixed s = go (ℕ_discrete s r)
    where
      go : Dec (s ≡ r) → is_mixed Unframed s xs ≡ is_mixed Unframed s ys
      go (yes e) = one_same Unframed r xs one s e ∙ sym (one_same Unframed r ys two s e)
      go (no n) = one_other Unframed r xs one s z n ∙ sym (one_other Unframed r ys two s z n)

  -- behind rows of one rate it does not matter which
  same_row : (o : Option Kind) (t later : ℕ) → row_of Unframed xs later o t ≡ placed (length xs) (row_of Unframed ys later o t)
  unfolding row_of
  same_row None t later = refl
  same_row (Some k) t later =
      ap (λ (b : Bool). refuse_if (is_wrong_tc k t) WrongTc (length xs)
      (refuse_if (is_noise (row k t) && ltb 0 later) ComfortNoiseNotLast (length xs) (refuse_if (not (is_noise (row k t)) && b) RatesMixed (length xs) (passed (row k t))))) (same_mixed (table k).rate)
      ∙ tests (is_wrong_tc k t) (is_noise (row k t) && ltb 0 later) (not (is_noise (row k t)) && is_mixed Unframed (table k).rate ys) (row k t) (length xs) (length ys) WrongTc ComfortNoiseNotLast RatesMixed

-- ---- the rows before the last

next : (earlier : List Row) (x : Row) (ns : List ℕ)
    → row_by_row Unframed earlier ((table x.kind).number ∷ x.tc ∷ ns) ≡ and_then (row_of Unframed earlier (length ns) (Some x.kind) x.tc) (λ y. row_by_row Unframed (earlier ++ (y ∷ [])) ns)
next earlier x ns = ap (λ (k : Option Kind). and_then (row_of Unframed earlier (length ns) k x.tc) (λ y. row_by_row Unframed (earlier ++ (y ∷ [])) ns)) (kind_of_lem x.kind)

stood : (earlier : List Row) (x : Row) (ns : List ℕ) → LegalRow x → Standing Unframed earlier (length ns) x
    → row_by_row Unframed earlier ((table x.kind).number ∷ x.tc ∷ ns) ≡ row_by_row Unframed (earlier ++ (x ∷ [])) ns
stood earlier x ns l s =
    next earlier x ns ∙ ap (λ (w : Outcome Row). and_then w (λ y. row_by_row Unframed (earlier ++ (y ∷ [])) ns)) (fit_passes Unframed earlier (length ns) x l s)

not_nil : {A : Type 0} (ys : List Row) (l : Row) → ys ++ (l ∷ []) ≡ [] → A
not_nil ys l e = absurd (omega (arith, ap length e, length_push ys l))

-- comfort noise, or a coder row of this rate
abbrev Coded : ℕ → Row → Type 0
Coded r l = (rate l ≡ 0) ⊎ ((rate l ≡ 0 → ⊥) × (rate l ≡ r))

coded : (r : ℕ) (l : Row) (behind : List Row) → ((rate l ≡ 0) × (behind ≡ [])) ⊎ ((rate l ≡ 0 → ⊥) × (rate l ≡ r)) → Coded r l
coded r l behind (inl w) = inl w.0
coded r l behind (inr w) = inr w

-- they are coder rows of one rate, and pass
module _ (r : ℕ) (l : Row) where
  front : (ys : List Row) → OfRate r (ys ++ (l ∷ [])) → AllOf r ys × LegalRow l × Coded r l
  front [] o = (tt, o.0, coded r l [] (either r (rate l) [] o.1))
  front (y ∷ ys) o = go (either r (rate y) (ys ++ (l ∷ [])) o.1) (front ys o.2)
    where
      go : ((rate y ≡ 0) × (ys ++ (l ∷ []) ≡ [])) ⊎ ((rate y ≡ 0 → ⊥) × (rate y ≡ r)) → AllOf r ys × LegalRow l × Coded r l
          → AllOf r (y ∷ ys) × LegalRow l × Coded r l
      go (inl w) ih = not_nil ys l w.1
      go (inr w) ih = ((w.1, ih.0), ih.1, ih.2)

  pass_front : (ys : List Row) → OfRate r (ys ++ (l ∷ [])) → (ns : List ℕ) (earlier : List Row) → AllOf r earlier → row_by_row Unframed earlier (numbers_of ys ++ ns) ≡ row_by_row Unframed (earlier ++ ys) ns
  pass_front [] o ns earlier a = ap (λ (e : List Row). row_by_row Unframed e ns) (sym (append-nil earlier))
  pass_front (y ∷ ys) o ns earlier a = go (either r (rate y) (ys ++ (l ∷ [])) o.1) (pass_front ys o.2 ns)
    where
      go : ((rate y ≡ 0) × (ys ++ (l ∷ []) ≡ [])) ⊎ ((rate y ≡ 0 → ⊥) × (rate y ≡ r)) → ((e : List Row) → AllOf r e → row_by_row Unframed e (numbers_of ys ++ ns) ≡ row_by_row Unframed (e ++ ys) ns)
          → row_by_row Unframed earlier (numbers_of (y ∷ ys) ++ ns) ≡ row_by_row Unframed (earlier ++ (y ∷ ys)) ns
      go (inl w) ih = not_nil ys l w.1
      go (inr w) ih =
          stood earlier y (numbers_of ys ++ ns) o.0 (inr (w.0, inl refl, rw w.1 a))
          ∙ ih (earlier ++ (y ∷ [])) (all_snoc r earlier y a w.1)
          ∙ ap (λ (e : List Row). row_by_row Unframed e ns) (append_assoc earlier (y ∷ []) ys)

-- ---- the new row

-- how the checks of the last row and the new one, and those of all rows, come out: refused at the last row, refused at the new one, or a row
pub data Alike (xs : List Row) (k t : ℕ) (small big : Outcome (List Row)) : Type 0 where
  at_last : (m : Reason) → small ≡ refused m 0 → big ≡ refused m (length xs - 1) → Alike xs k t small big
  at_end_lem : (m : Reason) → small ≡ refused m 1 → big ≡ refused m (length xs) → Alike xs k t small big
  sound : (x : Row) (zs : List Row) → kind_of k ≡ Some x.kind → t ≡ x.tc → small ≡ passed zs → big ≡ total (xs ++ (x ∷ [])) → Alike xs k t small big

small_row : (x : Row) → LegalRow x → wire_octets x ≤ 268
small_row x l = let b = bounds x.kind in omega (arith, l.most, count_most (table x.kind).counting x.tc)

-- an even list of few numbers
each : (ns : List ℕ) (n : ℕ) → length ns ≡ 2 * n → n ≤ 200 → check_of Unframed ns ≡ and_then (row_by_row Unframed [] ns) total
each ns n e h = let d = div-add-mod (length ns) 2 in check_each Unframed ns (λ q. omega arith) (omega arith)

pub many : (ns : List ℕ) (n : ℕ) → length ns ≡ 2 * n → 200 < n → check_of Unframed ns ≡ refused TooLong 1400
many ns n e h = let d = div-add-mod (length ns) 2 in check_many Unframed ns (λ q. omega arith) (omega arith)

module _ (k t : ℕ) where
  -- behind no row
  pub first_row : Alike [] k t (check_of Unframed (k ∷ t ∷ [])) (check_of Unframed (k ∷ t ∷ []))
  first_row = rw (each (k ∷ t ∷ []) 1 refl (omega arith)) (go (row_of Unframed [] 0 (kind_of k) t) (says Unframed [] 0 (kind_of k) t))
    where
      go : (o : Outcome Row) → Says Unframed [] 0 (kind_of k) t o
          → Alike [] k t (and_then (and_then o (λ x. passed (x ∷ []))) total) (and_then (and_then o (λ x. passed (x ∷ []))) total)
      go (refused m place) w = at_last m (ap (refused m) w) (ap (refused m) w)
      go (passed x) fit = sound x (x ∷ []) fit.kind fit.tc (simp (le-ltb 1400 (sum_of wire_octets (x ∷ [])) (omega (arith, small_row x fit.legal)))) refl

  module _ (r : ℕ) (ys : List Row) (l : Row) (o : OfRate r (ys ++ (l ∷ []))) (few : length (ys ++ (l ∷ [])) < 200) where
    small : Outcome (List Row)
    small = check_of Unframed (numbers_of (l ∷ []) ++ (k ∷ t ∷ []))

    big : Outcome (List Row)
    big = check_of Unframed (numbers_of (ys ++ (l ∷ [])) ++ (k ∷ t ∷ []))

    small_is : small ≡ and_then (row_by_row Unframed [] (numbers_of (l ∷ []) ++ (k ∷ t ∷ []))) total
    unfolding small
    small_is = each (numbers_of (l ∷ []) ++ (k ∷ t ∷ [])) 2 refl (omega arith)

    long : length (numbers_of (ys ++ (l ∷ [])) ++ (k ∷ t ∷ [])) ≡ 2 * (length (ys ++ (l ∷ [])) + 1)
    long = omega (arith, length-append (numbers_of (ys ++ (l ∷ []))) (k ∷ t ∷ []), length_numbers (ys ++ (l ∷ [])))

    big_is : big ≡ and_then (row_by_row Unframed ys (numbers_of (l ∷ []) ++ (k ∷ t ∷ []))) total
    unfolding big
    big_is =
        each (numbers_of (ys ++ (l ∷ [])) ++ (k ∷ t ∷ [])) (length (ys ++ (l ∷ [])) + 1) long (omega arith)
        ∙ ap (λ (ns : List ℕ). and_then (row_by_row Unframed [] (ns ++ (k ∷ t ∷ []))) total) (numbers_append ys (l ∷ []))
        ∙ ap (λ (ns : List ℕ). and_then (row_by_row Unframed [] ns) total) (append_assoc (numbers_of ys) (numbers_of (l ∷ [])) (k ∷ t ∷ []))
        ∙ ap (λ (w : Outcome (List Row)). and_then w total) (pass_front r l ys o (numbers_of (l ∷ []) ++ (k ∷ t ∷ [])) [] tt)

    -- behind comfort noise
    noise : LegalRow l → rate l ≡ 0 → Alike (ys ++ (l ∷ [])) k t small big
    noise legal z =
        let place : length ys ≡ length (ys ++ (l ∷ [])) - 1 = omega (arith, length_push ys l) in
        at_last ComfortNoiseNotLast
        (small_is ∙ ap (λ (w : Outcome (List Row)). and_then w total) (at []))
        (big_is ∙ ap (λ (w : Outcome (List Row)). and_then w total) (at ys) ∙ ap (refused ComfortNoiseNotLast) place)
      where
        at : (earlier : List Row) → row_by_row Unframed earlier (numbers_of (l ∷ []) ++ (k ∷ t ∷ [])) ≡ refused ComfortNoiseNotLast (length earlier)
        at earlier =
            next earlier l (k ∷ t ∷ [])
            ∙ ap (λ (w : Outcome Row). and_then w (λ y. row_by_row Unframed (earlier ++ (y ∷ [])) (k ∷ t ∷ []))) (noise_followed Unframed earlier 2 l.kind l.tc legal z (omega arith))

    -- behind a coder row
    coder : LegalRow l → AllOf r ys → (rate l ≡ 0 → ⊥) → rate l ≡ r → Alike (ys ++ (l ∷ [])) k t small big
    coder legal a z e = go (row_of Unframed (l ∷ []) 0 (kind_of k) t) refl (says Unframed (l ∷ []) 0 (kind_of k) t)
      where
        at : (earlier : List Row) → AllOf r earlier → row_by_row Unframed earlier (numbers_of (l ∷ []) ++ (k ∷ t ∷ [])) ≡ and_then (row_of Unframed (earlier ++ (l ∷ [])) 0 (kind_of k) t) (λ x. passed ((earlier ++ (l ∷ [])) ++ (x ∷ [])))
        at earlier b = stood earlier l (k ∷ t ∷ []) legal (inr (z, inl refl, rw e b))

        one : (earlier : List Row) → AllOf r earlier → OneRate Unframed r (earlier ++ (l ∷ []))
        one earlier b = record { agreed = inl refl; same = all_snoc r earlier l b e; none = λ q. absurd (z (e ∙ q)); some = λ q. not_nil earlier l q }

        below : small ≡ and_then (and_then (row_of Unframed (l ∷ []) 0 (kind_of k) t) (λ x. passed (l ∷ x ∷ []))) total
        below = small_is ∙ ap (λ (w : Outcome (List Row)). and_then w total) (at [] tt)

        above : big ≡ and_then (and_then (placed (length (ys ++ (l ∷ []))) (row_of Unframed (l ∷ []) 0 (kind_of k) t)) (λ x. passed ((ys ++ (l ∷ [])) ++ (x ∷ [])))) total
        above =
            big_is
            ∙ ap (λ (w : Outcome (List Row)). and_then w total) (at ys a)
            ∙ ap (λ (w : Outcome Row). and_then (and_then w (λ x. passed ((ys ++ (l ∷ [])) ++ (x ∷ [])))) total) (same_row r (λ q. z (e ∙ q)) (ys ++ (l ∷ [])) (l ∷ []) (one ys a) (one [] tt) (kind_of k) t 0)

        go : (w : Outcome Row) → row_of Unframed (l ∷ []) 0 (kind_of k) t ≡ w → Says Unframed (l ∷ []) 0 (kind_of k) t w → Alike (ys ++ (l ∷ [])) k t small big
        go (refused m place) q s =
            at_end_lem m
            (below ∙ ap (λ (w : Outcome Row). and_then (and_then w (λ x. passed (l ∷ x ∷ []))) total) q ∙ ap (refused m) s)
            (above ∙ ap (λ (w : Outcome Row). and_then (and_then (placed (length (ys ++ (l ∷ []))) w) (λ x. passed ((ys ++ (l ∷ [])) ++ (x ∷ [])))) total) q)
        go (passed x) q fit =
            sound x (l ∷ x ∷ []) fit.kind fit.tc
            (below
            ∙ ap (λ (w : Outcome Row). and_then (and_then w (λ y. passed (l ∷ y ∷ []))) total) q
            ∙ simp (le-ltb 1400 (sum_of wire_octets (l ∷ x ∷ [])) (omega (arith, small_row x fit.legal, small_row l legal))))
            (above ∙ ap (λ (w : Outcome Row). and_then (and_then (placed (length (ys ++ (l ∷ []))) w) (λ y. passed ((ys ++ (l ∷ [])) ++ (y ∷ [])))) total) q)

    pub later_row : Alike (ys ++ (l ∷ [])) k t (check_of Unframed (numbers_of (l ∷ []) ++ (k ∷ t ∷ []))) (check_of Unframed (numbers_of (ys ++ (l ∷ [])) ++ (k ∷ t ∷ [])))
    unfolding small big
    later_row = go f.2
      where
        f : AllOf r ys × LegalRow l × Coded r l
        f = front r l ys o

        go : Coded r l → Alike (ys ++ (l ∷ [])) k t small big
        go (inl z) = noise f.1 z
        go (inr w) = coder f.1 f.0 w.0 w.1
