-- What the reader's functions answer, as the branches of their code ask for it.
use mathlib.Core.Path.{◌≡◌, refl, sym, ap, ◌∙◌}
use mathlib.Core.List.{List}
use Prim.Native.Nat.{ℕ, ◌+◌, ◌-◌, ◌≤◌, ◌<◌}
use native.Mathlib.Omega.{arith}
use lib.ListN.{length, take, drop, length-drop, drop_of_length-le}
use lib.Seq.{length-take-le}
use Rattle.std.specs.Prelude.{Option, Some, None, Result, Ok, Err}
use Rattle.std.specs.Result.{result_map_both}
use Rattle.refusal.specs.Report.{Report, refusal}
use Rattle.refusal.specs.declared.Reason.TheVariants.{TooLong, EntryCut}
use Rattle.refusal.specs.declared.Refusal.{Refusal}
use Rattle.leb128.specs.Number.{found_at}
use Rattle.leb128.specs.declared.Found.{Found}
use Rattle.leb128.specs.declared.NumberError.{NumberError}
use Rattle.journal.specs.Reading.{Reading, entry, end, broken, number_then, body_then, behind_source, behind_ticks, reading_of}
use Rattle.journal.specs.Answers.{handed, Located, standing_report, reported, standing_of, standing_at, entry_at, Stands, number_reason, entry_number}
use Rattle.journal.specs.declared.Entry.{Entry as Place}
use Rattle.journal.proofs.Steps.{then_number, then_none, found_within, body_long, body_cut, body_full}
use Rattle.journal.proofs.Exact.{reading_some}

-- ---- one number of an entry

module _ (xs : List ℕ) (i a : ℕ) {f : Result Found Refusal} (e : f ≡ entry_number xs i a) where
  number_found : (n : Found) → f ≡ Ok n → found_at 5 4294967295 xs i ≡ Ok n
  number_found n q = go (found_at 5 4294967295 xs i) refl (sym e ∙ q)
    where
      go : (r : Result Found NumberError) → found_at 5 4294967295 xs i ≡ r → result_map_both (λ g. g) (λ b. refusal (number_reason b) a) r ≡ Ok n
          → found_at 5 4294967295 xs i ≡ Ok n
      go (Ok m) d z = d ∙ ap Ok cc
      go (Err b) d z = absurd (let y : ◌≡◌ {A = ℕ} 0 1 = cc in omega arith)

  record NotFound (x : Refusal) : Type 0 where
    why : NumberError
    none : found_at 5 4294967295 xs i ≡ Err why
    because : x ≡ refusal (number_reason why) a

  number_not_found : (x : Refusal) → f ≡ Err x → NotFound x
  number_not_found x q = go (found_at 5 4294967295 xs i) refl (sym e ∙ q)
    where
      go : (r : Result Found NumberError) → found_at 5 4294967295 xs i ≡ r → result_map_both (λ g. g) (λ b. refusal (number_reason b) a) r ≡ Err x → NotFound x
      go (Ok m) d z = absurd (let y : ◌≡◌ {A = ℕ} 0 1 = cc in omega arith)
      go (Err b) d z = record { why = b; none = d; because = cc }

-- ---- the entry at an index

-- the numbers of what stands there
standing_numbers : (n a : ℕ) (R : Reading) → standing_report (standing_of n a R) ≡ reported n a R
standing_numbers n a (entry e rest) = refl
standing_numbers n a end = refl
standing_numbers n a (broken k) = refl

module _ (xs : List ℕ) (a : ℕ) where
  -- what reading from there on comes to is the answer
  stands : {r : Result (Option Place) Refusal} (R : Reading) → reading_of (drop a xs) ≡ R → r ≡ standing_of (length xs) a R → Stands xs a r
  unfolding standing_at entry_at
  stands {r} R q e =
      let answer : r ≡ standing_of (length xs) a (reading_of (drop a xs)) = e ∙ ap (standing_of (length xs) a) (sym q) in
      record { answer = answer; numbers = ap standing_report answer ∙ standing_numbers (length xs) a (reading_of (drop a xs)) }

  pub stands_end : length xs ≤ a → Stands xs a (Ok None)
  stands_end h = stands end (ap reading_of (drop_of_length-le xs h)) refl

  pub reading_starts : a < length xs → reading_of (drop a xs) ≡ number_then behind_ticks (drop a xs)
  reading_starts h = reading_some (drop a xs) (omega (arith, length-drop a xs))

  -- reading has come to the number at i
  module _ (onward : ℕ → List ℕ → Reading) (i : ℕ) (R : reading_of (drop a xs) ≡ number_then onward (drop i xs)) {f : Result Found Refusal} (e : f ≡ entry_number xs i a) where
    reading_goes : (n : Found) → f ≡ Ok n → reading_of (drop a xs) ≡ onward n.number (drop n.next xs)
    reading_goes n q = R ∙ then_number onward xs i n (number_found xs i a e n q)

    pub stands_refused : (x : Refusal) → f ≡ Err x → Stands xs a (Err x)
    stands_refused x q =
        let n = number_not_found xs i a e x q in
        stands (broken (number_reason n.why)) (R ∙ then_none onward xs i n.why n.none) (ap Err n.because)

  pub number_within : (i : ℕ) {f : Result Found Refusal} → f ≡ entry_number xs i a → (n : Found) → f ≡ Ok n → n.next ≤ length xs
  number_within i e n q = found_within xs i n (number_found xs i a e n q)

  -- reading behind the first number, the second, the third
  module _ (h : a < length xs) {f : Result Found Refusal} (e : f ≡ entry_number xs a a) (t : Found) (q : f ≡ Ok t) where
    pub behind_first : reading_of (drop a xs) ≡ behind_ticks t.number (drop t.next xs)
    behind_first = reading_goes behind_ticks a (reading_starts h) e t q

    module _ {g : Result Found Refusal} (e₂ : g ≡ entry_number xs t.next a) (s : Found) (q₂ : g ≡ Ok s) where
      pub behind_second : reading_of (drop a xs) ≡ behind_source t.number s.number (drop s.next xs)
      behind_second = reading_goes (behind_source t.number) t.next behind_first e₂ s q₂

      pub behind_third : {k : Result Found Refusal} → k ≡ entry_number xs s.next a → (n : Found) → k ≡ Ok n
          → reading_of (drop a xs) ≡ body_then t.number s.number n.number (drop n.next xs)
      behind_third e₃ n q₃ = reading_goes (body_then t.number s.number) s.next behind_second e₃ n q₃

  -- reading has come to the body, which starts at b
  module _ (t s m b : ℕ) (R : reading_of (drop a xs) ≡ body_then t s m (drop b xs)) where
    pub stands_long : {x : Refusal} → x ≡ refusal TooLong a → 1400 < m → Stands xs a (Err x)
    stands_long d h = stands (broken TooLong) (R ∙ sym (body_long t s m (drop b xs) h)) (ap Err d)

    module _ (h : m ≤ 1400) where
      pub stands_cut : {x : Refusal} → x ≡ refusal EntryCut a → length xs - b < m → Stands xs a (Err x)
      stands_cut d l = stands (broken EntryCut) (R ∙ sym (body_cut t s m (drop b xs) h (omega (arith, length-drop b xs)))) (ap Err d)

      pub stands_entry : b ≤ length xs → m ≤ length xs - b → Stands xs a (Ok (Some (record { ticks = t; source = s; start = b; next = b + m })))
      stands_entry w l =
          let d : length (drop b xs) ≡ length xs - b = length-drop b xs in
          let p : length (take m (drop b xs)) ≡ m = length-take-le m (drop b xs) (omega arith) in
          let r : length (drop m (drop b xs)) ≡ length xs - b - m = length-drop m (drop b xs) ∙ ap (λ (i : ℕ). i - m) d in
          let next : length xs - length (drop m (drop b xs)) ≡ b + m = omega arith in
          let start : length xs - length (drop m (drop b xs)) - length (take m (drop b xs)) ≡ b = omega arith in
          stands (entry (record { ticks = t; source = s; payload = take m (drop b xs) }) (drop m (drop b xs)))
          (R ∙ sym (body_full t s m (drop b xs) h (omega arith)))
          (rw (start, next) refl)

-- ---- the payload

-- an entry that is handed out lies within the journal
pub handed-within : (xs : List ℕ) (a t s b n : ℕ) → entry_at xs a ≡ handed t s b n → (b ≤ n) × (n ≤ length xs)
unfolding entry_at
handed-within xs a t s b n e = go (reading_of (drop a xs)) e
  where
    go : (R : Reading) → reported (length xs) a R ≡ handed t s b n → (b ≤ n) × (n ≤ length xs)
    go (entry f rest) q =
        let eb = ap (λ (r : Report Located). r.value.start) q in
        let en = ap (λ (r : Report Located). r.value.next) q in
        (omega arith, omega arith)
    go end q = absurd (omega (arith, ap (λ (r : Report Located). r.value.entries) q))
    go (broken k) q = absurd (omega (arith, ap (λ (r : Report Located). r.value.entries) q))

module _ (xs : List ℕ) (a : ℕ) {r : Result (Option Place) Refusal} (e : standing_report r ≡ entry_at xs a) where
  pub payload_within : (f : Place) → r ≡ Ok (Some f) → (f.start ≤ f.next) × (f.next ≤ length xs)
  payload_within f q = handed-within xs a f.ticks f.source f.start f.next (sym e ∙ ap standing_report q)
