-- What the writer's functions leave and answer, as the branches of their code ask for it.
use mathlib.Core.Path.{◌≡◌, refl, sym, ap, ◌∙◌}
use mathlib.Core.Logic.{◌⊎◌, inl, inr}
use mathlib.Core.List.{List, [], ◌++◌, append_assoc}
use Prim.Native.Nat.{ℕ, ◌+◌, ◌-◌, ◌≤◌, ◌<◌}
use native.Mathlib.Nat.{zero-add}
use native.Mathlib.Omega.{arith}
use Rattle.std.specs.Prelude.{Ok, Err}
use Rattle.std.proofs.lemmas.Bool.{lt-ltb, le-ltb, ne_eqb, cases_lt}
use lib.ListN.{length, take, drop, length-append}
use Rattle.octets.specs.Copy.{over}
use Rattle.octets.specs.Put.{put}
use Rattle.octets.proofs.Put.{put-put, put_copy, length-put}
use Rattle.leb128.specs.Writing.{octets_of, with_number, number_end}
use Rattle.leb128.proofs.Writing.{octets_of_lem, room}
use Rattle.refusal.specs.Numbers.{number_of}
use Rattle.refusal.specs.declared.Refusal.{Refusal}
use Rattle.refusal.specs.declared.Reason.{Reason}
use Rattle.refusal.specs.declared.Reason.TheVariants.{TooLong, OctetsTooShort, BadNumber}
use Rattle.refusal.proofs.NumberLaws.{number_of-least}
use Rattle.journal.specs.Entry.{Entry, Legal, numeral, entry_octets}
use Rattle.refusal.specs.Report.{Report, accepted, refused_with, refusal, filled}
use Rattle.journal.specs.Answers.{writing, Writes}

-- ---- numbers one after another

pub numeral_octets : (n : ℕ) → n ≤ 4294967295 → octets_of n ≡ numeral n
unfolding numeral
numeral_octets n h = octets_of_lem 5 n (omega arith) (omega arith) (omega arith)

-- xs stands at the front of o, which makes q of it, and r is the index behind it
pub record Front (o xs q : List ℕ) (r : ℕ) : Type 0 where
  pub text : q ≡ put o 0 xs
  pub end : r ≡ length xs
  pub fits : length xs ≤ length o

pub front_start : (o : List ℕ) → Front o [] o 0
front_start o = record { text = refl; end = refl; fits = omega arith }

module _ {o xs q : List ℕ} {r : ℕ} (f : Front o xs q r) where
  front_long : length q ≡ length o
  front_long = ap length f.text ∙ length-put o 0 xs (omega (arith, f.fits))

  -- ys behind it
  front_put : (ys : List ℕ) → length xs + length ys ≤ length o → put q r ys ≡ put o 0 (xs ++ ys)
  front_put ys l =
      let e : 0 + length xs ≡ r = omega (arith, f.end) in
      ap (λ (i : ℕ). put q i ys) (sym e) ∙ ap (λ (p : List ℕ). put p (0 + length xs) ys) f.text ∙ put-put o 0 xs (omega (arith, f.fits)) ys (omega arith)

  pub front_number : (n : ℕ) {q' : List ℕ} {r' : ℕ} → n ≤ 4294967295 → length xs + length (numeral n) ≤ length o
      → (q' ≡ with_number q r n) × (r' ≡ number_end q r n) → Front o (xs ++ numeral n) q' r'
  front_number n h l e =
      let oc : octets_of n ≡ numeral n = numeral_octets n h in
      let lc : length (octets_of n) ≡ length (numeral n) = ap length oc in
      let p = room q r n (omega (arith, f.end, f.fits, front_long)) (omega (arith, f.end, front_long)) in
      record {
        text = e.0 ∙ sym p.0 ∙ ap (put q r) oc ∙ front_put (numeral n) l;
        end = e.1 ∙ sym p.1 ∙ omega (arith, f.end, length-append xs (numeral n));
        fits = omega (arith, length-append xs (numeral n));
      }

  pub front_copy : (p : List ℕ) (size : ℕ) {y : List ℕ} → length xs + length p ≡ size → size ≤ length o → y ≡ over p (take (size - r) (drop r q))
      → take r q ++ (y ++ drop (size - r) (drop r q)) ≡ (xs ++ p) ++ drop size o
  front_copy p size s l ey =
      put_copy p q r size (omega (arith, f.end)) (omega (arith, front_long)) ey
      ∙ front_put p (omega arith)
      ∙ ap (λ (i : ℕ). (xs ++ p) ++ drop i o) (zero-add (length (xs ++ p)) ∙ length-append xs p ∙ s)

-- ---- an entry's octets

module _ (t s : ℕ) (p : List ℕ) where
  abbrev e : Entry
  e = record { ticks = t; source = s; payload = p }

  -- how many there are
  pub entry_long : length (entry_octets e) ≡ length (numeral t) + length (numeral s) + length (numeral (length p)) + length p
  entry_long =
      omega
      (arith, length-append (numeral t) (numeral s ++ (numeral (length p) ++ p)), length-append (numeral s) (numeral (length p) ++ p), length-append (numeral (length p)) p)

  pub entry_size : Legal e → {a b c : ℕ} → a ≡ length (octets_of t) → b ≡ length (octets_of s) → c ≡ length (octets_of (length p))
      → a + b + c + length p ≡ length (entry_octets e)
  entry_size h ea eb ec =
      omega
      (arith, entry_long, ap length (numeral_octets t h.ticks), ap length (numeral_octets s h.source), ap length (numeral_octets (length p) (omega (arith, h.payload))))

  module _ (o : List ℕ) {size : ℕ} (h : Legal e) (es : size ≡ length (entry_octets e)) (l : size ≤ length o)
      {o₁ o₂ o₃ : List ℕ} {r₁ r₂ r₃ : ℕ} (e₁ : (o₁ ≡ with_number o 0 t) × (r₁ ≡ number_end o 0 t))
      (e₂ : (o₂ ≡ with_number o₁ r₁ s) × (r₂ ≡ number_end o₁ r₁ s)) (e₃ : (o₃ ≡ with_number o₂ r₂ (length p)) × (r₃ ≡ number_end o₂ r₂ (length p))) where
    numbers : Front o ((numeral t ++ numeral s) ++ numeral (length p)) o₃ r₃
    numbers =
        let long = entry_long in
        let f₁ = front_number (front_start o) t h.ticks (omega arith) e₁ in
        let f₂ = front_number f₁ s h.source (omega arith) e₂ in
        front_number f₂ (length p) (omega (arith, h.payload)) (omega (arith, length-append (numeral t) (numeral s))) e₃

    long₃ : length ((numeral t ++ numeral s) ++ numeral (length p)) ≡ length (numeral t) + length (numeral s) + length (numeral (length p))
    long₃ = length-append (numeral t ++ numeral s) (numeral (length p)) ∙ ap (λ (i : ℕ). i + length (numeral (length p))) (length-append (numeral t) (numeral s))

    start_within : r₃ ≤ size
    start_within = omega (arith, entry_long, numbers.end, long₃)

    entry-put : {y : List ℕ} → y ≡ over p (take (size - r₃) (drop r₃ o₃)) → take r₃ o₃ ++ (y ++ drop (size - r₃) (drop r₃ o₃)) ≡ entry_octets e ++ drop size o
    entry-put ey =
        front_copy numbers p size (omega (arith, entry_long, long₃)) l ey
        ∙ ap (λ (x : List ℕ). x ++ drop size o)
        (append_assoc (numeral t ++ numeral s) (numeral (length p)) p ∙ append_assoc (numeral t) (numeral s) (numeral (length p) ++ p))

-- ---- the answers

module _ (e : Entry) (before : List ℕ) where
  -- a refusal leaves the octets as they are
  not_written : (r : Reason) (p : ℕ) {x : Refusal} → x ≡ refusal r p → writing e (length before) ≡ refused_with 0 (refusal r p) → Writes e before before (Err x)
  unfolding filled
  not_written r p d q =
      record { answer = rw d (sym q); octets = rw (q, ne_eqb (number_of r) 0 (λ z. omega (arith, number_of-least r))) refl }

  pub write_ticks : {x : Refusal} → x ≡ refusal BadNumber 0 → 4294967295 < e.ticks → Writes e before before (Err x)
  unfolding writing
  write_ticks d h = not_written BadNumber 0 d (simp (lt-ltb 4294967295 e.ticks h))

  module _ (ht : e.ticks ≤ 4294967295) where
    pub write_source : {x : Refusal} → x ≡ refusal BadNumber 0 → 4294967295 < e.source → Writes e before before (Err x)
    unfolding writing
    write_source d h = not_written BadNumber 0 d (simp (le-ltb 4294967295 e.ticks ht, lt-ltb 4294967295 e.source h))

    module _ (hs : e.source ≤ 4294967295) where
      pub write_long : {x : Refusal} → x ≡ refusal TooLong 1400 → 1400 < length e.payload → Writes e before before (Err x)
      unfolding writing
      write_long d h =
          not_written TooLong 1400 d (simp (le-ltb 4294967295 e.ticks ht, le-ltb 4294967295 e.source hs, lt-ltb 1400 (length e.payload) h))

      -- the entry is legal, and its octets are counted
      module _ (hp : length e.payload ≤ 1400) {a b c : ℕ} (ea : a ≡ length (octets_of e.ticks)) (eb : b ≡ length (octets_of e.source))
          (ec : c ≡ length (octets_of (length e.payload))) where
        legal : Legal e
        legal = record { ticks = ht; source = hs; payload = hp }

        counted : a + b + c + length e.payload ≡ length (entry_octets e)
        counted = entry_size e.ticks e.source e.payload legal ea eb ec

        pub write_short : {x : Refusal} → x ≡ refusal OctetsTooShort (a + b + c + length e.payload) → length before < a + b + c + length e.payload → Writes e before before (Err x)
        unfolding writing
        write_short d h =
            not_written OctetsTooShort (a + b + c + length e.payload) d
            (rw counted
            (simp (le-ltb 4294967295 e.ticks ht, le-ltb 4294967295 e.source hs, le-ltb 1400 (length e.payload) hp, lt-ltb (length before) (length (entry_octets e)) (omega (arith, counted)))))

        module _ (h : a + b + c + length e.payload ≤ length before) {o₁ o₂ o₃ : List ℕ} {r₁ r₂ r₃ : ℕ}
            (e₁ : (o₁ ≡ with_number before 0 e.ticks) × (r₁ ≡ number_end before 0 e.ticks))
            (e₂ : (o₂ ≡ with_number o₁ r₁ e.source) × (r₂ ≡ number_end o₁ r₁ e.source))
            (e₃ : (o₃ ≡ with_number o₂ r₂ (length e.payload)) × (r₃ ≡ number_end o₂ r₂ (length e.payload))) where
          pub payload_start : r₃ ≤ a + b + c + length e.payload
          payload_start = start_within e.ticks e.source e.payload before legal counted h e₁ e₂ e₃

          pub write_all : {y : List ℕ} → y ≡ over e.payload (take (a + b + c + length e.payload - r₃) (drop r₃ o₃))
              → Writes e before (take r₃ o₃ ++ (y ++ drop (a + b + c + length e.payload - r₃) (drop r₃ o₃))) (Ok (a + b + c + length e.payload))
          unfolding writing filled
          write_all ey =
              let w : writing e (length before) ≡ accepted (a + b + c + length e.payload) =
              rw counted
              (simp (le-ltb 4294967295 e.ticks ht, le-ltb 4294967295 e.source hs, le-ltb 1400 (length e.payload) hp, le-ltb (length before) (length (entry_octets e)) (omega (arith, counted)))) in
              record { answer = sym w; octets = rw w (entry-put e.ticks e.source e.payload before legal counted h e₁ e₂ e₃ ey) }

-- ---- the writer accepts exactly the legal entries for which there is room

pub legal_written : (e : Entry) (room : ℕ) → Legal e → length (entry_octets e) ≤ room → writing e room ≡ accepted (length (entry_octets e))
unfolding writing
legal_written e room h l =
    simp (le-ltb 4294967295 e.ticks h.ticks, le-ltb 4294967295 e.source h.source, le-ltb 1400 (length e.payload) h.payload, le-ltb room (length (entry_octets e)) l)

pub written_legal : (e : Entry) (room n : ℕ) → writing e room ≡ accepted n → Legal e × (n ≡ length (entry_octets e)) × (n ≤ room)
unfolding writing
written_legal e room n q =
    go (cases_lt 4294967295 e.ticks) (cases_lt 4294967295 e.source) (cases_lt 1400 (length e.payload)) (cases_lt room (length (entry_octets e)))
  where
    never : (r : Reason) (p : ℕ) → refused_with 0 (refusal r p) ≡ writing e room → ⊥
    never r p d = omega (arith, number_of-least r, ap (λ (o : Report ℕ). o.number) (d ∙ q))

    go : (4294967295 < e.ticks) ⊎ (e.ticks ≤ 4294967295) → (4294967295 < e.source) ⊎ (e.source ≤ 4294967295)
        → (1400 < length e.payload) ⊎ (length e.payload ≤ 1400) → (room < length (entry_octets e)) ⊎ (length (entry_octets e) ≤ room)
        → Legal e × (n ≡ length (entry_octets e)) × (n ≤ room)
    go (inl a) b c d = absurd (never BadNumber 0 (simp (lt-ltb 4294967295 e.ticks a)))
    go (inr a) (inl b) c d = absurd (never BadNumber 0 (simp (le-ltb 4294967295 e.ticks a, lt-ltb 4294967295 e.source b)))
    go (inr a) (inr b) (inl c) d =
        absurd (never TooLong 1400 (simp (le-ltb 4294967295 e.ticks a, le-ltb 4294967295 e.source b, lt-ltb 1400 (length e.payload) c)))
    go (inr a) (inr b) (inr c) (inl d) =
        absurd
        (never OctetsTooShort (length (entry_octets e))
        (simp (le-ltb 4294967295 e.ticks a, le-ltb 4294967295 e.source b, le-ltb 1400 (length e.payload) c, lt-ltb room (length (entry_octets e)) d)))
    go (inr a) (inr b) (inr c) (inr d) =
        let h : Legal e = record { ticks = a; source = b; payload = c } in
        let s : n ≡ length (entry_octets e) = ap (λ (o : Report ℕ). o.value) (sym q ∙ legal_written e room h d) in
        (h, s, omega arith)
