-- One entry is read exactly: an entry is handed out exactly if its octets stand there, and the refusal is the one that is said
-- forwards.
use mathlib.Core.Path.{◌≡◌, refl, sym, ap, ◌∙◌}
use mathlib.Core.List.{List, [], ◌∷◌, ◌++◌, append_assoc}
use Prim.Native.Nat.{ℕ, ◌≤◌}
use native.Mathlib.Omega.{arith}
use lib.ListN.{length, take, drop, length-append, take-append-drop}
use lib.Seq.{length-take-le}
use Rattle.octets.specs.Octet.{Octets}
use Rattle.octets.proofs.Octet.{octets_behind}
use Rattle.refusal.specs.declared.Reason.{Reason}
use Rattle.journal.specs.Entry.{Entry, Legal, numeral, entry_octets}
use Rattle.journal.specs.Reading.{entry, end, broken, number_then, body_then, behind_source, behind_ticks, reading_of}
use Rattle.journal.specs.Broken.{numbered, AllNumbers, Broken, bad, cut, long, body}
use Rattle.journal.proofs.Steps.{numeral_some, then_complete, then_begun, then_impossible, Judged, good, begun, impossible, judged_as}
use Rattle.journal.proofs.Steps.{Bodied, long as too_long, cut as tooShort, full, bodied_as, body_long, body_cut, body_complete, body_goes, then_goes, possible_nil}

never_entry : {e : Entry} {rest : List ℕ} → end ≡ entry e rest → ⊥
never_entry e = let z : ◌≡◌ {A = ℕ} 0 1 = cc in omega arith

never_broken : {k : Reason} → end ≡ broken k → ⊥
never_broken e = let z : ◌≡◌ {A = ℕ} 0 1 = cc in omega arith

-- where there is something to read
pub reading_some : (xs : List ℕ) → 1 ≤ length xs → reading_of xs ≡ number_then behind_ticks xs
reading_some [] h = absurd (omega arith)
reading_some (x ∷ xs) h = refl

pub reading_not_nil : (xs : List ℕ) → (xs ≡ [] → ⊥) → reading_of xs ≡ number_then behind_ticks xs
reading_not_nil [] h = absurd (h refl)
reading_not_nil (x ∷ xs) h = refl

-- ---- an entry's octets are read as that entry

regroup : (a b c d e : List ℕ) → (a ++ (b ++ (c ++ d))) ++ e ≡ a ++ (b ++ (c ++ (d ++ e)))
regroup a b c d e = simp append_assoc

pub entry_complete : (e : Entry) (rest : List ℕ) → Legal e → reading_of (entry_octets e ++ rest) ≡ entry e rest
entry_complete e rest h =
    let n = length e.payload in
    let p : List ℕ = e.payload ++ rest in
    let text : entry_octets e ++ rest ≡ numeral e.ticks ++ (numeral e.source ++ (numeral n ++ p)) =
    regroup (numeral e.ticks) (numeral e.source) (numeral n) e.payload rest in
    ap reading_of text
    ∙ reading_some (numeral e.ticks ++ (numeral e.source ++ (numeral n ++ p))) (omega (arith, numeral_some e.ticks, length-append (numeral e.ticks) (numeral e.source ++ (numeral n ++ p))))
    ∙ then_complete behind_ticks e.ticks (numeral e.source ++ (numeral n ++ p)) h.ticks
    ∙ then_complete (behind_source e.ticks) e.source (numeral n ++ p) h.source
    ∙ then_complete (body_then e.ticks e.source) n p (omega (arith, h.payload))
    ∙ body_complete e.ticks e.source e.payload rest h.payload

-- ---- what is read as an entry is an entry's octets

pub record Stands (xs : List ℕ) (e : Entry) (rest : List ℕ) : Type 0 where
  pub text : xs ≡ entry_octets e ++ rest
  pub legal : Legal e

body_sound : (t s n : ℕ) (xs : List ℕ) {e : Entry} {rest : List ℕ} → t ≤ 4294967295 → s ≤ 4294967295 → Bodied t s n xs (entry e rest)
    → Stands (numeral t ++ (numeral s ++ (numeral n ++ xs))) e rest
body_sound t s n xs ht hs (full h l) =
    let p : List ℕ = take n xs in
    let q : length p ≡ n = length-take-le n xs l in
    let split : xs ≡ p ++ drop n xs = sym (take-append-drop n xs) in
    record {
      text =
          ap (λ (r : List ℕ). numeral t ++ (numeral s ++ (numeral n ++ r))) split
          ∙ ap (λ (m : ℕ). numeral t ++ (numeral s ++ (numeral m ++ (p ++ drop n xs)))) (sym q)
          ∙ sym (regroup (numeral t) (numeral s) (numeral (length p)) p (drop n xs));
      legal = record { ticks = ht; source = hs; payload = omega arith };
    }

pub entry_sound : (xs : List ℕ) → Octets xs → {e : Entry} {rest : List ℕ} → reading_of xs ≡ entry e rest → Stands xs e rest
entry_sound [] o q = absurd (never_entry q)
entry_sound (x ∷ xs) o {e} {rest} q = first (judged_as behind_ticks (x ∷ xs) o q)
  where
    third : (t s : ℕ) (ys : List ℕ) → t ≤ 4294967295 → s ≤ 4294967295 → Judged (body_then t s) ys (entry e rest) → Stands (numeral t ++ (numeral s ++ ys)) e rest
    third t s ys ht hs (good n zs d h r) = rw d (body_sound t s n zs ht hs (bodied_as t s n zs r))

    second : (t : ℕ) (ys : List ℕ) → Octets ys → t ≤ 4294967295 → Judged (behind_source t) ys (entry e rest) → Stands (numeral t ++ ys) e rest
    second t ys oy ht (good s zs d h r) = rw d (third t s zs ht h (judged_as (body_then t s) zs (octets_behind (numeral s) zs d oy) r))

    first : Judged behind_ticks (x ∷ xs) (entry e rest) → Stands (x ∷ xs) e rest
    first (good t ys d h r) =
        let s = second t ys (octets_behind (numeral t) ys d o) h (judged_as (behind_source t) ys (octets_behind (numeral t) ys d o) r) in
        record { text = d ∙ s.text; legal = s.legal }

-- ---- the end

pub end_sound : (xs : List ℕ) → reading_of xs ≡ end → xs ≡ []
end_sound [] q = refl
end_sound (x ∷ xs) q = absurd (then_goes behind_ticks (λ t. then_goes (behind_source t) (λ s. then_goes (body_then t s) (body_goes t s))) (x ∷ xs) q)

-- ---- refusals

module _ (xs : List ℕ) (o : Octets xs) where
  -- ---- a refusal, as it is said forwards

  module _ (some : xs ≡ [] → ⊥) where
    in_body : (t s n : ℕ) (ys : List ℕ) → AllNumbers (t ∷ s ∷ n ∷ []) → xs ≡ numbered (t ∷ s ∷ n ∷ []) ys → {k : Reason} → Bodied t s n ys (broken k) → Broken xs k
    in_body t s n ys hs e (too_long h) = long t s n ys hs e h
    in_body t s n ys hs e (tooShort h l) = body t s n ys hs e h l

    in_length : (t s : ℕ) (ys : List ℕ) → AllNumbers (t ∷ s ∷ []) → xs ≡ numbered (t ∷ s ∷ []) ys → {k : Reason} → Judged (body_then t s) ys (broken k) → Broken xs k
    in_length t s ys hs e (good n zs d h r) = in_body t s n zs (hs.0, (hs.1.0, (h, tt))) (rw d at e) (bodied_as t s n zs r)
    in_length t s ys hs e (begun b) = cut (t ∷ s ∷ []) ys (omega arith) hs e some b
    in_length t s ys hs e (impossible f) = bad (t ∷ s ∷ []) ys (omega arith) hs e f

    in_source : (t : ℕ) (ys : List ℕ) → AllNumbers (t ∷ []) → xs ≡ numbered (t ∷ []) ys → Octets ys → {k : Reason} → Judged (behind_source t) ys (broken k) → Broken xs k
    in_source t ys hs e oy (good s zs d h r) = in_length t s zs (hs.0, (h, tt)) (rw d at e) (judged_as (body_then t s) zs (octets_behind (numeral s) zs d oy) r)
    in_source t ys hs e oy (begun b) = cut (t ∷ []) ys (omega arith) hs e some b
    in_source t ys hs e oy (impossible f) = bad (t ∷ []) ys (omega arith) hs e f

    in_ticks : {k : Reason} → Judged behind_ticks xs (broken k) → Broken xs k
    in_ticks (good t ys d h r) = let oy = octets_behind (numeral t) ys d o in in_source t ys (h, tt) d oy (judged_as (behind_source t) ys oy r)
    in_ticks (begun b) = cut [] xs (omega arith) tt refl some b
    in_ticks (impossible f) = bad [] xs (omega arith) tt refl f

  pub broken_sound : {k : Reason} → reading_of xs ≡ broken k → Broken xs k
  broken_sound {k} q = in_ticks (λ e. never_broken (sym (ap reading_of e) ∙ q)) (judged_as behind_ticks xs o (sym (reading_not_nil xs (λ e. never_broken (sym (ap reading_of e) ∙ q))) ∙ q))

  -- behind one number, two, three
  one : (t : ℕ) (ys : List ℕ) → t ≤ 4294967295 → xs ≡ numeral t ++ ys → reading_of xs ≡ behind_ticks t ys
  one t ys h e =
      reading_some xs (omega (arith, ap length e, length-append (numeral t) ys, numeral_some t)) ∙ ap (number_then behind_ticks) e ∙ then_complete behind_ticks t ys h

  two : (t s : ℕ) (ys : List ℕ) → t ≤ 4294967295 → s ≤ 4294967295 → xs ≡ numeral t ++ (numeral s ++ ys) → reading_of xs ≡ behind_source t s ys
  two t s ys h l e = one t (numeral s ++ ys) h e ∙ then_complete (behind_source t) s ys l

  three : (t s n : ℕ) (ys : List ℕ) → AllNumbers (t ∷ s ∷ n ∷ []) → xs ≡ numbered (t ∷ s ∷ n ∷ []) ys → reading_of xs ≡ body_then t s n ys
  three t s n ys h e = two t s (numeral n ++ ys) h.0 h.1.0 e ∙ then_complete (body_then t s) n ys h.1.1.0

  -- and what is said forwards is the refusal
  pub broken_complete : {k : Reason} → Broken xs k → reading_of xs ≡ broken k
  broken_complete (bad [] rest few h e f) =
      reading_not_nil xs (λ z. f (possible_nil rest (sym e ∙ z))) ∙ then_impossible behind_ticks xs o (λ p. f (rw e at p))
  broken_complete (bad (t ∷ []) rest few h e f) = one t rest h.0 e ∙ then_impossible (behind_source t) rest (octets_behind (numeral t) rest e o) f
  broken_complete (bad (t ∷ s ∷ []) rest few h e f) =
      two t s rest h.0 h.1.0 e
      ∙ then_impossible (body_then t s) rest (octets_behind (numeral s) rest refl (octets_behind (numeral t) (numeral s ++ rest) e o)) f
  broken_complete (bad (t ∷ s ∷ n ∷ ns) rest few h e f) = absurd (omega arith)
  broken_complete (cut [] rest few h e ne b) = reading_not_nil xs ne ∙ then_begun behind_ticks xs (rw e b)
  broken_complete (cut (t ∷ []) rest few h e ne b) = one t rest h.0 e ∙ then_begun (behind_source t) rest b
  broken_complete (cut (t ∷ s ∷ []) rest few h e ne b) = two t s rest h.0 h.1.0 e ∙ then_begun (body_then t s) rest b
  broken_complete (cut (t ∷ s ∷ n ∷ ns) rest few h e ne b) = absurd (omega arith)
  broken_complete (long t s n rest h e l) = three t s n rest h e ∙ sym (body_long t s n rest l)
  broken_complete (body t s n rest h e l f) = three t s n rest h e ∙ sym (body_cut t s n rest l f)
