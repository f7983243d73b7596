-- What `entry_at` answers at an index, and what stands there: the one follows from the other.
use mathlib.Core.Path.{◌≡◌, refl, sym, ap, ◌∙◌, subst}
use mathlib.Core.List.{List, [], ◌++◌, append_assoc}
use Prim.Native.Nat.{ℕ, ◌+◌, ◌-◌, ◌≤◌}
use native.Mathlib.Omega.{arith}
use lib.ListN.{length, take, drop, length-append, length-drop}
use lib.Seq.{take_at, drop_at, drop-drop}
use Rattle.octets.specs.Octet.{Octets}
use Rattle.octets.proofs.Octet.{octets_drop}
use Rattle.journal.specs.Entry.{Entry, Legal, numeral, entry_octets}
use Rattle.journal.specs.Reading.{Reading, entry, end, broken, reading_of}
use Rattle.journal.specs.Broken.{Broken}
use Rattle.refusal.specs.Numbers.{number_of}
use Rattle.refusal.specs.declared.Reason.{Reason}
use Rattle.refusal.specs.Report.{Report}
use Rattle.journal.specs.Answers.{Located, handed, nothing, reported, entry_at}
use Rattle.journal.specs.Replay.{Ended, at_end, at_refusal}
use Rattle.journal.proofs.Steps.{numeral_some}
use Rattle.journal.proofs.Exact.{entry_sound, entry_complete, end_sound, broken_sound, broken_complete}

-- ---- an entry's octets: its numbers, and its payload

numbers_of : Entry → List ℕ
numbers_of e = numeral e.ticks ++ (numeral e.source ++ numeral (length e.payload))

octets_parted : (e : Entry) (rest : List ℕ) → entry_octets e ++ rest ≡ numbers_of e ++ (e.payload ++ rest)
unfolding numbers_of
octets_parted e rest = simp append_assoc

octets_long : (e : Entry) → length (entry_octets e) ≡ length (numbers_of e) + length e.payload
unfolding numbers_of
octets_long e =
    let text : entry_octets e ≡ numbers_of e ++ e.payload = simp append_assoc in
    ap length text ∙ length-append (numbers_of e) e.payload

pub octets_some : (e : Entry) → 1 ≤ length (entry_octets e)
octets_some e =
    omega (arith, numeral_some e.ticks, length-append (numeral e.ticks) (numeral e.source ++ (numeral (length e.payload) ++ e.payload)))

-- where the octets of the entry e stand at the index a: its payload's start, its end, and what stands there
record Placed (xs : List ℕ) (a : ℕ) (e : Entry) (rest : List ℕ) : Type 0 where
  start : ℕ
  next : ℕ
  from : start ≡ length xs - length rest - length e.payload
  upto : next ≡ length xs - length rest
  after : next ≡ a + length (entry_octets e)
  payload : take (next - start) (drop start xs) ≡ e.payload
  behind : drop next xs ≡ rest
  inside : next ≤ length xs

placed : (xs : List ℕ) (a : ℕ) (e : Entry) (rest : List ℕ) → a ≤ length xs → drop a xs ≡ entry_octets e ++ rest → Placed xs a e rest
placed xs a e rest h q =
    let l : length xs - a ≡ length (entry_octets e) + length rest = sym (length-drop a xs) ∙ ap length q ∙ length-append (entry_octets e) rest in
    let m = octets_long e in
    let p : drop a xs ≡ numbers_of e ++ (e.payload ++ rest) = q ∙ octets_parted e rest in
    let start : ℕ = a + length (numbers_of e) in
    let next : ℕ = a + length (entry_octets e) in
    let ds : drop start xs ≡ e.payload ++ rest =
    sym (drop-drop (length (numbers_of e)) a xs) ∙ ap (drop (length (numbers_of e))) p ∙ drop_at (numbers_of e) (e.payload ++ rest) (length (numbers_of e)) refl in
    let dn : drop next xs ≡ rest =
    sym (drop-drop (length (entry_octets e)) a xs) ∙ ap (drop (length (entry_octets e))) q ∙ drop_at (entry_octets e) rest (length (entry_octets e)) refl in
    record {
      start = start;
      next = next;
      from = omega arith;
      upto = omega arith;
      after = refl;
      payload = ap (take (next - start)) ds ∙ take_at e.payload rest (next - start) (omega arith);
      behind = dn;
      inside = omega arith;
    }

-- ---- from what stands there to the answer

pub record Handed (xs : List ℕ) (a : ℕ) (e : Entry) (rest : List ℕ) : Type 0 where
  pub start : ℕ
  pub next : ℕ
  pub answer : entry_at xs a ≡ handed e.ticks e.source start next
  pub payload : take (next - start) (drop start xs) ≡ e.payload
  pub behind : drop next xs ≡ rest
  pub after : next ≡ a + length (entry_octets e)
  pub inside : next ≤ length xs

pub handed_complete : (xs : List ℕ) (a : ℕ) (e : Entry) (rest : List ℕ) → a ≤ length xs → Legal e → drop a xs ≡ entry_octets e ++ rest → Handed xs a e rest
unfolding entry_at
handed_complete xs a e rest h l q =
    let p = placed xs a e rest h q in
    record {
      start = p.start;
      next = p.next;
      answer =
          ap (reported (length xs) a) (ap reading_of q ∙ entry_complete e rest l)
          ∙ ap (λ (i : ℕ). handed e.ticks e.source i (length xs - length rest)) (sym p.from)
          ∙ ap (handed e.ticks e.source p.start) (sym p.upto);
      payload = p.payload;
      behind = p.behind;
      after = p.after;
      inside = p.inside;
    }

pub end_complete : (xs : List ℕ) (a : ℕ) → drop a xs ≡ [] → entry_at xs a ≡ nothing 0 0
unfolding entry_at
end_complete xs a q = ap (λ (l : List ℕ). reported (length xs) a (reading_of l)) q

pub refused_complete : (xs : List ℕ) (a : ℕ) (k : Reason) → Octets xs → Broken (drop a xs) k → entry_at xs a ≡ nothing (number_of k) a
unfolding entry_at
refused_complete xs a k o b = ap (reported (length xs) a) (broken_complete (drop a xs) (octets_drop a xs o) b)

-- ---- from the answer to what stands there

pub record Stood (xs : List ℕ) (a t s b n : ℕ) : Type 0 where
  pub text : drop a xs ≡ entry_octets (record { ticks = t; source = s; payload = take (n - b) (drop b xs) }) ++ drop n xs
  pub legal : Legal (record { ticks = t; source = s; payload = take (n - b) (drop b xs) })
  pub after : n ≡ a + length (entry_octets (record { ticks = t; source = s; payload = take (n - b) (drop b xs) }))
  pub inside : n ≤ length xs

pub handed_sound : (xs : List ℕ) (a : ℕ) → Octets xs → a ≤ length xs → (t s b n : ℕ) → entry_at xs a ≡ handed t s b n → Stood xs a t s b n
unfolding entry_at
handed_sound xs a o h t s b n e = go (reading_of (drop a xs)) refl e
  where
    go : (R : Reading) → reading_of (drop a xs) ≡ R → reported (length xs) a R ≡ handed t s b n → Stood xs a t s b n
    go (entry f rest) d q =
        let st = entry_sound (drop a xs) (octets_drop a xs o) d in
        let p = placed xs a f rest h st.text in
        let et : f.ticks ≡ t = ap (λ (r : Report Located). r.value.ticks) q in
        let es : f.source ≡ s = ap (λ (r : Report Located). r.value.source) q in
        let eb : p.start ≡ b = p.from ∙ ap (λ (r : Report Located). r.value.start) q in
        let en : p.next ≡ n = p.upto ∙ ap (λ (r : Report Located). r.value.next) q in
        let ep : take (n - b) (drop b xs) ≡ f.payload = rw (← eb, ← en) p.payload in
        let same : f ≡ record { ticks = t; source = s; payload = take (n - b) (drop b xs) } = rw (← et, ← es, ep) refl in
        record {
          text = subst (λ (g : Entry). drop a xs ≡ entry_octets g ++ drop n xs) same (st.text ∙ ap (λ (l : List ℕ). entry_octets f ++ l) (sym p.behind ∙ ap (λ (i : ℕ). drop i xs) en));
          legal = subst Legal same st.legal;
          after = subst (λ (g : Entry). n ≡ a + length (entry_octets g)) same (sym en ∙ p.after);
          inside = rw en at p.inside;
        }
    go end d q = absurd (omega (arith, ap (λ (r : Report Located). r.value.entries) q))
    go (broken k) d q = absurd (omega (arith, ap (λ (r : Report Located). r.value.entries) q))

pub nothing_sound : (xs : List ℕ) (a : ℕ) → Octets xs → (k p : ℕ) → entry_at xs a ≡ nothing k p → Ended (drop a xs) a (record { number = k; place = p })
unfolding entry_at
nothing_sound xs a o k p e = go (reading_of (drop a xs)) refl e
  where
    go : (R : Reading) → reading_of (drop a xs) ≡ R → reported (length xs) a R ≡ nothing k p → Ended (drop a xs) a (record { number = k; place = p })
    go (entry f rest) d q = absurd (omega (arith, ap (λ (r : Report Located). r.value.entries) q))
    go end d q =
        let ek : k ≡ 0 = sym (ap (λ (r : Report Located). r.number) q) in
        let ep : p ≡ 0 = sym (ap (λ (r : Report Located). r.place) q) in
        rw (ek, ep) (at_end (end_sound (drop a xs) d))
    go (broken m) d q =
        let ek : k ≡ number_of m = sym (ap (λ (r : Report Located). r.number) q) in
        let ep : p ≡ a = sym (ap (λ (r : Report Located). r.place) q) in
        rw (ek, ep) (at_refusal (broken_sound (drop a xs) (octets_drop a xs o) d))

-- octets that are refused begin with no legal entry's
pub broken_no_entry : (xs : List ℕ) → Octets xs → {k : Reason} → Broken xs k → (e : Entry) (rest : List ℕ) → Legal e → xs ≡ entry_octets e ++ rest → ⊥
broken_no_entry xs o {k} b e rest l q =
    let d : broken k ≡ entry e rest = sym (broken_complete xs o b) ∙ ap reading_of q ∙ entry_complete e rest l in
    let z : ◌≡◌ {A = ℕ} 0 1 = cc in
    omega arith
