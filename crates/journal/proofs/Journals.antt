-- Whole journals, read entry by entry: what calls of `entry_at` hand out is exactly what the octets hold.
use mathlib.Core.Path.{◌≡◌, refl, sym, ap, ◌∙◌}
use mathlib.Core.List.{List, [], ◌∷◌, ◌++◌, append_assoc, append-nil}
use Prim.Native.Nat.{ℕ, zero, suc, ◌+◌, ◌-◌, ◌≤◌}
use native.Mathlib.Nat.{zero-add}
use native.Mathlib.Omega.{arith}
use lib.ListN.{length, take, drop, length-append, drop_of_length-le}
use Rattle.octets.specs.Octet.{Octets}
use Rattle.octets.proofs.Octet.{octets_behind, octets_drop}
use Rattle.journal.specs.Entry.{Entry, entry_octets, journal_octets, AllLegal}
use Rattle.journal.specs.Reading.{Reading, entry, end, broken, reading_of}
use Rattle.refusal.specs.Numbers.{number_of}
use Rattle.refusal.specs.Report.{Report}
use Rattle.refusal.proofs.NumberLaws.{number_of-least}
use Rattle.journal.specs.Answers.{Located, handed, nothing}
use Rattle.journal.specs.Replay.{Ending, whole, Replay, stops, goes, Ended, at_end, at_refusal, Holds, RefusedAt}
use Rattle.journal.proofs.Exact.{entry_sound, end_sound, broken_sound}
use Rattle.journal.proofs.Indices.{octets_some, handed_complete, end_complete, refused_complete, handed_sound, nothing_sound, broken_no_entry}

-- ---- from an index on

-- behind n octets the octets are those of these legal entries, and then a rest that ends so
record Onward (xs : List ℕ) (a : ℕ) (es : List Entry) (o : Ending) : Type 0 where
  rest : List ℕ
  text : drop a xs ≡ journal_octets es ++ rest
  legal : AllLegal es
  ended : Ended rest (a + length (journal_octets es)) o

module _ (xs : List ℕ) (oct : Octets xs) where
  onward : {a : ℕ} {es : List Entry} {o : Ending} → a ≤ length xs → Replay xs a es o → Onward xs a es o
  onward {a} h (stops {n = n} {p = p} e) =
      let z : a ≡ a + 0 = omega arith in
      record { rest = drop a xs; text = refl; legal = tt; ended = rw (← z) (nothing_sound xs a oct n p e) }
  onward {a} h (goes {es = es} {o = o} t s b n e r) =
      let st = handed_sound xs a oct h t s b n e in
      let f : Entry = record { ticks = t; source = s; payload = take (n - b) (drop b xs) } in
      let w = onward st.inside r in
      let z : n + length (journal_octets es) ≡ a + length (entry_octets f ++ journal_octets es) = omega (arith, st.after, length-append (entry_octets f) (journal_octets es)) in
      record {
        rest = w.rest;
        text = st.text ∙ ap (λ (l : List ℕ). entry_octets f ++ l) w.text ∙ sym (append_assoc (entry_octets f) (journal_octets es) w.rest);
        legal = (st.legal, w.legal);
        ended = rw (← z) w.ended;
      }

  back : (es : List Entry) (a : ℕ) (rest : List ℕ) {o : Ending} → a ≤ length xs → AllLegal es → drop a xs ≡ journal_octets es ++ rest
      → Ended rest (a + length (journal_octets es)) o → Replay xs a es o
  back [] a rest h l q (at_end e) = stops (end_complete xs a (q ∙ e))
  back [] a rest h l q (at_refusal {r = r} b) =
      let z : a + 0 ≡ a = omega arith in
      rw z (stops (refused_complete xs a r oct (rw q b)))
  back (e ∷ es) a rest h l q d =
      let p = handed_complete xs a e (journal_octets es ++ rest) h l.0 (q ∙ append_assoc (entry_octets e) (journal_octets es) rest) in
      let z : a + length (entry_octets e ++ journal_octets es) ≡ p.next + length (journal_octets es) = omega (arith, p.after, length-append (entry_octets e) (journal_octets es)) in
      rw (← p.payload) (goes e.ticks e.source p.start p.next p.answer (back es p.next rest p.inside l.1 p.behind (rw z at d)))

  -- ---- from the start

  -- what reading hands out is what the octets hold
  pub replay_sound : (es : List Entry) (o : Ending) → Replay xs 0 es o → Holds xs es o
  replay_sound es o r =
      let w = onward (omega arith) r in
      record { rest = w.rest; text = w.text; legal = w.legal; ended = rw (zero-add (length (journal_octets es))) at w.ended }

  -- and what the octets hold is handed out
  pub replay_complete : (es : List Entry) (o : Ending) → Holds xs es o → Replay xs 0 es o
  replay_complete es o h = back es 0 h.rest (omega arith) h.legal h.text (rw (zero-add (length (journal_octets es))) h.ended)

  -- at the end the octets are those of the entries, all of them; a refusal has a number, and the entries end where it begins, at
  -- octets that begin with no legal entry's
  pub whole_journal : (es : List Entry) → Holds xs es whole → xs ≡ journal_octets es
  whole_journal es h = h.text ∙ ap (λ (l : List ℕ). journal_octets es ++ l) (nothing_left h.ended refl) ∙ append-nil (journal_octets es)
    where
      nothing_left : {rest : List ℕ} {p : ℕ} {o : Ending} → Ended rest p o → o.number ≡ 0 → rest ≡ []
      nothing_left (at_end e) z = e
      nothing_left (at_refusal {r = r} b) z = absurd (omega (arith, number_of-least r))

  pub refused_journal : (es : List Entry) (k p : ℕ) → 1 ≤ k → Holds xs es (record { number = k; place = p }) → RefusedAt xs es k p
  refused_journal es k p some h = go h.ended refl
    where
      go : {o : Ending} → Ended h.rest (length (journal_octets es)) o → o ≡ record { number = k; place = p } → RefusedAt xs es k p
      go (at_end e) q = absurd (omega (arith, ap (λ (o : Ending). o.number) q))
      go (at_refusal {r = r} b) q =
          record {
            rest = h.rest;
            text = h.text;
            place = sym (ap (λ (o : Ending). o.place) q);
            reason = r;
            number = sym (ap (λ (o : Ending). o.number) q);
            why = b;
            no_entry = broken_no_entry h.rest (octets_behind (journal_octets es) h.rest h.text oct) b;
          }

-- ---- one text for one list, and one reading of any octets

-- the octets of legal entries are read as these, to the end
pub reads_written : (es : List Entry) → Octets (journal_octets es) → AllLegal es → Replay (journal_octets es) 0 es whole
reads_written es o l = replay_complete (journal_octets es) o es whole (record { rest = []; text = sym (append-nil (journal_octets es)); legal = l; ended = at_end refl })

no_report : {t s b n k p : ℕ} {r : Report Located} → r ≡ handed t s b n → r ≡ nothing k p → ⊥
no_report e q = omega (arith, ap (λ (x : Report Located). x.value.entries) (sym e ∙ q))

pub one_reading : (xs : List ℕ) {a : ℕ} {es fs : List Entry} {o q : Ending} → Replay xs a es o → Replay xs a fs q → (es ≡ fs) × (o ≡ q)
one_reading xs (stops {n = n} {p = p} e) (stops {n = m} {p = r} f) =
    let en : n ≡ m = ap (λ (x : Report Located). x.number) (sym e ∙ f) in
    let ep : p ≡ r = ap (λ (x : Report Located). x.place) (sym e ∙ f) in
    (refl, rw (en, ep) refl)
one_reading xs (stops e) (goes t s b n f r) = absurd (no_report f e)
one_reading xs (goes t s b n f r) (stops e) = absurd (no_report f e)
one_reading xs (goes {es = es} t s b n e r) (goes {es = fs} t' s' b' n' e' r') =
    let d = sym e ∙ e' in
    let et : t ≡ t' = ap (λ (x : Report Located). x.value.ticks) d in
    let es' : s ≡ s' = ap (λ (x : Report Located). x.value.source) d in
    let eb : b ≡ b' = ap (λ (x : Report Located). x.value.start) d in
    let en : n ≡ n' = ap (λ (x : Report Located). x.value.next) d in
    let w = one_reading xs r (rw (sym en) at r') in
    (rw (et, es', eb, en, w.0) refl, w.1)

pub one_list : (es fs : List Entry) → Octets (journal_octets es) → AllLegal es → AllLegal fs → journal_octets es ≡ journal_octets fs → es ≡ fs
one_list es fs o l m e =
    (one_reading (journal_octets es) (reads_written es o l)
    (replay_complete (journal_octets es) o fs whole (record { rest = []; text = e ∙ sym (append-nil (journal_octets fs)); legal = m; ended = at_end refl }))).0

-- whatever the octets, reading them comes to an end
pub record SomeReading (xs : List ℕ) (a : ℕ) : Type 0 where
  pub entries : List Entry
  pub ending : Ending
  pub replay : Replay xs a entries ending

pub some_reading : (xs : List ℕ) → Octets xs → SomeReading xs 0
some_reading xs oct = from (length xs) 0 (omega arith) (omega arith)
  where
    from : (fuel a : ℕ) → a ≤ length xs → length xs - a ≤ fuel → SomeReading xs a
    from zero a h l =
        record { entries = []; ending = whole; replay = stops (end_complete xs a (drop_of_length-le xs {i = a} (omega arith))) }
    from (suc fuel) a h l = go (from fuel) (reading_of (drop a xs)) refl
      where
        go : ((n : ℕ) → n ≤ length xs → length xs - n ≤ fuel → SomeReading xs n) → (R : Reading) → reading_of (drop a xs) ≡ R → SomeReading xs a
        go ih (entry e rest) q =
            let st = entry_sound (drop a xs) (octets_drop a xs oct) q in
            let p = handed_complete xs a e rest h st.legal st.text in
            let w = ih p.next p.inside (omega (arith, p.after, p.inside, octets_some e)) in
            record {
              entries = record { ticks = e.ticks; source = e.source; payload = take (p.next - p.start) (drop p.start xs) } ∷ w.entries;
              ending = w.ending;
              replay = goes e.ticks e.source p.start p.next p.answer w.replay;
            }
        go ih end q = record { entries = []; ending = whole; replay = stops (end_complete xs a (end_sound (drop a xs) q)) }
        go ih (broken k) q =
            record { entries = []; ending = record { number = number_of k; place = a }; replay = stops (refused_complete xs a k oct (broken_sound (drop a xs) (octets_drop a xs oct) q)) }
