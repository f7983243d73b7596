-- What holds beside the promises of single functions, a record for each topic; proofs/Theorems.antt has one value of each.
use Rattle.std.specs.Prelude.{◌≡◌, List, ◌++◌, map, ℕ, ◌+◌, ◌*◌, ◌≤◌, ℤ, pos, neg_ℤ, length, take, drop, Result, Ok, Option, Some}
use Rattle.refusal.specs.Report.{accepted, report_of}
use Rattle.refusal.specs.declared.Reason.TheVariants.{LongCountShortRange}
use Rattle.refusal.specs.declared.Reason.{Reason}
use Rattle.refusal.specs.declared.Refusal.{Refusal}
use Rattle.refusal.specs.Numbers.{number_of}
use Rattle.clock.specs.declared.Ticks.{Ticks}
use Rattle.octets.specs.Octet.{Octets}
use Rattle.wire.specs.Frame.{Frame, Legal, octets_of}
use Rattle.wire.specs.Walk.{at, read_of}
use Rattle.wire.specs.Answers.{nothing, ending_report, Identified, Walks}
use Rattle.wire.specs.declared.Session.{Session}
use Rattle.wire.specs.declared.Framing.{Framing}
use Rattle.wire.specs.declared.Framing.TheVariants.{Unframed}
use Rattle.reader.specs.Promise.{Reads}
use Rattle.reader.specs.Bench.{Gives, gives_of, payloads}
use Rattle.writer.specs.Promise.{Writes}
use Rattle.clock.specs.Time.{millis_in, ptime_of, PacketTime, ticks_in}
use Rattle.views.specs.View.{shown_of}
use Rattle.fmtp.specs.Settings.{IsSettings}
use Rattle.fmtp.specs.Text.{text_of}
use Rattle.fmtp.specs.Means.{Means}
use Rattle.fmtp.specs.Meaning.{meaning}
use Rattle.fmtp.specs.Answers.{Reads as ReadsText, Writes as WritesText}
use Rattle.fmtp.specs.declared.Settings.{Settings}
use Rattle.fields.specs.Table.{Table, fields_of, consecutive}
use Rattle.fields.specs.RoundTrip.{EachOnce, Fitting, total, RoundTrip}
use Rattle.fields.specs.Modes.{count_of}
use Rattle.fields.specs.Examples.{Examples}
use Rattle.fields.specs.Answers.{Unpacks, Packs}
use Rattle.leb128.specs.Number.{groups_of, Within, number, short, none, head_of}
use Rattle.leb128.specs.Possible.{Possible, Begun}
use Rattle.journal.specs.Entry.{Entry, most_groups, top_number, entry_octets, journal_octets, AllLegal}
use Rattle.journal.specs.Entry as journal
use Rattle.journal.specs.Answers.{writing}
use Rattle.journal.specs.Replay.{Ending, whole, Replay, RefusedAt}
use Rattle.record.specs.Runs.{RunsAfresh}
use Rattle.listing.specs.Line.{refused_word, line_with, payload_line}
use Rattle.listing.specs.Listing.{Lists, Stage, run, fresh, listing}
use Rattle.listing.specs.Answers.{Calls}
use Rattle.listing.specs.Sample.{input, output}
use Rattle.moult.specs.Promises.{Counted}
use Rattle.wire.specs.declared.Row.{Row}
use Rattle.wire.specs.declared.Summary.{Summary}

-- the walk, which says which refusal is given, accepts exactly the octets of legal sequences, and finds the one that gives them: in each legal session
pub record WalkIsExact : Type 0 where
  pub sound : (fr : Framing) (p : List ℕ) (fs : List Frame) → Octets p → read_of fr p ≡ at 0 fs → Legal fr fs × (octets_of fr fs ≡ p)
  pub complete : (fr : Framing) (fs : List Frame) → Legal fr fs → read_of fr (octets_of fr fs) ≡ at 0 fs
  pub unique : (fr : Framing) (fs gs : List Frame) → Legal fr fs → Legal fr gs → octets_of fr fs ≡ octets_of fr gs → fs ≡ gs

-- "5 is no longer given": not for the end of unread octets, and by no answer about a payload, in any session
pub record FiveIsNotGiven : Type 0 where
  pub end : (fr : Framing) (u : List ℕ) → Octets u → (a : Result Row Reason) → Identified fr u a → (ending_report (length u) a).number ≡ number_of LongCountShortRange → ⊥
  pub walk : (fr : Framing) (p : List ℕ) → Octets p → (a : Result Summary Refusal) → Walks fr p a → (report_of nothing a).number ≡ number_of LongCountShortRange → ⊥
  pub reading : (ses : Session) (p : List ℕ) → Octets p → (r b r' b' : List ℕ) (a : Result Summary Refusal) → Reads ses p r b a r' b' → (report_of nothing a).number ≡ number_of LongCountShortRange → ⊥
  pub count : (p : List ℕ) → Octets p → (a : ℤ) → Counted p a → a ≡ neg_ℤ (pos (number_of LongCountShortRange)) → ⊥
  pub time : (ses : Session) (p : List ℕ) → Octets p → (a : Result Ticks Refusal) → PacketTime ses p a → (report_of (ticks_in 0) a).number ≡ number_of LongCountShortRange → ⊥
  pub line : (p : List ℕ) → Octets p → (n m place : ℕ) → payload_line n p ≡ line_with m refused_word (number_of LongCountShortRange) place → ⊥

-- "Reading and writing undo each other, both ways": of any two calls in the same session that keep the promises of `read` and `write`
pub record ReadingUndoesWriting : Type 0 where
  -- rows ns and bodies bs were written, and the octets written are read into r and b, which have room: the rows and bodies come back, and
  -- what r and b held beyond them stays
  pub read : (ses : Session) (ns bs out left : List ℕ) (w : Result ℕ Refusal) → Writes ses ns bs out w left → (report_of 0 w).number ≡ 0
      → (r b r' b' : List ℕ) (a : Result Summary Refusal) → Reads ses (take (report_of 0 w).value left) r b a r' b' → length ns ≤ length r → length bs ≤ length b
      → ((report_of nothing a).number ≡ 0) × (r' ≡ ns ++ drop (length ns) r) × (b' ≡ bs ++ drop (length bs) b)
  -- the payload p was read, and the rows and bodies handed out are written into a buffer that has room: the payload comes back
  pub written : (ses : Session) (p r b r' b' : List ℕ) (a : Result Summary Refusal) → Reads ses p r b a r' b' → (report_of nothing a).number ≡ 0
      → (out left : List ℕ) (w : Result ℕ Refusal) → Writes ses (take (2 * (report_of nothing a).value.frames) r') (take (report_of nothing a).value.octets b') out w left
      → length p ≤ length out → (report_of 0 w ≡ accepted (length p)) × (left ≡ p ++ drop (length p) out)

-- "The P lines form a single table, proved by one statement": of document 01, so where framing is not agreed
abbrev pub BenchPayloads : Type 0
BenchPayloads = map (λ (line : List ℕ × Gives). gives_of (read_of Unframed line.0)) payloads ≡ map (λ (line : List ℕ × Gives). line.1) payloads

-- "113 and 158": five and seven frames at 2400
pub record PtimesDecided : Type 0 where
  pub five : ptime_of 2400 5 ≡ accepted (millis_in 113)
  pub seven : ptime_of 2400 7 ≡ accepted (millis_in 158)

-- the views of all rows, one after another, are the payload: in each legal session
abbrev pub ViewsJoin : Type 0
ViewsJoin = (fr : Framing) (p s : List ℕ) (fs : List Frame) → Legal fr fs → octets_of fr fs ≡ p → shown_of fr p s (length fs) ≡ p

-- setting texts
pub record SettingsAreExact : Type 0 where
  -- what is computed of a text is what the language, said forwards, says that it means
  pub means : (t : List ℕ) (s : Settings) → meaning t ≡ Some s → Means t s
  pub computed : (t : List ℕ) (s : Settings) → Means t s → meaning t ≡ Some s
  -- it is settings
  pub settings : (t : List ℕ) (s : Settings) → meaning t ≡ Some s → IsSettings s
  -- what the reader promises of a text leaves one answer
  pub fixed : (t : List ℕ) (r s : Result Settings Refusal) → ReadsText t r → ReadsText t s → r ≡ s
  -- settings that were written are read as they were
  pub return : (s : Settings) (before after : List ℕ) (n : ℕ) (r : Result Settings Refusal) → WritesText s before after (Ok n) → ReadsText (take n after) r → r ≡ Ok s
  -- "31 octets"
  pub longest : (s : Settings) → IsSettings s → length (text_of s) ≤ 31

-- fields
pub record FieldsReturn : Type 0 where
  -- any table that names each of the 54 bits exactly once round trips, and what is unpacked fits
  pub tables : (table : Table) → EachOnce table → RoundTrip table
  pub fitting : (table : Table) (body : List ℕ) → Fitting table (fields_of table body)
  -- "the round trip is proved once over any list of widths with sum 54"
  pub widths : (ws : List ℕ) → total ws ≡ 54 → RoundTrip (consecutive 0 ws)
  -- a body that was unpacked comes back from its fields
  pub body : (mode : ℕ) (body before after : List ℕ) (r : Result ℕ Refusal) → Unpacks mode body before after r → (report_of 0 r).number ≡ 0 → Octets body
      → (out left : List ℕ) (s : Result ℕ Refusal) → Packs mode (take (count_of mode) after) out left s → 7 ≤ length out
      → (report_of 0 s ≡ accepted 7) × (left ≡ body ++ drop 7 out)
  -- fields that were packed come back from their body
  pub fields : (mode : ℕ) (fields out left : List ℕ) (r : Result ℕ Refusal) → Packs mode fields out left r → (report_of 0 r).number ≡ 0
      → (before after : List ℕ) (s : Result ℕ Refusal) → Unpacks mode (take 7 left) before after s → count_of mode ≤ length before
      → (report_of 0 s ≡ accepted (count_of mode)) × (after ≡ fields ++ drop (count_of mode) before)
  -- the paper's three
  pub examples : Examples

-- a number in at most nine groups of seven bits is read exactly where its octets stand, and each number has one text
pub record NumbersAreExact : Type 0 where
  pub sound : (most bound : ℕ) → most ≤ 9 → (xs : List ℕ) (n : ℕ) (rest : List ℕ) → Octets xs → head_of most bound xs ≡ number n rest
      → (xs ≡ groups_of most n ++ rest) × Within most bound n
  pub complete : (most bound : ℕ) → most ≤ 9 → 1 ≤ most → (n : ℕ) (rest : List ℕ) → Within most bound n → head_of most bound (groups_of most n ++ rest) ≡ number n rest
  pub unique : (most bound : ℕ) → most ≤ 9 → (n m : ℕ) → Within most bound n → Within most bound m → groups_of most n ≡ groups_of most m → n ≡ m

-- the listing, octet by octet, is the one that is said line by line, however the input is cut into parts
pub record ListingIsExact : Type 0 where
  pub says : (xs : List ℕ) → Octets xs → Lists 0 xs (listing xs)
  pub only : (xs out : List ℕ) → Octets xs → Lists 0 xs out → out ≡ listing xs
  pub joined : (b xs out : List ℕ) → Octets xs → Calls fresh b xs out → out ≡ listing xs
  -- a line's number never passes the octets taken, so no input that there is reaches the largest
  pub lines : (room : Option ℕ) (t : Stage) (xs : List ℕ) → (run room t xs).lines ≤ t.lines + length xs
  pub sample : listing input ≡ output

-- "18 bad number (from the first octet that leaves no good one possible)": of some octets, a number of at most five groups below 2^32 is bad exactly if
-- no further octets make one, and cut short exactly if some do
pub record BadNumbersAreExact : Type 0 where
  pub bad : (xs : List ℕ) → head_of most_groups top_number xs ≡ none → Possible most_groups top_number xs → ⊥
  pub impossible : (xs : List ℕ) → Octets xs → (Possible most_groups top_number xs → ⊥) → head_of most_groups top_number xs ≡ none
  pub cut : (xs : List ℕ) → Octets xs → (v k : ℕ) → head_of most_groups top_number xs ≡ short v k → Begun most_groups top_number xs
  pub begun : (xs : List ℕ) → Begun most_groups top_number xs → (v : ℕ) × (k : ℕ) × (head_of most_groups top_number xs ≡ short v k)

-- whole journals, read entry by entry from 0
pub record JournalsAreExact : Type 0 where
  -- the octets of legal entries are read as these, to the end
  pub read : (es : List Entry) → Octets (journal_octets es) → AllLegal es → Replay (journal_octets es) 0 es whole
  -- any octets are read to some end, and to one alone
  pub ends : (xs : List ℕ) → Octets xs → (es : List Entry) × (o : Ending) × Replay xs 0 es o
  pub once : (xs : List ℕ) (es fs : List Entry) (o q : Ending) → Replay xs 0 es o → Replay xs 0 fs q → (es ≡ fs) × (o ≡ q)
  -- the end is reached only by octets of legal entries, and these are read
  pub whole : (xs : List ℕ) → Octets xs → (es : List Entry) → Replay xs 0 es whole → AllLegal es × (xs ≡ journal_octets es)
  -- "one journal text for one list of entries", and one list for one text
  pub unique : (es fs : List Entry) → Octets (journal_octets es) → AllLegal es → AllLegal fs → journal_octets es ≡ journal_octets fs → es ≡ fs
  -- a refusal: "entries handed out before a refusal stand"
  pub refused : (xs : List ℕ) → Octets xs → (es : List Entry) (k p : ℕ) → 1 ≤ k → Replay xs 0 es (record { number = k; place = p })
      → AllLegal es × RefusedAt xs es k p
  -- the writer accepts exactly the legal entries for which there is room
  pub written : (e : Entry) (room : ℕ) → journal.Legal e → length (entry_octets e) ≤ room → writing e room ≡ accepted (length (entry_octets e))
  pub accepted : (e : Entry) (room n : ℕ) → writing e room ≡ accepted n → journal.Legal e × (n ≡ length (entry_octets e)) × (n ≤ room)

-- packet records: behind any run of operations from the empty one, the record is that of the rows that result, worked out afresh
abbrev pub PacketRecordsAreAfresh : Type 0
PacketRecordsAreAfresh = RunsAfresh
