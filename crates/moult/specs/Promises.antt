-- What the exported functions promise: each answers the struct of an answer of which the library's own promise holds.
use Rattle.std.specs.Prelude.{◌≡◌, List, [], ℕ, ◌≤◌, ℤ, pos, neg_ℤ, length, Result, Option}
use Rattle.refusal.specs.Numbers.{number_of}
use Rattle.refusal.specs.Report.{report_of}
use Rattle.refusal.specs.declared.Refusal.{Refusal}
use Rattle.octets.specs.Part.{Part}
use Rattle.wire.specs.Frame.{Frame, Legal, octets_of}
use Rattle.wire.specs.Walk.{Walk, at, refused, read_of}
use Rattle.wire.specs.Answers.{nothing}
use Rattle.wire.specs.declared.Summary.{Summary}
use Rattle.wire.specs.declared.Session.{Session}
use Rattle.wire.specs.declared.Framing.TheVariants.{Unframed}
use Rattle.reader.specs.Promise.{Reads}
use Rattle.writer.specs.Promise.{Writes}
use Rattle.clock.specs.Time.{ticks_in, PacketTime, millis_in, Ptime}
use Rattle.clock.specs.declared.Ticks.{Ticks}
use Rattle.clock.specs.declared.Millis.{Millis}
use Rattle.views.specs.View.{FrameView, AugmentationView}
use Rattle.fmtp.specs.Answers.{no_settings}
use Rattle.fmtp.specs.Answers.{Reads as ReadsText, Writes as WritesText}
use Rattle.fmtp.specs.declared.Settings.{Settings}
use Rattle.fields.specs.Answers.{Unpacks, Packs}
use Rattle.journal.specs.Entry.{Entry}
use Rattle.journal.specs.declared.Entry.{Entry as Found}
use Rattle.journal.specs.Answers.{standing_report, Stands}
use Rattle.journal.specs.Answers.{Writes as WritesEntry}
use Rattle.record.specs.Operations.{Operation}
use Rattle.record.specs.Promise.{Change, Changes, Asked, row_numbers, row_held, row_in, start_held, start_in}
use Rattle.record.specs.declared.RowNumbers.{RowNumbers}
use Rattle.record.specs.declared.Record.{Record}
use Rattle.moult.specs.Structs.{change_of, row_of, start_of, entry_of, reading_of, writing_of, ticks_of, millis_of, parsed_of, lent, part_of}
use Rattle.moult.specs.declared.MoultReading.{MoultReading}
use Rattle.moult.specs.declared.MoultWriting.{MoultWriting}
use Rattle.moult.specs.declared.MoultTicks.{MoultTicks}
use Rattle.moult.specs.declared.MoultMillis.{MoultMillis}
use Rattle.moult.specs.declared.MoultPart.{MoultPart}
use Rattle.moult.specs.declared.MoultParsed.{MoultParsed}
use Rattle.moult.specs.declared.MoultEntry.{MoultEntry}
use Rattle.moult.specs.declared.MoultChange.{MoultChange}
use Rattle.moult.specs.declared.MoultRow.{MoultRow}
use Rattle.moult.specs.declared.MoultStart.{MoultStart}

-- the struct x is that of an answer of which a promise holds
pub record Returned {A X : Type 0} (Promise : A → Type 0) (struct_of : A → X) (x : X) : Type 0 where
  pub answer : A
  pub promise : Promise answer
  pub is : x ≡ struct_of answer

-- "Frame counts as they are, refusal numbers negated"
unfoldable pub host_count : Walk → ℤ
host_count (at u fs) = pos (length fs)
host_count (refused r place behind) = neg_ℤ (pos (number_of r))

-- what `moult_count` promises of a payload p, as not agreed
pub record Counted (p : List ℕ) (r : ℤ) : Type 0 where
  pub answer : r ≡ host_count (read_of Unframed p)
  -- "0 is the empty payload and nothing else"
  pub empty : p ≡ [] → r ≡ pos 0
  pub only_empty : r ≡ pos 0 → p ≡ []
  -- of a legal sequence that gives p: its frames, 0 to 200
  pub frames : (fs : List Frame) → Legal Unframed fs → octets_of Unframed fs ≡ p → (r ≡ pos (length fs)) × (length fs ≤ 200)
  -- of a payload that none gives: minus a refusal number, 1 to 8
  pub negative : ((fs : List Frame) → Legal Unframed fs → octets_of Unframed fs ≡ p → ⊥) → (n : ℕ) × (1 ≤ n) × (n ≤ 8) × (r ≡ neg_ℤ (pos n))

-- what `moult_read_session` promises in the session ses of a payload p that is read into r and b. (`moult_read` promises the same of
-- `NotAgreed`, and so do the other functions without a session.)
abbrev pub HostReads : Session → List ℕ → List ℕ → List ℕ → MoultReading → List ℕ → List ℕ → Type 0
HostReads ses p r b x r' b' = Returned (λ (a : Result Summary Refusal). Reads ses p r b a r' b') (λ (a : Result Summary Refusal). reading_of (report_of nothing a)) x

-- what `moult_write_session` promises of the rows ns and bodies bs
abbrev pub HostWrites : Session → List ℕ → List ℕ → List ℕ → MoultWriting → List ℕ → Type 0
HostWrites ses ns bs before x after = Returned (λ (a : Result ℕ Refusal). Writes ses ns bs before a after) (λ (a : Result ℕ Refusal). writing_of (report_of 0 a)) x

-- what `moult_packet_ticks_session` promises of a payload p
abbrev pub HostTimes : Session → List ℕ → MoultTicks → Type 0
HostTimes ses p x = Returned (λ (a : Result Ticks Refusal). PacketTime ses p a) (λ (a : Result Ticks Refusal). ticks_of (report_of (ticks_in 0) a)) x

-- what `moult_ptime` promises of a rate and n frames
abbrev pub HostPtime : ℕ → ℕ → MoultMillis → Type 0
HostPtime rate n x = Returned (λ (a : Result Millis Refusal). Ptime rate n a) (λ (a : Result Millis Refusal). millis_of (report_of (millis_in 0) a)) x

-- what `moult_augmentation_session` promises of a payload p
abbrev pub HostAugments : Session → List ℕ → ℕ → MoultPart → Type 0
HostAugments ses p row x = Returned (λ (v : Part ℕ). AugmentationView ses row (lent 0 p) v) part_of x

-- what `moult_frame_or_session` promises of a payload p and a stand-in s
abbrev pub HostShows : Session → List ℕ → ℕ → List ℕ → MoultPart → Type 0
HostShows ses p row s x = Returned (λ (v : Part ℕ). FrameView ses row (lent 0 p) (lent 1 s) v) part_of x

-- what `moult_settings_read` promises of a text
abbrev pub HostParses : List ℕ → MoultParsed → Type 0
HostParses t x = Returned (λ (a : Result Settings Refusal). ReadsText t a) (λ (a : Result Settings Refusal). parsed_of (report_of no_settings a)) x

-- what `moult_settings_write` promises
abbrev pub HostWritesSettings : Settings → List ℕ → MoultWriting → List ℕ → Type 0
HostWritesSettings s before x after = Returned (λ (a : Result ℕ Refusal). WritesText s before after a) (λ (a : Result ℕ Refusal). writing_of (report_of 0 a)) x

-- what `moult_unpack` promises
abbrev pub HostUnpacks : ℕ → List ℕ → List ℕ → MoultWriting → List ℕ → Type 0
HostUnpacks mode body before x after = Returned (λ (a : Result ℕ Refusal). Unpacks mode body before after a) (λ (a : Result ℕ Refusal). writing_of (report_of 0 a)) x

-- what `moult_pack` promises
abbrev pub HostPacks : ℕ → List ℕ → List ℕ → MoultWriting → List ℕ → Type 0
HostPacks mode fields before x after = Returned (λ (a : Result ℕ Refusal). Packs mode fields before after a) (λ (a : Result ℕ Refusal). writing_of (report_of 0 a)) x

-- what `moult_journal_entry_at` promises of a journal xs and an index
abbrev pub HostEntry : List ℕ → ℕ → MoultEntry → Type 0
HostEntry xs i x = Returned (λ (a : Result (Option Found) Refusal). Stands xs i a) (λ (a : Result (Option Found) Refusal). entry_of (standing_report a)) x

-- what `moult_journal_write_entry` promises of an entry
abbrev pub HostWritesEntry : Entry → List ℕ → MoultWriting → List ℕ → Type 0
HostWritesEntry e before x after = Returned (λ (a : Result ℕ Refusal). WritesEntry e before after a) (λ (a : Result ℕ Refusal). writing_of (report_of 0 a)) x

-- what `moult_record_push`, `moult_record_pop` and `moult_record_replace` promise of a packet record p
abbrev pub HostChanges : Operation → Record → MoultChange → Type 0
HostChanges op p x = Returned (λ (c : Change). Changes op p c.answer c.after) change_of x

-- what `moult_record_row` promises of the row i of a packet record p
abbrev pub HostRow : ℕ → Record → MoultRow → Type 0
HostRow i p x = Returned (λ (a : Result RowNumbers Refusal). Asked (row_held i) (row_in i) p a) (λ (a : Result RowNumbers Refusal). row_of (report_of (row_numbers 0 0) a)) x

-- what `moult_record_start` promises of the row i of a packet record p
abbrev pub HostStart : ℕ → Record → MoultStart → Type 0
HostStart i p x = Returned (λ (a : Result ℕ Refusal). Asked (start_held i) (start_in i) p a) (λ (a : Result ℕ Refusal). start_of (report_of 0 a)) x
