-- The session that a C host says, and the library's answers in the structs that it is given: number and place of the refusal, 0 where
-- accepted, then the values.
use Rattle.std.specs.Prelude.{cond, ◌&&◌, List, ℕ, eqb, leb, length, Option, Some, None}
use Rattle.refusal.specs.Report.{Report, report_of}
use Rattle.octets.specs.Part.{Part}
use Rattle.wire.specs.Frame.{table, row, body_octets}
use Rattle.wire.specs.declared.Session.{Session}
use Rattle.wire.specs.declared.Session.TheVariants.{NotAgreed, Agreed}
use Rattle.wire.specs.declared.Kind.{Kind}
use Rattle.wire.specs.declared.Summary.{Summary}
use Rattle.clock.specs.declared.Ticks.{Ticks}
use Rattle.clock.specs.declared.Millis.{Millis}
use Rattle.fmtp.specs.declared.Settings.{Settings}
use Rattle.record.specs.Promise.{Change}
use Rattle.record.specs.declared.RowNumbers.{RowNumbers}
use Rattle.moult.specs.declared.MoultChange.{MoultChange}
use Rattle.moult.specs.declared.MoultRow.{MoultRow}
use Rattle.moult.specs.declared.MoultStart.{MoultStart}
use Rattle.moult.specs.declared.MoultReading.{MoultReading}
use Rattle.moult.specs.declared.MoultWriting.{MoultWriting}
use Rattle.moult.specs.declared.MoultTicks.{MoultTicks}
use Rattle.moult.specs.declared.MoultMillis.{MoultMillis}
use Rattle.moult.specs.declared.MoultPart.{MoultPart}
use Rattle.journal.specs.Answers.{Located}
use Rattle.moult.specs.declared.MoultParsed.{MoultParsed}
use Rattle.moult.specs.declared.MoultSettings.{MoultSettings}
use Rattle.moult.specs.declared.MoultEntry.{MoultEntry}

-- 0.1.0: 10,000 times the first number, 100 times the second, and the third
abbrev pub version : ℕ
version = 100

-- docs/FORMAT.md, "Sessions": "`agreed`, 0 for not agreed and any other for agreed, and `rate`, which is not looked at where framing is not
-- agreed"
unfoldable pub session_of : ℕ → ℕ → Session
session_of agreed rate = cond (eqb agreed 0) NotAgreed (Agreed rate)

-- the octets of the body of a row of this kind and TC; 0 where the kind is unknown or the TC wrong for it
unfoldable pub body_octets_of : Option Kind → ℕ → ℕ
body_octets_of None t = 0
body_octets_of (Some k) t = cond (leb (table k).least t && leb t (table k).most) (body_octets (row k t)) 0

-- a reading
abbrev pub reading_of : Report Summary → MoultReading
reading_of a = record {
  number = a.number;
  rate = a.value.rate;
  place = a.place;
  rows = a.value.frames;
  octets = a.value.octets;
  ticks = a.value.ticks;
}

-- a writing, packing or unpacking
abbrev pub writing_of : Report ℕ → MoultWriting
writing_of a = record { number = a.number; place = a.place; octets = a.value }

-- a packet's time
abbrev pub ticks_of : Report Ticks → MoultTicks
ticks_of a = record { number = a.number; place = a.place; ticks = a.value.0 }

-- a ptime
abbrev pub millis_of : Report Millis → MoultMillis
millis_of a = record { number = a.number; place = a.place; millis = a.value.0 }

-- settings
abbrev pub settings_of : Settings → MoultSettings
settings_of s = record { first = s.first; second = s.second; third = s.third; tcmax = s.tcmax }

-- a setting text that was read
abbrev pub parsed_of : Report Settings → MoultParsed
parsed_of a = record { number = a.number; place = a.place; settings = settings_of a.value }

-- what stands at an index of a journal
abbrev pub entry_of : Report Located → MoultEntry
entry_of a = record {
  number = a.number;
  entries = a.value.entries;
  place = a.place;
  ticks = a.value.ticks;
  source = a.value.source;
  start = a.value.start;
  next = a.value.next;
}

-- what an operation on a packet record came to
abbrev pub change_of : Change → MoultChange
change_of c = record { number = (report_of tt c.answer).number; place = (report_of tt c.answer).place; after = c.after }

-- a row of a packet record
abbrev pub row_of : Report RowNumbers → MoultRow
row_of a = record { number = a.number; kind = a.value.kind; tc = a.value.tc; place = a.place }

-- where a row of a packet record starts
abbrev pub start_of : Report ℕ → MoultStart
start_of a = record { number = a.number; place = a.place; start = a.value }

-- a whole lent list, of the block b: 0 is the payload, 1 the stand-in
abbrev pub lent : ℕ → List ℕ → Part ℕ
lent b xs = record { block = b; start = 0; octets = xs }

-- a part of a lent list: which list it is of, where it starts there and how long it is
abbrev pub part_of : Part ℕ → MoultPart
part_of x = record { stand_in = x.block; start = x.start; length = length x.octets }
