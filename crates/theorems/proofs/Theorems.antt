-- One value of each statement of specs/Theorems.antt, from the crates' own proofs.
use Rattle.wire.proofs.Sound.{sound}
use Rattle.wire.proofs.Complete.{complete, unique}
use Rattle.reader.proofs.Bench.{bench}
use Rattle.clock.proofs.Times.{five_frames, seven_frames}
use Rattle.views.proofs.Shown.{all_shown}
use Rattle.fmtp.proofs.Theorems as settings
use Rattle.fields.proofs.RoundTrip.{round_trip, unpacked_fit, widths_round_trip}
use Rattle.fields.proofs.Theorems.{unpacked_packed, packed_unpacked, examples}
use native.Mathlib.Omega.{arith}
use Rattle.leb128.proofs.Exact as numbers
use Rattle.leb128.proofs.Possible.{Roomy, none_impossible, impossible_none, short_begun, begun_short}
use Rattle.journal.specs.Replay.{whole}
use Rattle.journal.proofs.Journals.{replay_sound, whole_journal, refused_journal, reads_written, one_reading, one_list, some_reading}
use Rattle.journal.proofs.Writing.{legal_written, written_legal}
use Rattle.record.proofs.Runs.{runs_afresh}
use Rattle.listing.proofs.LineByLine.{says, only}
use Rattle.listing.proofs.LineNumbers.{lines_most}
use Rattle.listing.proofs.Joined.{joined}
use Rattle.listing.proofs.Sample.{sample}
use Rattle.theorems.specs.Theorems.{WalkIsExact, FiveIsNotGiven, ReadingUndoesWriting, BenchPayloads, PtimesDecided, ViewsJoin, SettingsAreExact, FieldsReturn, NumbersAreExact, ListingIsExact, BadNumbersAreExact, JournalsAreExact, PacketRecordsAreAfresh}
use Rattle.theorems.proofs.RoundTrips.{read_written, written_read}
use Rattle.theorems.proofs.NotGiven.{end_not, walk_not, reading_not, count_not, time_not, line_not}

pub walk_is_exact : WalkIsExact
walk_is_exact = record { sound = sound; complete = complete; unique = unique }

pub five_is_not_given : FiveIsNotGiven
five_is_not_given = record { end = end_not; walk = walk_not; reading = reading_not; count = count_not; time = time_not; line = line_not }

pub reading_undoes_writing : ReadingUndoesWriting
reading_undoes_writing = record { read = read_written; written = written_read }

pub bench_payloads : BenchPayloads
bench_payloads = bench

pub ptimes_decided : PtimesDecided
ptimes_decided = record { five = five_frames; seven = seven_frames }

pub views_join : ViewsJoin
views_join = all_shown

pub settings_are_exact : SettingsAreExact
settings_are_exact = record {
  means = settings.meaning_sound;
  computed = settings.meaning_complete;
  settings = settings.meaning_settings;
  fixed = settings.one_answer;
  return = settings.round_trip;
  longest = settings.text_31;
}

pub fields_return : FieldsReturn
fields_return = record {
  tables = round_trip;
  fitting = unpacked_fit;
  widths = widths_round_trip;
  body = unpacked_packed;
  fields = packed_unpacked;
  examples = examples;
}

pub numbers_are_exact : NumbersAreExact
numbers_are_exact = record { sound = numbers.sound; complete = numbers.complete; unique = numbers.unique }

pub listing_is_exact : ListingIsExact
listing_is_exact = record { says = says; only = only; joined = joined; lines = lines_most; sample = sample }

roomy : Roomy 5 4294967295
roomy = record { some = omega arith; few = omega arith; room = omega arith }

pub bad_numbers_are_exact : BadNumbersAreExact
bad_numbers_are_exact = record {
  bad = none_impossible 5 4294967295 roomy;
  impossible = impossible_none 5 4294967295 roomy;
  cut = short_begun 5 4294967295 roomy;
  begun = λ xs b. let s = begun_short 5 4294967295 roomy xs b in (s.value, s.groups, s.head);
}

pub journals_are_exact : JournalsAreExact
journals_are_exact = record {
  read = reads_written;
  ends = λ xs o. let r = some_reading xs o in (r.entries, r.ending, r.replay);
  once = λ xs es fs o q r s. one_reading xs r s;
  whole = λ xs o es r. let h = replay_sound xs o es whole r in (h.legal, whole_journal xs o es h);
  unique = one_list;
  refused = λ xs o es k p Some r. let h = replay_sound xs o es (record { number = k; place = p }) r in (h.legal, refused_journal xs o es k p Some h);
  written = legal_written;
  accepted = written_legal;
}

pub packet_records_are_afresh : PacketRecordsAreAfresh
packet_records_are_afresh = runs_afresh
