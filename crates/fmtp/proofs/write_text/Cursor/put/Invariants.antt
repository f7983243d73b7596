-- `fmtp::write_text::Cursor::put` puts a word octet by octet.
use Rattle.std.proofs.Common.{take}
use Rattle.fmtp.specs.Steps.{Puts}
use Rattle.fmtp.proofs.write_text.Cursor.put.Given as goal

abbrev pub invariant-loop-octet : goal.invariant-loop-octet
invariant-loop-octet l = Puts l.initial.self (take l.octet-index l.word) l.self
