-- `fmtp::read` answers what a text means.
use Rattle.std.proofs.Common.{◌∙◌}
use Rattle.fmtp.proofs.ReadLaws.{settings_meaning, reads}
use Rattle.fmtp.proofs.read.Goals as goal

pub returns : goal.returns
returns c = reads _ _ (rw (← (settings_meaning c.args.text.now), ← c.settings_in.ensures, ← c.at.ensures) c.ok_or.ensures.value)
