-- What reading and writing answer, in the papers' numbers, and what the lent buffer then holds: docs/FORMAT.md, "Setting text", "Refusals".
use Rattle.std.specs.Prelude.{◌≡◌, Bool, cond, not, List, ℕ, ltb, length, Option, Some, None, Result, Ok, Err, ok_or}
use Rattle.refusal.specs.declared.Reason.TheVariants.{WrongSettings, OctetsTooShort}
use Rattle.refusal.specs.declared.Refusal.{Refusal}
use Rattle.refusal.specs.Report.{Report, accepted, refused_with, report_of, refusal, filled}
use Rattle.fmtp.specs.declared.Settings.{Settings}
use Rattle.fmtp.specs.Settings.{is_settings, settings_of}
use Rattle.fmtp.specs.Text.{text_of}
use Rattle.fmtp.specs.Meaning.{meaning}

-- "Refused settings are all 0"
abbrev pub no_settings : Settings
no_settings = settings_of 0 0 0 0

-- reading: the settings that a text means; "15 setting text .. wrong" at 0 where it means none
abbrev pub meaning_report : Option Settings → Report Settings
meaning_report (Some s) = accepted s
meaning_report None = refused_with no_settings (refusal WrongSettings 0)

-- what `read` promises of a text: its answer, and its numbers
pub record Reads (text : List ℕ) (r : Result Settings Refusal) : Type 0 where
  pub answer : r ≡ ok_or (meaning text) (refusal WrongSettings 0)
  pub numbers : report_of no_settings r ≡ meaning_report (meaning text)

-- which settings the writer takes: all, "anything else is refused 15 by the writer"
unfoldable pub may_be_written : Settings → Bool
may_be_written s = is_settings s

-- what `write` answers with room for so many octets: the octets written, "refusal 15 before 10"
unfoldable pub written : Settings → ℕ → Result ℕ Refusal
written s room =
    cond (not (may_be_written s)) (Err (refusal WrongSettings 0))
    (cond (ltb room (length (text_of s))) (Err (refusal OctetsTooShort (length (text_of s)))) (Ok (length (text_of s))))

-- its numbers: 0 octets where it is refused
abbrev pub writing : Settings → ℕ → Report ℕ
writing s room = report_of 0 (written s room)

-- what `write` promises: its answer, its numbers, and the lent octets afterwards
pub record Writes (s : Settings) (before after : List ℕ) (r : Result ℕ Refusal) : Type 0 where
  pub answer : r ≡ written s (length before)
  pub numbers : report_of 0 r ≡ writing s (length before)
  pub octets : after ≡ filled (writing s (length before)) (text_of s) before
