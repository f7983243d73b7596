-- What holds beside the promises: `meaning` is the language of `Means`, what is written is read as it was, each promise leaves one answer,
-- and the examples of docs/FORMAT.md, "Setting text".
use Rattle.std.proofs.Common.{◌≡◌, ◌⊎◌, ℕ, ◌<◌, ◌≤◌, Bool, true, false, List, [], ◌∷◌, ◌++◌, length, take, drop, refl, sym, ap, ◌∙◌, inl, inr, arith, take_at, Option, Some, None, Result, Ok, Err, ok_or}
use Rattle.std.proofs.lemmas.Bool.{cases_lt}
use Rattle.std.proofs.lemmas.Option.{same_Some}
use Rattle.std.specs.Fmt.{digits}
use Rattle.refusal.specs.declared.Reason.TheVariants.{WrongSettings}
use Rattle.refusal.specs.declared.Refusal.{Refusal}
use Rattle.refusal.specs.Report.{refusal, filled}
use Rattle.fmtp.specs.declared.Settings.{Settings}
use Rattle.fmtp.specs.Settings.{IsSettings, settings_of}
use Rattle.fmtp.specs.Text.{bitrate_name, tcmax_name, equals, semicolon, comma, further_text, text_of}
use Rattle.fmtp.specs.Meaning.{meaning, item_of, item_named, tcmax_of}
use Rattle.fmtp.specs.Means.{Means}
use Rattle.fmtp.specs.Answers.{Reads, may_be_written, Writes}
use Rattle.fmtp.proofs.TextLaws.{means_settings, written_means, text_most}
use Rattle.fmtp.proofs.MeaningLaws.{means_meaning, meaning_means}
use Rattle.fmtp.proofs.ReadLaws.{reads}
use Rattle.fmtp.proofs.WriteLaws.{writable, written_wrong, written_short, written-whole}

-- ---- the language

-- what a text means by `Means`, `meaning` gives
pub meaning_complete : (t : List ℕ) (s : Settings) → Means t s → meaning t ≡ Some s
meaning_complete t s m = means_meaning m

-- what `meaning` gives, the text means by `Means`
pub meaning_sound : (t : List ℕ) (s : Settings) → meaning t ≡ Some s → Means t s
meaning_sound = meaning_means

-- a text means one settings value
pub one_meaning : (t : List ℕ) (s s' : Settings) → Means t s → Means t s' → s ≡ s'
one_meaning t s s' m m' = same_Some s s' (sym (means_meaning m) ∙ means_meaning m')

-- what is meant are settings
pub meaning_settings : (t : List ℕ) (s : Settings) → meaning t ≡ Some s → IsSettings s
meaning_settings t s e = means_settings (meaning_means t s e)

-- the text of settings means them, and has at most 31 octets
pub text_meaning : (s : Settings) → IsSettings s → meaning (text_of s) ≡ Some s
text_meaning s i = means_meaning (written_means s i)

pub text_31 : (s : Settings) → IsSettings s → length (text_of s) ≤ 31
text_31 = text_most

-- ---- the reader's promise leaves one answer

-- an accepted text means the settings
pub read_accepted : (t : List ℕ) (s : Settings) → Reads t (Ok s) → meaning t ≡ Some s
read_accepted t s d = go (meaning t) d.answer
  where
    go : (o : Option Settings) → Ok s ≡ ok_or o (refusal WrongSettings 0) → o ≡ Some s
    go (Some s') e = cc
    go None e = absurd (cc)

-- a refused one means none, and is refused 15 at 0
pub read_refused : (t : List ℕ) (r : Refusal) → Reads t (Err r) → (meaning t ≡ None) × (r ≡ refusal WrongSettings 0)
read_refused t r d = go (meaning t) d.answer
  where
    go : (o : Option Settings) → Err r ≡ ok_or o (refusal WrongSettings 0) → (o ≡ None) × (r ≡ refusal WrongSettings 0)
    go (Some s) e = absurd (cc)
    go None e = (refl, cc)

pub one_answer : (t : List ℕ) (r r' : Result Settings Refusal) → Reads t r → Reads t r' → r ≡ r'
one_answer t r r' d d' = d.answer ∙ sym d'.answer

-- ---- settings that were written are read as they were

-- an accepted writing: the settings were settings, and the text stands in the first places
pub record Wrote (s : Settings) (before after : List ℕ) (n : ℕ) : Type 0 where
  pub settings : IsSettings s
  pub count : n ≡ length (text_of s)
  pub octets : after ≡ text_of s ++ drop n before

pub write_accepted : (s : Settings) (before after : List ℕ) (n : ℕ) → Writes s before after (Ok n) → Wrote s before after n
unfolding filled
write_accepted s before after n w = go (may_be_written s) refl (cases_lt (length before) (length (text_of s)))
  where
    go : (b : Bool) → may_be_written s ≡ b → (length before < length (text_of s)) ⊎ (length (text_of s) ≤ length before) → Wrote s before after n
    go false m l = let e = w.answer ∙ written_wrong s (length before) m in absurd (cc)
    go true m (inl l) = let e = w.answer ∙ written_short s (length before) m l in absurd (cc)
    go true m (inr l) =
        let e = written-whole s (length before) m l in
        let a = w.answer ∙ e in
        let k : n ≡ length (text_of s) = cc in
        record { settings = writable s m; count = k; octets = rw k (rw e at w.octets) }

pub round_trip : (s : Settings) (before after : List ℕ) (n : ℕ) (r : Result Settings Refusal) → Writes s before after (Ok n) → Reads (take n after) r → r ≡ Ok s
round_trip s before after n r w d =
    let p = write_accepted s before after n w in
    let e : take n after ≡ text_of s = rw p.octets (take_at (text_of s) (drop n before) n (sym p.count)) in
    one_answer (text_of s) r (Ok s) (rw e at d) (reads (text_of s) (Ok s) (sym (ap (λ (o : Option Settings). ok_or o (refusal WrongSettings 0)) (text_meaning s p.settings))))

-- ---- examples

-- the empty text
pub empty_text : meaning [] ≡ Some (settings_of 2400 0 0 35)
unfolding meaning
empty_text = refl

-- `tcmax=101`
pub tcmax_101 : meaning (tcmax_name ++ (equals ∷ 49 ∷ 48 ∷ 49 ∷ [])) ≡ Some (settings_of 2400 0 0 101)
unfolding meaning item_of item_named tcmax_of digits
tcmax_101 = refl

-- `bitrate=2400,1200,600;tcmax=255`
pub longest : text_of (settings_of 2400 1200 600 255)
    ≡ bitrate_name ++ (equals ∷ 50 ∷ 52 ∷ 48 ∷ 48 ∷ comma ∷ 49 ∷ 50 ∷ 48 ∷ 48 ∷ comma ∷ 54 ∷ 48 ∷ 48 ∷ semicolon ∷ []) ++ (tcmax_name ++ (equals ∷ 50 ∷ 53 ∷ 53 ∷ []))
unfolding text_of further_text digits
longest = refl

pub longest_31 : length (text_of (settings_of 2400 1200 600 255)) ≡ 31
unfolding text_of further_text digits
longest_31 = refl
