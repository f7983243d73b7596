-- Words that a cursor puts one behind another, and the writer's promise.
use Rattle.std.proofs.Common.{◌≡◌, ℕ, ◌+◌, ◌≤◌, ◌<◌, Bool, true, false, List, [], ◌∷◌, ◌++◌, length, take, drop, decimal, codes, refl, sym, ap, ◌∙◌, arith, length-append, append_assoc, append-nil, take-append-drop, drop-drop, lt-ltb, le-ltb, Result, Ok, Err}
use Rattle.std.specs.Fmt.{digits}
use Rattle.refusal.specs.declared.Reason.TheVariants.{WrongSettings, OctetsTooShort}
use Rattle.refusal.specs.declared.Refusal.{Refusal}
use Rattle.refusal.specs.Report.{refusal}
use Rattle.fmtp.specs.declared.Settings.{Settings}
use Rattle.fmtp.specs.declared.write_text.Cursor.{Cursor}
use Rattle.fmtp.specs.Settings.{is_rate, IsSettings}
use Rattle.fmtp.specs.Text.{bitrate_name, tcmax_name, equals, semicolon, further_text, rates_text, text_of}
use Rattle.fmtp.specs.Answers.{may_be_written, written, Writes}
use Rattle.fmtp.specs.Steps.{Puts}
use Rattle.fmtp.proofs.SettingsLaws.{Rate, bps2400, bps1200, bps600, rate_cases}

-- ---- one word behind another

pub puts_nothing : (before : Cursor) → Puts before [] before
puts_nothing b = record { buffer = refl; room = refl; end = omega arith; text = sym (append-nil (take b.end b.out.now)); rest = refl }

pub puts_both : {before between after : Cursor} (v w : List ℕ) → Puts before v between → Puts between w after → Puts before (v ++ w) after
puts_both {before} {between} {after} v w p q =
    record {
      buffer = q.buffer ∙ p.buffer;
      room = q.room ∙ p.room;
      end = omega (arith, p.end, q.end, length-append v w);
      text = q.text ∙ rw (p.text, append_assoc (take before.end before.out.now) v w);
      rest = q.rest ∙ rw q.end (sym (drop-drop (length w) between.end between.out.now) ∙ ap (drop (length w)) p.rest ∙ drop-drop (length w) between.end before.out.now);
    }

-- a word under another name
pub puts_as : {before after : Cursor} {v w : List ℕ} → v ≡ w → Puts before w after → Puts before v after
puts_as e p = rw e p

-- a cursor that starts at the front
pub puts_all : {before after : Cursor} {w : List ℕ} → before.end ≡ 0 → Puts before w after → after.out.now ≡ w ++ drop (length w) before.out.now
puts_all {before} {after} {w} z p =
    let e : after.end ≡ length w = omega (arith, p.end) in
    let t : take after.end after.out.now ≡ w = p.text ∙ rw z refl in
    sym (take-append-drop after.end after.out.now) ∙ rw (t, p.rest, e) refl

-- ---- rates

-- the text of a rate, and its length
pub record Spelling (r : ℕ) (w : List ℕ) : Type 0 where
  pub text : decimal r ≡ w
  pub long : length (decimal r) ≡ length w

pub spelled_2400 : (r : ℕ) → r ≡ 2400 → Spelling r (codes "2400")
unfolding digits
spelled_2400 r e = rw e (record { text = refl; long = refl })

pub spelled_1200 : (r : ℕ) → r ≡ 1200 → Spelling r (codes "1200")
unfolding digits
spelled_1200 r e = rw e (record { text = refl; long = refl })

pub spelled_600 : (r : ℕ) → is_rate r ≡ true → (r ≡ 2400 → ⊥) → (r ≡ 1200 → ⊥) → Spelling r (codes "600")
unfolding digits
spelled_600 r h = go (rate_cases r h)
  where
    go : {r : ℕ} → Rate r → (r ≡ 2400 → ⊥) → (r ≡ 1200 → ⊥) → Spelling r (codes "600")
    go bps2400 x y = absurd (x refl)
    go bps1200 x y = absurd (y refl)
    go bps600 x y = record { text = refl; long = refl }

-- ---- the text

-- put in its parts
pub text_put : (s : Settings) {b c d e f g h : Cursor} → Puts b (bitrate_name ++ (equals ∷ [])) c → Puts c (decimal s.first) d → Puts d (further_text s.second) e → Puts e (further_text s.third) f
    → Puts f (semicolon ∷ (tcmax_name ++ (equals ∷ []))) g → Puts g (decimal s.tcmax) h → Puts b (text_of s) h
unfolding text_of
text_put s p q r t u v =
    puts_both (bitrate_name ++ (equals ∷ rates_text s.first s.second s.third)) (semicolon ∷ (tcmax_name ++ (equals ∷ decimal s.tcmax)))
    (puts_both (bitrate_name ++ (equals ∷ [])) (rates_text s.first s.second s.third) p
    (puts_both (decimal s.first) (further_text s.second ++ further_text s.third) q (puts_both (further_text s.second) (further_text s.third) r t)))
    (puts_both (semicolon ∷ (tcmax_name ++ (equals ∷ []))) (decimal s.tcmax) u v)

-- ---- the writer's cases

pub writable : (s : Settings) → may_be_written s ≡ true → IsSettings s
unfolding may_be_written
writable s h = h

-- the answer that the definition gives
module _ (s : Settings) (room : ℕ) where
  pub written_wrong : may_be_written s ≡ false → written s room ≡ Err (refusal WrongSettings 0)
  unfolding written
  written_wrong h = simp h

  module _ (h : may_be_written s ≡ true) where
    pub written_short : room < length (text_of s) → written s room ≡ Err (refusal OctetsTooShort (length (text_of s)))
    unfolding written
    written_short l = simp (h, lt-ltb room (length (text_of s)) l)

    pub written-whole : length (text_of s) ≤ room → written s room ≡ Ok (length (text_of s))
    unfolding written
    written-whole l = simp (h, le-ltb room (length (text_of s)) l)
