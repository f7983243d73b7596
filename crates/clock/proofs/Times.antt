-- Laws of the times, and the two printed values that the rule decides.
use Rattle.std.proofs.Common.{◌≡◌, ℕ, ◌*◌, ◌≤◌, Bool, true, false, cond, ◌||◌, eqb, ltb, List, Option, Some, None, Result, Ok, Err, ok_or, refl, ap, ◌∙◌, arith}
use native.Mathlib.Nat.{mul-le-mul}
use Rattle.refusal.specs.Report as report
use Rattle.refusal.specs.Report.{refusal, report_of}
use Rattle.refusal.proofs.NumberLaws.{number_of-least}
use Rattle.refusal.specs.declared.Reason.TheVariants.{Unknown}
use Rattle.refusal.specs.declared.Refusal.{Refusal}
use Rattle.octets.specs.Octet.{Octets}
use Rattle.wire.specs.Frame.{Frame, framing_of, is_rate, ticks_of_rate, Legal, octets_of}
use Rattle.wire.specs.Walk.{Walk, at, refused, read_of}
use Rattle.wire.specs.Answers.{walked_of}
use Rattle.wire.specs.declared.Session.{Session}
use Rattle.wire.specs.declared.Framing.{Framing}
use Rattle.wire.specs.declared.Summary.{Summary}
use Rattle.wire.proofs.Rates.{ticks_most}
use Rattle.wire.proofs.Meaning.{Meaning, accepted, denied, meaning, reads_it}
use Rattle.clock.specs.Time.{ticks_in, millis_in, time_of, time_in, PacketTime, ptime_of}
use Rattle.clock.specs.declared.Ticks.{Ticks}

-- ---- ptime

-- the rates are the numbers at which a coder frame lasts
pub rates_last : (r : ℕ) → is_rate r ≡ ltb 0 (ticks_of_rate r)
unfolding is_rate ticks_of_rate
rates_last r = go (eqb r 2400) (eqb r 1200) (eqb r 600)
  where
    go : (a b c : Bool) → (a || b || c) ≡ ltb 0 (cond a 180 (cond b 540 (cond c 720 0)))
    go true b c = refl
    go false true c = refl
    go false false true = refl
    go false false false = refl

-- up to 200 coder frames last at most 144000 ticks
pub product_most : (r n : ℕ) {t : ℕ} → t ≡ ticks_of_rate r → n ≤ 200 → n * t ≤ 144000
product_most r n {t} q h = let m : t ≤ 720 = omega (arith, ticks_most r) in mul-le-mul h m

pub five_frames : ptime_of 2400 5 ≡ report.accepted (millis_in 113)
unfolding ptime_of is_rate ticks_of_rate
five_frames = refl

pub seven_frames : ptime_of 2400 7 ≡ report.accepted (millis_in 158)
unfolding ptime_of is_rate ticks_of_rate
seven_frames = refl

-- ---- a packet's time

-- what lasts is given by a legal sequence
lasts_given : (fr : Framing) (p : List ℕ) → Octets p → (report_of (ticks_in 0) (time_of (read_of fr p))).number ≡ 0 → (fs : List Frame) × Legal fr fs × (octets_of fr fs ≡ p)
lasts_given fr p o = go (meaning fr p o)
  where
    go : {w : Walk} → Meaning fr p w → (report_of (ticks_in 0) (time_of w)).number ≡ 0 → (fs : List Frame) × Legal fr fs × (octets_of fr fs ≡ p)
    go (accepted a) z = (a.fs, a.legal, a.gives)
    go (denied x d) z = absurd (omega (arith, number_of-least x.reason))

-- the time by its two steps: the framing asked for, then the walk's answer
abbrev lasts : Result Summary Refusal → Result Ticks Refusal
lasts (Ok s) = Ok (ticks_in s.ticks)
lasts (Err x) = Err x

abbrev pub steps : Result Framing Refusal → List ℕ → Result Ticks Refusal
steps (Ok fr) p = lasts (walked_of (read_of fr p))
steps (Err x) p = Err x

by_steps : (o : Option Framing) (p : List ℕ) → steps (ok_or o (refusal Unknown 0)) p ≡ time_in o p
by_steps None p = refl
by_steps (Some fr) p = go (read_of fr p)
  where
    go : (w : Walk) → lasts (walked_of w) ≡ time_of w
    go (at u fs) = refl
    go (refused r place behind) = refl

pub packet_time : (ses : Session) (p : List ℕ) → Octets p → {a : Result Ticks Refusal} → a ≡ steps (ok_or (framing_of ses) (refusal Unknown 0)) p → PacketTime ses p a
packet_time ses p o e =
    let is = e ∙ by_steps (framing_of ses) p in
    record {
      answer = is;
      numbers = ap (report_of (ticks_in 0)) is;
      ticks = λ fr h fs l g. rw (is, h, reads_it fr p fs l g) refl;
      accepted = λ fr h z. lasts_given fr p o (rw (is, h) at z);
    }
