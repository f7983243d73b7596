-- A refused payload is never taken for an empty one, in any session.
use mathlib.Core.Path.{◌≡◌, refl, sym, ap, ◌∙◌, subst}
use mathlib.Core.Bool.{Bool, cond}
use mathlib.Core.Logic.{◌⊎◌, inl, inr}
use mathlib.Core.List.{List, [], ◌∷◌}
use Prim.Native.Nat.{ℕ, zero, suc, ◌<◌}
use native.Mathlib.Omega.{arith}
use lib.Dec.{T, eqb, ltb, eqb→eq, ltb→lt}
use lib.ListN.{length}
use borrow.Author.Tests.{eq-eqb, ne_eqb}
use Rattle.refusal.specs.Report.{Report, report_of}
use Rattle.refusal.specs.Report as report
use Rattle.std.specs.Prelude.{Result, Option, Some, None}
use Rattle.refusal.specs.declared.Refusal.{Refusal}
use Rattle.octets.specs.Octet.{Octets}
use Rattle.wire.specs.Frame.{Frame, table, framing_of, agreed_rate, row, count_in, ticks_of_rate, Legal, octets_of, rows_of}
use Rattle.wire.specs.Walk.{Walk, at, read_of}
use Rattle.wire.specs.Answers.{walk_report, nothing}
use Rattle.wire.specs.declared.Session.{Session}
use Rattle.wire.specs.declared.Framing.{Framing}
use Rattle.wire.specs.declared.Framing.TheVariants.{Unframed, Framed2400, Framed600}
use Rattle.wire.specs.declared.Kind.{Kind}
use Rattle.wire.specs.declared.Kind.TheVariants.{ComfortNoise}
use Rattle.wire.specs.declared.Summary.{Summary}
use Rattle.wire.proofs.TableLaws.{at_kind, same_number}
use Rattle.wire.proofs.Rates.{either}
use Rattle.wire.proofs.Ranges.{frames_most}
use Rattle.wire.proofs.Meaning.{Accepted, Meaning, accepted, denied, meaning, reads_it}
use Rattle.reader.specs.Reading.{read_in}
use Rattle.reader.specs.Promise.{Reads}
use Rattle.clock.specs.Time.{ticks_in, ticks_of, time_in}
use Rattle.clock.specs.declared.Ticks.{Ticks}
use Rattle.listing.specs.Line.{payload_line}
use Rattle.listing.proofs.Distinct.{refused_not_empty, frames_not_empty}
use Rattle.moult.proofs.Counts.{empty_legal}
use Rattle.theorems.specs.NotEmpty.{NoneGives, NotReadEmpty, WalkTells, CountTells, TimeTells, LineTells, NoiseAlone, RefusedIsNotEmpty}

-- ---- comfort noise alone lasts nothing

-- a kind without a rate is comfort noise; any other lasts
lasts_or_noise : Kind → Bool
lasts_or_noise k = cond (eqb (table k).rate 0) (eqb (table k).number 4) (ltb 0 (ticks_of_rate (table k).rate))

all_last : (k : Kind) → T (lasts_or_noise k)
unfolding lasts_or_noise ticks_of_rate
all_last = at_kind lasts_or_noise tt

noise_kind : (k : Kind) → (table k).rate ≡ 0 → k ≡ ComfortNoise
unfolding lasts_or_noise
noise_kind k e = same_number k ComfortNoise (eqb→eq (table k).number 4 (simp (eq-eqb (table k).rate 0 e) at (all_last k)))

coder_lasts : (k : Kind) → ((table k).rate ≡ 0 → ⊥) → 0 < ticks_of_rate (table k).rate
unfolding lasts_or_noise
coder_lasts k e = ltb→lt 0 (ticks_of_rate (table k).rate) (simp (ne_eqb (table k).rate 0 e) at (all_last k))

lasts_nothing : (fr : Framing) (f : Frame) (fs : List Frame) → Legal fr (f ∷ fs) → ticks_of (f ∷ fs) ≡ 0 → (f.row.kind ≡ ComfortNoise) × (rows_of fs ≡ [])
lasts_nothing fr f fs l e = go (either l.rows.common (table f.row.kind).rate (rows_of fs) l.rows.rated.1)
  where
    go : (((table f.row.kind).rate ≡ 0) × (rows_of fs ≡ [])) ⊎ (((table f.row.kind).rate ≡ 0 → ⊥) × ((table f.row.kind).rate ≡ l.rows.common))
        → (f.row.kind ≡ ComfortNoise) × (rows_of fs ≡ [])
    go (inl w) = (noise_kind f.row.kind w.0, w.1)
    go (inr w) = absurd (omega (arith, coder_lasts f.row.kind w.0))

no_rows : (fs : List Frame) → rows_of fs ≡ [] → fs ≡ []
no_rows [] e = refl
no_rows (f ∷ fs) e = absurd (omega (arith, ap length e))

-- ---- one by one

-- the empty payload is accepted, whatever is lent
reading_tells : (x : Report Summary) → (x.number ≡ 0 → ⊥) → NotReadEmpty x
reading_tells x h ses fr q s c s' c' e g d = h (ap (λ (y : Report Summary). y.number) d ∙ ((g.demand fr q).empty refl).0)

module _ (p : List ℕ) (o : Octets p) (some-octets : p ≡ [] → ⊥) where
  frames : (fr : Framing) (a : Accepted fr p) → length a.fs ≡ 0 → ⊥
  frames fr a = go a.fs a.gives
    where
      go : (fs : List Frame) → octets_of fr fs ≡ p → length fs ≡ 0 → ⊥
      go [] g e = some-octets (sym g)
      go (f ∷ fs) g e = omega arith

  walk_tells : (fr : Framing) → WalkTells fr p
  walk_tells fr gr a e w v q = go (meaning fr p o) (sym w.numbers ∙ q ∙ v.numbers ∙ ap walk_report (reads_it gr [] [] (empty_legal gr) refl))
    where
      go : {u : Walk} → Meaning fr p u → walk_report u ≡ walk_report (at 0 []) → ⊥
      go (accepted y) h = frames fr y (ap (λ (z : Report Summary). z.value.frames) h)
      go (denied x d) h = omega (arith, d.range.0, ap (λ (z : Report Summary). z.number) h)

  count_tells : CountTells p
  count_tells a e w v q = some-octets (w.only_empty (q ∙ v.empty refl))

  line_tells : LineTells p
  line_tells n m = go (read_of Unframed p) refl (meaning Unframed p o)
    where
      shown : (fs : List Frame) → read_of Unframed p ≡ at 0 fs → Legal Unframed fs → (length fs ≡ 0 → ⊥) → payload_line n p ≡ payload_line m [] → ⊥
      shown fs q l h = frames_not_empty p n m fs q (omega arith) (frames_most Unframed fs l)

      go : (u : Walk) → read_of Unframed p ≡ u → Meaning Unframed p u → payload_line n p ≡ payload_line m [] → ⊥
      go _ q (accepted a) = shown a.fs q a.legal (frames Unframed a)
      go _ q (denied x d) = refused_not_empty p n m x.reason x.place d.behind q

  -- only comfort noise lasts nothing
  time_tells : (ses : Session) (fr : Framing) → framing_of ses ≡ Some fr → (NoiseAlone fr p → ⊥) → TimeTells ses p
  time_tells ses fr h none other gr k a e w v q =
      let z : report_of (ticks_in 0) e ≡ report.accepted (ticks_in 0) = v.ticks gr k [] (empty_legal gr) refl in
      let s = w.accepted fr h (ap (λ (x : Report Ticks). x.number) (q ∙ z)) in
      let t : ticks_of s.0 ≡ 0 = ap (λ (x : Report Ticks). x.value.0) (sym (w.ticks fr h s.0 s.1 s.2) ∙ q ∙ z) in
      go s.0 s.1 s.2 t
    where
      go : (fs : List Frame) → Legal fr fs → octets_of fr fs ≡ p → ticks_of fs ≡ 0 → ⊥
      go [] l g t = some-octets (sym g)
      go (f ∷ fs) l g t =
          let y = lasts_nothing fr f fs l t in
          let c : f ∷ fs ≡ f ∷ [] = ap (λ (gs : List Frame). f ∷ gs) (no_rows fs y.1) in
          none (f, y.0, subst (Legal fr) c l, ap (octets_of fr) (sym c) ∙ g)

-- an agreed rate that is refused
module _ (ses : Session) (q : framing_of ses ≡ None) (p : List ℕ) where
  rate_reading : (r b r' b' : List ℕ) (a : Result Summary Refusal) → Reads ses p r b a r' b' → NotReadEmpty (report_of nothing a)
  rate_reading r b r' b' a g = reading_tells (report_of nothing a) (λ z. omega (arith, sym z ∙ twelve))
    where
      twelve : (report_of nothing a).number ≡ 12
      twelve = ap (λ (x : Report Summary). x.number) g.numbers ∙ ap (λ (m : Option Framing). (report_of nothing (read_in m p r b).answer).number) q

  rate_time : TimeTells ses p
  rate_time other gr k a e w v d =
      let z = ap (λ (x : Report Ticks). x.number) (sym w.numbers ∙ d ∙ v.ticks gr k [] (empty_legal gr) refl) in
      omega (arith, sym (ap (λ (m : Option Framing). (report_of (ticks_in 0) (time_in m p)).number) q) ∙ z)

-- `00 A0`
noise_frames : List Frame
noise_frames = record { row = row ComfortNoise 0; body = 0 ∷ 0 ∷ [] } ∷ []

module _ (fr : Framing) where
  noise_legal : Legal fr noise_frames
  unfolding noise_frames count_in
  noise_legal = record {
    rows = record { common = agreed_rate fr; agreed = inr refl; rated = (record { least = omega arith; most = omega arith }, refl, tt); total = omega arith };
    bodies = (record { size = refl; end = omega arith; octets = below }, tt);
  }
    where
      below : Octets (0 ∷ 0 ∷ [])
      below zero = omega arith
      below (suc zero) = omega arith
      below (suc (suc i)) = omega arith

noise_gives : (fr : Framing) → octets_of fr noise_frames ≡ 0 ∷ 0xa0 ∷ []
unfolding noise_frames count_in
noise_gives Unframed = refl
noise_gives Framed2400 = refl
noise_gives Framed600 = refl

noise_lasts : ticks_of noise_frames ≡ 0
unfolding noise_frames ticks_of_rate
noise_lasts = refl

refused_some : (fr : Framing) (p : List ℕ) → NoneGives fr p → p ≡ [] → ⊥
refused_some fr p none e = none [] (empty_legal fr) (sym e)

pub refused_is_not_empty : RefusedIsNotEmpty
refused_is_not_empty = record {
  octets = λ ses fr h p o none.
      let t = refused_some fr p none in (
        λ r b r' b' a g. reading_tells (report_of nothing a) (λ z. let s = (g.demand fr h).accepted z in none s.0 s.1 s.2),
        walk_tells p o t fr,
        count_tells p o t,
        time_tells p o t ses fr h (λ x. none (x.0 ∷ []) x.2 x.3),
        line_tells p o t,
      );
  rate = λ ses q p. (rate_reading ses q p, rate_time ses q p);
  room = λ ses fr h p o r b r' b' a g z.
      let t : p ≡ [] → ⊥ = λ e. z ((g.demand fr h).empty e).0 in (
        reading_tells (report_of nothing a) z,
        walk_tells p o t fr,
        count_tells p o t,
        line_tells p o t,
        time_tells p o t ses fr h,
      );
  noise = λ ses other fr gr h k a e w v.
      w.ticks fr h noise_frames (noise_legal fr) (noise_gives fr)
      ∙ ap (λ (n : ℕ). report.accepted (ticks_in n)) noise_lasts
      ∙ sym (v.ticks gr k [] (empty_legal gr) refl);
}
