-- docs/FORMAT.md, "Sessions": not agreed, all is as the other sections say; an agreed rate that is not 2400 or 600 is refused. What holds in each
-- legal session stands with what it is about, in Theorems and NotEmpty.
use Rattle.std.specs.Prelude.{◌≡◌, cond, List, ◌++◌, map, ℕ, suc, ◌+◌, ◌-◌, ◌≤◌, ltb, length, get_or, set, Result, Ok, Err, Option, Some, None}
use Rattle.refusal.specs.Report.{refused_with, refusal, report_of}
use Rattle.refusal.specs.declared.Reason.TheVariants.{ReservedBits, Unknown}
use Rattle.refusal.specs.declared.Reason.{Reason}
use Rattle.refusal.specs.declared.Refusal.{Refusal}
use Rattle.clock.specs.declared.Ticks.{Ticks}
use Rattle.octets.specs.Octet.{Octets}
use Rattle.octets.specs.Part.{Part, empty_part}
use Rattle.wire.specs.Frame.{Frame, table, framing_of, entry_in, row, base, count_of, body_octets, wire_octets, sum_of, OfRate, LegalRows, LegalBody, wire_of, rows_of}
use Rattle.wire.specs.Walk.{named, at, rate_of, last_frame, beside, over, next}
use Rattle.wire.specs.Answers.{nothing}
use Rattle.wire.specs.declared.Session.{Session}
use Rattle.wire.specs.declared.Session.TheVariants.{NotAgreed, Agreed}
use Rattle.wire.specs.declared.Framing.TheVariants.{Unframed}
use Rattle.wire.specs.declared.Kind.TheVariants.{Bps2400, Bps1200, Bps600, ComfortNoise, Tsvcis}
use Rattle.wire.specs.declared.Entry.{Entry}
use Rattle.wire.specs.declared.Row.{Row}
use Rattle.reader.specs.Reading.{read_in}
use Rattle.reader.specs.Promise.{Reads}
use Rattle.reader.specs.Bench.{Gives, gives_in, zeros, sessions}
use Rattle.writer.specs.Rows.{differs, is_mixed}
use Rattle.writer.specs.Promise.{Writes}
use Rattle.clock.specs.Time.{ticks_in, PacketTime}
use Rattle.views.specs.View.{Locates, AugmentationView, FrameView}
use Rattle.views.specs.declared.Location.{Location}
use Rattle.wire.specs.declared.Summary.{Summary}

-- what a last octet below 255 names, by the ranges of docs/FORMAT.md, "Reading"
abbrev pub named_by_range : ℕ → Result Row Reason
named_by_range x =
    cond (ltb x 64) (Ok (row Bps2400 0))
    (cond (ltb x 128) (Ok (row Bps600 0))
    (cond (ltb x 130) (Ok (row Bps1200 0))
    (cond (ltb x 160) (Err ReservedBits)
    (cond (ltb x 192) (Ok (row ComfortNoise 0)) (Ok (row Tsvcis (15 + (x - 192))))))))

-- "Not agreed: all as before": what asks for the framing says there what docs/FORMAT.md says without sessions
pub record NotAgreedIsAsBefore : Type 0 where
  pub framing : framing_of NotAgreed ≡ Some Unframed
  -- rate code bits and highest ends are the table's: those of a kind, of the octets of a frame, and of its body
  pub entry : (e : Entry) → entry_in Unframed e ≡ e
  pub octets : (x : Row) (b : List ℕ) → wire_of Unframed x b ≡ set b (base x - 1) (get_or b (base x - 1) 0 + (table x.kind).code) ++ count_of x
  pub body : (x : Row) (b : List ℕ) → length b ≡ body_octets x → get_or b (base x - 1) 0 ≤ (table x.kind).top → Octets b → LegalBody Unframed x b
  pub end : (x : Row) (b : List ℕ) → LegalBody Unframed x b → get_or b (base x - 1) 0 ≤ (table x.kind).top
  -- coder frames may be of any one rate
  pub rows : (xs : List Row) (r : ℕ) → OfRate r xs → sum_of wire_octets xs ≤ 1400 → LegalRows Unframed xs
  -- reading: the last octet names the frame by the table's ranges, and the walk has no rate before it comes to a coder frame
  pub named : (x : ℕ) → named Unframed x ≡ named_by_range x
  pub walk : (p : List ℕ) (u : ℕ) (behind : List Frame)
      → next Unframed p (at (suc u) behind) ≡ over Unframed p (suc u) behind (beside (length behind) (rate_of 0 (rows_of behind)) (last_frame Unframed p (suc u)))
  -- writing: 8 is for a rate that "differs from an earlier one" alone
  pub mixed : (r : ℕ) (earlier : List Row) → is_mixed Unframed r earlier ≡ differs r earlier

-- "any other agreed rate"
abbrev pub OtherRate : ℕ → Type 0
OtherRate r = (r ≡ 2400 → ⊥) × (r ≡ 600 → ⊥)

-- "any other agreed rate is 12 at 0, before all else": whatever is lent, nothing is reported and nothing changes
pub record OtherRateIsRefused : Type 1 where
  pub reading : (rate : ℕ) → OtherRate rate → (p r b r' b' : List ℕ) (a : Result Summary Refusal) → Reads (Agreed rate) p r b a r' b'
      → (report_of nothing a ≡ refused_with nothing (refusal Unknown 0)) × (r' ≡ r) × (b' ≡ b)
  pub writing : (rate : ℕ) → OtherRate rate → (ns bs out left : List ℕ) (w : Result ℕ Refusal) → Writes (Agreed rate) ns bs out w left
      → (report_of 0 w ≡ refused_with 0 (refusal Unknown 0)) × (left ≡ out)
  pub time : (rate : ℕ) → OtherRate rate → (p : List ℕ) (a : Result Ticks Refusal) → PacketTime (Agreed rate) p a
      → report_of (ticks_in 0) a ≡ refused_with (ticks_in 0) (refusal Unknown 0)
  -- the views, which have no refusal number: no location, "the empty part at the payload's start", "the whole stand-in"
  pub location : (rate : ℕ) → OtherRate rate → (p : List ℕ) (row : ℕ) (a : Option Location) → Locates (Agreed rate) p row a → a ≡ None
  pub augmentation : {A : Type 0} (rate : ℕ) → OtherRate rate → (row : ℕ) (p v : Part A) → AugmentationView (Agreed rate) row p v → v ≡ empty_part p
  pub frame : {A : Type 0} (rate : ℕ) → OtherRate rate → (row : ℕ) (p s v : Part A) → FrameView (Agreed rate) row p s v → v ≡ s

-- example payloads that sessions read differently, as one table
abbrev pub SessionPayloads : Type 0
SessionPayloads =
    map (λ (line : Session × List ℕ × Gives). gives_in (read_in (framing_of line.0) line.1 (zeros 2) (zeros 7))) sessions
    ≡ map (λ (line : Session × List ℕ × Gives). line.2) sessions
