-- "0 is the empty payload and nothing else": what is answered of a refused payload, in any session, is never what is answered of an empty one in
-- any legal session. (In a session of another rate the empty payload is refused too.) Count and line work as not agreed.
use Rattle.std.specs.Prelude.{◌≡◌, List, [], ◌∷◌, ℕ, ℤ, Result, Some, None}
use Rattle.refusal.specs.Report.{Report, report_of}
use Rattle.refusal.specs.declared.Refusal.{Refusal}
use Rattle.clock.specs.declared.Ticks.{Ticks}
use Rattle.octets.specs.Octet.{Octets}
use Rattle.wire.specs.Frame.{Frame, framing_of, Legal, octets_of}
use Rattle.wire.specs.Answers.{nothing, Walks}
use Rattle.wire.specs.declared.Session.{Session}
use Rattle.wire.specs.declared.Framing.{Framing}
use Rattle.wire.specs.declared.Kind.TheVariants.{ComfortNoise}
use Rattle.wire.specs.declared.Summary.{Summary}
use Rattle.reader.specs.Promise.{Reads}
use Rattle.clock.specs.Time.{PacketTime, ticks_in}
use Rattle.listing.specs.Line.{payload_line}
use Rattle.moult.specs.Promises.{Counted}

-- no legal sequence gives p: it is refused for its octets
abbrev pub NoneGives : Framing → List ℕ → Type 0
NoneGives fr p = (fs : List Frame) → Legal fr fs → octets_of fr fs ≡ p → ⊥

-- no reading of the empty payload, whatever is lent for it, has these numbers
abbrev pub NotReadEmpty : Report Summary → Type 0
NotReadEmpty x = (ses : Session) (fr : Framing) → framing_of ses ≡ Some fr → (s c s' c' : List ℕ) (e : Result Summary Refusal) → Reads ses [] s c e s' c' → x ≡ report_of nothing e → ⊥

-- the walks of p and of the empty payload have other numbers
abbrev pub WalkTells : Framing → List ℕ → Type 0
WalkTells fr p = (gr : Framing) (a e : Result Summary Refusal) → Walks fr p a → Walks gr [] e → report_of nothing a ≡ report_of nothing e → ⊥

-- their counts differ
abbrev pub CountTells : List ℕ → Type 0
CountTells p = (a e : ℤ) → Counted p a → Counted [] e → a ≡ e → ⊥

-- their times differ
abbrev pub TimeTells : Session → List ℕ → Type 0
TimeTells ses p = (other : Session) (gr : Framing) → framing_of other ≡ Some gr
    → (a e : Result Ticks Refusal) → PacketTime ses p a → PacketTime other [] e → report_of (ticks_in 0) a ≡ report_of (ticks_in 0) e → ⊥

-- their lines differ, whatever the lines' numbers
abbrev pub LineTells : List ℕ → Type 0
LineTells p = (n m : ℕ) → payload_line n p ≡ payload_line m [] → ⊥

-- p is one comfort noise frame, which lasts 0 ticks
abbrev pub NoiseAlone : Framing → List ℕ → Type 0
NoiseAlone fr p = (f : Frame) × (f.row.kind ≡ ComfortNoise) × Legal fr (f ∷ []) × (octets_of fr (f ∷ []) ≡ p)

-- no answer of a refused payload is one of an empty payload
pub record RefusedIsNotEmpty : Type 0 where
  -- refused for its octets: whatever is lent, with no exception
  pub octets : (ses : Session) (fr : Framing) → framing_of ses ≡ Some fr → (p : List ℕ) → Octets p → NoneGives fr p
      → ((r b r' b' : List ℕ) (a : Result Summary Refusal) → Reads ses p r b a r' b' → NotReadEmpty (report_of nothing a)) × WalkTells fr p × CountTells p × TimeTells ses p × LineTells p
  -- refused for the session's rate: as well, whatever the payload
  pub rate : (ses : Session) → framing_of ses ≡ None → (p : List ℕ)
      → ((r b r' b' : List ℕ) (a : Result Summary Refusal) → Reads ses p r b a r' b' → NotReadEmpty (report_of nothing a)) × TimeTells ses p
  -- refused for want of room: as well, but for the time of comfort noise alone, which lasts 0 ticks as the empty payload does; time asks for no room
  pub room : (ses : Session) (fr : Framing) → framing_of ses ≡ Some fr → (p : List ℕ) → Octets p
      → (r b r' b' : List ℕ) (a : Result Summary Refusal) → Reads ses p r b a r' b' → ((report_of nothing a).number ≡ 0 → ⊥)
      → NotReadEmpty (report_of nothing a) × WalkTells fr p × CountTells p × LineTells p × ((NoiseAlone fr p → ⊥) → TimeTells ses p)
  -- the exception is there
  pub noise : (ses other : Session) (fr gr : Framing) → framing_of ses ≡ Some fr → framing_of other ≡ Some gr
      → (a e : Result Ticks Refusal) → PacketTime ses (0 ∷ 0xa0 ∷ []) a → PacketTime other [] e → report_of (ticks_in 0) a ≡ report_of (ticks_in 0) e
