-- What the writer's private functions ask of one another and hand on. No public promise reaches this file.
use Rattle.std.specs.Prelude.{◌≡◌, List, [], ◌∷◌, ◌++◌, ℕ, zero, suc, ◌+◌, ◌-◌, ◌≤◌, length, get_or, set, Option, Some, None, Result, Ok, Err}
use Rattle.refusal.specs.declared.Reason.{Reason}
use Rattle.refusal.specs.declared.Reason.TheVariants.{Unknown}
use Rattle.wire.specs.Frame.{agreed_rate, AgreedOn, row, rate, body_octets, sum_of}
use Rattle.wire.specs.Answers.{shape_of}
use Rattle.wire.specs.declared.Framing.{Framing}
use Rattle.wire.specs.declared.Kind.{Kind}
use Rattle.wire.specs.declared.Row.{Row}
use Rattle.wire.specs.declared.Shape.{Shape}
use Rattle.writer.specs.Rows.{Outcome, passed, refused, check_of}
use Rattle.writer.specs.Write.{frames_of, bad_end}

-- ---- one row

-- what the checks of a row come to, as the code answers it: the row's shape; the place is the caller's
abbrev pub shape_checked : Framing → Outcome Row → Result Shape Reason
shape_checked fr (passed x) = Ok (shape_of fr x)
shape_checked fr (refused reason place) = Err reason

-- each of these rows is of rate r
abbrev pub AllOf : ℕ → List Row → Type 0
AllOf r [] = Unit {0}
AllOf r (x ∷ xs) = (rate x ≡ r) × AllOf r xs

-- rows of one rate, which may stand in the session; where there are none, and only there, it may be 0, and is the rate agreed
pub record OneRate (fr : Framing) (r : ℕ) (xs : List Row) : Type 0 where
  pub agreed : AgreedOn fr r
  pub same : AllOf r xs
  pub none : r ≡ 0 → xs ≡ []
  pub some : xs ≡ [] → r ≡ agreed_rate fr

-- the row of this kind, if there is one, and this TC; or 12
unfoldable pub named_row : Option Kind → ℕ → Result Row Reason
named_row None t = Err Unknown
named_row (Some k) t = Ok (row k t)

-- ---- one frame

-- the octets of a count that takes c of them
abbrev pub count_by : ℕ → ℕ → List ℕ
count_by zero t = []
count_by (suc zero) t = (t + 177) ∷ []
count_by (suc (suc c)) t = t ∷ 255 ∷ []

-- a count of t that takes c octets, each of which is an octet
pub record CountFits (t c : ℕ) : Type 0 where
  pub most : c ≤ 2
  pub octet : t ≤ 255
  pub short : c ≡ 1 → t ≤ 77

-- the octets of a frame of this shape and body
abbrev pub frame_by : Shape → List ℕ → List ℕ
frame_by s b = set b (s.entry.octets - 1) (get_or b (s.entry.octets - 1) 0 + s.entry.code) ++ count_by s.count s.tc

-- b is the body of a frame of this shape, which takes `room` octets
pub record FrameFits (s : Shape) (b : List ℕ) (room : ℕ) : Type 0 where
  pub body : length b ≡ s.body
  pub size : room ≡ s.body + s.count
  pub base : s.entry.octets ≤ s.body
  pub some : 1 ≤ s.entry.octets
  pub last : get_or b (s.entry.octets - 1) 0 + s.entry.code ≤ 255
  pub count : CountFits s.tc s.count

-- ---- all rows

-- the rows ns are in order, and their bodies have m octets
pub record InOrder (fr : Framing) (ns : List ℕ) (m : ℕ) (xs : List Row) : Type 0 where
  pub checked : check_of fr ns ≡ passed xs
  pub bodies : m ≡ sum_of body_octets xs

-- and no body end is bad
pub record Ready (fr : Framing) (ns bs : List ℕ) (xs : List Row) : Type 0 where
  pub rows : InOrder fr ns (length bs) xs
  pub ends : bad_end fr 0 (frames_of xs bs) ≡ None
