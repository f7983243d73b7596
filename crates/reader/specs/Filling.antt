-- What the reader's functions ask of each other. Only private contracts cite this file.
use Rattle.std.specs.Prelude.{◌≡◌, List, ℕ, ◌-◌, ◌*◌, ◌≤◌, length, get_or, set}
use Rattle.wire.specs.Frame.{Frame, Legal, octets_of}
use Rattle.wire.specs.Answers.{summary_of}
use Rattle.wire.specs.declared.Framing.{Framing}
use Rattle.wire.specs.declared.Entry.{Entry}
use Rattle.wire.specs.declared.Summary.{Summary}

-- the body of a frame of this entry, from its octets on the wire without the count
abbrev pub body_of : List ℕ → Entry → List ℕ
body_of xs e = set xs (e.octets - 1) (get_or xs (e.octets - 1) 0 - e.code)

-- such octets, and n octets have room for them alone
pub record BodyFits (xs : List ℕ) (e : Entry) (n : ℕ) : Type 0 where
  pub room : n ≡ length xs
  pub least : 1 ≤ e.octets
  pub base : e.octets ≤ length xs
  pub coded : e.code ≤ get_or xs (e.octets - 1) 0

-- a legal sequence gives p, s is what it holds, and r numbers and b octets have room for it
pub record Fillable (fr : Framing) (p : List ℕ) (s : Summary) (r b : ℕ) : Type 0 where
  pub fs : List Frame
  pub legal : Legal fr fs
  pub gives : octets_of fr fs ≡ p
  pub holds : s ≡ summary_of fs
  pub rows : 2 * s.frames ≤ r
  pub bodies : s.octets ≤ b
