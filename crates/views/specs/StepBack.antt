-- What the private functions ask of each other: no public promise reaches this file.
use Rattle.std.specs.Prelude.{◌≡◌, List, ℕ, length}
use Rattle.wire.specs.Frame.{Frame, Legal, octets_of}
use Rattle.wire.specs.declared.Framing.{Framing}

-- a legal sequence of n frames gives the payload p
pub record Holds (fr : Framing) (p : List ℕ) (n : ℕ) : Type 0 where
  pub sequence : List Frame
  pub legal : Legal fr sequence
  pub gives : octets_of fr sequence ≡ p
  pub frames : n ≡ length sequence
