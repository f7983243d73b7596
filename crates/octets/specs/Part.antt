-- Parts of lent memory, as a function hands them back.
use Rattle.std.specs.Prelude.{List, [], ℕ}

-- a part of lent memory: its block, where in the block it starts, and its octets
pub record Part (A : Type 0) : Type 0 where
  pub block : A
  pub start : ℕ
  pub octets : List ℕ

-- a part, from a pointer and a list
abbrev pub part : {A : Type 0} → A → ℕ → List ℕ → Part A
part b a xs = record { block = b; start = a; octets = xs }

-- the empty part at the start of another
abbrev pub empty_part : {A : Type 0} → Part A → Part A
empty_part p = record { block = p.block; start = p.start; octets = [] }
