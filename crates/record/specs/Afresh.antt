-- docs/FORMAT.md, "Packet record": the record of rows, worked out afresh from them, all of it, the unused places included.
use Rattle.std.specs.Prelude.{List, [], ◌∷◌, ◌++◌, ℕ, ◌+◌, ◌-◌, length, replicate}
use Rattle.wire.specs.Frame.{numbers_of, wire_octets, ticks, sum_of}
use Rattle.wire.specs.declared.Row.{Row}
use Rattle.record.specs.declared.Record.{Record}

-- the first of n places, and 0 in the unused ones
unfoldable pub padded : ℕ → List ℕ → List ℕ
padded n ns = ns ++ replicate (n - length ns) 0

-- "each row's start on the wire", where the first starts at a: behind the octets of those before it
abbrev pub starts_from : ℕ → List Row → List ℕ
starts_from a [] = []
starts_from a (x ∷ xs) = a ∷ starts_from (a + wire_octets x) xs

-- "a packet record of rows, each row's start on the wire, and the packet's ticks"
unfoldable pub record_of : List Row → Record
record_of xs = record {
  numbers = padded 400 (numbers_of xs);
  starts = padded 200 (starts_from 0 xs);
  rows = length xs;
  octets = sum_of wire_octets xs;
  ticks = sum_of ticks xs;
}
