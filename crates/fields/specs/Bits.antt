-- The bits of numbers and of octets.
use Rattle.std.specs.Prelude.{List, [], ◌∷◌, ◌++◌, reverse, ℕ, zero, suc, ◌+◌, ◌*◌, ◌/◌, ◌%◌, ◌^◌, length, take, drop}

-- the lowest w bits of a number, "highest bit first"
unfoldable pub digits : ℕ → ℕ → List ℕ
digits zero v = []
digits (suc w) v = v / 2 ^ w % 2 ∷ digits w v

-- the number that bits spell, "highest bit first"
unfoldable pub spelled : List ℕ → ℕ
spelled [] = 0
spelled (b ∷ bs) = b * 2 ^ length bs + spelled bs

-- the bits of octets in the order of their names (docs/FORMAT.md, "Frames"): "B_01 is the lowest bit of the first octet, B_09 the lowest of the second"
unfoldable pub bits_of : List ℕ → List ℕ
bits_of [] = []
bits_of (x ∷ xs) = reverse (digits 8 x) ++ bits_of xs

-- the n octets that bits in this order make
unfoldable pub octets_of : ℕ → List ℕ → List ℕ
octets_of zero bits = []
octets_of (suc n) bits = spelled (reverse (take 8 bits)) ∷ octets_of n (drop 8 bits)
