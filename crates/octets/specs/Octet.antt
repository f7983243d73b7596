-- Lists of octets.
use Rattle.std.specs.Prelude.{List, ℕ, ◌<◌, get_or}

-- each element is an octet
abbrev pub Octets : List ℕ → Type 0
Octets xs = (i : ℕ) → get_or xs i 0 < 256
