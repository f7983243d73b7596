-- docs/FORMAT.md, "Listing": the lines, as octets of ASCII.
use Rattle.std.specs.Prelude.{cond, List, [], ◌∷◌, ◌++◌, ℕ, zero, suc, ◌+◌, ◌/◌, ◌%◌, ltb, length}
use Rattle.refusal.specs.Numbers.{number_of}
use Rattle.wire.specs.Walk.{Walk, at, refused, read_of}
use Rattle.wire.specs.declared.Framing.TheVariants.{Unframed}
use Rattle.clock.specs.Time.{ticks_of}

-- the decimal digits of n, highest first, no leading zero; k digits are enough for it
abbrev pub digits : ℕ → ℕ → List ℕ
digits zero n = []
digits (suc k) n = cond (ltb n 10) ((48 + n) ∷ []) (digits k (n / 10) ++ ((48 + n % 10) ∷ []))

-- the same of a 64-bit number, for which 20 digits are enough
unfoldable pub decimal : ℕ → List ℕ
decimal n = digits 20 n

-- ` ok `
abbrev pub ok_word : List ℕ
ok_word = 32 ∷ 111 ∷ 107 ∷ 32 ∷ []

-- ` refused `
abbrev pub refused_word : List ℕ
refused_word = 32 ∷ 114 ∷ 101 ∷ 102 ∷ 117 ∷ 115 ∷ 101 ∷ 100 ∷ 32 ∷ []

-- `end `
abbrev pub end_word : List ℕ
end_word = 101 ∷ 110 ∷ 100 ∷ 32 ∷ []

-- `cut `
abbrev pub cut_word : List ℕ
cut_word = 99 ∷ 117 ∷ 116 ∷ 32 ∷ []

-- a word, and a number behind it
abbrev pub numbered : List ℕ → ℕ → List ℕ
numbered word n = word ++ decimal n

-- a number, a word, two numbers with a space between, and the line's end
abbrev pub line_with : ℕ → List ℕ → ℕ → ℕ → List ℕ
line_with n word a b = decimal n ++ numbered word a ++ numbered (32 ∷ []) b ++ (10 ∷ [])

-- "(number, frames, ticks; or number, refusal, place)": the line of the payload with the number n, by the walk over it
abbrev pub line_of : ℕ → Walk → List ℕ
line_of n (at u fs) = line_with n ok_word (length fs) (ticks_of fs)
line_of n (refused reason place behind) = line_with n refused_word (number_of reason) place

-- the line of the payload p, which has the number n, read as framing not agreed
abbrev pub payload_line : ℕ → List ℕ → List ℕ
payload_line n p = line_of n (read_of Unframed p)

-- a word and a number, and the line's end
abbrev pub last_line : List ℕ → ℕ → List ℕ
last_line word n = numbered word n ++ (10 ∷ [])

-- "`end` and that number"
abbrev pub end_line : ℕ → List ℕ
end_line n = last_line end_word n

-- "ends the list with `cut` and the number of payload lines so far"
abbrev pub cut_line : ℕ → List ℕ
cut_line n = last_line cut_word n
