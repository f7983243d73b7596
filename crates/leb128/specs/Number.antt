-- Numbers in groups of seven bits (document 01, "The listing"): a number's octets said forwards, and one step of reading them.
use Rattle.std.specs.Prelude.{◌≡◌, cond, ◌&&◌, List, [], ◌∷◌, ℕ, zero, suc, ◌+◌, ◌-◌, ◌*◌, ◌/◌, ◌%◌, ◌^◌, ◌≤◌, ◌<◌, ltb, eqb, length, drop, Option, Some, None, Result, Ok, Err}
use Rattle.leb128.specs.declared.Group.{Group}
use Rattle.leb128.specs.declared.Group.TheVariants.{More, Last}
use Rattle.leb128.specs.declared.NumberError.{NumberError}
use Rattle.leb128.specs.declared.NumberError.TheVariants.{Short, Bad}
use Rattle.leb128.specs.declared.Found.{Found}

-- "in groups of seven bits, low group first, 128 meaning 'more', shortest form": the octets of n, for which k groups are enough
abbrev pub groups_of : ℕ → ℕ → List ℕ
groups_of zero n = []
groups_of (suc k) n = cond (ltb n 128) (n ∷ []) ((128 + n % 128) ∷ groups_of k (n / 128))

-- a number that may stand there: at most `most` groups, and at most `bound`
pub record Within (most bound n : ℕ) : Type 0 where
  pub groups : n < 128 ^ most
  pub small : n ≤ bound

-- ---- reading, octet by octet: v is the value of k groups

-- k groups came to v; nine groups, 63 bits, are the most that are read
pub record Partial (v k : ℕ) : Type 0 where
  pub few : k < 9
  pub held : v < 128 ^ k

-- the octet x is the last group: shortest form, so no 0 behind another group
unfoldable pub last_group : ℕ → ℕ → ℕ → ℕ → Option Group
last_group bound v k x = cond (eqb x 0 && ltb 0 k) None (cond (ltb bound (v + x * 128 ^ k)) None (Some (Last (v + x * 128 ^ k))))

-- the octet x is a group that another one follows
unfoldable pub more_groups : ℕ → ℕ → ℕ → ℕ → Option Group
more_groups most v k x = cond (ltb (k + 1) most) (Some (More (v + (x - 128) * 128 ^ k))) None

-- the octet x behind k groups of the value v; None also where no more groups may stand there, or no k groups come to v
unfoldable pub step_of : ℕ → ℕ → ℕ → ℕ → ℕ → Option Group
step_of most bound v k x =
    cond (ltb k 9 && (ltb k most && ltb v (128 ^ k))) (cond (ltb x 128) (last_group bound v k x) (more_groups most v k x)) None

-- what stands at the start of some octets: a number, with the octets behind it; not enough octets, with the groups so far;
-- no number
pub data Head : Type 0 where
  number : ℕ → List ℕ → Head
  short : ℕ → ℕ → Head
  none : Head

-- octet by octet, from k groups of the value v on
abbrev pub head_from : ℕ → ℕ → ℕ → ℕ → List ℕ → Head
head_from most bound v k [] = short v k
head_from most bound v k (x ∷ xs) = elim (step_of most bound v k x) [ Some (More w) ↦ head_from most bound w (k + 1) xs | Some (Last n) ↦ number n xs | None ↦ none ]

-- from the start
abbrev pub head_of : ℕ → ℕ → List ℕ → Head
head_of most bound xs = head_from most bound 0 0 xs

-- a head, as it is answered of octets of which it is the end: a number with the index behind it, where all have the length n
abbrev pub found_of : ℕ → Head → Result Found NumberError
found_of n (number m rest) = Ok (record { number = m; next = n - length rest })
found_of n (short v k) = Err Short
found_of n none = Err Bad

-- what stands at the index i of the octets xs
abbrev pub found_at : ℕ → ℕ → List ℕ → ℕ → Result Found NumberError
found_at most bound xs i = found_of (length xs) (head_of most bound (drop i xs))

-- ---- what is promised

-- the values of an answer: how many numbers are whole, 1 or 0; the number, or the value of the groups so far; the index behind it. All 0 where no
-- number can stand there: what that is refused with is for the caller to say
pub record Values : Type 0 where
  pub whole : ℕ
  pub value : ℕ
  pub next : ℕ

-- those of each case of a step's answer
abbrev pub group_values : Option Group → Values
group_values (Some (More v)) = record { whole = 0; value = v; next = 0 }
group_values (Some (Last n)) = record { whole = 1; value = n; next = 0 }
group_values None = record { whole = 0; value = 0; next = 0 }

-- those of each case of what stands at an index
abbrev pub found_values : Result Found NumberError → Values
found_values (Ok f) = record { whole = 1; value = f.number; next = f.next }
found_values (Err e) = record { whole = 0; value = 0; next = 0 }

-- what `step` promises of the octet x behind k groups of the value v
pub record Steps (most bound v k x : ℕ) (r : Option Group) : Type 0 where
  pub answer : r ≡ step_of most bound v k x
  pub values : group_values r ≡ group_values (step_of most bound v k x)

-- what `number_at` promises of the index i of the octets xs
pub record Finds (most bound : ℕ) (xs : List ℕ) (i : ℕ) (r : Result Found NumberError) : Type 0 where
  pub answer : r ≡ found_at most bound xs i
  pub values : found_values r ≡ found_values (found_at most bound xs i)
