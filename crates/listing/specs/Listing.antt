-- docs/FORMAT.md, "Listing": from the input's octets to the output's. `Lists` says it line by line, in the paper's words. `listing` computes it
-- octet by octet, as it is carried from one part of an input to the next; proofs/LineByLine.antt shows that the two are the same.
use Rattle.std.specs.Prelude.{◌≡◌, Bool, true, false, cond, ◌&&◌, List, [], ◌∷◌, ◌++◌, ℕ, zero, suc, ◌+◌, ◌-◌, ◌≤◌, ltb, leb, eqb, length, take, set, replicate, Option, Some, None}
use Rattle.leb128.specs.Number.{groups_of, step_of}
use Rattle.leb128.specs.declared.Group.{Group}
use Rattle.leb128.specs.declared.Group.TheVariants.{More, Last}
use Rattle.listing.specs.Line.{payload_line, end_line, cut_line}
use Rattle.listing.specs.declared.Phase.{Phase}
use Rattle.listing.specs.declared.Phase.TheVariants.{Length, Payload, BadLength}
use Rattle.listing.specs.declared.State.{State}

-- "at most two groups"
abbrev pub most_groups : ℕ
most_groups = 2

-- "one over 1,400" ends the list with `cut`
abbrev pub most_octets : ℕ
most_octets = 1400

-- the number of the next payload line. A 64-bit number: it stays at 2^64 - 1, for which an input would need as many octets
unfoldable pub following : ℕ → ℕ
following n = cond (ltb n 18446744073709551615) (n + 1) n

-- ---- line by line

-- "payloads, each behind its length": the payload p in the input
abbrev pub entry : List ℕ → List ℕ
entry p = groups_of most_groups (length p) ++ p

-- with n payload lines before it, the input xs gives the output out
pub data Lists : ℕ → List ℕ → List ℕ → Type 0 where
  -- "else `end` and that number"
  ends : {n : ℕ} {xs out : List ℕ} → xs ≡ [] → out ≡ end_line n → Lists n xs out
  -- a payload, its line, and what follows
  lists : {n : ℕ} {xs out : List ℕ} (p rest more : List ℕ) → length p ≤ most_octets → xs ≡ entry p ++ rest → Lists (following n) rest more
      → out ≡ payload_line (following n) p ++ more → Lists n xs out
  -- "A bad length, one over 1,400, or input that ends inside": something stands there, and no payload
  cuts : {n : ℕ} {xs out : List ℕ} → (xs ≡ [] → ⊥) → ((p rest : List ℕ) → length p ≤ most_octets → xs ≡ entry p ++ rest → ⊥)
      → out ≡ cut_line n → Lists n xs out

-- ---- octet by octet

-- how far a listing has come: the octets of input taken, the output, the payload lines so far, where in the input it is, and the buffer that
-- holds the octets of a payload that is not whole yet, from its start on
pub record Stage : Type 0 where
  pub taken : ℕ
  pub output : List ℕ
  pub lines : ℕ
  pub phase : Phase
  pub buffer : List ℕ

-- where n octets are taken, with no line more: in the phase f, with b in the buffer
abbrev pub moved : Stage → ℕ → Phase → List ℕ → Stage
moved t n f b = record { taken = n; output = t.output; lines = t.lines; phase = f; buffer = b }

-- where n octets are taken, with the line of the payload p: a length is next
abbrev pub listed : Stage → ℕ → List ℕ → List ℕ → Stage
listed t n p b = record {
  taken = n;
  output = t.output ++ payload_line (following t.lines) p;
  lines = following t.lines;
  phase = Length 0 0;
  buffer = b;
}

-- where n octets are taken, in a payload: its first `have` octets stand in the buffer b, and `left` are to come; with none to come it is whole
abbrev pub within : Stage → ℕ → ℕ → ℕ → List ℕ → Stage
within t n zero have b = listed t n (take have b) b
within t n (suc left) have b = moved t n (Payload (suc left) have) b

-- what an octet of a length comes to, behind k groups
abbrev pub grouped : Stage → ℕ → Option Group → Stage
grouped t k (Some (More value)) = moved t (t.taken + 1) (Length value (k + 1)) t.buffer
grouped t k (Some (Last count)) = within t (t.taken + 1) count 0 t.buffer
grouped t k None = moved t (t.taken + 1) BadLength t.buffer

-- octets are to come, and a buffer of 1,400 holds them and those that came: so in each phase that `list` answers
abbrev pub is_in_payload : ℕ → ℕ → Bool
is_in_payload left have = ltb 0 left && leb (have + left) most_octets

-- one octet x, in each phase. A phase that no call answered, a `Length` whose groups do not come to its value or a `Payload` that is not
-- `is_in_payload`, is behind a bad length from the next octet on
abbrev pub next_in : Phase → Stage → ℕ → Stage
next_in (Length value groups) t x = grouped t groups (step_of most_groups most_octets value groups x)
next_in (Payload left have) t x =
    cond (is_in_payload left have) (within t (t.taken + 1) (left - 1) (have + 1) (set t.buffer have x)) (moved t (t.taken + 1) BadLength t.buffer)
next_in BadLength t x = moved t (t.taken + 1) BadLength t.buffer

-- one octet
abbrev pub next : Stage → ℕ → Stage
next t x = next_in t.phase t x

-- the room that any payload line has: three 64-bit numbers, the longer word, a space and the line's end
abbrev pub line_room : ℕ
line_room = 71

-- behind the output so far a line has room, in a buffer of so many octets; without one, always
abbrev pub has_room : Option ℕ → Stage → Bool
has_room None t = true
has_room (Some room) t = leb (length t.output + line_room) room

-- octet by octet, as long as any line has room. The rules leave free how many octets a call takes, and what the payload's buffer holds beside
-- the octets that came: here it takes all that it can, and stores each octet of a payload at its index and nothing else
abbrev pub run : Option ℕ → Stage → List ℕ → Stage
run room t [] = t
run room t (x ∷ xs) = cond (has_room room t) (run room (next t x) xs) t

-- an input that ends in this phase is whole: it ends before a length, behind no group of it
abbrev pub is_whole : Phase → Bool
is_whole (Length value groups) = eqb groups 0
is_whole (Payload left have) = false
is_whole BadLength = false

-- the last line, of an input that ends in this state
abbrev pub closing_line : State → List ℕ
closing_line s = cond (is_whole s.phase) (end_line s.lines) (cut_line s.lines)

-- the state of a stage
abbrev pub state_of : Stage → State
state_of t = record { lines = t.lines; phase = t.phase }

-- the stage in a state, with b in the buffer, before any octet
abbrev pub started : State → List ℕ → Stage
started s b = record { taken = 0; output = []; lines = s.lines; phase = s.phase; buffer = b }

-- the state before any input
abbrev pub fresh : State
fresh = record { lines = 0; phase = Length 0 0 }

-- a stage's output and the last line
abbrev pub closed : Stage → List ℕ
closed t = t.output ++ closing_line (state_of t)

-- the listing of an input: "It starts from a buffer of 1,400 octets, all 0"
unfoldable pub listing : List ℕ → List ℕ
listing xs = closed (run None (started fresh (replicate most_octets 0)) xs)
