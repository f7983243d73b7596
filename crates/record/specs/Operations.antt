-- docs/FORMAT.md, "Packet record": the operations over row lists, and what they come to. No record is named here.
use Rattle.std.specs.Prelude.{cond, List, [], ◌∷◌, ◌++◌, ℕ, ◌+◌, ◌-◌, ◌*◌, ltb, length, set, take, Option, Some, None}
use Rattle.refusal.specs.declared.Reason.TheVariants.{Unknown}
use Rattle.wire.specs.Frame.{numbers_of}
use Rattle.wire.specs.declared.Framing.TheVariants.{Unframed}
use Rattle.wire.specs.declared.Row.{Row}
use Rattle.writer.specs.Rows.{Outcome, refused, check_of}

-- "take one row at the end, drop its last, or replace one": a row by the two numbers that are to be its own
pub data Operation : Type 0 where
  to_push : ℕ → ℕ → Operation
  to_pop : Operation
  to_replace : ℕ → ℕ → ℕ → Operation

-- the numbers of "the row list that would result"; none where the row is missing
abbrev pub wanted : Operation → List Row → Option (List ℕ)
wanted (to_push k t) xs = Some (numbers_of xs ++ (k ∷ t ∷ []))
wanted to_pop xs = cond (ltb 0 (length xs)) (Some (take (2 * (length xs - 1)) (numbers_of xs))) None
wanted (to_replace i k t) xs = cond (ltb i (length xs)) (Some (set (set (numbers_of xs) (2 * i) k) (2 * i + 1) t)) None

-- "a missing row is 12 at 0; then the writer's that concern rows alone (1, 12, 13, 6, 8, 1), in its order"; framing is not agreed
abbrev pub checked : Option (List ℕ) → Outcome (List Row)
checked None = refused Unknown 0
checked (Some ns) = check_of Unframed ns

-- the rows that result, or the refusal
unfoldable pub outcome_of : Operation → List Row → Outcome (List Row)
outcome_of op xs = checked (wanted op xs)
