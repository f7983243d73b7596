-- The checks of rows alone (docs/FORMAT.md, "Writing" and "Sessions"), in their order: 11; 1 if there are more than 200 rows; row by row
-- 12, 13, 6, 8; 1 for the total.
use Rattle.std.specs.Prelude.{Bool, false, cond, not, ◌&&◌, ◌||◌, List, [], ◌∷◌, ◌++◌, ℕ, ◌/◌, ◌%◌, ltb, eqb, length, Option, Some, None}
use Rattle.refusal.specs.declared.Reason.{Reason}
use Rattle.refusal.specs.declared.Reason.TheVariants.{TooLong, ComfortNoiseNotLast, RatesMixed, OddRows, Unknown, WrongTc}
use Rattle.wire.specs.Frame.{table, kind_of, agreed_rate, row, rate, wire_octets, sum_of}
use Rattle.wire.specs.Walk.{is_noise}
use Rattle.wire.specs.declared.Framing.{Framing}
use Rattle.wire.specs.declared.Kind.{Kind}
use Rattle.wire.specs.declared.Row.{Row}

-- what checks come to: what they passed, or a refusal's reason and place
pub data Outcome (A : Type 0) : Type 0 where
  passed : A → Outcome A
  refused : Reason → ℕ → Outcome A

-- one check: this refusal if the test holds, else what the rest comes to
abbrev pub refuse_if : {A : Type 0} → Bool → Reason → ℕ → Outcome A → Outcome A
refuse_if test reason place rest = cond test (refused reason place) rest

-- further checks, of what was passed
abbrev pub and_then : {A B : Type 0} → Outcome A → (A → Outcome B) → Outcome B
and_then (passed x) rest = rest x
and_then (refused reason place) rest = refused reason place

-- "TC wrong for the kind": below its least or over its most
abbrev pub is_wrong_tc : Kind → ℕ → Bool
is_wrong_tc k t = ltb t (table k).least || ltb (table k).most t

-- a rate "differs from an earlier one"
abbrev pub differs : ℕ → List Row → Bool
differs r [] = false
differs r (x ∷ earlier) = not (eqb (rate x) r) || differs r earlier

-- where framing is agreed, a rate that is not "that rate"
abbrev pub disagrees : Framing → ℕ → Bool
disagrees fr r = ltb 0 (agreed_rate fr) && not (eqb (agreed_rate fr) r)

-- the rate agreed counts as an earlier one: "The coder frames of a legal sequence are then all of that rate"
abbrev pub is_mixed : Framing → ℕ → List Row → Bool
is_mixed fr r earlier = disagrees fr r || differs r earlier

-- "row by row 12, 13, 6, 8": the row of this kind, if there is one, and this TC, behind the earlier rows and before `later` numbers.
-- 6 "names the comfort noise row that another row follows; 8 the first row whose rate differs from an earlier one"
unfoldable pub row_of : Framing → List Row → ℕ → Option Kind → ℕ → Outcome Row
row_of fr earlier later None t = refused Unknown (length earlier)
row_of fr earlier later (Some k) t =
    refuse_if (is_wrong_tc k t) WrongTc (length earlier)
    (refuse_if (is_noise (row k t) && ltb 0 later) ComfortNoiseNotLast (length earlier)
    (refuse_if (not (is_noise (row k t)) && is_mixed fr (table k).rate earlier) RatesMixed (length earlier)
    (passed (row k t))))

-- the rows that numbers hold, behind the earlier ones. (No list of odd length gets here.)
abbrev pub row_by_row : Framing → List Row → List ℕ → Outcome (List Row)
row_by_row fr earlier [] = passed earlier
row_by_row fr earlier (n ∷ []) = passed earlier
row_by_row fr earlier (n ∷ t ∷ rest) = and_then (row_of fr earlier (length rest) (kind_of n) t) (λ x. row_by_row fr (earlier ++ (x ∷ [])) rest)

-- "1 for the total": more than 1,400 octets on the wire
abbrev pub total : List Row → Outcome (List Row)
total xs = refuse_if (ltb 1400 (sum_of wire_octets xs)) TooLong 1400 (passed xs)

-- "11; 1 if there are more than 200 rows; then row by row 12, 13, 6, 8; 1 for the total"
unfoldable pub check_of : Framing → List ℕ → Outcome (List Row)
check_of fr ns =
    refuse_if (eqb (length ns % 2) 1) OddRows (length ns)
    (refuse_if (ltb 200 (length ns / 2)) TooLong 1400 (and_then (row_by_row fr [] ns) total))
