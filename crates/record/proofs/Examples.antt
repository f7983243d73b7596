-- Operations that are refused or change what a record holds, and what they come to, by computation.
use Rattle.std.proofs.Common.{◌≡◌, ℕ, List, [], ◌∷◌, map, take, replicate, refl}
use Rattle.refusal.specs.declared.Reason.TheVariants.{TooLong, ComfortNoiseNotLast, RatesMixed, Unknown, WrongTc}
use Rattle.wire.specs.Frame.{row, count_in, ticks_of_rate}
use Rattle.wire.specs.declared.Kind.TheVariants.{Bps2400, Bps1200, Bps600, ComfortNoise, Tsvcis}
use Rattle.wire.specs.declared.Row.{Row}
use Rattle.writer.specs.Rows.{Outcome, passed, refused, row_of, check_of}
use Rattle.record.specs.Afresh.{padded, record_of}
use Rattle.record.specs.Operations.{Operation, to_push, to_pop, to_replace, outcome_of}
use Rattle.record.specs.Runs.{rows_after}

-- n rows of 2400 bps
abbrev coders : ℕ → List Row
coders n = replicate n (row Bps2400 0)

-- an operation, the rows before it, and its outcome
abbrev pub Line : Type 0
Line = Operation × List Row × Outcome (List Row)

abbrev pub lines : List Line
lines =
    (to_pop, [], refused Unknown 0)
    ∷ (to_replace 0 1 0, [], refused Unknown 0)
    ∷ (to_replace 2 9 9, coders 2, refused Unknown 0)
    ∷ (to_replace 0 3 0, coders 3, refused RatesMixed 1)
    ∷ (to_replace 0 3 0, coders 1, passed (row Bps600 0 ∷ []))
    ∷ (to_replace 1 4 0, coders 3, refused ComfortNoiseNotLast 1)
    ∷ (to_replace 2 4 0, coders 3, passed (row Bps2400 0 ∷ row Bps2400 0 ∷ row ComfortNoise 0 ∷ []))
    ∷ (to_push 1 0, row Bps2400 0 ∷ row ComfortNoise 0 ∷ [], refused ComfortNoiseNotLast 1)
    ∷ (to_push 9 9, row ComfortNoise 0 ∷ [], refused ComfortNoiseNotLast 0)
    ∷ (to_push 9 0, coders 2, refused Unknown 2)
    ∷ (to_push 5 0, coders 2, refused WrongTc 2)
    ∷ (to_push 2 0, coders 2, refused RatesMixed 2)
    ∷ (to_push 5 15, coders 1, passed (row Bps2400 0 ∷ row Tsvcis 15 ∷ []))
    ∷ (to_push 1 0, replicate 127 (row Bps1200 0), refused RatesMixed 127)
    ∷ (to_push 2 0, replicate 127 (row Bps1200 0), refused TooLong 1400)
    ∷ (to_push 9 9, coders 200, refused TooLong 1400)
    ∷ []

pub as_computed : map (λ (l : Line). outcome_of l.0 l.1) lines ≡ map (λ (l : Line). l.2) lines
unfolding outcome_of check_of row_of count_in
as_computed = refl

-- three rows: their numbers and starts first, then their octets and ticks
pub three_rows : (take 7 (record_of (row Bps2400 0 ∷ row Tsvcis 15 ∷ row ComfortNoise 0 ∷ [])).numbers ≡ 1 ∷ 0 ∷ 5 ∷ 15 ∷ 4 ∷ 0 ∷ 0 ∷ [])
    × (take 4 (record_of (row Bps2400 0 ∷ row Tsvcis 15 ∷ row ComfortNoise 0 ∷ [])).starts ≡ 0 ∷ 7 ∷ 30 ∷ 0 ∷ [])
    × ((record_of (row Bps2400 0 ∷ row Tsvcis 15 ∷ row ComfortNoise 0 ∷ [])).octets ≡ 32)
    × ((record_of (row Bps2400 0 ∷ row Tsvcis 15 ∷ row ComfortNoise 0 ∷ [])).ticks ≡ 360)
unfolding record_of padded count_in ticks_of_rate
three_rows = (refl, refl, refl, refl)

-- a run: two rows taken, one refused, the first replaced, the last dropped
pub a_run : rows_after (to_push 1 0 ∷ to_push 1 0 ∷ to_push 3 0 ∷ to_replace 0 5 15 ∷ to_pop ∷ []) [] ≡ row Tsvcis 15 ∷ []
unfolding outcome_of check_of row_of count_in
a_run = refl
