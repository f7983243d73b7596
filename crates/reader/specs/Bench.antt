-- Example payloads, each with what reading it gives: docs/FORMAT.md, "Reading" and "Sessions".
use Rattle.std.specs.Prelude.{List, [], ◌∷◌, ◌++◌, ℕ, replicate, Result, Ok, Err}
use Rattle.refusal.specs.Numbers.{number_of}
use Rattle.refusal.specs.declared.Refusal.{Refusal}
use Rattle.wire.specs.Frame.{rows_of, numbers_of, bodies_of, sum_of, ticks}
use Rattle.wire.specs.Walk.{Walk, at, refused}
use Rattle.wire.specs.declared.Session.{Session}
use Rattle.wire.specs.declared.Session.TheVariants.{NotAgreed, Agreed}
use Rattle.wire.specs.declared.Summary.{Summary}
use Rattle.reader.specs.Reading.{Outcome}

-- what reading gives: rows, bodies and ticks; or a refusal's number and place
pub data Gives : Type 0 where
  rows : List ℕ → List ℕ → ℕ → Gives
  refusal : ℕ → ℕ → Gives

-- the same of a walk
abbrev pub gives_of : Walk → Gives
gives_of (at u fs) = rows (numbers_of (rows_of fs)) (bodies_of fs) (sum_of ticks (rows_of fs))
gives_of (refused x place behind) = refusal (number_of x) place

-- `00*n`
abbrev pub zeros : ℕ → List ℕ
zeros n = replicate n 0

-- without a framing bit: the empty payload; then for each kind, and for a long count, one that is accepted and one that is refused
abbrev pub payloads : List (List ℕ × Gives)
payloads =
    ([], rows [] [] 0)
    ∷ (zeros 7, rows (1 ∷ 0 ∷ []) (zeros 7) 180)
    ∷ (zeros 6, refusal 2 6)
    ∷ (zeros 6 ++ 0x40 ∷ [], rows (3 ∷ 0 ∷ []) (zeros 7) 720)
    ∷ (zeros 13 ++ 0x40 ∷ [], refusal 8 7)
    ∷ (zeros 10 ++ 0x81 ∷ [], rows (2 ∷ 0 ∷ []) (zeros 10 ++ 1 ∷ []) 540)
    ∷ (zeros 10 ++ 0x82 ∷ [], refusal 3 11)
    ∷ (0 ∷ 0xa0 ∷ [], rows (4 ∷ 0 ∷ []) (zeros 2) 0)
    ∷ (0 ∷ 0xa0 ∷ 0 ∷ 0xa0 ∷ [], refusal 6 2)
    ∷ (zeros 22 ++ 0xc0 ∷ [], rows (5 ∷ 15 ∷ []) (zeros 22) 180)
    ∷ (zeros 6 ++ 0x40 ∷ zeros 15 ++ 0xc0 ∷ [], refusal 7 23)
    ∷ (zeros 7 ++ 0xaa ∷ 1 ∷ 0xff ∷ [], rows (5 ∷ 1 ∷ []) (zeros 7 ++ 0xaa ∷ []) 180)
    ∷ (zeros 9 ++ 0xff ∷ [], refusal 4 10)
    ∷ (zeros 22 ++ 0x0f ∷ 0xff ∷ [], rows (6 ∷ 15 ∷ []) (zeros 22) 180)
    ∷ (0x0f ∷ 0xff ∷ [], refusal 2 2)
    ∷ []

-- the same of an answer and the lists r and b
abbrev pub gives_with : List ℕ → List ℕ → Result Summary Refusal → Gives
gives_with r b (Ok s) = rows r b s.ticks
gives_with r b (Err x) = refusal (number_of x.reason) x.place

-- the same of an outcome
abbrev pub gives_in : Outcome → Gives
gives_in x = gives_with x.rows x.bodies x.answer

-- payloads that sessions read differently, into a list of two numbers and a buffer of seven octets; then unknown rates, before all else
abbrev pub sessions : List (Session × List ℕ × Gives)
sessions =
    (NotAgreed, zeros 6 ++ 0x40 ∷ [], rows (3 ∷ 0 ∷ []) (zeros 7) 720)
    ∷ (Agreed 2400, zeros 6 ++ 0x40 ∷ [], rows (1 ∷ 0 ∷ []) (zeros 6 ++ 0x40 ∷ []) 180)
    ∷ (Agreed 600, zeros 6 ++ 0x40 ∷ [], rows (3 ∷ 0 ∷ []) (zeros 6 ++ 0x40 ∷ []) 720)
    ∷ (Agreed 600, zeros 7, rows (3 ∷ 0 ∷ []) (zeros 7) 720)
    ∷ (Agreed 2400, zeros 10 ++ 0x81 ∷ [], refusal 8 11)
    ∷ (Agreed 600, zeros 22 ++ 0xc0 ∷ [], refusal 8 23)
    ∷ (Agreed 2400, zeros 22 ++ 0xc0 ∷ [], refusal 10 22)
    ∷ (Agreed 1200, [], refusal 12 0)
    ∷ (Agreed 0, zeros 1401, refusal 12 0)
    ∷ (Agreed 2401, zeros 6, refusal 12 0)
    ∷ []
