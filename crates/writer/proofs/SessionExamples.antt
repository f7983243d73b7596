-- Rows and bodies that are written differently from session to session, by computation; and that without a framing bit the test of 8
-- is the format's own, word for word.
use mathlib.Core.Path.{◌≡◌, refl}
use mathlib.Core.List.{List, [], ◌∷◌, ◌++◌, map}
use Prim.Native.Nat.{ℕ}
use lib.ListN.{replicate}
use Rattle.refusal.specs.declared.Reason.TheVariants.{ReservedBits, RatesMixed, Unknown, WrongTc}
use Rattle.wire.specs.Frame.{count_in, framing_of}
use Rattle.wire.specs.declared.Session.{Session}
use Rattle.wire.specs.declared.Session.TheVariants.{NotAgreed, Agreed}
use Rattle.wire.specs.declared.Framing.TheVariants.{Unframed}
use Rattle.wire.specs.declared.Row.{Row}
use Rattle.writer.specs.Rows.{Outcome, passed, refused, differs, is_mixed, row_of, check_of}
use Rattle.writer.specs.Write.{write_of, write_in}

pub unframed_mixed : (r : ℕ) (earlier : List Row) → is_mixed Unframed r earlier ≡ differs r earlier
unframed_mixed r earlier = refl

abbrev zeros : ℕ → List ℕ
zeros n = replicate n 0

-- a body of seven octets that end in x; the same with 15 octets of augmentation
abbrev seven : ℕ → List ℕ
seven x = zeros 6 ++ (x ∷ [])

abbrev augmented : ℕ → List ℕ
augmented x = seven x ++ zeros 15

-- a session, rows and bodies, and what is written into room for 1,400 octets
abbrev pub Line : Type 0
Line = Session × List ℕ × List ℕ × Outcome (List ℕ)

abbrev pub lines : List Line
lines =
    (NotAgreed, 3 ∷ 0 ∷ [], seven 0, passed (seven 64))
    ∷ (NotAgreed, 3 ∷ 0 ∷ [], seven 64, refused ReservedBits 6)
    ∷ (Agreed 600, 3 ∷ 0 ∷ [], seven 0, passed (seven 0))
    ∷ (Agreed 600, 3 ∷ 0 ∷ [], seven 64, passed (seven 64))
    ∷ (Agreed 2400, 1 ∷ 0 ∷ [], seven 127, passed (seven 127))
    ∷ (Agreed 2400, 1 ∷ 0 ∷ [], seven 128, refused ReservedBits 6)
    ∷ (Agreed 2400, 5 ∷ 15 ∷ [], augmented 127, passed (augmented 127 ++ (192 ∷ [])))
    ∷ (Agreed 2400, 6 ∷ 15 ∷ [], augmented 128, refused ReservedBits 6)
    ∷ (Agreed 2400, 4 ∷ 0 ∷ [], 0 ∷ 32 ∷ [], refused ReservedBits 1)
    ∷ (Agreed 600, 4 ∷ 0 ∷ [], 0 ∷ 31 ∷ [], passed (0 ∷ 191 ∷ []))
    ∷ (Agreed 600, 1 ∷ 0 ∷ [], [], refused RatesMixed 0)
    ∷ (Agreed 600, 2 ∷ 0 ∷ [], [], refused RatesMixed 0)
    ∷ (Agreed 600, 3 ∷ 0 ∷ 5 ∷ 15 ∷ [], [], refused RatesMixed 1)
    ∷ (Agreed 600, 6 ∷ 15 ∷ [], [], refused RatesMixed 0)
    ∷ (Agreed 600, 6 ∷ 14 ∷ [], [], refused WrongTc 0)
    ∷ (Agreed 2400, 2 ∷ 0 ∷ [], [], refused RatesMixed 0)
    ∷ (Agreed 2400, 3 ∷ 0 ∷ [], [], refused RatesMixed 0)
    ∷ (Agreed 1200, 9 ∷ [], [], refused Unknown 0)
    ∷ (Agreed 0, [], [], refused Unknown 0)
    ∷ []

pub examples : map (λ (l : Line). write_in (framing_of l.0) l.1 l.2 1400) lines ≡ map (λ (l : Line). l.3) lines
unfolding count_in row_of check_of write_of
examples = refl
