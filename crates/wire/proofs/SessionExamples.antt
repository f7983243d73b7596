-- Payloads that read differently from session to session, by computation.
use mathlib.Core.Path.{◌≡◌, refl}
use mathlib.Core.List.{List, [], ◌∷◌, ◌++◌, map}
use Prim.Native.Nat.{ℕ}
use lib.ListN.{replicate}
use Rattle.refusal.specs.Report.{Report, accepted, refused_with, refusal, refusal}
use Rattle.refusal.specs.declared.Reason.TheVariants.{AugmentationNot2400, RatesMixed}
use Rattle.wire.specs.Frame.{count_in, numbers_of, rows_of, bodies_of}
use Rattle.wire.specs.Walk.{Walk, at, refused, named, counted, ending, whole, last_frame, beside, read_of}
use Rattle.wire.specs.declared.Framing.{Framing, Framing}
use Rattle.wire.specs.declared.Framing.TheVariants.{Unframed, Framed2400, Framed600}

-- the rows' numbers and the bodies, or the refusal
abbrev pub Reading : Type 0
Reading = Report (List ℕ × List ℕ)

abbrev pub reads : Walk → Reading
reads (at u fs) = accepted (numbers_of (rows_of fs), bodies_of fs)
reads (refused n place behind) = refused_with ([], []) (refusal n place)

abbrev zeros : ℕ → List ℕ
zeros n = replicate n 0

-- a frame of seven octets that end in x; the same before 15 octets of augmentation with a short count, and with a long one
abbrev seven : ℕ → List ℕ
seven x = zeros 6 ++ (x ∷ [])

abbrev short : ℕ → List ℕ
short x = seven x ++ (zeros 15 ++ (192 ∷ []))

abbrev long : ℕ → List ℕ
long x = seven x ++ (zeros 15 ++ (15 ∷ 255 ∷ []))

abbrev pub lines : List (Framing × List ℕ × Reading)
lines =
    (Unframed, seven 64, accepted (3 ∷ 0 ∷ [], zeros 7))
    ∷ (Framed2400, seven 64, accepted (1 ∷ 0 ∷ [], seven 64))
    ∷ (Framed600, seven 64, accepted (3 ∷ 0 ∷ [], seven 64))
    ∷ (Framed600, zeros 7, accepted (3 ∷ 0 ∷ [], zeros 7))
    ∷ (Framed2400, seven 127, accepted (1 ∷ 0 ∷ [], seven 127))
    ∷ (Unframed, short 100, refused_with ([], []) (refusal AugmentationNot2400 23))
    ∷ (Framed2400, short 100, accepted (5 ∷ 15 ∷ [], seven 100 ++ zeros 15))
    ∷ (Framed2400, short 128, refused_with ([], []) (refusal AugmentationNot2400 23))
    ∷ (Framed600, short 128, refused_with ([], []) (refusal AugmentationNot2400 23))
    ∷ (Framed600, short 0, refused_with ([], []) (refusal RatesMixed 23))
    ∷ (Framed600, long 0, refused_with ([], []) (refusal RatesMixed 24))
    ∷ (Framed2400, long 100, accepted (6 ∷ 15 ∷ [], seven 100 ++ zeros 15))
    ∷ (Framed2400, zeros 10 ++ (129 ∷ []), refused_with ([], []) (refusal RatesMixed 11))
    ∷ (Framed600, zeros 10 ++ (129 ∷ []), refused_with ([], []) (refusal RatesMixed 11))
    ∷ (Framed600, 0 ∷ 160 ∷ [], accepted (4 ∷ 0 ∷ [], zeros 2))
    ∷ (Framed2400, [], accepted ([], []))
    ∷ []

pub examples : map (λ (l : Framing × List ℕ × Reading). reads (read_of l.0 l.1)) lines ≡ map (λ (l : Framing × List ℕ × Reading). l.2) lines
unfolding count_in named counted ending whole last_frame beside read_of
examples = refl
