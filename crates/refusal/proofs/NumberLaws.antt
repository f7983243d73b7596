-- Laws of the refusal numbers: none is 0, and no two reasons share one.
use Rattle.std.proofs.Common.{◌≡◌, ℕ, ◌-◌, ◌≤◌, get_or, List, [], ◌∷◌, refl, ap, sym, ◌∙◌, arith}
use Rattle.refusal.specs.Numbers.{number_of}
use Rattle.refusal.specs.declared.Reason.{Reason}
use Rattle.refusal.specs.declared.Reason.TheVariants.{TooLong, FrameCut, ReservedBits, LongCountZero, LongCountShortRange, ComfortNoiseNotLast, AugmentationNot2400, RatesMixed, NumbersTooShort, OctetsTooShort, OddRows, Unknown, WrongTc, WrongLength, WrongSettings, WrongMode, FieldTooLarge, BadNumber, EntryCut}

-- the reasons, in the order of their numbers
abbrev reasons : List Reason
reasons = TooLong ∷ FrameCut ∷ ReservedBits ∷ LongCountZero ∷ LongCountShortRange ∷ ComfortNoiseNotLast ∷ AugmentationNot2400 ∷ RatesMixed ∷ NumbersTooShort ∷ OctetsTooShort ∷ OddRows ∷ Unknown ∷ WrongTc ∷ WrongLength ∷ WrongSettings ∷ WrongMode ∷ FieldTooLarge ∷ BadNumber ∷ EntryCut ∷ []

-- 1 to 19
pub number_of-least : (r : Reason) → 1 ≤ number_of r
number_of-least TooLong = omega arith
number_of-least FrameCut = omega arith
number_of-least ReservedBits = omega arith
number_of-least LongCountZero = omega arith
number_of-least LongCountShortRange = omega arith
number_of-least ComfortNoiseNotLast = omega arith
number_of-least AugmentationNot2400 = omega arith
number_of-least RatesMixed = omega arith
number_of-least NumbersTooShort = omega arith
number_of-least OctetsTooShort = omega arith
number_of-least OddRows = omega arith
number_of-least Unknown = omega arith
number_of-least WrongTc = omega arith
number_of-least WrongLength = omega arith
number_of-least WrongSettings = omega arith
number_of-least WrongMode = omega arith
number_of-least FieldTooLarge = omega arith
number_of-least BadNumber = omega arith
number_of-least EntryCut = omega arith

pub number_of-most : (r : Reason) → number_of r ≤ 19
number_of-most TooLong = omega arith
number_of-most FrameCut = omega arith
number_of-most ReservedBits = omega arith
number_of-most LongCountZero = omega arith
number_of-most LongCountShortRange = omega arith
number_of-most ComfortNoiseNotLast = omega arith
number_of-most AugmentationNot2400 = omega arith
number_of-most RatesMixed = omega arith
number_of-most NumbersTooShort = omega arith
number_of-most OctetsTooShort = omega arith
number_of-most OddRows = omega arith
number_of-most Unknown = omega arith
number_of-most WrongTc = omega arith
number_of-most WrongLength = omega arith
number_of-most WrongSettings = omega arith
number_of-most WrongMode = omega arith
number_of-most FieldTooLarge = omega arith
number_of-most BadNumber = omega arith
number_of-most EntryCut = omega arith

-- the reason of a number
abbrev reason_of : ℕ → Reason
reason_of n = get_or reasons (n - 1) EntryCut

reason_of-number_of : (r : Reason) → reason_of (number_of r) ≡ r
reason_of-number_of TooLong = refl
reason_of-number_of FrameCut = refl
reason_of-number_of ReservedBits = refl
reason_of-number_of LongCountZero = refl
reason_of-number_of LongCountShortRange = refl
reason_of-number_of ComfortNoiseNotLast = refl
reason_of-number_of AugmentationNot2400 = refl
reason_of-number_of RatesMixed = refl
reason_of-number_of NumbersTooShort = refl
reason_of-number_of OctetsTooShort = refl
reason_of-number_of OddRows = refl
reason_of-number_of Unknown = refl
reason_of-number_of WrongTc = refl
reason_of-number_of WrongLength = refl
reason_of-number_of WrongSettings = refl
reason_of-number_of WrongMode = refl
reason_of-number_of FieldTooLarge = refl
reason_of-number_of BadNumber = refl
reason_of-number_of EntryCut = refl

pub number_of-injective : (r s : Reason) → number_of r ≡ number_of s → r ≡ s
number_of-injective r s e = sym (reason_of-number_of r) ∙ ap reason_of e ∙ reason_of-number_of s
