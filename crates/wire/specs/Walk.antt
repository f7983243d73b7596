-- docs/FORMAT.md, "Reading" and "Sessions": the walk from a payload's end to its front. It fixes WHICH refusal is given, and nothing
-- else: whether one is given is said by `Legal` and `octets_of` of Frame, and proofs/ shows that the two agree.
use Rattle.std.specs.Prelude.{Bool, cond, List, [], ◌∷◌, ℕ, zero, suc, ◌+◌, ◌-◌, ltb, eqb, length, get_or, set, take, drop, Result, Ok, Err}
use Rattle.refusal.specs.declared.Reason.{Reason}
use Rattle.refusal.specs.declared.Reason.TheVariants.{TooLong, FrameCut, ReservedBits, LongCountZero, ComfortNoiseNotLast, AugmentationNot2400, RatesMixed}
use Rattle.wire.specs.Frame.{Frame, row, base, code, top, rate, is_short, body_octets, wire_octets, rows_of, agreed_rate}
use Rattle.wire.specs.declared.Framing.{Framing}
use Rattle.wire.specs.declared.Framing.TheVariants.{Unframed, Framed2400, Framed600}
use Rattle.wire.specs.declared.Kind.{Kind}
use Rattle.wire.specs.declared.Kind.TheVariants.{Bps2400, Bps1200, Bps600, ComfortNoise, Tsvcis, TsvcisLong}
use Rattle.wire.specs.declared.Row.{Row}

-- the kind that a last octet below 128 names; "Where agreed, a last octet below 128 is a frame of that rate"
abbrev pub low_kind : Framing → ℕ → Kind
low_kind Unframed x = cond (ltb x 64) Bps2400 Bps600
low_kind Framed2400 x = Bps2400
low_kind Framed600 x = Bps600

-- what a last octet below 255 names; 3: "a last octet of 130 to 159"
unfoldable pub named : Framing → ℕ → Result Row Reason
named fr x =
    cond (ltb x 128) (Ok (row (low_kind fr x) 0))
    (cond (ltb x 130) (Ok (row Bps1200 0))
    (cond (ltb x 160) (Err ReservedBits)
    (cond (ltb x 192) (Ok (row ComfortNoise 0)) (Ok (row Tsvcis (15 + (x - 192)))))))

-- what the octet before a last octet of 255 names; 4
unfoldable pub counted : ℕ → Result Row Reason
counted t = cond (eqb t 0) (Err LongCountZero) (cond (is_short t) (Ok (row TsvcisLong t)) (Ok (row Tsvcis t)))

-- what the last of u unread octets names; 2 "if it is 255 and stands alone", and where nothing is unread
unfoldable pub ending : Framing → List ℕ → ℕ → Result Row Reason
ending fr p u =
    cond (eqb u 0) (Err FrameCut)
    (cond (ltb (get_or p (u - 1) 0) 255) (named fr (get_or p (u - 1) 0)) (cond (eqb u 1) (Err FrameCut) (counted (get_or p (u - 2) 0))))

-- 2 "if fewer octets are left than the frame needs"; 7 "if the base's last octet is over 63", where framing is agreed
-- over 127. (Where the base is all of the frame, its last octet has named it, and is not over what its kind has there.)
unfoldable pub whole : Framing → List ℕ → ℕ → Result Row Reason → Result Row Reason
whole fr p u (Err n) = Err n
whole fr p u (Ok x) =
    cond (ltb u (wire_octets x)) (Err FrameCut)
    (cond (ltb (code fr x + top fr x) (get_or p (u - wire_octets x + (base x - 1)) 0)) (Err AugmentationNot2400) (Ok x))

-- the frame that the first u octets end in
unfoldable pub last_frame : Framing → List ℕ → ℕ → Result Row Reason
last_frame fr p u = whole fr p u (ending fr p u)

-- comfort noise, the one kind without a rate
abbrev pub is_noise : Row → Bool
is_noise x = eqb (rate x) 0

-- the rate of the coder frames among rows; r where there are none
abbrev pub rate_of : ℕ → List Row → ℕ
rate_of r [] = r
rate_of r (x ∷ behind) = cond (is_noise x) (rate_of r behind) (rate x)

-- 6 "if it is comfort noise and a later frame was read"; 8 "against coder frames already read": n frames were read, and r is the rate
-- of the coder frames among them, or where there are none the rate agreed, or 0. (6 and 7 are refusals of different kinds, so it does not
-- matter which is looked for first.)
unfoldable pub beside : ℕ → ℕ → Result Row Reason → Result Row Reason
beside n r (Err m) = Err m
beside n r (Ok x) =
    cond (is_noise x) (cond (eqb n 0) (Ok x) (Err ComfortNoiseNotLast))
    (cond (eqb r 0) (Ok x) (cond (eqb (rate x) r) (Ok x) (Err RatesMixed)))

-- the frame of row x whose octets start at a: its body is they, the rate code bits cleared, the count left off
abbrev pub frame_at : Framing → List ℕ → ℕ → Row → Frame
frame_at fr p a x = record { row = x; body = set (take (body_octets x) (drop a p)) (base x - 1) (get_or p (a + (base x - 1)) 0 - code fr x) }

-- where the walk is: u octets are unread and the frames behind them read; or it refused, with a reason and the octets
-- unread ("place"), the frames behind them beside it
pub data Walk : Type 0 where
  at : ℕ → List Frame → Walk
  refused : Reason → ℕ → List Frame → Walk

-- the walk goes over what it found at the end of u unread octets
abbrev pub over : Framing → List ℕ → ℕ → List Frame → Result Row Reason → Walk
over fr p u behind (Err n) = refused n u behind
over fr p u behind (Ok x) = at (u - wire_octets x) (frame_at fr p (u - wire_octets x) x ∷ behind)

-- one frame
abbrev pub next : Framing → List ℕ → Walk → Walk
next fr p (at zero behind) = at zero behind
next fr p (at (suc u) behind) = over fr p (suc u) behind (beside (length behind) (rate_of (agreed_rate fr) (rows_of behind)) (last_frame fr p (suc u)))
next fr p (refused n place behind) = refused n place behind

-- as many frames as given
abbrev pub run : Framing → ℕ → List ℕ → Walk → Walk
run fr zero p w = w
run fr (suc n) p w = run fr n p (next fr p w)

-- "Reader: 1 first. Then from the end": the frames, as `at 0 fs`, or a refusal
unfoldable pub read_of : Framing → List ℕ → Walk
read_of fr p = cond (ltb 1400 (length p)) (refused TooLong 1400 []) (run fr (length p) p (at (length p) []))
