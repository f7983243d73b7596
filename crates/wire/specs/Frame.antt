-- docs/FORMAT.md, "Frames", "Sessions" and "Legal sequences", said forwards: the table of kinds, rows, frames, the octets that frames
-- give, and the legal sequences. Nothing here says how octets are read.
use Rattle.std.specs.Prelude.{◌≡◌, Bool, cond, ◌&&◌, ◌||◌, ◌⊎◌, List, [], ◌∷◌, ◌++◌, ℕ, zero, suc, ◌+◌, ◌-◌, ◌≤◌, leb, ltb, eqb, length, get_or, set, Option, Some, None}
use Rattle.octets.specs.Octet.{Octets}
use Rattle.wire.specs.declared.Session.{Session}
use Rattle.wire.specs.declared.Session.TheVariants.{NotAgreed, Agreed}
use Rattle.wire.specs.declared.Framing.{Framing}
use Rattle.wire.specs.declared.Framing.TheVariants.{Unframed, Framed2400, Framed600}
use Rattle.wire.specs.declared.Kind.{Kind}
use Rattle.wire.specs.declared.Kind.TheVariants.{Bps2400, Bps1200, Bps600, ComfortNoise, Tsvcis, TsvcisLong}
use Rattle.wire.specs.declared.Counting.{Counting}
use Rattle.wire.specs.declared.Counting.TheVariants.{Uncounted, ShortOrLong, Long}
use Rattle.wire.specs.declared.Entry.{Entry}
use Rattle.wire.specs.declared.Row.{Row}

-- the kinds, in the order of their numbers
abbrev pub kinds : List Kind
kinds = Bps2400 ∷ Bps1200 ∷ Bps600 ∷ ComfortNoise ∷ Tsvcis ∷ TsvcisLong ∷ []

-- a kind without augmentation: its number, the octets of its frame, the rate code bits that the wire adds to their last one and the
-- most that the body has there, its bits a second
abbrev pub plain_entry : ℕ → ℕ → ℕ → ℕ → ℕ → Entry
plain_entry n o c t r = record { number = n; octets = o; code = c; top = t; rate = r; least = 0; most = 0; counting = Uncounted }

-- a kind with augmentation, which opens with a 2400 bps frame: its number, the least and the most TC, and how it is counted
abbrev pub augmented_entry : ℕ → ℕ → ℕ → Counting → Entry
augmented_entry n l m c = record { number = n; octets = 7; code = 0; top = 63; rate = 2400; least = l; most = m; counting = c }

-- the table "The five frames on the wire", and kind 6; "Its last octet is at most 63, 1, 63 and 31 for kinds 1 to 4"; comfort noise has no rate
abbrev pub table : Kind → Entry
table Bps2400 = plain_entry 1 7 0 63 2400
table Bps1200 = plain_entry 2 11 128 1 1200
table Bps600 = plain_entry 3 7 64 63 600
table ComfortNoise = plain_entry 4 2 160 31 0
table Tsvcis = augmented_entry 5 1 255 ShortOrLong
table TsvcisLong = augmented_entry 6 15 77 Long

-- the kind of a number, looked up among kinds
abbrev pub look_up : ℕ → List Kind → Option Kind
look_up n [] = None
look_up n (k ∷ ks) = cond (eqb (table k).number n) (Some k) (look_up n ks)

-- the kind of a number in a row, if it is one
abbrev pub kind_of : ℕ → Option Kind
kind_of n = look_up n kinds

-- ---- sessions

-- the framings, one for each legal session record
abbrev pub framings : List Framing
framings = Unframed ∷ Framed2400 ∷ Framed600 ∷ []

-- the framing of a session record, if it is a legal one: "framing not agreed, or agreed with the rate 2400 or 600"
abbrev pub framing_of : Session → Option Framing
framing_of NotAgreed = Some Unframed
framing_of (Agreed r) = cond (eqb r 2400) (Some Framed2400) (cond (eqb r 600) (Some Framed600) None)

-- the rate agreed; 0 where framing is not
abbrev pub agreed_rate : Framing → ℕ
agreed_rate Unframed = 0
agreed_rate Framed2400 = 2400
agreed_rate Framed600 = 600

-- a rate that the coder frames of a legal sequence may have: any, or where framing is agreed "that rate"
abbrev pub AgreedOn : Framing → ℕ → Type 0
AgreedOn fr r = (agreed_rate fr ≡ 0) ⊎ (agreed_rate fr ≡ r)

-- "Where agreed, .. bit 55 stays in the body (last body octet at most 127, a TSVCIS base included) and is no rate code bit": of the
-- kinds whose base ends below 128
abbrev pub keeps_bit_55 : Framing → Entry → Bool
keeps_bit_55 fr e = ltb 0 (agreed_rate fr) && ltb (e.code + e.top) 128

-- a kind's entry in a session
abbrev pub entry_in : Framing → Entry → Entry
entry_in fr e = record {
  number = e.number;
  octets = e.octets;
  code = cond (keeps_bit_55 fr e) 0 e.code;
  top = cond (keeps_bit_55 fr e) 127 e.top;
  rate = e.rate;
  least = e.least;
  most = e.most;
  counting = e.counting;
}

-- ---- counts and ticks

-- the TC that a short count can say
abbrev pub is_short : ℕ → Bool
is_short t = leb 15 t && leb t 77

-- "count": none; "Short count: one octet 192 + (TC - 15), for TC 15 to 77", else "Long count: the octet TC, then 255"; the long count
-- for every TC
unfoldable pub count_in : Counting → ℕ → List ℕ
count_in Uncounted t = []
count_in ShortOrLong t = cond (is_short t) ((192 + (t - 15)) ∷ []) (t ∷ 255 ∷ [])
count_in Long t = t ∷ 255 ∷ []

-- "2400, 1200, 600", and no other number
unfoldable pub is_rate : ℕ → Bool
is_rate r = eqb r 2400 || eqb r 1200 || eqb r 600

-- "A coder frame lasts 180, 540 or 720 ticks at 2400, 1200, 600"; no other number is a rate, and 0 stands for it
unfoldable pub ticks_of_rate : ℕ → ℕ
ticks_of_rate r = cond (eqb r 2400) 180 (cond (eqb r 1200) 540 (cond (eqb r 600) 720 0))

-- ---- rows

-- "row": a kind and a TC
abbrev pub row : Kind → ℕ → Row
row k t = record { kind = k; tc = t }

-- the octets of its base
abbrev pub base : Row → ℕ
base x = (table x.kind).octets

-- the rate code bits in the base's last octet
abbrev pub code : Framing → Row → ℕ
code fr x = (entry_in fr (table x.kind)).code

-- the most that its body has in the base's last octet
abbrev pub top : Framing → Row → ℕ
top fr x = (entry_in fr (table x.kind)).top

-- its rate; 0 of comfort noise
abbrev pub rate : Row → ℕ
rate x = (table x.kind).rate

-- its ticks; "Comfort noise adds 0"
abbrev pub ticks : Row → ℕ
ticks x = ticks_of_rate (rate x)

-- its count
abbrev pub count_of : Row → List ℕ
count_of x = count_in (table x.kind).counting x.tc

-- the octets of its body: "7 + TC octets" of a TSVCIS frame
abbrev pub body_octets : Row → ℕ
body_octets x = base x + x.tc

-- the octets that it takes on the wire: "all TC + 8 octets long", "all TC + 9 octets long"
abbrev pub wire_octets : Row → ℕ
wire_octets x = body_octets x + length (count_of x)

-- "TC (0 for kinds 1 to 4)", "1 to 255" of kind 5, "TC 15 to 77" of kind 6
pub record LegalRow (x : Row) : Type 0 where
  pub least : (table x.kind).least ≤ x.tc
  pub most : x.tc ≤ (table x.kind).most

-- a number of each row, added up
abbrev pub sum_of : (Row → ℕ) → List Row → ℕ
sum_of f [] = 0
sum_of f (x ∷ xs) = f x + sum_of f xs

-- what may stand before others in a sequence of rate r, by its own rate: comfort noise, which has none, before nothing; "coder
-- frames (kinds 1, 2, 3, 5) of one rate", and "kind 6, rate 2400"
abbrev pub Stands : ℕ → ℕ → List Row → Type 0
Stands r zero behind = behind ≡ []
Stands r (suc s) behind = suc s ≡ r

-- legal rows, each of which may stand where it stands in a sequence of rate r
abbrev pub OfRate : ℕ → List Row → Type 0
OfRate r [] = Unit {0}
OfRate r (x ∷ behind) = LegalRow x × Stands r (rate x) behind × OfRate r behind

-- the rows of a "legal sequence": coder frames of one rate, then at most one comfort noise frame, at most 1,400 octets in all; where
-- framing is agreed, "The coder frames of a legal sequence are then all of that rate"
pub record LegalRows (fr : Framing) (xs : List Row) : Type 0 where
  pub common : ℕ
  pub agreed : AgreedOn fr common
  pub rated : OfRate common xs
  pub total : sum_of wire_octets xs ≤ 1400

-- ---- frames

-- "A frame is given by its kind, its TC .. and its body"
pub record Frame : Type 0 where
  pub row : Row
  pub body : List ℕ

-- a body "within the limits": its length, "Its last octet is at most 63, 1, 63 and 31 for kinds 1 to 4", of a TSVCIS body its
-- seventh (where framing is agreed "at most 127" for 63), and octets
pub record LegalBody (fr : Framing) (x : Row) (b : List ℕ) : Type 0 where
  pub size : length b ≡ body_octets x
  pub end : get_or b (base x - 1) 0 ≤ top fr x
  pub octets : Octets b

-- "The octets of a frame": its body, with the rate code bits set in the base's last octet, then its count
abbrev pub wire_of : Framing → Row → List ℕ → List ℕ
wire_of fr x b = set b (base x - 1) (get_or b (base x - 1) 0 + code fr x) ++ count_of x

-- the octets of a frame
abbrev pub wire : Framing → Frame → List ℕ
wire fr f = wire_of fr f.row f.body

-- "A sequence gives the octets of its frames one after another, oldest first"
abbrev pub octets_of : Framing → List Frame → List ℕ
octets_of fr [] = []
octets_of fr (f ∷ fs) = wire fr f ++ octets_of fr fs

-- "Bodies stand one after another"
abbrev pub bodies_of : List Frame → List ℕ
bodies_of [] = []
bodies_of (f ∷ fs) = f.body ++ bodies_of fs

-- the rows of a sequence
abbrev pub rows_of : List Frame → List Row
rows_of [] = []
rows_of (f ∷ fs) = f.row ∷ rows_of fs

-- "Rows are lent as 16-bit numbers, two a frame, oldest first: kind, then TC"
abbrev pub numbers_of : List Row → List ℕ
numbers_of [] = []
numbers_of (x ∷ xs) = (table x.kind).number ∷ x.tc ∷ numbers_of xs

-- bodies "within the limits"
abbrev pub LegalBodies : Framing → List Frame → Type 0
LegalBodies fr [] = Unit {0}
LegalBodies fr (f ∷ fs) = LegalBody fr f.row f.body × LegalBodies fr fs

-- "legal sequence"
pub record Legal (fr : Framing) (fs : List Frame) : Type 0 where
  pub rows : LegalRows fr (rows_of fs)
  pub bodies : LegalBodies fr fs
