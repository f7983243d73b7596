-- docs/FORMAT.md, "Views" and "Sessions": where the frame of a row stands in a payload, and the parts of lent memory that are shown of it.
use Rattle.std.specs.Prelude.{◌≡◌, Bool, true, false, cond, not, List, [], ◌∷◌, ◌++◌, ℕ, zero, suc, ◌+◌, ◌≤◌, eqb, length, take, drop, Option, Some, None}
use Rattle.octets.specs.Part.{Part, part, empty_part}
use Rattle.wire.specs.Frame.{Frame, table, framing_of, base, wire_octets, wire, octets_of, rows_of, Legal}
use Rattle.wire.specs.Walk.{Walk, at, refused, read_of}
use Rattle.wire.specs.declared.Session.{Session}
use Rattle.wire.specs.declared.Framing.{Framing}
use Rattle.wire.specs.declared.Entry.{Entry}
use Rattle.wire.specs.declared.Row.{Row}
use Rattle.views.specs.declared.Span.{Span}
use Rattle.views.specs.declared.Location.{Location}

-- ---- where the frame of a row stands

-- so many octets of the payload, from an index on
abbrev pub span : ℕ → ℕ → Span
span a n = record { start = a; length = n }

-- "the empty part at the payload's start"
abbrev pub empty_span : Span
empty_span = span 0 0

-- a kind that has augmentation, by its entry in the table: its TC can be more than 0. Of kinds 1 to 6 these are 5 and 6
abbrev pub is_augmented : Entry → Bool
is_augmented e = not (eqb e.most 0)

-- the augmentation of a frame of entry e and TC t whose octets start at a: what stands behind its base; of a kind that has none,
-- "the empty part at the payload's start"
abbrev pub augmentation_at : ℕ → Entry → ℕ → Span
augmentation_at a e t = cond (is_augmented e) (span (a + e.octets) t) empty_span

-- the location of the frame of row x whose octets start at a
abbrev pub location_at : ℕ → Row → Location
location_at a x = record { frame = span a (wire_octets x); augmentation = augmentation_at a (table x.kind) x.tc }

-- row i of rows whose frames' octets start at a
abbrev pub location_in : ℕ → List Row → ℕ → Option Location
location_in a [] i = None
location_in a (x ∷ xs) zero = Some (location_at a x)
location_in a (x ∷ xs) (suc i) = location_in (a + wire_octets x) xs i

-- the location of a row; none "if the payload is refused or the row missing"
unfoldable pub location_of : Walk → ℕ → Option Location
location_of (refused x place behind) i = None
location_of (at u fs) i = location_in 0 (rows_of fs) i

-- the same of a payload p in a session; none too where "any other agreed rate" is refused, "before all else"
abbrev pub location_by : Option Framing → List ℕ → ℕ → Option Location
location_by None p i = None
location_by (Some fr) p i = location_of (read_of fr p) i

-- the values for each case, 0 for all where there is none; there is no refusal number: "who needs it asks the reader"
abbrev pub location_values : Option Location → Location
location_values None = record { frame = empty_span; augmentation = empty_span }
location_values (Some x) = x

-- ---- what legal sequences say of a row

-- a legal sequence gives the payload p, and f is its frame of this row, with the frames gs before it
pub record HasRow (fr : Framing) (p : List ℕ) (row : ℕ) (gs : List Frame) (f : Frame) : Type 0 where
  pub behind : List Frame
  pub legal : Legal fr (gs ++ (f ∷ behind))
  pub gives : octets_of fr (gs ++ (f ∷ behind)) ≡ p
  pub number : row ≡ length gs

-- the payload p has no such row: no legal sequence gives it, or the one that does has too few frames
abbrev pub NoRow : Framing → List ℕ → ℕ → Type 0
NoRow fr p row = (fs : List Frame) → Legal fr fs → octets_of fr fs ≡ p → length fs ≤ row

-- what `locate` promises of a payload p in a session
pub record Locates (ses : Session) (p : List ℕ) (row : ℕ) (r : Option Location) : Type 0 where
  pub answer : r ≡ location_by (framing_of ses) p row
  pub values : location_values r ≡ location_values (location_by (framing_of ses) p row)
  pub found : (fr : Framing) → framing_of ses ≡ Some fr → (gs : List Frame) (f : Frame) → HasRow fr p row gs f
      → r ≡ Some (location_at (length (octets_of fr gs)) f.row)
  pub missing : (fr : Framing) → framing_of ses ≡ Some fr → NoRow fr p row → r ≡ None

-- ---- the views

-- a span of the lent part p
abbrev pub part_at : {A : Type 0} → Span → Part A → Part A
part_at x p = record { block = p.block; start = p.start + x.start; octets = take x.length (drop x.start p.octets) }

-- "the augmentation is handed back as a part of the payload itself"
abbrev pub augmentation_of : {A : Type 0} → Option Location → Part A → Part A
augmentation_of x p = part_at (location_values x).augmentation p

-- "the row's own wire octets, or .. the whole stand-in": of the payload p and the stand-in s
abbrev pub frame_or : {A : Type 0} → Option Location → Part A → Part A → Part A
frame_or None p s = s
frame_or (Some x) p s = part_at x.frame p

-- what `augmentation` promises of a payload p in a session and the part r that it returns
pub record AugmentationView {A : Type 0} (ses : Session) (row : ℕ) (p r : Part A) : Type 0 where
  pub answer : r ≡ augmentation_of (location_by (framing_of ses) p.octets row) p
  -- of a frame whose kind has augmentation: what stands in its body behind the base, where it stands in the payload
  pub shown : (fr : Framing) → framing_of ses ≡ Some fr → (gs : List Frame) (f : Frame) → HasRow fr p.octets row gs f
      → is_augmented (table f.row.kind) ≡ true
      → r ≡ record { block = p.block; start = p.start + (length (octets_of fr gs) + base f.row); octets = drop (base f.row) f.body }
  -- of any other
  pub none : (fr : Framing) → framing_of ses ≡ Some fr → (gs : List Frame) (f : Frame) → HasRow fr p.octets row gs f
      → is_augmented (table f.row.kind) ≡ false → r ≡ empty_part p
  -- of either: all of its body that stands behind the base
  pub all : (fr : Framing) → framing_of ses ≡ Some fr → (gs : List Frame) (f : Frame) → HasRow fr p.octets row gs f
      → r.octets ≡ drop (base f.row) f.body
  pub missing : (fr : Framing) → framing_of ses ≡ Some fr → NoRow fr p.octets row → r ≡ empty_part p

-- what `frame_or` promises of a payload p in a session, a stand-in s and the part r that it returns
pub record FrameView {A : Type 0} (ses : Session) (row : ℕ) (p s r : Part A) : Type 0 where
  pub answer : r ≡ frame_or (location_by (framing_of ses) p.octets row) p s
  -- the frame's octets, where they stand in the payload
  pub shown : (fr : Framing) → framing_of ses ≡ Some fr → (gs : List Frame) (f : Frame) → HasRow fr p.octets row gs f
      → r ≡ record { block = p.block; start = p.start + length (octets_of fr gs); octets = wire fr f }
  pub missing : (fr : Framing) → framing_of ses ≡ Some fr → NoRow fr p.octets row → r ≡ s

-- what `augmentation` promises, of the code's pointers
abbrev pub AugmentationShown : {A : Type 0} → Session → ℕ → A → ℕ → List ℕ → A → ℕ → List ℕ → Type 0
AugmentationShown ses row pb pa p rb ra r = AugmentationView ses row (part pb pa p) (part rb ra r)

-- what `frame_or` promises, of the code's pointers
abbrev pub FrameShown : {A : Type 0} → Session → ℕ → A → ℕ → List ℕ → A → ℕ → List ℕ → A → ℕ → List ℕ → Type 0
FrameShown ses row pb pa p sb sa s rb ra r = FrameView ses row (part pb pa p) (part sb sa s) (part rb ra r)

-- ---- the views of all rows, one after another

-- a list as a part of a block of its own
abbrev pub alone : List ℕ → Part (Unit {0})
alone xs = record { block = tt; start = 0; octets = xs }

-- the octets of the views of the first n rows, of the payload p and the stand-in s
unfoldable pub shown_of : Framing → List ℕ → List ℕ → ℕ → List ℕ
shown_of fr p s zero = []
shown_of fr p s (suc n) = shown_of fr p s n ++ (frame_or (location_of (read_of fr p) n) (alone p) (alone s)).octets
