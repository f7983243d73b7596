-- What the private functions ask of one another and hand on. No public promise reaches this file.
use Rattle.std.specs.Prelude.{◌≡◌, cond, List, [], ◌∷◌, ◌++◌, ℕ, ◌+◌, ◌-◌, ◌*◌, ◌≤◌, ◌<◌, eqb, get_or, set, Option, Some, None, Result, Ok, Err}
use Rattle.refusal.specs.Report.{refusal}
use Rattle.refusal.specs.declared.Refusal.{Refusal}
use Rattle.wire.specs.Frame.{LegalRows, table, kind_of, numbers_of, wire_octets, ticks, ticks_of_rate}
use Rattle.wire.specs.declared.Framing.TheVariants.{Unframed}
use Rattle.wire.specs.declared.Kind.{Kind}
use Rattle.wire.specs.declared.Row.{Row}
use Rattle.writer.specs.Rows.{Outcome, passed, refused, check_of}
use Rattle.record.specs.Afresh.{record_of}
use Rattle.record.specs.Promise.{MadeFrom}
use Rattle.record.specs.declared.Record.{Record}

-- ---- one row more, one row less

-- another row has its place, and its sums fit
pub record Within (p : Record) : Type 0 where
  pub rows : p.rows < 200
  pub octets : p.octets ≤ 1400
  pub ticks : p.ticks ≤ 144000

-- the record p with the row x behind its rows
abbrev pub with_row : Record → Row → Record
with_row p x = record {
  numbers = set (set p.numbers (2 * p.rows) (table x.kind).number) (2 * p.rows + 1) x.tc;
  starts = set p.starts p.rows p.octets;
  rows = p.rows + 1;
  octets = p.octets + wire_octets x;
  ticks = p.ticks + ticks x;
}

-- the ticks of a row of this kind, if it is one
unfoldable pub ticks_if : Option Kind → ℕ
ticks_if None = 0
ticks_if (Some k) = ticks_of_rate (table k).rate

-- the record p without the row at a, its last
abbrev pub without_last : Record → ℕ → Record
without_last p a = record {
  numbers = set (set p.numbers (2 * a) 0) (2 * a + 1) 0;
  starts = set p.starts a 0;
  rows = a;
  octets = get_or p.starts a 0;
  ticks = p.ticks - ticks_if (kind_of (get_or p.numbers (2 * a) 0));
}

-- ---- a row at the end

-- the numbers of the last row; none where there is no row
unfoldable pub end_numbers : Record → List ℕ
end_numbers p = cond (eqb p.rows 0) [] (get_or p.numbers (2 * (p.rows - 1)) 0 ∷ get_or p.numbers (2 * (p.rows - 1) + 1) 0 ∷ [])

-- a refusal of the last row or of a new one, 0 or 1, at the row's place among all rows
abbrev pub among_all : Record → Refusal → Refusal
among_all p x = refusal x.reason (cond (eqb x.place 0) (p.rows - 1) p.rows)

-- the outcome of the writer's checks of all rows: of these rows and one more
abbrev pub Tells : List Row → Outcome (List Row) → Result Row Refusal → Type 0
Tells xs o (Ok x) = o ≡ passed (xs ++ (x ∷ []))
Tells xs o (Err y) = o ≡ refused y.reason y.place

-- a row behind those of a record made from rows
abbrev pub Behind : Record → ℕ → ℕ → Result Row Refusal → Type 0
Behind p k t r = (xs : List Row) → MadeFrom xs p → Tells xs (check_of Unframed (numbers_of xs ++ (k ∷ t ∷ []))) r

-- ---- afresh

-- numbers hold these rows, which are in order
pub record Holds (ns : List ℕ) (xs : List Row) : Type 0 where
  pub legal : LegalRows Unframed xs
  pub numbers : ns ≡ numbers_of xs

-- the record is that of the rows that numbers hold
abbrev pub Afresh : List ℕ → Record → Type 0
Afresh ns r = (xs : List Row) → Holds ns xs → r ≡ record_of xs
