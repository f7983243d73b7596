-- What the loop over the rows keeps: the rows passed, their sums and their rate; and what `check_rows` promises.
use mathlib.Core.Path.{◌≡◌, refl, sym, ap, ◌∙◌}
use mathlib.Core.Logic.{inl, inr}
use mathlib.Core.List.{List, [], ◌∷◌, ◌++◌}
use Prim.Native.Nat.{ℕ, ◌+◌, ◌-◌, ◌*◌, ◌/◌, ◌%◌, ◌≤◌, ◌<◌}
use native.Mathlib.Omega.{arith}
use lib.ListN.{length, length-append}
use Rattle.std.specs.Prelude.{Result, Ok, Err}
use Rattle.std.specs.Simd.{first_chunks}
use Rattle.refusal.specs.Report.{refusal, report_of}
use Rattle.refusal.specs.declared.Reason.{Reason}
use Rattle.refusal.specs.declared.Refusal.{Refusal}
use Rattle.wire.specs.Frame.{agreed_rate, table, rate, kind_of, body_octets, wire_octets, sum_of}
use Rattle.wire.specs.Answers.{shape_of}
use Rattle.wire.specs.declared.Framing.{Framing}
use Rattle.wire.specs.declared.Framing.TheVariants.{Unframed}
use Rattle.wire.specs.declared.Row.{Row}
use Rattle.wire.specs.declared.Shape.{Shape}
use Rattle.wire.proofs.TableLaws.{bounds, count_most}
use Rattle.writer.specs.Rows.{Outcome, passed, refused, and_then, row_of, row_by_row, total, check_of}
use Rattle.writer.specs.Answers.{no_totals, row_check_of, rows_report}
use Rattle.writer.specs.Promise.{Checks}
use Rattle.writer.specs.Stages.{shape_checked, OneRate}
use Rattle.writer.specs.declared.Totals.{Totals}
use Rattle.writer.proofs.Pairs.{left, left_all}
use Rattle.writer.proofs.RowLaws.{all_snoc, Standing, Fit, Says, says}

-- what a row at this index comes to
abbrev pub placed : Result Shape Reason → ℕ → Result Shape Refusal
placed (Ok x) i = Ok x
placed (Err reason) i = Err (refusal reason i)

sum-snoc : (f : Row → ℕ) (xs : List Row) (x : Row) → sum_of f (xs ++ (x ∷ [])) ≡ sum_of f xs + f x
sum-snoc f [] x = omega arith
sum-snoc f (y ∷ xs) x = omega (arith, sum-snoc f xs x)

-- before the numbers unread of ns, rows are passed, whose totals are t; if another row follows, they are of the one rate s
pub record RowLoop (fr : Framing) (ns unread : List ℕ) (t : Totals) (s : ℕ) : Type 0 where
  pub earlier : List Row
  pub same : row_by_row fr earlier unread ≡ row_by_row fr [] ns
  pub numbers : 2 * t.rows + length unread ≡ length ns
  pub rows : t.rows ≡ length earlier
  pub bodies : t.bodies ≡ sum_of body_octets earlier
  pub wire : t.wire ≡ sum_of wire_octets earlier
  pub rated : 0 < length unread → OneRate fr s earlier
  pub less : t.bodies ≤ t.wire
  pub most : t.wire ≤ 268 * t.rows

pub loop_start : (fr : Framing) (ns : List ℕ) → length ns % 2 ≡ 0 → {pairs : List (List ℕ)} → pairs ≡ first_chunks 2 (length ns / 2) ns → (s : ℕ) → s ≡ agreed_rate fr → RowLoop fr ns (left pairs 0) no_totals s
loop_start fr ns even {pairs} e s q =
    let all : left pairs 0 ≡ ns = left_all ns even e in
    rw all (record {
      earlier = [];
      same = refl;
      numbers = omega arith;
      rows = refl;
      bodies = refl;
      wire = refl;
      rated = λ h. record { agreed = inr (sym q); same = tt; none = λ e. refl; some = λ e. q };
      less = omega arith;
      most = omega arith;
    })

-- a coder row behind rows of its rate, or the first
one_more : (fr : Framing) (xs : List Row) (x : Row) (later : ℕ) → Standing fr xs later x → 0 < later → OneRate fr (rate x) (xs ++ (x ∷ []))
one_more fr xs x later (inl w) h = absurd (omega (arith, w.1))
one_more fr xs x later (inr w) h = record { agreed = w.1; same = all_snoc (rate x) xs x w.2 refl; none = λ z. absurd (w.0 z); some = some xs }
  where
    some : (ys : List Row) → ys ++ (x ∷ []) ≡ [] → rate x ≡ agreed_rate fr
    some ys e = absurd (omega (arith, ap length e, length-append ys (x ∷ [])))

-- t, and a row of this shape
abbrev pub with_row : Totals → Shape → Totals
with_row t y = record { rows = t.rows + 1; bodies = t.bodies + y.body; wire = t.wire + y.wire }

-- a row of this shape is passed: its sizes, and what the loop keeps
pub record Onward (fr : Framing) (ns : List ℕ) (behind : List ℕ) (t : Totals) (y : Shape) : Type 0 where
  pub small : y.wire ≤ 268
  pub within : y.body ≤ y.wire
  pub then : RowLoop fr ns behind (with_row t y) y.entry.rate

module _ (fr : Framing) (ns unread : List ℕ) (t : Totals) (s : ℕ) (h : RowLoop fr ns unread t s) where
  module _ (number tc : ℕ) (behind : List ℕ) (split : unread ≡ number ∷ tc ∷ behind) where
    -- the row there
    here : Outcome Row
    here = row_of fr h.earlier (length behind) (kind_of (number)) tc

    goes : row_by_row fr [] ns ≡ and_then here (λ x. row_by_row fr (h.earlier ++ (x ∷ [])) behind)
    unfolding here
    goes = sym h.same ∙ ap (row_by_row fr h.earlier) split

    said : Says fr h.earlier (length behind) (kind_of (number)) tc here
    unfolding here
    said = says fr h.earlier (length behind) (kind_of (number)) tc

    -- the numbers behind it
    later_is : length ns - 2 * t.rows - 2 ≡ length behind
    later_is = omega (arith, h.numbers, ap length split)

    -- and there are two at least
    pub two_left : 2 * t.rows + 2 ≤ length ns
    two_left = omega (arith, h.numbers, ap length split)

    -- what the code's check of the row answers
    module _ {f : Result Shape Reason} (e : (xs : List Row) → OneRate fr s xs → f ≡ shape_checked fr (row_of fr xs (length ns - 2 * t.rows - 2) (kind_of number) tc)) {g : Result Shape Refusal} (q : g ≡ placed f t.rows) where
      is : g ≡ placed (shape_checked fr here) t.rows
      unfolding here
      is =
          q
          ∙ ap (λ (r : Result Shape Reason). placed r t.rows) (e h.earlier (h.rated (omega (arith, ap length split))))
          ∙ ap (λ (later : ℕ). placed (shape_checked fr (row_of fr h.earlier later (kind_of (number)) tc)) t.rows) later_is

      pub loop_refused : (y : Refusal) → g ≡ Err y → Err y ≡ row_check_of (and_then (row_by_row fr [] ns) total)
      loop_refused y a = go here refl said (sym a ∙ is)
        where
          go : (o : Outcome Row) → here ≡ o → Says fr h.earlier (length behind) (kind_of (number)) tc o → Err y ≡ placed (shape_checked fr o) t.rows
              → Err y ≡ row_check_of (and_then (row_by_row fr [] ns) total)
          go (passed x) p w d = absurd cc
          go (refused reason place) p w d =
              let same : y ≡ refusal reason t.rows = cc in
              let row : t.rows ≡ place = h.rows ∙ sym w in
              rw (goes, p, same, row)

      onward_of : (x : Row) → here ≡ passed x → Onward fr ns behind t (shape_of fr x)
      onward_of x q = go (rw q at said)
        where
          go : Fit fr h.earlier (length behind) (kind_of (number)) tc x → Onward fr ns behind t (shape_of fr x)
          go fit =
              let k = bounds x.kind in
              let small : wire_octets x ≤ 268 = omega (arith, fit.legal.most, count_most (table x.kind).counting x.tc) in
              record {
                small = small;
                within = omega arith;
                then = record {
                  earlier = h.earlier ++ (x ∷ []);
                  same = sym (goes ∙ ap (λ (o : Outcome Row). and_then o (λ y. row_by_row fr (h.earlier ++ (y ∷ [])) behind)) q);
                  numbers = omega (arith, h.numbers, ap length split);
                  rows = omega (arith, h.rows, length-append h.earlier (x ∷ []));
                  bodies = omega (arith, h.bodies, sum-snoc body_octets h.earlier x);
                  wire = omega (arith, h.wire, sum-snoc wire_octets h.earlier x);
                  rated = λ l. one_more fr h.earlier x (length behind) fit.stands l;
                  less = omega (arith, h.less);
                  most = omega (arith, h.most);
                };
              }

      pub onward : (y : Shape) → g ≡ Ok y → Onward fr ns behind t y
      onward y a = go here refl (sym a ∙ is)
        where
          go : (o : Outcome Row) → here ≡ o → Ok y ≡ placed (shape_checked fr o) t.rows → Onward fr ns behind t y
          go (passed x) p d = let same : y ≡ shape_of fr x = cc in rw same (onward_of x p)
          go (refused reason place) p d = absurd cc

-- ---- what the public function promises

pub checks : (ns : List ℕ) (r : Result Totals Refusal) → r ≡ row_check_of (check_of Unframed ns) → Checks ns r
checks ns r e = record { answer = e; numbers = ap (report_of no_totals) e ∙ go (check_of Unframed ns) }
  where
    go : (o : Outcome (List Row)) → report_of no_totals (row_check_of o) ≡ rows_report o
    go (passed xs) = refl
    go (refused n place) = refl
