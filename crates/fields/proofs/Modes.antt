-- Laws of the modes, and of widths that the code relies on.
use mathlib.Core.Path.{◌≡◌, refl, sym, ap, ◌∙◌}
use mathlib.Core.Bool.{Bool, true, false, ◌&&◌}
use mathlib.Core.List.{List, [], flatten}
use Prim.Native.Nat.{ℕ, ◌-◌, ◌≤◌, ◌<◌}
use native.Mathlib.Decide.{dec_lt}
use native.Mathlib.Omega.{arith}
use borrow.Author.Tests.{le-leb, lt-leb, leb-true, eqb-true}
use lib.Dec.{leb, eqb}
use lib.ListN.{length, get_or}
use Rattle.std.specs.List.{list_all}
use Rattle.std.proofs.lemmas.Bool.{and_parts}
use Rattle.std.proofs.lemmas.List.Sums.{AllPass-from_list_all}
use Rattle.fields.specs.Table.{run, consecutive}
use Rattle.fields.specs.Modes.{is_mode, widths, widths_of, table_of, count_of}
use Rattle.fields.specs.Widths.{IsWidths, HasWidths}
use Rattle.fields.specs.RoundTrip.{total, EachOnce}
use Rattle.fields.proofs.Tables.{length-consecutive, flatten-consecutive, consecutive_once}

-- each mode's widths are such, by one test over the whole table
one_to_eight : ℕ → Bool
one_to_eight w = leb 1 w && leb w 8

ruled : List ℕ → Bool
ruled ws = eqb (total ws) 54 && list_all one_to_eight ws

is_ruled : (ws : List ℕ) → ruled ws ≡ true → IsWidths ws
unfolding ruled one_to_eight
is_ruled ws h =
    let parts : (eqb (total ws) 54 ≡ true) × (list_all one_to_eight ws ≡ true) = and_parts _ _ h in
    record {
      sum = eqb-true (total ws) 54 parts.0;
      each = λ i l.
          let w : ℕ = get_or ws i 0 in
          let both : (leb 1 w ≡ true) × (leb w 8 ≡ true) = and_parts _ _ (AllPass-from_list_all one_to_eight ws parts.1 i 0 l) in
          (leb-true 1 w both.0, leb-true w 8 both.1);
    }

widths_ruled : list_all ruled widths ≡ true
unfolding widths ruled one_to_eight total
widths_ruled = refl

-- what holds of each list of the table holds of a mode's
every_mode : (test : List ℕ → Bool) → list_all test widths ≡ true → (mode : ℕ) → is_mode mode ≡ true → test (widths_of mode) ≡ true
unfolding is_mode widths_of
every_mode test t mode m =
    let parts : (leb 1 mode ≡ true) × (leb mode (length widths) ≡ true) = and_parts _ _ m in
    let from : 1 ≤ mode = leb-true 1 mode parts.0 in
    let to : mode ≤ length widths = leb-true mode (length widths) parts.1 in
    AllPass-from_list_all test widths t (mode - 1) [] (omega arith)

pub mode_ruled : (mode : ℕ) → is_mode mode ≡ true → IsWidths (widths_of mode)
mode_ruled mode m = is_ruled (widths_of mode) (every_mode ruled widths_ruled mode m)

-- a body's bits are a mode's fields', each once
pub mode_once : (mode : ℕ) → is_mode mode ≡ true → EachOnce (table_of mode)
unfolding table_of
mode_once mode m = consecutive_once (widths_of mode) (mode_ruled mode m).sum

-- no mode has more fields than eleven
few : List ℕ → Bool
few ws = leb (length ws) 11

widths_few : list_all few widths ≡ true
unfolding widths few
widths_few = refl

pub mode_count : (mode : ℕ) → is_mode mode ≡ true → count_of mode ≤ 11
unfolding count_of table_of few
mode_count mode m = omega (arith, length-consecutive 0 (widths_of mode), leb-true (length (widths_of mode)) 11 (every_mode few widths_few mode m))

-- the table of a mode that has these widths, and the number of its fields
module _ {mode : ℕ} {ws : List ℕ} (h : HasWidths mode ws) where
  pub widths_table : table_of mode ≡ consecutive 0 ws
  unfolding table_of
  widths_table = ap (consecutive 0) (sym h.same)

  pub widths_count : count_of mode ≡ length ws
  unfolding count_of
  widths_count = ap length widths_table ∙ length-consecutive 0 ws

-- the 54 bits of a body are the fields', in order
pub widths_order : (ws : List ℕ) → IsWidths ws → flatten (consecutive 0 ws) ≡ run 0 54
widths_order ws r = flatten-consecutive 0 ws ∙ ap (run 0) r.sum

-- what is none of the numbers from 1 on is no mode
pub no_mode : (mode : ℕ) → (1 ≤ mode → length widths < mode) → is_mode mode ≡ false
unfolding is_mode
no_mode mode h = go (dec_lt mode 1)
  where
    go : Dec (mode < 1) → (leb 1 mode && leb mode (length widths)) ≡ false
    go (yes l) = rw (lt-leb 1 mode l)
    go (no l) = rw (le-leb 1 mode (omega arith), lt-leb mode (length widths) (h (omega arith)))
