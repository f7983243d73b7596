-- Laws of a table's fields and their bits, and of tables of neighbouring bits.
use mathlib.Core.Path.{◌≡◌, refl, sym, ap, ◌∙◌}
use mathlib.Core.Bool.{cond}
use mathlib.Core.List.{List, [], ◌∷◌, ◌++◌, map, flatten, map-append, append_assoc}
use Prim.Native.Nat.{ℕ, zero, suc, ◌+◌, ◌^◌, ◌≤◌, ◌<◌}
use native.Mathlib.Nat.{mod-eq_of_lt, zero-add}
use native.Mathlib.Decide.{dec_lt}
use native.Mathlib.Omega.{arith}
use borrow.Author.Tests.{lt-ltb, le-ltb, eqb-true}
use lib.Dec.{ltb, eqb}
use lib.ListN.{length, get_or, replicate, take, drop, length-append, length-map, get_or-append}
use lib.Seq.{take_at, drop_at, get_or-append-add, ext_get_or}
use Rattle.fields.specs.Bits.{digits, spelled}
use Rattle.fields.specs.Table.{Table, field_bits, run, consecutive}
use Rattle.fields.specs.RoundTrip.{total, times, EachOnce}
use Rattle.fields.proofs.Digits.{Bits, length_digits, bits-digits, spelled-digits, digits-spelled}
use Rattle.fields.proofs.Octets.{bits-append}
use Rattle.fields.proofs.Computed.{every_below}
use Rattle.fields.proofs.Placed.{times_there}
use Rattle.fields.proofs.Runs.{length_run, get_d_run, run-append}

pub length-field_bits : (table : Table) (fields : List ℕ) → length fields ≡ length table → length (field_bits table fields) ≡ length (flatten table)
unfolding field_bits flatten
length-field_bits [] fields e = refl
length-field_bits (ps ∷ table) [] e = absurd (omega arith)
length-field_bits (ps ∷ table) (v ∷ fields) e =
    simp (length-append, length_digits) (omega (arith, length-field_bits table fields (omega arith)))

pub bits-field_bits : (table : Table) (fields : List ℕ) → Bits (field_bits table fields)
unfolding field_bits
bits-field_bits [] fields = λ i. omega arith
bits-field_bits (ps ∷ table) [] = λ i. omega arith
bits-field_bits (ps ∷ table) (v ∷ fields) =
    bits-append (digits (length ps) v) (field_bits table fields) (bits-digits (length ps) v) (bits-field_bits table fields)

module _ (bit : ℕ → ℕ) where
  pub bits-map : ((p : ℕ) → bit p < 2) → (ps : List ℕ) → Bits (map bit ps)
  bits-map h [] i = omega arith
  bits-map h (p ∷ ps) zero = h p
  bits-map h (p ∷ ps) (suc i) = bits-map h ps i

  -- the bits of fields that are spelled by bits are those bits
  pub field_bits-spelled : ((p : ℕ) → bit p < 2) → (table : Table)
      → field_bits table (map (λ (ps : List ℕ). spelled (map bit ps)) table) ≡ map bit (flatten table)
  unfolding field_bits flatten
  field_bits-spelled h [] = refl
  field_bits-spelled h (ps ∷ table) =
      let l : length ps ≡ length (map bit ps) = sym (length-map ps bit) in
      let d : digits (length ps) (spelled (map bit ps)) ≡ map bit ps =
      ap (λ (w : ℕ). digits w (spelled (map bit ps))) l ∙ digits-spelled (map bit ps) (bits-map h ps) in
      rw (d, field_bits-spelled h table) (sym (map-append bit ps (flatten table)))

  -- fields are spelled by their bits
  pub spelled-field_bits : (table : Table) (fields : List ℕ) → length fields ≡ length table
      → ((i : ℕ) → get_or fields i 0 < 2 ^ length (get_or table i [])) → map bit (flatten table) ≡ field_bits table fields
      → map (λ (ps : List ℕ). spelled (map bit ps)) table ≡ fields
  unfolding field_bits flatten
  spelled-field_bits [] [] e small q = refl
  spelled-field_bits [] (v ∷ fields) e small q = absurd (omega arith)
  spelled-field_bits (ps ∷ table) [] e small q = absurd (omega arith)
  spelled-field_bits (ps ∷ table) (v ∷ fields) e small q =
      let w : ℕ = length ps in
      let s : map bit ps ++ map bit (flatten table) ≡ digits w v ++ field_bits table fields = sym (map-append bit ps (flatten table)) ∙ q in
      let a : map bit ps ≡ digits w v =
      sym (take_at (map bit ps) (map bit (flatten table)) w (length-map ps bit))
      ∙ ap (take w) s ∙ take_at (digits w v) (field_bits table fields) w (length_digits w v) in
      let t : map bit (flatten table) ≡ field_bits table fields =
      sym (drop_at (map bit ps) (map bit (flatten table)) w (length-map ps bit))
      ∙ ap (drop w) s ∙ drop_at (digits w v) (field_bits table fields) w (length_digits w v) in
      let n : spelled (digits w v) ≡ v = spelled-digits w v ∙ mod-eq_of_lt (small 0) in
      rw (a, n, spelled-field_bits table fields (omega arith) (λ i. small (suc i)) t)

pub zeros_at : (n i : ℕ) → ◌≡◌ {A = ℕ} (get_or (replicate n 0) i 0) 0
zeros_at zero i = refl
zeros_at (suc n) zero = refl
zeros_at (suc n) (suc i) = zeros_at n i

pub length-consecutive : (at : ℕ) (ws : List ℕ) → length (consecutive at ws) ≡ length ws
unfolding consecutive
length-consecutive at [] = refl
length-consecutive at (w ∷ ws) = ap suc (length-consecutive (at + w) ws)

-- all its bits are neighbours
pub flatten-consecutive : (at : ℕ) (ws : List ℕ) → flatten (consecutive at ws) ≡ run at (total ws)
unfolding consecutive flatten total run
flatten-consecutive at [] = refl
flatten-consecutive at (w ∷ ws) = rw (flatten-consecutive (at + w) ws) (run-append at w (total ws))

-- the number of bits of one field of a table of neighbouring bits
pub width_consecutive : (at : ℕ) (ws : List ℕ) (i : ℕ) → length (get_or (consecutive at ws) i []) ≡ get_or ws i 0
unfolding consecutive
width_consecutive at [] i = refl
width_consecutive at (w ∷ ws) zero = length_run at w
width_consecutive at (w ∷ ws) (suc i) = width_consecutive (at + w) ws i

-- no run names a bit behind it, and the one of a body's 54 bits names each once
run-behind : (p at n : ℕ) → at + n ≤ p → times p (run at n) ≡ 0
unfolding run times
run-behind p at zero h = refl
run-behind p at (suc n) h = times_there (run (suc at) n) (λ e. omega arith) ∙ run-behind p (suc at) n (omega arith)

run_once : (p : ℕ) → times p (run 0 54) ≡ cond (ltb p 54) 1 0
unfolding run times
run_once p = go (dec_lt p 54)
  where
    go : Dec (p < 54) → times p (run 0 54) ≡ cond (ltb p 54) 1 0
    go (yes h) = rw (lt-ltb p 54 h) (eqb-true (times p (run 0 54)) 1 (every_below (λ (q : ℕ). eqb (times q (run 0 54)) 1) 54 refl p h))
    go (no h) = rw (le-ltb p 54 (omega arith)) (run-behind p 0 54 (omega arith))

-- neighbouring fields of 54 bits in all name each bit once
pub consecutive_once : (ws : List ℕ) → total ws ≡ 54 → EachOnce (consecutive 0 ws)
consecutive_once ws e = record { once = λ p. rw (flatten-consecutive 0 ws, e) (run_once p) }

-- all bits of a table are those of the fields in front of one, its own, and those behind
pub flatten_split : (table : Table) (i : ℕ) → i < length table
    → flatten table ≡ flatten (take i table) ++ (get_or table i [] ++ flatten (drop (suc i) table))
unfolding flatten
flatten_split [] i h = absurd (omega arith)
flatten_split (ps ∷ table) zero h = refl
flatten_split (ps ∷ table) (suc i) h =
    rw (flatten_split table i (omega arith)) (sym (append_assoc ps (flatten (take i table)) (get_or table i [] ++ flatten (drop (suc i) table))))

-- how many those in front are: no more than all
pub front_step : (table : Table) (i : ℕ) → i < length table
    → length (flatten (take (suc i) table)) ≡ length (flatten (take i table)) + length (get_or table i [])
unfolding flatten
front_step [] i h = absurd (omega arith)
front_step (ps ∷ table) zero h = simp length-append (omega arith)
front_step (ps ∷ table) (suc i) h = simp length-append (omega (arith, front_step table i (omega arith)))

pub front_le : (table : Table) (i : ℕ) → i < length table → length (flatten (take i table)) + length (get_or table i []) ≤ length (flatten table)
front_le table i h = rw (flatten_split table i h) (simp (length-append, length-append) (omega arith))

-- a field of a table of the bits in order has those from the ones in front of it on
pub field_run : (table : Table) (n : ℕ) → flatten table ≡ run 0 n → (i : ℕ) → i < length table
    → get_or table i [] ≡ run (length (flatten (take i table))) (length (get_or table i []))
field_run table n order i h = ext_get_or 0 own (run at (length own)) (sym (length_run at (length own))) same
  where
    own : List ℕ
    own = get_or table i []

    at : ℕ
    at = length (flatten (take i table))

    same : (j : ℕ) → j < length own → get_or own j 0 ≡ get_or (run at (length own)) j 0
    same j l =
        sym (get_or-append own (flatten (drop (suc i) table)) 0 j l)
        ∙ sym (get_or-append-add (flatten (take i table)) (own ++ flatten (drop (suc i) table)) j 0)
        ∙ ap (λ (ps : List ℕ). get_or ps (at + j) 0) (sym (flatten_split table i h) ∙ order)
        ∙ get_d_run 0 n (at + j) (omega (arith, front_le table i h, ap length order, length_run 0 n))
        ∙ zero-add (at + j) ∙ sym (get_d_run at (length own) j l)
