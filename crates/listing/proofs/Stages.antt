-- Laws of the listing octet by octet: one octet, octets of a payload at once, and what stands behind a bad length.
use mathlib.Core.Path.{◌≡◌, refl, sym, ap, ◌∙◌}
use mathlib.Core.Bool.{Bool, true, false, cond}
use mathlib.Core.List.{List, [], ◌∷◌, ◌++◌}
use Rattle.std.specs.Prelude.{Option, Some, None}
use Prim.Native.Nat.{ℕ, zero, suc, ◌+◌, ◌-◌, ◌≤◌}
use native.Mathlib.Omega.{arith}
use lib.ListN.{length, set, take, length-set}
use borrow.Author.Tests.{lt-ltb, le-leb}
use Rattle.octets.specs.Put.{put}
use Rattle.octets.proofs.Put.{put_one, put-cons}
use Rattle.leb128.specs.Number.{step_of}
use Rattle.leb128.specs.declared.Group.{Group}
use Rattle.leb128.specs.declared.Group.TheVariants.{More, Last}
use Rattle.listing.specs.Listing.{Stage, moved, listed, within, grouped, is_in_payload, next_in, next, has_room, run}
use Rattle.listing.specs.declared.Phase.{Phase}
use Rattle.listing.specs.declared.Phase.TheVariants.{Length, Payload, BadLength}

-- ---- one octet

-- an octet is taken where a line has room
pub run_some : (room : Option ℕ) (t : Stage) (x : ℕ) (xs : List ℕ) → has_room room t ≡ true → run room t (x ∷ xs) ≡ run room (next t x) xs
run_some room t x xs h = ap (λ (b : Bool). cond b (run room (next t x) xs) t) h

-- and else nothing
pub run_full : (room : Option ℕ) (t : Stage) (xs : List ℕ) → has_room room t ≡ false → run room t xs ≡ t
run_full room t [] h = refl
run_full room t (x ∷ xs) h = ap (λ (b : Bool). cond b (run room (next t x) xs) t) h

-- as much room as before, where no line is written
room_moved : (room : Option ℕ) (t : Stage) (n : ℕ) (f : Phase) (b : List ℕ) → has_room room t ≡ true → has_room room (moved t n f b) ≡ true
room_moved None t n f b h = h
room_moved (Some r) t n f b h = h

-- it ends no payload, or one, whose line it makes
pub data Next (t : Stage) : Stage → Type 0 where
  moves : (f : Phase) (b : List ℕ) → Next t (moved t (t.taken + 1) f b)
  lines : (p b : List ℕ) → Next t (listed t (t.taken + 1) p b)

pub next_view : (t : Stage) (x : ℕ) → Next t (next t x)
next_view t x = go t.phase
  where
    inside : (left have : ℕ) (b : List ℕ) → Next t (within t (t.taken + 1) left have b)
    inside zero have b = lines (take have b) b
    inside (suc left) have b = moves (Payload (suc left) have) b

    group : (k : ℕ) (g : Option Group) → Next t (grouped t k g)
    group k (Some (More v)) = moves (Length v (k + 1)) t.buffer
    group k (Some (Last m)) = inside m 0 t.buffer
    group k None = moves BadLength t.buffer

    held : (i : Bool) (left have : ℕ) (b : List ℕ) → Next t (cond i (within t (t.taken + 1) left have b) (moved t (t.taken + 1) BadLength t.buffer))
    held true left have b = inside left have b
    held false left have b = moves BadLength t.buffer

    go : (f : Phase) → Next t (next_in f t x)
    go (Length v k) = group k (step_of 2 1400 v k x)
    go (Payload left have) = held (is_in_payload left have) (left - 1) (have + 1) (set t.buffer have x)
    go BadLength = moves BadLength t.buffer

-- ---- in a payload

pub within_more : (t : Stage) (n left have : ℕ) (b : List ℕ) → 1 ≤ left → moved t n (Payload left have) b ≡ within t n left have b
within_more t n zero have b h = absurd (omega arith)
within_more t n (suc left) have b h = refl

pub within-whole : (t : Stage) (n left have : ℕ) (b : List ℕ) → left ≤ 0 → listed t n (take have b) b ≡ within t n left have b
within-whole t n zero have b h = refl
within-whole t n (suc left) have b h = absurd (omega arith)

pub within_taken : (t : Stage) (n left have : ℕ) (b : List ℕ) → (within t n left have b).taken ≡ n
within_taken t n zero have b = refl
within_taken t n (suc left) have b = refl

pub within-moved : (t : Stage) (m : ℕ) (f : Phase) (c : List ℕ) (n left have : ℕ) (b : List ℕ) → within (moved t m f c) n left have b ≡ within t n left have b
within-moved t m f c n zero have b = refl
within-moved t m f c n (suc left) have b = refl

pub in_payload : (left have : ℕ) → 1 ≤ left → have + left ≤ 1400 → is_in_payload left have ≡ true
in_payload left have h l = simp (lt-ltb 0 left h, le-leb (have + left) 1400 l)

-- one octet of it
next-within : (t : Stage) (left have x : ℕ) → 1 ≤ left → have + left ≤ 1400
    → next_in (Payload left have) t x ≡ within t (t.taken + 1) (left - 1) (have + 1) (set t.buffer have x)
next-within t left have x h l =
    ap (λ (i : Bool). cond i (within t (t.taken + 1) (left - 1) (have + 1) (set t.buffer have x)) (moved t (t.taken + 1) BadLength t.buffer))
    (in_payload left have h l)

-- some octets of it, at once
run_block : (room : Option ℕ) (t : Stage) (left have : ℕ) (y : ℕ) (ys rest : List ℕ) → has_room room t ≡ true → t.phase ≡ Payload left have
    → suc (length ys) ≤ left → have + left ≤ 1400 → 1400 ≤ length t.buffer
    → run room t ((y ∷ ys) ++ rest)
    ≡ run room (within t (t.taken + suc (length ys)) (left - suc (length ys)) (have + suc (length ys)) (put t.buffer have (y ∷ ys))) rest
run_block room t left have y [] rest h f l m o =
    run_some room t y rest h
    ∙ ap (λ (g : Phase). run room (next_in g t y) rest) f
    ∙ ap (λ (u : Stage). run room u rest) (next-within t left have y (omega arith) m)
    ∙ ap (λ (b : List ℕ). run room (within t (t.taken + 1) (left - 1) (have + 1) b) rest) (put_one t.buffer have y (omega arith))
run_block room t left have y (z ∷ ys) rest h f l m o =
    let b = set t.buffer have y in
    let u = moved t (t.taken + 1) (Payload (left - 1) (have + 1)) b in
    let first : next t y ≡ u = ap (λ (g : Phase). next_in g t y) f ∙ next-within t left have y (omega arith) m ∙ sym (within_more t (t.taken + 1) (left - 1) (have + 1) b (omega arith)) in
    let en : t.taken + 1 + suc (length ys) ≡ t.taken + suc (suc (length ys)) = omega arith in
    let el : left - 1 - suc (length ys) ≡ left - suc (suc (length ys)) = omega arith in
    let eh : have + 1 + suc (length ys) ≡ have + suc (suc (length ys)) = omega arith in
    let eb : put b (have + 1) (z ∷ ys) ≡ put t.buffer have (y ∷ z ∷ ys) = put-cons t.buffer have y (z ∷ ys) (omega arith) in
    run_some room t y (z ∷ (ys ++ rest)) h
    ∙ ap (λ (v : Stage). run room v (z ∷ (ys ++ rest))) first
    ∙ run_block room u (left - 1) (have + 1) z ys rest (room_moved room t (t.taken + 1) (Payload (left - 1) (have + 1)) b h) refl (omega arith) (omega arith) (simp length-set o)
    ∙ ap (λ (v : Stage). run room v rest)
    (within-moved t (t.taken + 1) (Payload (left - 1) (have + 1)) b (t.taken + 1 + suc (length ys)) (left - 1 - suc (length ys)) (have + 1 + suc (length ys)) (put b (have + 1) (z ∷ ys))
    ∙ ap (λ (c : List ℕ). within t (t.taken + 1 + suc (length ys)) (left - 1 - suc (length ys)) (have + 1 + suc (length ys)) c) eb
    ∙ rw (en, el, eh))

pub run_octets : (room : Option ℕ) (t : Stage) (left have : ℕ) (ys rest : List ℕ) → has_room room t ≡ true → t.phase ≡ Payload left have
    → 1 ≤ length ys → length ys ≤ left → have + left ≤ 1400 → 1400 ≤ length t.buffer
    → run room t (ys ++ rest) ≡ run room (within t (t.taken + length ys) (left - length ys) (have + length ys) (put t.buffer have ys)) rest
run_octets room t left have [] rest h f i l m o = absurd (omega arith)
run_octets room t left have (y ∷ ys) rest h f i l m o = run_block room t left have y ys rest h f l m o

-- ---- behind a bad length

-- all is taken, and nothing listed
pub run_bad : (room : Option ℕ) (t : Stage) (xs : List ℕ) → has_room room t ≡ true → t.phase ≡ BadLength
    → run room t xs ≡ moved t (t.taken + length xs) BadLength t.buffer
run_bad room t [] h f =
    let e : t.taken ≡ t.taken + 0 = omega arith in
    ap (λ (g : Phase). moved t t.taken g t.buffer) f ∙ ap (λ (n : ℕ). moved t n BadLength t.buffer) e
run_bad room t (x ∷ xs) h f =
    let e : t.taken + 1 + length xs ≡ t.taken + suc (length xs) = omega arith in
    run_some room t x xs h
    ∙ ap (λ (g : Phase). run room (next_in g t x) xs) f
    ∙ run_bad room (moved t (t.taken + 1) BadLength t.buffer) xs (room_moved room t (t.taken + 1) BadLength t.buffer h) refl
    ∙ ap (λ (n : ℕ). moved t n BadLength t.buffer) e

-- the same of a payload that no call answered
pub run_unmade : (room : Option ℕ) (t : Stage) (left have x : ℕ) (xs : List ℕ) → has_room room t ≡ true → t.phase ≡ Payload left have
    → is_in_payload left have ≡ false → run room t (x ∷ xs) ≡ moved t (t.taken + suc (length xs)) BadLength t.buffer
run_unmade room t left have x xs h f i =
    let e : t.taken + 1 + length xs ≡ t.taken + suc (length xs) = omega arith in
    run_some room t x xs h
    ∙ ap (λ (g : Phase). run room (next_in g t x) xs) f
    ∙ ap (λ (j : Bool). run room (cond j (within t (t.taken + 1) (left - 1) (have + 1) (set t.buffer have x)) (moved t (t.taken + 1) BadLength t.buffer)) xs) i
    ∙ run_bad room (moved t (t.taken + 1) BadLength t.buffer) xs (room_moved room t (t.taken + 1) BadLength t.buffer h) refl
    ∙ ap (λ (n : ℕ). moved t n BadLength t.buffer) e

-- ---- how many octets are taken

-- one at a time
pub next_taken : (t : Stage) (x : ℕ) → (next t x).taken ≡ t.taken + 1
next_taken t x = go (next_view t x)
  where
    go : {u : Stage} → Next t u → u.taken ≡ t.taken + 1
    go (moves f b) = refl
    go (lines p b) = refl

pub run_taken : (r : ℕ) (t : Stage) (xs : List ℕ) → t.taken ≤ (run (Some r) t xs).taken
run_taken r t [] = omega arith
run_taken r t (x ∷ xs) = go (has_room (Some r) t) (run_taken r (next t x) xs)
  where
    go : (b : Bool) → (next t x).taken ≤ (run (Some r) (next t x) xs).taken → t.taken ≤ (cond b (run (Some r) (next t x) xs) t).taken
    go true h = omega (arith, next_taken t x)
    go false h = omega arith

-- some, where there are any and a line has room
pub run_taken_some : (r : ℕ) (t : Stage) (xs : List ℕ) → 1 ≤ length xs → has_room (Some r) t ≡ true → t.taken + 1 ≤ (run (Some r) t xs).taken
run_taken_some r t [] h o = absurd (omega arith)
run_taken_some r t (x ∷ xs) h o =
    omega (arith, next_taken t x, run_taken r (next t x) xs, ap (λ (u : Stage). u.taken) (run_some (Some r) t x xs o))

pub run_upto : (room : Option ℕ) (t : Stage) (xs : List ℕ) → (run room t xs).taken ≤ t.taken + length xs
run_upto room t [] = omega arith
run_upto room t (x ∷ xs) = go (has_room room t) (run_upto room (next t x) xs)
  where
    go : (b : Bool) → (run room (next t x) xs).taken ≤ (next t x).taken + length xs → (cond b (run room (next t x) xs) t).taken ≤ t.taken + suc (length xs)
    go true h = omega (arith, next_taken t x)
    go false h = omega arith
