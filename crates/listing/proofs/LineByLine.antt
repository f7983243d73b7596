-- The listing is what the paper's words say, line by line: `Lists` holds of an input and its listing, and of no other output.
use mathlib.Core.Path.{◌≡◌, refl, sym, ap, ◌∙◌, subst}
use mathlib.Core.Logic.{◌⊎◌, inl, inr}
use mathlib.Core.List.{List, [], ◌∷◌, ◌++◌, append_assoc, append-nil}
use Rattle.std.specs.Prelude.{Option, Some, None}
use Prim.Native.Nat.{ℕ, zero, suc, ◌+◌, ◌-◌, ◌≤◌, ◌<◌}
use native.Mathlib.Omega.{arith}
use lib.ListN.{length, take, drop, replicate, length-append, take-append-drop, length-replicate}
use lib.Seq.{length-take-le}
use borrow.Author.Tests.{lt-ltb, ne_eqb}
use Rattle.octets.specs.Octet.{Octets}
use Rattle.octets.specs.Put.{put}
use Rattle.octets.proofs.Put.{length-put, take_put}
use Rattle.octets.proofs.Octet.{octets_behind}
use Rattle.octets.proofs.Order.{below_or}
use Rattle.leb128.specs.Number.{groups_of, Within, step_of, Head, number, short, head_from, head_of}
use Rattle.leb128.specs.Number.{none as bad}
use Rattle.leb128.specs.declared.Group.{Group}
use Rattle.leb128.specs.declared.Group.TheVariants.{More, Last}
use Rattle.leb128.proofs.Exact.{complete, sound}
use Rattle.listing.specs.Line.{payload_line, end_line, cut_line}
use Rattle.listing.specs.Listing.{following, entry, Lists, ends, lists, cuts, Stage, moved, listed, within, grouped, next_in, run, closed, started, fresh, listing}
use Rattle.listing.specs.declared.Phase.{Phase}
use Rattle.listing.specs.declared.Phase.TheVariants.{Length, Payload, BadLength}
use Rattle.listing.proofs.Stages.{within_more, within-whole, within-moved, run_octets, run_bad}

-- ---- what stands at the start of the input

-- the stage behind the head of some octets, where n are taken when all of them are
head_stage : Stage → ℕ → Head → Stage
head_stage t n (number m rest) = run None (within t (n - length rest) m 0 t.buffer) rest
head_stage t n (short v k) = moved t n (Length v k) t.buffer
head_stage t n bad = moved t n BadLength t.buffer

head_moved : (t : Stage) (i n : ℕ) (f : Phase) (h : Head) → head_stage (moved t i f t.buffer) n h ≡ head_stage t n h
unfolding head_stage
head_moved t i n f (number m rest) = ap (λ (u : Stage). run None u rest) (within-moved t i f t.buffer (n - length rest) m 0 t.buffer)
head_moved t i n f (short v k) = refl
head_moved t i n f bad = refl

run_head : (t : Stage) (v k : ℕ) (xs : List ℕ) → t.phase ≡ Length v k → run None t xs ≡ head_stage t (t.taken + length xs) (head_from 2 1400 v k xs)
unfolding head_stage
run_head t v k [] f =
    let e : t.taken ≡ t.taken + 0 = omega arith in
    ap (λ (g : Phase). moved t t.taken g t.buffer) f ∙ ap (λ (n : ℕ). moved t n (Length v k) t.buffer) e
run_head t v k (x ∷ xs) f =
    ap (λ (g : Phase). run None (next_in g t x) xs) f
    ∙ go (λ u w g. run_head u w (k + 1) xs g) (step_of 2 1400 v k x)
  where
    go : ((u : Stage) (w : ℕ) → u.phase ≡ Length w (k + 1) → run None u xs ≡ head_stage u (u.taken + length xs) (head_from 2 1400 w (k + 1) xs)) → (g : Option Group)
        → run None (grouped t k g) xs
        ≡ head_stage t (t.taken + suc (length xs)) (elim g [ Some (More w) ↦ head_from 2 1400 w (k + 1) xs | Some (Last m) ↦ number m xs | None ↦ bad ])
    go ih (Some (More w)) =
        let e : t.taken + 1 + length xs ≡ t.taken + suc (length xs) = omega arith in
        ih (moved t (t.taken + 1) (Length w (k + 1)) t.buffer) w refl
        ∙ head_moved t (t.taken + 1) (t.taken + 1 + length xs) (Length w (k + 1)) (head_from 2 1400 w (k + 1) xs)
        ∙ ap (λ (n : ℕ). head_stage t n (head_from 2 1400 w (k + 1) xs)) e
    go ih (Some (Last m)) =
        let e : t.taken + 1 ≡ t.taken + suc (length xs) - length xs = omega arith in
        ap (λ (n : ℕ). run None (within t n m 0 t.buffer) xs) e
    go ih None =
        let e : t.taken + 1 + length xs ≡ t.taken + suc (length xs) = omega arith in
        run_bad None (moved t (t.taken + 1) BadLength t.buffer) xs refl refl ∙ ap (λ (n : ℕ). moved t n BadLength t.buffer) e

-- ---- a payload behind its length

-- the stage behind it
after : Stage → ℕ → List ℕ → Stage
after t n p = listed t (n + length p) p (put t.buffer 0 p)

within_payload : (t : Stage) (n : ℕ) (p rest : List ℕ) → length p ≤ 1400 → 1400 ≤ length t.buffer
    → run None (within t n (length p) 0 t.buffer) (p ++ rest) ≡ run None (after t n p) rest
unfolding after
within_payload t n [] rest h o =
    let e : n ≡ n + 0 = omega arith in ap (λ (i : ℕ). run None (listed t i [] t.buffer) rest) e
within_payload t n (x ∷ p) rest h o =
    let k = suc (length p) in
    let u = moved t n (Payload k 0) t.buffer in
    let b = put t.buffer 0 (x ∷ p) in
    run_octets None u k 0 (x ∷ p) rest refl refl (omega arith) (omega arith) (omega arith) o
    ∙ ap (λ (v : Stage). run None v rest)
    (within-moved t n (Payload k 0) t.buffer (n + k) (k - k) (0 + k) b
    ∙ sym (within-whole t (n + k) (k - k) (0 + k) b (omega arith))
    ∙ ap (λ (q : List ℕ). listed t (n + k) q b) (take_put t.buffer 0 (x ∷ p) (omega arith)))

within-length : (p : List ℕ) → length p ≤ 1400 → Within 2 1400 (length p)
within-length p h = record { groups = omega arith; small = h }

-- the head of an input that a payload starts
entry_head : (p rest : List ℕ) → length p ≤ 1400 → head_of 2 1400 (entry p ++ rest) ≡ number (length p) (p ++ rest)
entry_head p rest h =
    ap (head_of 2 1400) (append_assoc (groups_of 2 (length p)) p rest) ∙ complete 2 1400 (omega arith) (omega arith) (length p) (p ++ rest) (within-length p h)

-- a stage before a length
record Between (t : Stage) : Type 0 where
  phase : t.phase ≡ Length 0 0
  large : 1400 ≤ length t.buffer

-- how many octets are taken with the length of a payload
with_length : Stage → List ℕ → List ℕ → ℕ
with_length t p rest = t.taken + length (entry p ++ rest) - length (p ++ rest)

run-entry : (t : Stage) (p rest : List ℕ) → Between t → length p ≤ 1400 → run None t (entry p ++ rest) ≡ run None (after t (with_length t p rest) p) rest
unfolding head_stage with_length
run-entry t p rest w h =
    run_head t 0 0 (entry p ++ rest) w.phase
    ∙ ap (head_stage t (t.taken + length (entry p ++ rest))) (entry_head p rest h)
    ∙ within_payload t (with_length t p rest) p rest h w.large

between_after : (t : Stage) (n : ℕ) (p : List ℕ) → Between t → length p ≤ 1400 → Between (after t n p)
unfolding after
between_after t n p w h = record { phase = refl; large = rw (length-put t.buffer 0 p (omega (arith, w.large))) w.large }

-- ---- the three cases of an input

abbrev NoPayload : List ℕ → Type 0
NoPayload xs = (p rest : List ℕ) → length p ≤ 1400 → xs ≡ entry p ++ rest → ⊥

data View (t : Stage) (xs : List ℕ) : Type 0 where
  empty : xs ≡ [] → View t xs
  payload : (p rest : List ℕ) → length p ≤ 1400 → xs ≡ entry p ++ rest → View t xs
  cut : (xs ≡ [] → ⊥) → NoPayload xs → closed (run None t xs) ≡ t.output ++ cut_line t.lines → View t xs

-- some octets are too few to end a length
short_some : (v k v' k' : ℕ) (xs : List ℕ) → head_from 2 1400 v k xs ≡ short v' k' → k + length xs ≡ k'
short_some v k v' k' [] e = let q : k ≡ k' = cc in omega arith
short_some v k v' k' (x ∷ xs) e = go (λ w d. short_some w (k + 1) v' k' xs d) (step_of 2 1400 v k x) e
  where
    go : ((w : ℕ) → head_from 2 1400 w (k + 1) xs ≡ short v' k' → k + 1 + length xs ≡ k') → (g : Option Group)
        → elim g [ Some (More w) ↦ head_from 2 1400 w (k + 1) xs | Some (Last m) ↦ number m xs | None ↦ bad ] ≡ short v' k' → k + suc (length xs) ≡ k'
    go ih (Some (More w)) d = omega (arith, ih w d)
    go ih (Some (Last m)) d = absurd (let z : ◌≡◌ {A = ℕ} 0 1 = cc in omega arith)
    go ih None d = absurd (let z : ◌≡◌ {A = ℕ} 0 1 = cc in omega arith)

-- an input that ends inside a payload
closed_inside : (t : Stage) (n m : ℕ) (rest : List ℕ) → length rest < m → m ≤ 1400 → 1400 ≤ length t.buffer
    → closed (run None (within t n m 0 t.buffer) rest) ≡ t.output ++ cut_line t.lines
closed_inside t n zero rest l h o = absurd (omega arith)
closed_inside t n (suc m) [] l h o = refl
closed_inside t n (suc m) (x ∷ rest) l h o =
    let u = moved t n (Payload (suc m) 0) t.buffer in
    let b = put t.buffer 0 (x ∷ rest) in
    let k = suc (length rest) in
    ap (λ (ys : List ℕ). closed (run None u ys)) (sym (append-nil (x ∷ rest)))
    ∙ ap closed
    (run_octets None u (suc m) 0 (x ∷ rest) [] refl refl (omega arith) (omega arith) (omega arith) o
    ∙ sym (within_more u (n + k) (suc m - k) (0 + k) b (omega arith)))

view : (t : Stage) (xs : List ℕ) → Between t → Octets xs → View t xs
unfolding head_stage
view t [] w o = empty refl
view t (x ∷ xs) w o = go (head_of 2 1400 (x ∷ xs)) refl
  where
    some : ◌≡◌ {A = List ℕ} (x ∷ xs) [] → ⊥
    some e = omega (arith, ap length e)

    ran : (h : Head) → head_of 2 1400 (x ∷ xs) ≡ h → run None t (x ∷ xs) ≡ head_stage t (t.taken + length (x ∷ xs)) h
    ran h e = run_head t 0 0 (x ∷ xs) w.phase ∙ ap (head_stage t (t.taken + length (x ∷ xs))) e

    go : (h : Head) → head_of 2 1400 (x ∷ xs) ≡ h → View t (x ∷ xs)
    go bad e =
        cut some
        (λ p rest l q. let d : bad ≡ number (length p) (p ++ rest) = sym e ∙ ap (head_of 2 1400) q ∙ entry_head p rest l in let z : ◌≡◌ {A = ℕ} 0 1 = cc in omega arith)
        (ap closed (ran bad e))
    go (short v k) e =
        cut some
        (λ p rest l q. let d : short v k ≡ number (length p) (p ++ rest) = sym e ∙ ap (head_of 2 1400) q ∙ entry_head p rest l in let z : ◌≡◌ {A = ℕ} 0 1 = cc in omega arith)
        (ap closed (ran (short v k) e) ∙ simp (ne_eqb k 0 (λ z. omega (arith, short_some 0 0 v k (x ∷ xs) e))))
    go (number m rest) e = room (sound 2 1400 (omega arith) (x ∷ xs) m rest o e) (below_or (length rest) m)
      where
        room : ((x ∷ xs) ≡ groups_of 2 m ++ rest) × Within 2 1400 m → (length rest < m) ⊎ (m ≤ length rest) → View t (x ∷ xs)
        room s (inr l) =
            let lp : length (take m rest) ≡ m = length-take-le m rest l in
            payload (take m rest) (drop m rest) (omega (arith, lp, s.1.small))
            (s.0 ∙ rw lp (ap (λ (r : List ℕ). groups_of 2 m ++ r) (sym (take-append-drop m rest)) ∙ sym (append_assoc (groups_of 2 m) (take m rest) (drop m rest))))
        room s (inl l) =
            cut some
            (λ p r h q. let d : number m rest ≡ number (length p) (p ++ r) = sym e ∙ ap (head_of 2 1400) q ∙ entry_head p r h in
            let dm : m ≡ length p = cc in
            let dr : rest ≡ p ++ r = cc in
            omega (arith, ap length dr, length-append p r))
            (ap closed (ran (number m rest) e) ∙ closed_inside t (t.taken + length (x ∷ xs) - length rest) m rest l s.1.small w.large)

-- ---- the theorem

entry_some : (p : List ℕ) → 1 ≤ length (entry p)
entry_some p = rw (length-append (groups_of 2 (length p)) p) (go (below_or (length p) 128))
  where
    go : (length p < 128) ⊎ (128 ≤ length p) → 1 ≤ length (groups_of 2 (length p)) + length p
    go (inl h) = simp (lt-ltb (length p) 128 h) (omega arith)
    go (inr h) = omega arith

-- the listing behind a payload
closed-entry : (t : Stage) (xs p rest more : List ℕ) → Between t → length p ≤ 1400 → xs ≡ entry p ++ rest
    → ((u : Stage) → Between u → u.lines ≡ following t.lines → closed (run None u rest) ≡ u.output ++ more)
    → closed (run None t xs) ≡ t.output ++ (payload_line (following t.lines) p ++ more)
unfolding after
closed-entry t xs p rest more w h e ih =
    let n = with_length t p rest in
    ap (λ (l : List ℕ). closed (run None t l)) e
    ∙ ap closed (run-entry t p rest w h)
    ∙ ih (after t n p) (between_after t n p w h) refl
    ∙ append_assoc t.output (payload_line (following t.lines) p) more

closed_empty : (t : Stage) (xs : List ℕ) → Between t → xs ≡ [] → closed (run None t xs) ≡ t.output ++ end_line t.lines
closed_empty t xs w e =
    ap (λ (l : List ℕ). closed (run None t l)) e ∙ ap (λ (f : Phase). closed (moved t t.taken f t.buffer)) w.phase

-- an output that is said line by line is the one that is computed, whatever came before it
only_from : (n : ℕ) (xs out : List ℕ) → Octets xs → Lists n xs out → (t : Stage) → Between t → t.lines ≡ n → closed (run None t xs) ≡ t.output ++ out
only_from n xs out o (ends e q) t w l = closed_empty t xs w e ∙ ap (λ (i : ℕ). t.output ++ end_line i) l ∙ ap (λ (ys : List ℕ). t.output ++ ys) (sym q)
only_from n xs out o (lists p rest more h e d q) t w l =
    closed-entry t xs p rest more w h e (λ u v m. only_from (following n) rest more (octets_behind (entry p) rest e o) d u v (m ∙ ap following l))
    ∙ ap (λ (i : ℕ). t.output ++ (payload_line (following i) p ++ more)) l
    ∙ ap (λ (ys : List ℕ). t.output ++ ys) (sym q)
only_from n xs out o (cuts s g q) t w l = go (view t xs w o)
  where
    go : View t xs → closed (run None t xs) ≡ t.output ++ out
    go (empty e) = absurd (s e)
    go (payload p rest h e) = absurd (g p rest h e)
    go (cut a b e) = e ∙ ap (λ (i : ℕ). t.output ++ cut_line i) l ∙ ap (λ (ys : List ℕ). t.output ++ ys) (sym q)

-- before any octet of an input, behind n lines
begun : ℕ → List ℕ → Stage
begun n b = started (record { lines = n; phase = Length 0 0 }) b

zeros : List ℕ
zeros = replicate 1400 0

between_zeros : (n : ℕ) → Between (begun n zeros)
unfolding begun zeros
between_zeros n = record { phase = refl; large = omega (arith, length-replicate {A = ℕ} 1400 0) }

-- of any input something is said
said : (f n : ℕ) (xs : List ℕ) → Octets xs → length xs ≤ f → (out : List ℕ) × Lists n xs out
said zero n [] o l = (end_line n, ends refl refl)
said zero n (x ∷ xs) o l = absurd (omega arith)
said (suc f) n xs o l = go (λ rest q h. said f (following n) rest q h) (view (begun n zeros) xs (between_zeros n) o)
  where
    go : ((rest : List ℕ) → Octets rest → length rest ≤ f → (out : List ℕ) × Lists (following n) rest out) → View (begun n zeros) xs → (out : List ℕ) × Lists n xs out
    go ih (empty e) = (end_line n, ends e refl)
    go ih (cut s g e) = (cut_line n, cuts s g refl)
    go ih (payload p rest h e) =
        let r = ih rest (octets_behind (entry p) rest e o) (omega (arith, ap length e, length-append (entry p) rest, entry_some p)) in
        (payload_line (following n) p ++ r.0, lists p rest r.0 h e r.1 refl)

-- and nothing else is
pub only : (xs out : List ℕ) → Octets xs → Lists 0 xs out → out ≡ listing xs
unfolding listing begun zeros
only xs out o d = sym (only_from 0 xs out o d (begun 0 zeros) (between_zeros 0) refl)

-- an input's listing is what line by line the paper says
pub says : (xs : List ℕ) → Octets xs → Lists 0 xs (listing xs)
says xs o = let r = said (length xs) 0 xs o (omega arith) in subst (Lists 0 xs) (only xs r.0 o r.1) r.1

-- whatever the payload's buffer holds at first
pub any_buffer : (b xs : List ℕ) → Octets xs → 1400 ≤ length b → closed (run None (started fresh b) xs) ≡ listing xs
unfolding begun
any_buffer b xs o h =
    let r = said (length xs) 0 xs o (omega arith) in
    only_from 0 xs r.0 o r.1 (begun 0 b) (record { phase = refl; large = h }) refl ∙ only xs r.0 o r.1
