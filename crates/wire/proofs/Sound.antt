-- What the walk accepts is a legal sequence that gives the payload; so it refuses exactly if there is none.
use mathlib.Core.Path.{◌≡◌, refl, sym, ap, ◌∙◌, subst}
use mathlib.Core.Logic.{◌⊎◌, inl, inr}
use mathlib.Core.List.{List, [], ◌∷◌, ◌++◌}
use Prim.Native.Nat.{ℕ, zero, suc, ◌+◌, ◌-◌, ◌≤◌, ◌<◌}
use native.Mathlib.Omega.{arith}
use lib.ListN.{length, get_or, set, take, drop, length-set, length-drop, take-append-drop}
use lib.Seq.{get_or-take, get_or-drop, get_or-set_same, take-add, drop-drop, ext_get_or, set-set, set-get_or, length-take-le, drop-length}
use borrow.Author.Tests.{lt-ltb, le-ltb}
use Rattle.std.specs.Prelude.{Result, Ok, Err}
use Rattle.refusal.specs.declared.Reason.TheVariants.{TooLong}
use Rattle.refusal.specs.declared.Reason.{Reason}
use Rattle.refusal.specs.Numbers.{number_of}
use Rattle.octets.specs.Octet.{Octets}
use Rattle.octets.proofs.Octet.{octets_drop, octets_take, octets_set}
use Rattle.wire.specs.Frame.{Frame, agreed_rate, AgreedOn, LegalBody, LegalBodies, base, code, count_of, body_octets, wire_octets, wire, octets_of, rows_of, OfRate, Legal}
use Rattle.wire.specs.Walk.{last_frame, beside, rate_of, over, next, frame_at, run, read_of, Walk, at, refused}
use Rattle.wire.specs.declared.Framing.{Framing, Framing}
use Rattle.wire.specs.declared.Row.{Row, Row}
use Rattle.octets.proofs.Order.{below_or}
use Rattle.wire.proofs.TableLaws.{bounds}
use Rattle.wire.proofs.Octets.{length_octets}
use Rattle.wire.proofs.Rates.{stands_beside, beside_same}
use Rattle.wire.proofs.WholeFrame.{Numbered, Whole, Wholes, last_says, beside_keeps}
use Rattle.wire.proofs.Complete.{length_rows, complete, unique}

-- ---- the walk comes to an end

abbrev pub Ended : Walk → Type 0
Ended (at zero fs) = Unit {0}
Ended (at (suc u) fs) = ⊥
Ended (refused n place behind) = Unit {0}

module _ (fr : Framing) where
  -- ---- the frame that is read

  module _ (p : List ℕ) (u : ℕ) (x : Row) (o : Octets p) (inside : u ≤ length p) (w : Whole fr p u x) where
    part : List ℕ
    part = take (body_octets x) (drop (u - wire_octets x) p)

    last : ℕ
    last = get_or p (u - wire_octets x + (base x - 1)) 0

    length_part : length part ≡ body_octets x
    unfolding part
    length_part = length-take-le (body_octets x) (drop (u - wire_octets x) p) (simp length-drop (omega (arith, w.room)))

    part_end : get_or part (base x - 1) 0 ≡ last
    unfolding part last
    part_end =
        let b = bounds x.kind in
        get_or-take (body_octets x) (drop (u - wire_octets x) p) (base x - 1) 0 (omega arith) ∙ get_or-drop (u - wire_octets x) p (base x - 1) 0

    part_long : base x - 1 < length part
    part_long = let b = bounds x.kind in omega (arith, length_part)

    pub legal_body : LegalBody fr x (frame_at fr p (u - wire_octets x) x).body
    unfolding part last
    legal_body = record {
      size = simp length-set length_part;
      end = rw (get_or-set_same part (base x - 1) (last - code fr x) 0 part_long) (omega (arith, w.high));
      octets = octets_set part (base x - 1) (last - code fr x) (octets_take (body_octets x) (drop (u - wire_octets x) p) (octets_drop (u - wire_octets x) p o)) part_long (omega (arith, o (u - wire_octets x + (base x - 1))));
    }

    wire_is : wire fr (frame_at fr p (u - wire_octets x) x) ≡ part ++ count_of x
    unfolding part last
    wire_is =
        let e : get_or (set part (base x - 1) (last - code fr x)) (base x - 1) 0 + code fr x ≡ get_or part (base x - 1) 0 =
        omega (arith, get_or-set_same part (base x - 1) (last - code fr x) 0 part_long, w.low, part_end) in
        ap (λ (v : ℕ). set (set part (base x - 1) (last - code fr x)) (base x - 1) v ++ count_of x) e
        ∙ ap (λ (m : List ℕ). m ++ count_of x) (set-set part (base x - 1) (last - code fr x) (get_or part (base x - 1) 0) ∙ set-get_or part (base x - 1) 0)

    rest_long : length (count_of x) ≤ length (drop (body_octets x) (drop (u - wire_octets x) p))
    rest_long = simp length-drop (omega (arith, w.room))

    count_is : take (length (count_of x)) (drop (body_octets x) (drop (u - wire_octets x) p)) ≡ count_of x
    count_is =
        let l : length (take (length (count_of x)) (drop (body_octets x) (drop (u - wire_octets x) p))) ≡ length (count_of x) = length-take-le _ _ rest_long in
        ext_get_or 0 _ _ l
        (λ i h.
        get_or-take (length (count_of x)) (drop (body_octets x) (drop (u - wire_octets x) p)) i 0 (omega arith)
        ∙ get_or-drop (body_octets x) (drop (u - wire_octets x) p) i 0
        ∙ get_or-drop (u - wire_octets x) p (body_octets x + i) 0
        ∙ w.count i (omega arith))

    gives : wire fr (frame_at fr p (u - wire_octets x) x) ++ drop u p ≡ drop (u - wire_octets x) p
    unfolding part
    gives =
        let d : List ℕ = drop (u - wire_octets x) p in
        let e : u - wire_octets x + wire_octets x ≡ u = omega (arith, w.room) in
        ap (λ (v : List ℕ). v ++ drop u p) (wire_is ∙ ap (λ (v : List ℕ). take (body_octets x) d ++ v) (sym count_is) ∙ sym (take-add (body_octets x) (length (count_of x)) d))
        ∙ ap (λ (n : ℕ). take (wire_octets x) d ++ drop n p) (sym e)
        ∙ ap (λ (v : List ℕ). take (wire_octets x) d ++ v) (sym (drop-drop (wire_octets x) (u - wire_octets x) p))
        ∙ take-append-drop (wire_octets x) d

  -- ---- the walk

  -- what is read so far gives the octets behind the unread ones, and is legal; a refusal is one of 1 to 8 but not 5, within 1,400 octets
  pub record ReadSoFar (p : List ℕ) (u : ℕ) (behind : List Frame) : Type 0 where
    pub inside : u ≤ length p
    pub gives : octets_of fr behind ≡ drop u p
    pub rated : (r : ℕ) × AgreedOn fr r × OfRate r (rows_of behind)
    pub bodies : LegalBodies fr behind

  abbrev pub Kept : List ℕ → Walk → Type 0
  Kept p (at u behind) = ReadSoFar p u behind
  Kept p (refused n place behind) = Numbered (number_of n) × (1 ≤ place) × (place ≤ 1400)

  module _ (p : List ℕ) (o : Octets p) (short : length p ≤ 1400) where
    over_keeps : (u : ℕ) (behind : List Frame) → 1 ≤ u → ReadSoFar p u behind → (f : Result Row Reason) → Wholes fr p u f
        → Kept p (over fr p u behind (beside (length behind) (rate_of (agreed_rate fr) (rows_of behind)) f))
    unfolding beside
    over_keeps u behind h v (Err n) w = (w, h, omega (arith, v.inside))
    over_keeps u behind h v (Ok y) w = go (beside (length behind) (rate_of (agreed_rate fr) (rows_of behind)) (Ok y)) refl (beside_keeps fr p u (length behind) (rate_of (agreed_rate fr) (rows_of behind)) (Ok y) w)
      where
        go : (e : Result Row Reason) → beside (length behind) (rate_of (agreed_rate fr) (rows_of behind)) (Ok y) ≡ e → Wholes fr p u e → Kept p (over fr p u behind e)
        go (Err n) q k = (k, h, omega (arith, v.inside))
        go (Ok x) q k =
            let same : y ≡ x = beside_same (length behind) (rate_of (agreed_rate fr) (rows_of behind)) y x q in
            let found : beside (length (rows_of behind)) (rate_of (agreed_rate fr) (rows_of behind)) (Ok x) ≡ Ok x =
            ap (λ (n : ℕ). beside n (rate_of (agreed_rate fr) (rows_of behind)) (Ok x)) (length_rows behind)
            ∙ ap (λ (z : Row). beside (length behind) (rate_of (agreed_rate fr) (rows_of behind)) (Ok z)) (sym same) ∙ q in
            record {
              inside = omega (arith, v.inside);
              gives = ap (λ (l : List ℕ). wire fr (frame_at fr p (u - wire_octets x) x) ++ l) v.gives ∙ gives p u x o v.inside k;
              rated = stands_beside fr x (rows_of behind) v.rated.0 k.legal v.rated.1 v.rated.2 x found;
              bodies = (legal_body p u x o v.inside k, v.bodies);
            }

    next_keeps : (w : Walk) → Kept p w → Kept p (next fr p w)
    next_keeps (at zero behind) v = v
    next_keeps (at (suc u) behind) v = over_keeps (suc u) behind (omega arith) v (last_frame fr p (suc u)) (last_says fr p (suc u) o (omega arith))
    next_keeps (refused n place behind) v = v

    run_keeps : (n : ℕ) (w : Walk) → Kept p w → Kept p (run fr n p w)
    run_keeps zero w v = v
    run_keeps (suc n) w v = run_keeps n (next fr p w) (next_keeps w v)

    run-kept : Kept p (run fr (length p) p (at (length p) []))
    run-kept = run_keeps (length p) (at (length p) []) (record { inside = omega arith; gives = sym (drop-length p); rated = (agreed_rate fr, inr refl, tt); bodies = tt })

  pub read_kept : (p : List ℕ) → Octets p → Kept p (read_of fr p)
  unfolding read_of
  read_kept p o = go (below_or 1400 (length p))
    where
      go : (1400 < length p) ⊎ (length p ≤ 1400) → Kept p (read_of fr p)
      go (inl h) = simp (lt-ltb 1400 (length p) h) ((omega arith, omega arith, λ e. omega arith), omega arith, omega arith)
      go (inr h) = simp (le-ltb 1400 (length p) h) (run-kept p o h)

  -- a payload that is accepted has at most 1,400 octets
  accepted_short : (p : List ℕ) (u : ℕ) (fs : List Frame) → read_of fr p ≡ at u fs → length p ≤ 1400
  unfolding read_of
  accepted_short p u fs e = go (below_or 1400 (length p))
    where
      go : (1400 < length p) ⊎ (length p ≤ 1400) → length p ≤ 1400
      go (inl h) =
          let d : refused TooLong 1400 [] ≡ at u fs = simp (lt-ltb 1400 (length p) h) at e in
          let z : ◌≡◌ {A = ℕ} 0 1 = cc in absurd (omega arith)
      go (inr h) = h

  pub sound : (p : List ℕ) (fs : List Frame) → Octets p → read_of fr p ≡ at 0 fs → Legal fr fs × (octets_of fr fs ≡ p)
  sound p fs o e =
      let v : ReadSoFar p 0 fs = subst (Kept p) e (read_kept p o) in
      let l = accepted_short p 0 fs e in
      let total = length_octets fr fs v.bodies in (
        record {
          rows = record { common = v.rated.0; agreed = v.rated.1; rated = v.rated.2; total = omega (arith, ap length v.gives) };
          bodies = v.bodies;
        },
        v.gives,
      )

  pub run-refused : (m : ℕ) (p : List ℕ) (n : Reason) (place : ℕ) (behind : List Frame) → run fr m p (refused n place behind) ≡ refused n place behind
  run-refused zero p n place behind = refl
  run-refused (suc m) p n place behind = run-refused m p n place behind

  ends : (n : ℕ) (p : List ℕ) (u : ℕ) (behind : List Frame) → u ≤ n → Ended (run fr n p (at u behind))
  ends zero p zero behind h = tt
  ends zero p (suc u) behind h = absurd (omega arith)
  ends (suc n) p zero behind h = ends n p zero behind (omega arith)
  ends (suc n) p (suc u) behind h = go (λ v fs l. ends n p v fs l) (beside (length behind) (rate_of (agreed_rate fr) (rows_of behind)) (last_frame fr p (suc u)))
    where
      go : ((v : ℕ) (fs : List Frame) → v ≤ n → Ended (run fr n p (at v fs))) → (f : Result Row Reason) → Ended (run fr n p (over fr p (suc u) behind f))
      go ih (Err m) = rw (run-refused n p m (suc u) behind) tt
      go ih (Ok x) = let b = bounds x.kind in ih (suc u - wire_octets x) (frame_at fr p (suc u - wire_octets x) x ∷ behind) (omega arith)

  pub read_ends : (p : List ℕ) → Ended (read_of fr p)
  unfolding read_of
  read_ends p = go (below_or 1400 (length p))
    where
      go : (1400 < length p) ⊎ (length p ≤ 1400) → Ended (read_of fr p)
      go (inl h) = simp (lt-ltb 1400 (length p) h) tt
      go (inr h) = simp (le-ltb 1400 (length p) h) (ends (length p) p (length p) [] (omega arith))

  -- ---- the demand: the reader refuses exactly if no legal sequence gives the octets, and else hands that sequence back

  pub data Verdict (p : List ℕ) : Walk → Type 0 where
    none : {n : Reason} {place : ℕ} {behind : List Frame} → ((fs : List Frame) → Legal fr fs → octets_of fr fs ≡ p → ⊥) → Verdict p (refused n place behind)
    only : {fs : List Frame} → Legal fr fs → octets_of fr fs ≡ p → ((gs : List Frame) → Legal fr gs → octets_of fr gs ≡ p → gs ≡ fs) → Verdict p (at 0 fs)

  pub verdict : (p : List ℕ) → Octets p → Verdict p (read_of fr p)
  verdict p o = go (read_of fr p) refl (read_ends p)
    where
      go : (w : Walk) → read_of fr p ≡ w → Ended w → Verdict p w
      go (at zero fs) e h =
          let s = sound p fs o e in
          only s.0 s.1 (λ gs l g. unique fr gs fs l s.0 (g ∙ sym s.1))
      go (at (suc u) fs) e h = absurd h
      go (refused n place behind) e h =
          none (λ fs l g.
          let d : at 0 fs ≡ refused n place behind = sym (complete fr fs l) ∙ ap (read_of fr) g ∙ e in
          let z : ◌≡◌ {A = ℕ} 0 1 = cc in omega arith)
