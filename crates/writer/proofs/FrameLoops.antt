-- What the loops over rows and bodies keep: a cursor into both, with what is checked or written behind it.
use mathlib.Core.Path.{◌≡◌, refl, sym, ap, ◌∙◌, subst}
use mathlib.Core.List.{List, [], ◌∷◌, ◌++◌, append_assoc, append-nil}
use Prim.Native.Nat.{ℕ, ◌+◌, ◌-◌, ◌/◌, ◌%◌, ◌≤◌, ◌<◌}
use native.Mathlib.Omega.{arith}
use lib.ListN.{length, get_or, take, drop, length-append, length-drop, take-append-drop}
use lib.Seq.{take_at, drop_at, length-take-le, drop-drop, get_or-drop, get_or-take}
use borrow.Author.Tests.{lt-ltb, le-ltb}
use Rattle.std.specs.Prelude.{Option, Some, None, Result, Ok}
use Rattle.std.specs.Result.{IsOk}
use Rattle.std.specs.Simd.{first_chunks}
use Rattle.refusal.specs.declared.Reason.{Reason}
use Rattle.wire.specs.Frame.{LegalRow, OfRate, table, kind_of, base, top, body_octets, wire_octets, wire_of, octets_of, numbers_of, sum_of}
use Rattle.wire.specs.Answers.{shape_of}
use Rattle.wire.specs.declared.Kind.{Kind}
use Rattle.wire.specs.declared.Framing.{Framing}
use Rattle.wire.specs.declared.Row.{Row}
use Rattle.wire.specs.declared.Shape.{Shape}
use Rattle.wire.proofs.Octets.{length-wire}
use Rattle.wire.proofs.TableLaws.{bounds, kind_of_lem}
use Rattle.writer.specs.Rows.{passed, check_of}
use Rattle.writer.specs.Write.{frames_of, bad_end}
use Rattle.writer.specs.Stages.{named_row, FrameFits, frame_by, InOrder, Ready}
use Rattle.writer.proofs.Pairs.{left, left_all}
use Rattle.writer.proofs.WireRows.{length_numbers}
use Rattle.writer.proofs.RowSequences.{checked_legal}
use Rattle.writer.proofs.Frames.{good_end}
use Rattle.writer.proofs.Shapes.{sizes, shape_frame, shape_fits}

-- ---- the cursor

-- the numbers ns are those of the rows `rest`, and the bodies of these stand from an index of m octets on
pub record Cursor (ns : List ℕ) (m from : ℕ) (rest : List Row) : Type 0 where
  pub numbers : ns ≡ numbers_of rest
  pub common : ℕ
  pub rated : OfRate common rest
  pub bodies : from + sum_of body_octets rest ≡ m

start : (fr : Framing) (ns : List ℕ) (m : ℕ) (xs : List Row) → InOrder fr ns m xs → {pairs : List (List ℕ)} → pairs ≡ first_chunks 2 (length ns / 2) ns → Cursor (left pairs 0) m 0 xs
start fr ns m xs a e =
    let l = checked_legal fr ns xs a.checked in
    let even : length ns % 2 ≡ 0 = omega (arith, ap length l.0, length_numbers xs) in
    record { numbers = left_all ns even e ∙ l.0; common = l.1.common; rated = l.1.rated; bodies = omega (arith, a.bodies) }

over : (ns : List ℕ) (m from : ℕ) (rest : List Row) → Cursor ns m from rest → ns ≡ [] → rest ≡ []
over ns m from [] c e = refl
over ns m from (y ∷ ys) c e = absurd (let d : [] ≡ numbers_of (y ∷ ys) = sym e ∙ c.numbers in cc)

-- the row x, whose two numbers these are, before those behind it
record Here (number tc : ℕ) (behind : List ℕ) (m from : ℕ) (rest : List Row) (x : Row) : Type 0 where
  rows : List Row
  is : rest ≡ x ∷ rows
  named : named_row (kind_of number) tc ≡ Ok x
  legal : LegalRow x
  fits : from + body_octets x ≤ m
  next : Cursor behind m (from + body_octets x) rows

module _ (ns : List ℕ) (number tc : ℕ) (behind : List ℕ) (split : ns ≡ number ∷ tc ∷ behind) (m from : ℕ) where
  here : (rest : List Row) → Cursor ns m from rest → (x : Row) × Here number tc behind m from rest x
  unfolding named_row
  here rest c = go rest c (sym split ∙ c.numbers)
    where
      go : (rest : List Row) → Cursor ns m from rest → number ∷ tc ∷ behind ≡ numbers_of rest → (x : Row) × Here number tc behind m from rest x
      go [] c e = absurd cc
      go (y ∷ ys) c e =
          let kind : number ≡ (table y.kind).number = cc in
          let same : tc ≡ y.tc = cc in
          let numbers : behind ≡ numbers_of ys = cc in (
            y,
            record {
              rows = ys;
              is = refl;
              named = ap (λ (o : Option Kind). named_row o tc) (ap kind_of kind ∙ kind_of_lem y.kind) ∙ ap (λ (t : ℕ). Ok (record { kind = y.kind; tc = t })) same;
              legal = c.rated.0;
              fits = omega (arith, c.bodies);
              next = record { numbers = numbers; common = c.common; rated = c.rated.2; bodies = omega (arith, c.bodies) };
            },
          )

  -- what the code finds there
  module _ (rest : List Row) (c : Cursor ns m from rest) {f : Result Row Reason} (q : f ≡ named_row (kind_of number) tc) where
    is_named : IsOk f
    is_named = rw (q, (here rest c).1.named) refl

    found : (y : Row) → f ≡ Ok y → Here number tc behind m from rest y
    found y a =
        let d : Ok (here rest c).0 ≡ Ok y = sym (here rest c).1.named ∙ sym q ∙ a in
        let e : (here rest c).0 ≡ y = cc in
        subst (Here number tc behind m from rest) e (here rest c).1

same_rows : (fr : Framing) (ns : List ℕ) (xs ys : List Row) → check_of fr ns ≡ passed xs → check_of fr ns ≡ passed ys → xs ≡ ys
same_rows fr ns xs ys a b = cc

-- the end of the body at a cursor
end_at : (bs : List ℕ) (from : ℕ) (x : Row) → get_or (take (body_octets x) (drop from bs)) (base x - 1) 0 ≡ get_or bs (from + (base x - 1)) 0
end_at bs from x = let b = bounds x.kind in get_or-take (body_octets x) (drop from bs) (base x - 1) 0 (omega arith) ∙ get_or-drop from bs (base x - 1) 0

-- ---- looking for a bad end

-- the numbers unread of ns are those of rows whose bodies start at an index of bs, and no end before is bad
pub record EndLoop (fr : Framing) (ns bs unread : List ℕ) (from : ℕ) : Type 0 where
  pub rest : List Row
  pub cursor : Cursor unread (length bs) from rest
  pub same : (xs : List Row) → check_of fr ns ≡ passed xs → bad_end fr from (frames_of rest (drop from bs)) ≡ bad_end fr 0 (frames_of xs bs)

pub ends_start : (fr : Framing) (ns bs : List ℕ) (xs : List Row) → InOrder fr ns (length bs) xs → {pairs : List (List ℕ)} → pairs ≡ first_chunks 2 (length ns / 2) ns → EndLoop fr ns bs (left pairs 0) 0
ends_start fr ns bs xs a e = record { rest = xs; cursor = start fr ns (length bs) xs a e; same = λ ys e. ap (λ (zs : List Row). bad_end fr 0 (frames_of zs bs)) (same_rows fr ns xs ys a.checked e) }

-- a body of this shape starts at an index of bs
pub record BodyAt (bs : List ℕ) (from : ℕ) (s : Shape) : Type 0 where
  pub some : 1 ≤ s.entry.octets
  pub within : s.entry.octets ≤ s.body
  pub fits : from + s.body ≤ length bs

module _ (fr : Framing) (ns bs unread : List ℕ) (from : ℕ) (h : EndLoop fr ns bs unread from) where
  pub ends_none : unread ≡ [] → (xs : List Row) → check_of fr ns ≡ passed xs → None ≡ bad_end fr 0 (frames_of xs bs)
  ends_none l xs e = rw (over unread (length bs) from h.rest h.cursor l) at (h.same xs e)

  module _ (number tc : ℕ) (behind : List ℕ) (split : unread ≡ number ∷ tc ∷ behind) {f : Result Row Reason} (q : f ≡ named_row (kind_of number) tc) where
    pub ends_named : IsOk f
    ends_named = is_named unread number tc behind split (length bs) from h.rest h.cursor q

    module _ (y : Row) (a : f ≡ Ok y) {s : Shape} (is : s ≡ shape_of fr y) where
      end_row : Here number tc behind (length bs) from h.rest y
      end_row = found unread number tc behind split (length bs) from h.rest h.cursor q y a

      pub body_at : BodyAt bs from s
      body_at = let z = sizes fr y is in record { some = omega arith; within = omega arith; fits = omega (arith, end_row.fits) }

      pub ends_bad : s.entry.top < get_or bs (from + (s.entry.octets - 1)) 0 → (xs : List Row) → check_of fr ns ≡ passed xs → Some (from + (s.entry.octets - 1)) ≡ bad_end fr 0 (frames_of xs bs)
      ends_bad b xs e = rw is (simp (end_at bs from y, lt-ltb (top fr y) (get_or bs (from + (base y - 1)) 0) (rw is at b)) at (rw end_row.is at (h.same xs e)))

      pub ends_on : get_or bs (from + (s.entry.octets - 1)) 0 ≤ s.entry.top → EndLoop fr ns bs behind (from + s.body)
      ends_on g = rw is (record {
        rest = end_row.rows;
        cursor = end_row.next;
        same = λ xs e.
            ap (λ (k : List ℕ). bad_end fr (from + body_octets y) (frames_of end_row.rows k)) (sym (drop-drop (body_octets y) from bs))
            ∙ (simp (end_at bs from y, le-ltb (top fr y) (get_or bs (from + (base y - 1)) 0) (rw is at g)) at (rw end_row.is at (h.same xs e)));
      })

-- ---- writing the frames

-- the first `to` octets of out, then those of the frames from the cursor on, are all; beyond, out is as it was
pub record PutLoop (fr : Framing) (ns bs out₀ : List ℕ) (unread : List ℕ) (from to : ℕ) (out : List ℕ) : Type 0 where
  pub rest : List Row
  pub cursor : Cursor unread (length bs) from rest
  pub ends : bad_end fr from (frames_of rest (drop from bs)) ≡ None
  pub room : to + sum_of wire_octets rest ≤ length out
  pub same : (xs : List Row) → check_of fr ns ≡ passed xs → take to out ++ octets_of fr (frames_of rest (drop from bs)) ≡ octets_of fr (frames_of xs bs)
  pub beyond : drop to out ≡ drop to out₀
  pub long : length out ≡ length out₀

pub put_start : (fr : Framing) (ns bs out : List ℕ) (xs : List Row) → Ready fr ns bs xs → sum_of wire_octets xs ≤ length out
    → {pairs : List (List ℕ)} → pairs ≡ first_chunks 2 (length ns / 2) ns → PutLoop fr ns bs out (left pairs 0) 0 0 out
put_start fr ns bs out xs r h e = record {
  rest = xs;
  cursor = start fr ns (length bs) xs r.rows e;
  ends = r.ends;
  room = omega arith;
  same = λ ys e. ap (λ (zs : List Row). octets_of fr (frames_of zs bs)) (same_rows fr ns xs ys r.rows.checked e);
  beyond = refl;
  long = refl;
}

-- a frame of this shape, its body from an index of bs on, has room in out from another on
pub record FrameAt (bs : List ℕ) (from : ℕ) (out : List ℕ) (to : ℕ) (s : Shape) : Type 0 where
  pub lent : from + s.body ≤ length bs
  pub inside : to + s.wire ≤ length out

module _ (fr : Framing) (ns bs out₀ unread : List ℕ) (from to : ℕ) (out : List ℕ) (h : PutLoop fr ns bs out₀ unread from to out) where
  pub put_end : unread ≡ [] → (xs : List Row) → check_of fr ns ≡ passed xs → out ≡ octets_of fr (frames_of xs bs) ++ drop (length (octets_of fr (frames_of xs bs))) out₀
  put_end l xs d =
      let e = rw (over unread (length bs) from h.rest h.cursor l) at (h.same xs d) in
      let t : take to out ≡ octets_of fr (frames_of xs bs) = sym (append-nil (take to out)) ∙ e in
      let n : length (octets_of fr (frames_of xs bs)) ≡ to = ap length (sym t) ∙ length-take-le to out (omega (arith, h.room)) in
      sym (take-append-drop to out)
      ∙ ap (λ (r : List ℕ). take to out ++ r) h.beyond
      ∙ ap (λ (r : List ℕ). r ++ drop to out₀) t
      ∙ ap (λ (k : ℕ). octets_of fr (frames_of xs bs) ++ drop k out₀) (sym n)

  module _ (number tc : ℕ) (behind : List ℕ) (split : unread ≡ number ∷ tc ∷ behind) {f : Result Row Reason} (q : f ≡ named_row (kind_of number) tc) where
    pub put_named : IsOk f
    put_named = is_named unread number tc behind split (length bs) from h.rest h.cursor q

    module _ (y : Row) (a : f ≡ Ok y) where
      put_row : Here number tc behind (length bs) from h.rest y
      put_row = found unread number tc behind split (length bs) from h.rest h.cursor q y a

      n : ℕ
      n = body_octets y

      k : ℕ
      k = wire_octets y

      body : List ℕ
      body = take n (drop from bs)

      room : to + (k + sum_of wire_octets put_row.rows) ≤ length out
      unfolding k
      room = rw put_row.is at h.room

      ends : (get_or body (base y - 1) 0 ≤ top fr y) × (bad_end fr (from + n) (frames_of put_row.rows (drop n (drop from bs))) ≡ None)
      unfolding n body
      ends = good_end fr from (record { row = y; body = body }) (frames_of put_row.rows (drop n (drop from bs))) (rw put_row.is at h.ends)

      size : length body ≡ n
      unfolding n body
      size = length-take-le n (drop from bs) (omega (arith, put_row.fits, length-drop from bs))

      -- the frame of row y
      octets : List ℕ
      octets = wire_of fr y body

      octets_size : length octets ≡ k
      unfolding octets k n
      octets_size = length-wire fr y body size

      put_next : PutLoop fr ns bs out₀ behind (from + n) (to + k) (take to out ++ octets ++ drop (to + k) out)
      unfolding octets k n body
      put_next =
          let start : length (take to out) ≡ to = length-take-le to out (omega (arith, room)) in
          let front : length (take to out ++ octets) ≡ to + k = omega (arith, length-append (take to out) octets, octets_size) in
          let split : drop n (drop from bs) ≡ drop (from + n) bs = drop-drop n from bs in
          record {
            rest = put_row.rows;
            cursor = put_row.next;
            ends = ap (λ (z : List ℕ). bad_end fr (from + n) (frames_of put_row.rows z)) (sym split) ∙ ends.1;
            room = omega (arith, room, front, length-append (take to out ++ octets) (drop (to + k) out), length-drop (to + k) out);
            same = λ xs c.
                ap (λ (z : List ℕ). z ++ octets_of fr (frames_of put_row.rows (drop (from + n) bs))) (take_at (take to out ++ octets) (drop (to + k) out) (to + k) front)
                ∙ append_assoc (take to out) octets (octets_of fr (frames_of put_row.rows (drop (from + n) bs)))
                ∙ ap (λ (z : List ℕ). take to out ++ (octets ++ octets_of fr (frames_of put_row.rows z))) (sym split)
                ∙ (rw put_row.is at h.same xs c);
            beyond = drop_at (take to out ++ octets) (drop (to + k) out) (to + k) front ∙ sym (drop-drop k to out) ∙ ap (drop k) h.beyond ∙ drop-drop k to out₀;
            long = omega (arith, room, h.long, front, length-append (take to out ++ octets) (drop (to + k) out), length-drop (to + k) out);
          }

      -- the same by the shape, at the parts that the code takes
      module _ {s : Shape} (is : s ≡ shape_of fr y) where
        pub frame_at : FrameAt bs from out to s
        unfolding k
        frame_at = rw is (record { lent = put_row.fits; inside = omega (arith, room) })

        pub put_fits : FrameFits s (take (from + s.body - from) (drop from bs)) (length (take (to + s.wire - to) (drop to out)))
        unfolding n k body
        put_fits =
            let b : from + n - from ≡ n = omega arith in
            let w : length (take (to + k - to) (drop to out)) ≡ k = length-take-le (to + k - to) (drop to out) (omega (arith, room, length-drop to out)) ∙ omega arith in
            rw (is, b) (shape_fits fr y body _ put_row.legal size ends.0 w)

        pub put_on : {frame : List ℕ} → frame ≡ frame_by s (take (from + s.body - from) (drop from bs))
            → PutLoop fr ns bs out₀ behind (from + s.body) (to + s.wire) (take to out ++ (frame ++ drop (to + s.wire - to) (drop to out)))
        unfolding n k body octets
        put_on {frame} e =
            let b : from + n - from ≡ n = omega arith in
            let w : to + (to + k - to) ≡ to + k = omega arith in
            let f : frame ≡ octets = (rw (is, b) at e) ∙ shape_frame fr y body in
            rw is (subst (PutLoop fr ns bs out₀ behind (from + n) (to + k)) (sym (
            ap (λ (z : List ℕ). take to out ++ (z ++ drop (to + k - to) (drop to out))) f
            ∙ ap (λ (z : List ℕ). take to out ++ (octets ++ z)) (drop-drop (to + k - to) to out ∙ ap (λ (j : ℕ). drop j out) w)
            ∙ sym (append_assoc (take to out) octets (drop (to + k) out))
            )) put_next)
