-- What the loop that fills rows and bodies keeps: the frames behind the unread octets are handed out, and the rest is as it was lent.
use mathlib.Core.Path.{◌≡◌, refl, sym, ap, ◌∙◌}
use mathlib.Core.List.{List, [], ◌∷◌, ◌++◌, append_assoc}
use Prim.Native.Nat.{ℕ, ◌+◌, ◌-◌, ◌*◌, ◌≤◌, ◌<◌}
use native.Mathlib.Omega.{arith}
use lib.ListN.{length, get_or, take, drop, length-append, length-drop}
use lib.Seq.{length-take-le, get_or-take, get_or-drop}
use Rattle.std.specs.Prelude.{Result, Ok}
use Rattle.std.specs.Result.{IsOk}
use Rattle.refusal.specs.declared.Reason.{Reason}
use Rattle.wire.specs.Frame.{Frame, Legal, rows_of, numbers_of, bodies_of, octets_of, table, base, body_octets, wire_octets}
use Rattle.wire.specs.Walk.{ending}
use Rattle.wire.specs.Answers.{shape_of}
use Rattle.wire.specs.declared.Framing.{Framing}
use Rattle.wire.specs.declared.Row.{Row}
use Rattle.wire.specs.declared.Shape.{Shape}
use Rattle.wire.proofs.TableLaws.{bounds}
use Rattle.wire.proofs.Endings.{ending-take}
use Rattle.octets.specs.Put.{put}
use Rattle.reader.specs.Filling.{body_of, BodyFits}
use Rattle.reader.specs.Promise.{Room}
use Rattle.reader.specs.Reading.{read_into}
use Rattle.octets.proofs.Parts.{over-whole}
use Rattle.octets.proofs.Put.{put_copy, put-before}
use Rattle.wire.proofs.FrameAtEnd.{bodies_append, EndsIn, ends_in_lem, Last, last_of}
use Rattle.reader.proofs.Outcomes.{hands_out}

-- `xs[a..a + n]`
abbrev part : List ℕ → ℕ → ℕ → List ℕ
part xs a n = take (a + n - a) (drop a xs)

part_lem : (xs : List ℕ) (a n : ℕ) → part xs a n ≡ take n (drop a xs)
part_lem xs a n = ap (λ (k : ℕ). take k (drop a xs)) (omega arith)

length-part : (xs : List ℕ) (a n : ℕ) → a + n ≤ length xs → length (part xs a n) ≡ n
length-part xs a n h = ap length (part_lem xs a n) ∙ length-take-le n (drop a xs) (simp length-drop (omega arith))

-- ys in the place of such a part
put_part : (xs ys : List ℕ) (a n : ℕ) → length ys ≡ n → a + n ≤ length xs → take a xs ++ (ys ++ drop (a + n - a) (drop a xs)) ≡ put xs a ys
put_part xs ys a n e h = put_copy ys xs a (a + n) (omega arith) h (sym (over-whole ys (part xs a n) (e ∙ sym (length-part xs a n h))))

module _ (fr : Framing) where
  -- of the frames fs of p, those ahead give the u unread octets; i and o are the places for their rows and bodies, which r and b hold as
  -- they were lent, r₀ and b₀; the rows and bodies of those behind stand in place
  pub record FillLoop (p r₀ b₀ : List ℕ) (u i o : ℕ) (r b : List ℕ) : Type 0 where
    pub fs : List Frame
    pub ahead : List Frame
    pub behind : List Frame
    pub split : ahead ++ behind ≡ fs
    pub legal : Legal fr fs
    pub gives : octets_of fr fs ≡ p
    pub room : Room fs r₀ b₀
    pub unread : u ≡ length (octets_of fr ahead)
    pub index : i ≡ length ahead
    pub at : o ≡ length (bodies_of ahead)
    pub rows : r ≡ take (2 * i) r₀ ++ (numbers_of (rows_of behind) ++ drop (2 * length fs) r₀)
    pub bodies : b ≡ take o b₀ ++ (bodies_of behind ++ drop (length (bodies_of fs)) b₀)

  -- a turn: the frame of row x and shape s fits, and once its row and body are stored, the loop goes on
  pub record Turn (p r₀ b₀ : List ℕ) (u i o : ℕ) (r b : List ℕ) (x : Row) (s : Shape) : Type 0 where
    pub wire : s.wire ≤ u
    pub body : s.body ≤ o
    pub inside : u - s.wire + s.body ≤ length p
    pub room : o - s.body + s.body ≤ length b
    pub fits : BodyFits (part p (u - s.wire) s.body) s.entry (length (part b (o - s.body) s.body))
    pub then : {r' y : List ℕ} → r' ≡ put r (2 * (i - 1)) (s.entry.number ∷ x.tc ∷ []) → y ≡ body_of (part p (u - s.wire) s.body) s.entry
        → FillLoop p r₀ b₀ (u - s.wire) (i - 1) (o - s.body) r' (take (o - s.body) b ++ (y ++ drop (o - s.body + s.body - (o - s.body)) (drop (o - s.body) b)))

  module _ (p r₀ b₀ : List ℕ) (u i o : ℕ) (r b : List ℕ) (h : FillLoop p r₀ b₀ u i o r b) (long : length b ≡ length b₀) where
    -- the last of the frames ahead
    module _ (w : Last h.ahead) where
      whole : w.front ++ (w.frame ∷ h.behind) ≡ h.fs
      whole = sym (append_assoc w.front (w.frame ∷ []) h.behind) ∙ ap (λ (gs : List Frame). gs ++ h.behind) (sym w.is) ∙ h.split

      ends : EndsIn fr p u (length (octets_of fr w.front)) w.frame
      ends =
          let e = ends_in_lem fr w.front w.frame h.behind (rw whole h.legal) in
          rw (h.unread, w.is, ← h.gives, ← whole) e

      -- the lengths, with and without it
      rows_are : (i ≡ length w.front + 1) × (i ≤ length h.fs)
      rows_are =
          let all = ap length whole in
          let ahead = ap length w.is in
          (omega (arith, h.index, length-append w.front (w.frame ∷ [])), omega (arith, h.index, length-append w.front (w.frame ∷ []), length-append w.front (w.frame ∷ h.behind)))

      bodies_are : (o ≡ length (bodies_of w.front) + length w.frame.body) × (o ≤ length (bodies_of h.fs))
      bodies_are =
          let front = bodies_of w.front in
          let all = ap (λ (gs : List Frame). length (bodies_of gs)) (sym whole) ∙ ap length (bodies_append w.front (w.frame ∷ h.behind)) in
          let ahead = ap (λ (gs : List Frame). length (bodies_of gs)) w.is ∙ ap length (bodies_append w.front (w.frame ∷ [])) in
          let one = length-append w.frame.body [] in
          let more = length-append w.frame.body (bodies_of h.behind) in
          (omega (arith, h.at, length-append front (w.frame.body ++ [])), omega (arith, h.at, length-append front (w.frame.body ++ []), length-append front (w.frame.body ++ bodies_of h.behind)))

      turn_at : Turn p r₀ b₀ u i o r b w.frame.row (shape_of fr w.frame.row)
      turn_at =
          let x : Row = w.frame.row in
          let e = ends in
          let n = rows_are in
          let m = bodies_are in
          let k = bounds x.kind in
          let start : u - wire_octets x ≡ length (octets_of fr w.front) = omega (arith, e.unread) in
          let inside : u - wire_octets x + body_octets x ≤ length p = omega (arith, e.unread, e.inside) in
          let room : o - body_octets x + body_octets x ≤ length b = omega (arith, h.room.1, e.size) in
          let xs : List ℕ = part p (u - wire_octets x) (body_octets x) in
          let octets : length xs ≡ body_octets x = length-part p (u - wire_octets x) (body_octets x) inside in
          let last : get_or xs (base x - 1) 0 ≡ get_or p (length (octets_of fr w.front) + (base x - 1)) 0 =
          ap (λ (l : List ℕ). get_or l (base x - 1) 0) (part_lem p (u - wire_octets x) (body_octets x))
          ∙ get_or-take (body_octets x) (drop (u - wire_octets x) p) (base x - 1) 0 (omega arith)
          ∙ get_or-drop (u - wire_octets x) p (base x - 1) 0
          ∙ ap (λ (a : ℕ). get_or p (a + (base x - 1)) 0) start in
          let body : body_of xs (shape_of fr x).entry ≡ w.frame.body = rw (last, part_lem p (u - wire_octets x) (body_octets x), start) e.body in
          record {
            wire = omega (arith, e.unread);
            body = omega (arith, e.size);
            inside = inside;
            room = room;
            fits = record {
              room = length-part b (o - body_octets x) (body_octets x) room ∙ sym octets;
              least = omega arith;
              base = omega arith;
              coded = rw last e.coded;
            };
            then = λ {r'} {y} er ey. record {
              fs = h.fs;
              ahead = w.front;
              behind = w.frame ∷ h.behind;
              split = whole;
              legal = h.legal;
              gives = h.gives;
              room = h.room;
              unread = start;
              index = omega arith;
              at = omega (arith, e.size);
              rows =
                  er
                  ∙ ap (λ (z : List ℕ). put z (2 * (i - 1)) ((table x.kind).number ∷ x.tc ∷ [])) h.rows
                  ∙ put-before r₀ ((table x.kind).number ∷ x.tc ∷ []) (numbers_of (rows_of h.behind) ++ drop (2 * length h.fs) r₀) (2 * (i - 1)) (2 * i) (omega arith) (omega (arith, h.room.0));
              bodies =
                  put_part b y (o - body_octets x) (body_octets x) (ap length (ey ∙ body) ∙ e.size) room
                  ∙ ap (put b (o - body_octets x)) (ey ∙ body)
                  ∙ ap (λ (z : List ℕ). put z (o - body_octets x) w.frame.body) h.bodies
                  ∙ put-before b₀ w.frame.body (bodies_of h.behind ++ drop (length (bodies_of h.fs)) b₀) (o - body_octets x) o (omega (arith, e.size)) (omega (arith, h.room.1))
                  ∙ ap (λ (z : List ℕ). take (o - body_octets x) b₀ ++ z) (sym (append_assoc w.frame.body (bodies_of h.behind) (drop (length (bodies_of h.fs)) b₀)));
            };
          }

    module _ (pos : 0 < i) where
      last : Last h.ahead
      last = last_of h.ahead (omega (arith, h.index))

      pub fill_inside : u ≤ length p
      fill_inside = (ends last).inside

      -- the unread octets name its row
      named : {e : Result Row Reason} → e ≡ ending fr (take u p) (length (take u p)) → e ≡ Ok last.frame.row
      named q = q ∙ ending-take fr p u fill_inside ∙ (ends last).names

      pub fill_named : {e : Result Row Reason} → e ≡ ending fr (take u p) (length (take u p)) → IsOk e
      fill_named q = rw (named q) refl

      pub fill_turn : (x : Row) (s : Shape) {e : Result Row Reason} → e ≡ Ok x → e ≡ ending fr (take u p) (length (take u p)) → s ≡ shape_of fr x → Turn p r₀ b₀ u i o r b x s
      fill_turn x s a q is =
          let d : Ok x ≡ Ok last.frame.row = sym a ∙ named q in
          let same : x ≡ last.frame.row = cc in
          rw (is, same) (turn_at last)

    pub fill_end : i ≤ 0 → (r ≡ (read_into fr p r₀ b₀).rows) × (b ≡ (read_into fr p r₀ b₀).bodies)
    fill_end z =
        let none : h.ahead ≡ [] = go h.ahead h.index in
        let all : h.behind ≡ h.fs = ap (λ (gs : List Frame). gs ++ h.behind) (sym none) ∙ h.split in
        let i₀ : i ≡ 0 = omega arith in
        let o₀ : o ≡ 0 = h.at ∙ ap (λ (gs : List Frame). length (bodies_of gs)) none in
        rw (hands_out fr p r₀ b₀ h.fs h.legal h.gives h.room)
        (rw (i₀, all) at h.rows, rw (o₀, all) at h.bodies)
      where
        go : (gs : List Frame) → i ≡ length gs → gs ≡ []
        go [] e = refl
        go (g ∷ gs) e = absurd (omega arith)
