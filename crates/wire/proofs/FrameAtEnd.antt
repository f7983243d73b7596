-- A payload that a legal sequence gives, cut behind one of its frames, ends in that frame.
use mathlib.Core.Path.{◌≡◌, refl, sym, ap, ◌∙◌}
use mathlib.Core.Bool.{Bool, true, false, cond}
use mathlib.Core.List.{List, [], ◌∷◌, ◌++◌, append_assoc}
use Prim.Native.Nat.{ℕ, ◌+◌, ◌-◌, ◌≤◌}
use native.Mathlib.Omega.{arith}
use lib.Dec.{T, ltb}
use lib.ListN.{length, get_or, length-append}
use lib.Seq.{drop_at, take-append-le}
use Rattle.std.specs.Prelude.{Result, Ok, Err}
use Rattle.refusal.specs.declared.Reason.TheVariants.{FrameCut, AugmentationNot2400}
use Rattle.refusal.specs.declared.Reason.{Reason}
use Rattle.wire.specs.Frame.{Frame, Legal, LegalRow, LegalBody, base, code, top, body_octets, wire_octets, wire, octets_of, bodies_of}
use Rattle.wire.specs.Walk.{ending, whole, last_frame, frame_at}
use Rattle.wire.specs.declared.Framing.{Framing, Framing}
use Rattle.wire.specs.declared.Row.{Row, Row}
use Rattle.wire.proofs.TableLaws.{bounds}
use Rattle.wire.proofs.NameLaws.{agrees}
use Rattle.wire.proofs.Octets.{in_place, length-wire, wire-base, wire_body}
use Rattle.wire.proofs.ReadBack.{last_wire}
use Rattle.wire.proofs.Complete.{Snoc, none, snoc, from_end, octets_append, octets_snoc, Middle, middle}

pub bodies_append : (fs gs : List Frame) → bodies_of (fs ++ gs) ≡ bodies_of fs ++ bodies_of gs
bodies_append [] gs = refl
bodies_append (f ∷ fs) gs = rw (bodies_append fs gs) (sym (append_assoc f.body (bodies_of fs) (bodies_of gs)))

-- a sequence that is not empty, from its end
pub record Last (fs : List Frame) : Type 0 where
  pub front : List Frame
  pub frame : Frame
  pub is : fs ≡ front ++ (frame ∷ [])

pub last_of : (fs : List Frame) → 1 ≤ length fs → Last fs
last_of fs h = go (from_end fs) h
  where
    go : {gs : List Frame} → Snoc gs → 1 ≤ length gs → Last gs
    go none l = absurd (omega arith)
    go (snoc {gs} v g) l = record { front = gs; frame = g; is = refl }

module _ (fr : Framing) where
  -- what is whole at the end of the unread octets is what they name
  last_names : (p : List ℕ) (u : ℕ) (x : Row) → last_frame fr p u ≡ Ok x → ending fr p u ≡ Ok x
  unfolding last_frame whole
  last_names p u x q = go (ending fr p u) q
    where
      test : (y : Row) (a b : Bool) → ◌≡◌ {A = Result Row Reason} (cond a (Err FrameCut) (cond b (Err AugmentationNot2400) (Ok y))) (Ok x) → ◌≡◌ {A = Result Row Reason} (Ok y) (Ok x)
      test y true b d = absurd (let z : ◌≡◌ {A = ℕ} 0 1 = cc in omega arith)
      test y false true d = absurd (let z : ◌≡◌ {A = ℕ} 0 1 = cc in omega arith)
      test y false false d = d

      go : (e : Result Row Reason) → whole fr p u e ≡ Ok x → e ≡ Ok x
      go (Err n) d = absurd (let z : ◌≡◌ {A = ℕ} 0 1 = cc in omega arith)
      go (Ok y) d = test y (ltb u (wire_octets y)) (ltb (code fr y + top fr y) (get_or p (u - wire_octets y + (base y - 1)) 0)) d

  -- the octets of the frame g stand in p from a to u, and are read as that frame
  pub record EndsIn (p : List ℕ) (u a : ℕ) (g : Frame) : Type 0 where
    pub unread : u ≡ a + wire_octets g.row
    pub inside : u ≤ length p
    pub names : ending fr p u ≡ Ok g.row
    pub coded : code fr g.row ≤ get_or p (a + (base g.row - 1)) 0
    pub size : length g.body ≡ body_octets g.row
    pub body : (frame_at fr p a g.row).body ≡ g.body

  -- a legal frame between other octets
  between : (q rest : List ℕ) (g : Frame) → LegalRow g.row → T (agrees fr g.row.kind) → LegalBody fr g.row g.body → EndsIn (q ++ (wire fr g ++ rest)) (length q + wire_octets g.row) (length q) g
  between q rest g row agree body =
      let b = bounds g.row.kind in
      let long : length (wire fr g) ≡ wire_octets g.row = length-wire fr g.row g.body body.size in
      let end : get_or (q ++ (wire fr g ++ rest)) (length q + (base g.row - 1)) 0 ≡ get_or (wire fr g) (base g.row - 1) 0 = in_place q (wire fr g) rest (base g.row - 1) (omega arith) in
      record {
        unread = refl;
        inside = omega (arith, length-append q (wire fr g ++ rest), length-append (wire fr g) rest);
        names =
            last_names (q ++ (wire fr g ++ rest)) (length q + wire_octets g.row) g.row
            (last_wire fr (q ++ (wire fr g ++ rest)) (length q + wire_octets g.row) (length q) g.row g.body (record {
              legal = row;
              agrees = agree;
              size = body.size;
              end = body.end;
              unread = refl;
              reads = λ i h. in_place q (wire fr g) rest i (omega arith);
            }));
        coded = omega (arith, end, wire-base fr g.row g.body body.size);
        size = body.size;
        body =
            rw (drop_at q (wire fr g ++ rest) (length q) refl, take-append-le (body_octets g.row) (wire fr g) rest (omega arith), end)
            (wire_body fr g.row g.body body.size);
      }

  pub ends_in_lem : (gs : List Frame) (g : Frame) (behind : List Frame) → Legal fr (gs ++ (g ∷ behind))
      → EndsIn (octets_of fr (gs ++ (g ∷ behind))) (length (octets_of fr (gs ++ (g ∷ [])))) (length (octets_of fr gs)) g
  ends_in_lem gs g behind l =
      let m = middle fr l.rows.common l.rows.agreed gs g behind l.rows.rated l.bodies in
      let unread : length (octets_of fr (gs ++ (g ∷ []))) ≡ length (octets_of fr gs) + wire_octets g.row =
      rw (octets_snoc fr gs g) (length-append (octets_of fr gs) (wire fr g) ∙ omega (arith, length-wire fr g.row g.body m.body.size)) in
      rw (octets_append fr gs (g ∷ behind), unread) (between (octets_of fr gs) (octets_of fr behind) g m.legal m.agrees m.body)

  -- where a frame stands among the others
  module _ (gs : List Frame) (f : Frame) (hs : List Frame) (l : Legal fr (gs ++ (f ∷ hs))) where
    pub legal_frame : Middle fr l.rows.common f hs
    legal_frame = middle fr l.rows.common l.rows.agreed gs f hs l.rows.rated l.bodies

    pub frame_octets : octets_of fr (gs ++ (f ∷ hs)) ≡ octets_of fr gs ++ (wire fr f ++ octets_of fr hs)
    frame_octets = octets_append fr gs (f ∷ hs)

    pub frame_long : length (wire fr f) ≡ wire_octets f.row
    frame_long = length-wire fr f.row f.body legal_frame.body.size

    pub frame_inside : length (octets_of fr gs) + wire_octets f.row ≤ length (octets_of fr (gs ++ (f ∷ hs)))
    frame_inside =
        omega (arith, ap length frame_octets, length-append (octets_of fr gs) (wire fr f ++ octets_of fr hs), length-append (wire fr f) (octets_of fr hs), frame_long)

    pub frame_named : ending fr (octets_of fr (gs ++ (f ∷ hs))) (length (octets_of fr gs) + wire_octets f.row) ≡ Ok f.row
    frame_named = rw frame_octets (between (octets_of fr gs) (octets_of fr hs) f legal_frame.legal legal_frame.agrees legal_frame.body).names
