-- The writer behind the checks of the rows (docs/FORMAT.md, "Writing" and "Sessions"): 14 if the bodies' length is not the sum, 3 at
-- the first bad body end, 10; or the frames of these rows and bodies, whose octets are written.
use Rattle.std.specs.Prelude.{cond, not, List, [], ◌∷◌, ◌++◌, ℕ, ◌+◌, ◌-◌, ltb, eqb, length, get_or, take, drop, Option, Some, None}
use Rattle.refusal.specs.declared.Reason.TheVariants.{ReservedBits, OctetsTooShort, Unknown, WrongLength}
use Rattle.wire.specs.Frame.{Frame, base, top, body_octets, sum_of, octets_of}
use Rattle.wire.specs.declared.Framing.{Framing}
use Rattle.wire.specs.declared.Row.{Row}
use Rattle.writer.specs.Rows.{Outcome, passed, refused, refuse_if, and_then, check_of}

-- "Bodies stand one after another": the frames of these rows, their bodies cut from the lent octets
abbrev pub frames_of : List Row → List ℕ → List Frame
frames_of [] bs = []
frames_of (x ∷ xs) bs = record { row = x; body = take (body_octets x) bs } ∷ frames_of xs (drop (body_octets x) bs)

-- "the first bad body end", where the first of these bodies starts at a; "the end of a kind 5 body is its seventh octet", and of kind 6 as well
abbrev pub bad_end : Framing → ℕ → List Frame → Option ℕ
bad_end fr a [] = None
bad_end fr a (f ∷ fs) =
    cond (ltb (top fr f.row) (get_or f.body (base f.row - 1) 0)) (Some (a + (base f.row - 1)))
    (bad_end fr (a + body_octets f.row) fs)

-- "3 at the first bad body end"
abbrev pub refuse_end : {A : Type 0} → Option ℕ → Outcome A → Outcome A
refuse_end (Some i) rest = refused ReservedBits i
refuse_end None rest = rest

-- 10, its place the octets needed, or these frames
abbrev pub room_for : Framing → List Frame → ℕ → Outcome (List Frame)
room_for fr fs room = refuse_if (ltb room (length (octets_of fr fs))) OctetsTooShort (length (octets_of fr fs)) (passed fs)

-- "14 if the bodies' length is not the sum; 3 at the first bad body end; 10"
abbrev pub bodies_and_room : Framing → List Row → List ℕ → ℕ → Outcome (List Frame)
bodies_and_room fr xs bs room =
    refuse_if (not (eqb (length bs) (sum_of body_octets xs))) WrongLength (sum_of body_octets xs)
    (refuse_end (bad_end fr 0 (frames_of xs bs)) (room_for fr (frames_of xs bs) room))

-- "Writer", the whole order: rows, bodies, room for the octets
unfoldable pub write_of : Framing → List ℕ → List ℕ → ℕ → Outcome (List Frame)
write_of fr ns bs room = and_then (check_of fr ns) (λ xs. bodies_and_room fr xs bs room)

-- the octets of the frames that pass
abbrev pub octets_in : Framing → Outcome (List Frame) → Outcome (List ℕ)
octets_in fr o = and_then o (λ fs. passed (octets_of fr fs))

-- the octets to write in a session of this framing, if it is a legal one; "any other agreed rate is 12 at 0, before all else"
abbrev pub write_in : Option Framing → List ℕ → List ℕ → ℕ → Outcome (List ℕ)
write_in None ns bs room = refused Unknown 0
write_in (Some fr) ns bs room = octets_in fr (write_of fr ns bs room)

-- "An accepted writing .. fills the first places .. and changes nothing beyond"; a refusal "leaves all lent memory unchanged"
abbrev pub out_of : Outcome (List ℕ) → List ℕ → List ℕ
out_of (passed os) out = os ++ drop (length os) out
out_of (refused reason place) out = out
