-- `wire::walk_back` walks as the definition does: the loop keeps what WalkLoop says, with the ticks as coder frames times those of their rate.
use mathlib.Core.Path.{refl}
use native.Mathlib.Omega.{arith}
use Rattle.wire.proofs.WalkLoop.{Fits, counted, added_noise, added_coder, loop_rate, loop_start, loop_end, loop_refused, loop_fits, loop_over}
use Rattle.wire.proofs.walk_back.Goals as goal

pub loop-unread-init : goal.loop-unread-init
loop-unread-init c = (loop_start _ _ c.requires c.agreed_rate-wanted.ensures, omega arith, λ e. refl)

pub returns-in-Err : goal.returns-in-Err
returns-in-Err c = rw c.at.ensures (loop_refused _ _ _ _ _ c.loop-unread.invariant.0 c.loop-unread-test.true _ c.in-Err.is c.next_frame.ensures)

pub overflow_sub-unread : goal.overflow_sub-unread
overflow_sub-unread c =
    let fits : Fits c.loop-unread.unread (counted c.loop-unread.frames c.loop-unread.coders c.loop-unread.octets c.loop-unread.rate) c.in-Ok.shape = loop_fits _ _ _ _ _ c.loop-unread.invariant.0 c.loop-unread-test.true (λ i. (c.type_inv.payload i).fits) _ c.in-Ok.is c.next_frame.ensures in
    fits.wire

pub overflow_add-octets : goal.overflow_add-octets
overflow_add-octets c =
    let fits : Fits c.loop-unread.unread (counted c.loop-unread.frames c.loop-unread.coders c.loop-unread.octets c.loop-unread.rate) c.in-Ok.shape = loop_fits _ _ _ _ _ c.loop-unread.invariant.0 c.loop-unread-test.true (λ i. (c.type_inv.payload i).fits) _ c.in-Ok.is c.next_frame.ensures in
    let f = fits.add.octets in omega arith

pub loop-unread-preserved-then-shape-ne0 : goal.loop-unread-preserved-then-shape-ne0
loop-unread-preserved-then-shape-ne0 c =
    let d = added_coder c.loop-unread.frames c.loop-unread.coders c.loop-unread.octets c.loop-unread.rate c.loop-unread.wanted c.in-Ok.shape c.if-shape-ne0.true c.loop-unread.invariant.2 (loop_rate _ _ _ _ _ c.loop-unread.invariant.0 c.loop-unread-test.true (λ i. (c.type_inv.payload i).fits) _ c.in-Ok.is c.next_frame.ensures c.if-shape-ne0.true) in
    (loop_over _ _ _ _ _ c.loop-unread.invariant.0 c.loop-unread-test.true (λ i. (c.type_inv.payload i).fits) _ c.in-Ok.is c.next_frame.ensures _ _ d, omega (arith, c.loop-unread.invariant.1), λ e. absurd (c.if-shape-ne0.true e))

pub loop-unread-preserved : goal.loop-unread-preserved
loop-unread-preserved c =
    let d = added_noise c.loop-unread.frames c.loop-unread.coders c.loop-unread.octets c.loop-unread.rate c.loop-unread.wanted c.in-Ok.shape c.if-shape-ne0.false in
    (loop_over _ _ _ _ _ c.loop-unread.invariant.0 c.loop-unread-test.true (λ i. (c.type_inv.payload i).fits) _ c.in-Ok.is c.next_frame.ensures _ _ d, omega (arith, c.loop-unread.invariant.1), c.loop-unread.invariant.2)

pub returns : goal.returns
returns c =
    rw c.ticks_of_rate.ensures (loop_end _ _ _ _ _ (λ i. (c.type_inv.payload i).fits) c.loop-unread.invariant.0 c.loop-unread-test.false)
