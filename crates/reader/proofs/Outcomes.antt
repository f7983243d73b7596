-- What reading comes to, case by case.
use mathlib.Core.Path.{◌≡◌, ap, ◌∙◌}
use mathlib.Core.List.{List}
use Prim.Native.Nat.{ℕ, ◌/◌, ◌≤◌, ◌<◌}
use native.Mathlib.Omega.{arith}
use lib.ListN.{length}
use borrow.Author.Tests.{lt-ltb, le-ltb}
use Rattle.refusal.specs.Report.{refusal}
use Rattle.refusal.specs.declared.Reason.{Reason}
use Rattle.wire.specs.Frame.{Frame, Legal, octets_of, bodies_of}
use Rattle.wire.specs.Walk.{at, refused, read_of}
use Rattle.wire.specs.declared.Framing.{Framing}
use Rattle.wire.proofs.Meaning.{reads_it}
use Rattle.reader.specs.Reading.{kept, handed_out, few_numbers, few_octets, outcome, read_into}
use Rattle.reader.specs.Promise.{Room}

module _ (fr : Framing) (p r b : List ℕ) where
  -- the walk refuses
  pub read_refused : {x : Reason} {place : ℕ} {behind : List Frame} → read_of fr p ≡ refused x place behind → read_into fr p r b ≡ kept r b (refusal x place)
  unfolding outcome
  read_refused e = ap (outcome r b) e

  module _ {fs : List Frame} (e : read_of fr p ≡ at 0 fs) where
    -- 9
    pub read_few_numbers : length r / 2 < length fs → read_into fr p r b ≡ few_numbers r b fs
    unfolding outcome
    read_few_numbers h = ap (outcome r b) e ∙ simp (lt-ltb (length r / 2) (length fs) h)

    -- 10
    pub read_few_octets : length fs ≤ length r / 2 → length b < length (bodies_of fs) → read_into fr p r b ≡ few_octets r b fs
    unfolding outcome
    read_few_octets h l = ap (outcome r b) e ∙ simp (le-ltb (length r / 2) (length fs) h, lt-ltb (length b) (length (bodies_of fs)) l)

    pub read_whole : length fs ≤ length r / 2 → length (bodies_of fs) ≤ length b → read_into fr p r b ≡ handed_out r b fs
    unfolding outcome
    read_whole h l = ap (outcome r b) e ∙ simp (le-ltb (length r / 2) (length fs) h, le-ltb (length b) (length (bodies_of fs)) l)

  -- a legal sequence that gives the payload is handed out where there is room for it
  pub hands_out : (fs : List Frame) → Legal fr fs → octets_of fr fs ≡ p → Room fs r b → read_into fr p r b ≡ handed_out r b fs
  hands_out fs l e (hr, hb) = read_whole (reads_it fr p fs l e) (omega arith) hb
