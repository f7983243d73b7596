-- A row's frame by the numbers that `wire::shape_of` gives: its sizes, its count, and its octets.
use mathlib.Core.Path.{◌≡◌, refl, sym, ap}
use mathlib.Core.Bool.{Bool, true, false}
use mathlib.Core.List.{List, [], ◌∷◌, ◌++◌}
use Prim.Native.Nat.{ℕ, ◌+◌, ◌-◌, ◌≤◌}
use native.Mathlib.Omega.{arith}
use lib.Dec.{leb}
use lib.ListN.{length, get_or, set}
use borrow.Author.Tests.{leb-true}
use Rattle.wire.specs.Frame.{LegalRow, table, base, top, code, count_in, body_octets, wire_octets, wire_of}
use Rattle.wire.specs.Answers.{shape_of}
use Rattle.wire.specs.declared.Counting.{Counting}
use Rattle.wire.specs.declared.Counting.TheVariants.{Uncounted, ShortOrLong, Long}
use Rattle.wire.specs.declared.Framing.{Framing}
use Rattle.wire.specs.declared.Row.{Row}
use Rattle.wire.specs.declared.Shape.{Shape}
use Rattle.wire.proofs.TableLaws.{bounds, octet, count_most}
use Rattle.writer.specs.Stages.{count_by, FrameFits, frame_by}

-- ---- sizes

-- what the sums of the code need of a shape
pub record Sizes (x : Row) (s : Shape) : Type 0 where
  pub octets : s.entry.octets ≡ base x
  pub some : 2 ≤ base x
  pub body : s.body ≡ body_octets x
  pub wire : s.wire ≡ wire_octets x

pub sizes : (fr : Framing) (x : Row) {s : Shape} → s ≡ shape_of fr x → Sizes x s
sizes fr x e = rw e (record { octets = refl; some = (bounds x.kind).least; body = refl; wire = refl })

-- ---- the count, from how many octets it takes

-- "192 + (TC - 15)" is TC + 177, and TC is at most 77 where the count is short
count_is : (c : Counting) (t : ℕ) → (count_in c t ≡ count_by (length (count_in c t)) t) × (length (count_in c t) ≡ 1 → t ≤ 77)
unfolding count_in
count_is Uncounted t = (refl, λ e. absurd (omega arith))
count_is ShortOrLong t = go (leb 15 t) refl (leb t 77) refl
  where
    go : (a : Bool) → leb 15 t ≡ a → (b : Bool) → leb t 77 ≡ b → (count_in ShortOrLong t ≡ count_by (length (count_in ShortOrLong t)) t) × (length (count_in ShortOrLong t) ≡ 1 → t ≤ 77)
    go false p b q = rw p (refl, λ e. absurd (omega arith))
    go true p false q = rw (p, q) (refl, λ e. absurd (omega arith))
    go true p true q =
        let e : 192 + (t - 15) ≡ t + 177 = omega (arith, leb-true 15 t p) in
        rw (p, q) (ap (λ (v : ℕ). v ∷ []) e, λ z. leb-true t 77 q)
count_is Long t = (refl, λ e. absurd (omega arith))

-- ---- a row's frame, by its shape

pub shape_frame : (fr : Framing) (x : Row) (b : List ℕ) → frame_by (shape_of fr x) b ≡ wire_of fr x b
shape_frame fr x b = ap (λ (c : List ℕ). set b (base x - 1) (get_or b (base x - 1) 0 + code fr x) ++ c) (sym (count_is (table x.kind).counting x.tc).0)

pub shape_fits : (fr : Framing) (x : Row) (b : List ℕ) (room : ℕ) → LegalRow x → length b ≡ body_octets x → get_or b (base x - 1) 0 ≤ top fr x → room ≡ wire_octets x → FrameFits (shape_of fr x) b room
shape_fits fr x b room legal size end wire =
    let k = bounds x.kind in
    record {
      body = size;
      size = wire;
      base = omega arith;
      some = omega arith;
      last = omega (arith, octet fr x.kind);
      count = record { most = count_most (table x.kind).counting x.tc; octet = omega (arith, legal.most); short = (count_is (table x.kind).counting x.tc).1 };
    }
