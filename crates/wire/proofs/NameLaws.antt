-- What the last octets name is right: each legal row is named by the octets that it ends in, and what is named ends in them. Both are
-- tests over all framings, kinds and octets, which antt computes.
use mathlib.Core.Path.{◌≡◌}
use mathlib.Core.Bool.{Bool, true, false, cond, not, ◌&&◌, ◌||◌}
use mathlib.Core.List.{List, [], ◌∷◌}
use Prim.Native.Nat.{ℕ, suc, ◌-◌, ◌<◌}
use native.Mathlib.Omega.{arith}
use lib.Dec.{T, leb, ltb, eqb, leb→le, eqb→eq}
use Rattle.std.specs.Prelude.{Result, Ok, Err}
use Rattle.refusal.specs.declared.Reason.{Reason}
use Rattle.refusal.specs.Numbers.{number_of}
use Rattle.wire.specs.Frame.{framings, agreed_rate, kinds, table, row, code, top, count_in, count_of, LegalRow}
use Rattle.wire.specs.Walk.{named, counted}
use Rattle.wire.specs.declared.Framing.{Framing, Framing}
use Rattle.wire.specs.declared.Kind.{Kind, Kind}
use Rattle.wire.specs.declared.Row.{Row, Row}
use Rattle.wire.proofs.TableLaws.{first, second, every, at_kind, each, at_number, in_all, at_framing, same_number}

-- ---- each legal row is named by the octets that it ends in

abbrev pub same : Result Row Reason → Row → Bool
same (Err n) x = false
same (Ok y) x = eqb (table y.kind).number (table x.kind).number && eqb y.tc x.tc

pub same_is : (e : Result Row Reason) (x : Row) → T (same e x) → e ≡ Ok x
same_is (Err n) x h = absurd h
same_is (Ok y) x h =
    let numbers : Bool = eqb (table y.kind).number (table x.kind).number in
    let k : y.kind ≡ x.kind = same_number y.kind x.kind (eqb→eq _ _ (first numbers (eqb y.tc x.tc) h)) in
    let t : y.tc ≡ x.tc = eqb→eq _ _ (second numbers (eqb y.tc x.tc) h) in
    λ i. Ok (record { kind = k i; tc = t i })

-- the row x, whose count is cs: where it has none, its base's last octet names it
abbrev pub named_by : Framing → Row → List ℕ → Bool
named_by fr x [] = eqb x.tc 0 && each (λ (y : ℕ). same (named fr y) x) (code fr x) (suc (top fr x))
named_by fr x (c ∷ []) = ltb c 255 && same (named fr c) x
named_by fr x (c ∷ d ∷ []) = eqb d 255 && same (counted c) x
named_by fr x (c ∷ d ∷ e ∷ cs) = false

-- a kind that the session leaves room for: a coder frame is of the rate agreed
abbrev pub agrees : Framing → Kind → Bool
agrees fr k = eqb (agreed_rate fr) 0 || (eqb (table k).rate 0 || eqb (agreed_rate fr) (table k).rate)

rows_named : Framing → Kind → Bool
rows_named fr k =
    cond (agrees fr k) (each (λ (t : ℕ). named_by fr (row k t) (count_of (row k t))) (table k).least (suc ((table k).most - (table k).least))) true

all_named : T (in_all (λ (fr : Framing). every (rows_named fr) kinds) framings)
unfolding rows_named named counted count_in
all_named = tt

where_true : (a b : Bool) → T (cond a b true) → T a → T b
where_true true b h t = h
where_true false b h t = absurd t

pub row_named : (fr : Framing) (x : Row) → T (agrees fr x.kind) → LegalRow x → T (named_by fr x (count_of x))
unfolding rows_named
row_named fr x a l =
    at_number (λ (t : ℕ). named_by fr (row x.kind t) (count_of (row x.kind t))) (table x.kind).least (suc ((table x.kind).most - (table x.kind).least))
    (where_true (agrees fr x.kind) _ (at_kind (rows_named fr) (at_framing (λ (s : Framing). every (rows_named s) kinds) all_named fr) x.kind) a)
    x.tc l.least (omega (arith, l.least, l.most))

-- ---- what is named ends in the octets that name it

abbrev pub legal : Row → Bool
legal x = leb (table x.kind).least x.tc && leb x.tc (table x.kind).most

pub legal_is : (x : Row) → T (legal x) → LegalRow x
legal_is x h = record {
  least = leb→le _ _ (first (leb (table x.kind).least x.tc) (leb x.tc (table x.kind).most) h);
  most = leb→le _ _ (second (leb (table x.kind).least x.tc) (leb x.tc (table x.kind).most) h);
}

-- a number from 1 to 8, but not 5, which is no longer given
abbrev pub refusal : ℕ → Bool
refusal n = leb 1 n && (leb n 8 && not (eqb n 5))

-- the row x, whose count is cs, ends in the octet y, which is below 255
abbrev pub ends_in : Framing → ℕ → Row → List ℕ → Bool
ends_in fr y x [] = eqb x.tc 0 && leb (code fr x) y
ends_in fr y x (c ∷ []) = eqb (code fr x) 0 && eqb c y
ends_in fr y x (c ∷ d ∷ cs) = false

abbrev pub name_holds : Framing → ℕ → Result Row Reason → Bool
name_holds fr y (Err n) = refusal (number_of n)
name_holds fr y (Ok x) = legal x && ends_in fr y x (count_of x)

all_names_hold : T (in_all (λ (fr : Framing). each (λ (y : ℕ). name_holds fr y (named fr y)) 0 255) framings)
unfolding named count_in
all_names_hold = tt

pub named_holds : (fr : Framing) (y : ℕ) → y < 255 → T (name_holds fr y (named fr y))
named_holds fr y h =
    at_number (λ (z : ℕ). name_holds fr z (named fr z)) 0 255 (at_framing (λ (s : Framing). each (λ (z : ℕ). name_holds s z (named s z)) 0 255) all_names_hold fr) y (omega arith) (omega arith)

-- the row x, whose count is cs, ends in the octets t and 255
abbrev pub ends_long : Framing → ℕ → Row → List ℕ → Bool
ends_long fr t x [] = false
ends_long fr t x (c ∷ []) = false
ends_long fr t x (c ∷ d ∷ []) = eqb (code fr x) 0 && (eqb c t && eqb d 255)
ends_long fr t x (c ∷ d ∷ e ∷ cs) = false

abbrev pub long_name_holds : Framing → ℕ → Result Row Reason → Bool
long_name_holds fr t (Err n) = refusal (number_of n)
long_name_holds fr t (Ok x) = legal x && ends_long fr t x (count_of x)

all_long_names_hold : T (in_all (λ (fr : Framing). each (λ (t : ℕ). long_name_holds fr t (counted t)) 0 256) framings)
unfolding counted count_in
all_long_names_hold = tt

pub counted_holds : (fr : Framing) (t : ℕ) → t < 256 → T (long_name_holds fr t (counted t))
counted_holds fr t h =
    at_number (λ (z : ℕ). long_name_holds fr z (counted z)) 0 256 (at_framing (λ (s : Framing). each (λ (z : ℕ). long_name_holds s z (counted z)) 0 256) all_long_names_hold fr) t (omega arith) (omega arith)
