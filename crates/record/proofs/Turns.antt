-- What the loop that makes a record afresh keeps: the first rows are taken, the record is theirs, and the numbers that are left hold the
-- others.
use Rattle.std.proofs.Common.{◌≡◌, ℕ, ◌<◌, List, [], ◌∷◌, ◌++◌, Some, length, get_or, take, drop, refl, sym, ap, ◌∙◌, subst, append_assoc, append-nil, length-append, arith}
use Rattle.std.proofs.Math.Seq.{take_at, drop_at}
use Rattle.wire.specs.Frame.{table, row, kind_of, numbers_of, LegalRows}
use Rattle.wire.specs.declared.Framing.TheVariants.{Unframed}
use Rattle.wire.specs.declared.Kind.{Kind}
use Rattle.wire.specs.declared.Row.{Row}
use Rattle.wire.proofs.TableLaws.{kind_of_lem}
use Rattle.writer.proofs.WireRows.{rows_most}
use Rattle.record.specs.Afresh.{record_of}
use Rattle.record.specs.Stages.{Within, Holds, with_row}
use Rattle.record.specs.declared.Record.{Record}
use Rattle.record.proofs.RowLists.{legal_front, few, with_row_lem}

-- the rows xs are taken up to those that the numbers ns hold
pub record Taken (xs : List Row) (ns : List ℕ) (made : Record) : Type 0 where
  pub done : List Row
  pub rest : List Row
  pub is : xs ≡ done ++ rest
  pub left : ns ≡ numbers_of rest
  pub held : made ≡ record_of done

-- what is kept of each list of rows that all numbers hold
abbrev pub Turn : List ℕ → List ℕ → Record → Type 0
Turn all ns made = (xs : List Row) → Holds all xs → Taken xs ns made

pub turn_start : (all : List ℕ) {ns : List ℕ} {made : Record} → ns ≡ all → made ≡ record_of [] → Turn all ns made
turn_start all e m = λ xs h. record { done = []; rest = xs; is = refl; left = e ∙ h.numbers; held = m }

module _ (all ns : List ℕ) (made : Record) (t : Turn all ns made) (xs : List Row) (h : Holds all xs) where
  -- no row is left
  pub turn_end : length ns < 2 → made ≡ record_of xs
  turn_end l = go (t xs h)
    where
      nil : (rest : List Row) → length (numbers_of rest) < 2 → rest ≡ []
      nil [] z = refl
      nil (x ∷ rest) z = absurd (omega arith)

      go : Taken xs ns made → made ≡ record_of xs
      go k = k.held ∙ ap record_of (sym (k.is ∙ ap (λ (zs : List Row). k.done ++ zs) (nil k.rest (omega (arith, ap length k.left))) ∙ append-nil k.done))

  -- the next row, whose two numbers are a pair, and those behind it
  record Next (pair behind : List ℕ) : Type 0 where
    done : List Row
    first : Row
    rest : List Row
    is : xs ≡ done ++ (first ∷ rest)
    here : pair ≡ (table first.kind).number ∷ first.tc ∷ []
    left : behind ≡ numbers_of rest
    held : made ≡ record_of done

  module _ (pair behind : List ℕ) (e : ns ≡ pair ++ behind) (two : length pair ≡ 2) where
    next : Next pair behind
    next = go (t xs h).rest refl
      where
        k : Taken xs ns made
        k = t xs h

        go : (zs : List Row) → k.rest ≡ zs → Next pair behind
        go [] q = absurd (omega (arith, ap length e, length-append pair behind, ap length (k.left ∙ ap numbers_of q)))
        go (x ∷ zs) q =
            let all_left : pair ++ behind ≡ (table x.kind).number ∷ x.tc ∷ numbers_of zs = sym e ∙ k.left ∙ ap numbers_of q in
            record {
              done = k.done;
              first = x;
              rest = zs;
              is = k.is ∙ ap (λ (l : List Row). k.done ++ l) q;
              here = sym (take_at pair behind 2 two) ∙ ap (take 2) all_left;
              left = sym (drop_at pair behind 2 two) ∙ ap (drop 2) all_left;
              held = k.held;
            }

    few_done : (n : Next pair behind) → length n.done < 200
    few_done n = omega (arith, ap length n.is, length-append n.done (n.first ∷ n.rest), rows_most Unframed xs h.legal)

    kind_here : (n : Next pair behind) → kind_of (get_or pair 0 0) ≡ Some n.first.kind
    kind_here n = ap (λ (l : List ℕ). kind_of (get_or l 0 0)) n.here ∙ kind_of_lem n.first.kind

    pub turn_known : (k : Kind) × (kind_of (get_or pair 0 0) ≡ Some k)
    turn_known = let n = next in (n.first.kind, kind_here n)

    pub turn_within : Within made
    turn_within =
        let n = next in
        let f = few n.done made (record { legal = legal_front n.done (n.first ∷ n.rest) (subst (LegalRows Unframed) n.is h.legal); is = n.held }) in
        record { rows = omega (arith, few_done n); octets = f.octets; ticks = f.ticks }

    pub turn_taken : (j : Kind) → kind_of (get_or pair 0 0) ≡ Some j → {q : Record} → q ≡ with_row made (row j (get_or pair 1 0)) → Taken xs behind q
    turn_taken j k w =
        let n = next in
        let same : Some j ≡ Some n.first.kind = sym k ∙ kind_here n in
        let kind : j ≡ n.first.kind = cc in
        let tc : get_or pair 1 0 ≡ n.first.tc = ap (λ (l : List ℕ). get_or l 1 0) n.here in
        let x : row j (get_or pair 1 0) ≡ n.first = λ i. row (kind i) (tc i) in
        record {
          done = n.done ++ (n.first ∷ []);
          rest = n.rest;
          is = n.is ∙ sym (append_assoc n.done (n.first ∷ []) n.rest);
          left = n.left;
          held = w ∙ ap (with_row made) x ∙ ap (λ (p : Record). with_row p n.first) n.held ∙ with_row_lem n.done n.first (few_done n);
        }
