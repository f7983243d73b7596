-- The octets that were passed are put.
use Rattle.std.proofs.Common.{◌≡◌, refl, ◌∙◌, sym, ap, reverse, List, ℕ, zero, suc, ◌*◌, ◌-◌, ◌^◌, ◌/◌, ◌%◌, ◌<◌, get_or, arith}
use Rattle.std.specs.Int.{bytes_high_first}
use Rattle.fields.specs.Bits.{digits, spelled, octets_of}
use Rattle.fields.proofs.Digits.{digits-part, digits_mod}
use Rattle.fields.proofs.Filled.{filled_start, filled_step, filled_end}
use Rattle.fields.proofs.Octets.{length_octets, octet_at}
use Rattle.fields.proofs.put_octets.Goals as goal

-- one octet of a word
octet_of : (word i : ℕ) → i < 7 → get_or (bytes_high_first 8 word) i 0 ≡ word / 2 ^ (56 - 8 * i) % 256
octet_of word zero h = refl
octet_of word (suc zero) h = refl
octet_of word (suc (suc zero)) h = refl
octet_of word (suc (suc (suc zero))) h = refl
octet_of word (suc (suc (suc (suc zero)))) h = refl
octet_of word (suc (suc (suc (suc (suc zero))))) h = refl
octet_of word (suc (suc (suc (suc (suc (suc zero)))))) h = refl
octet_of word (suc (suc (suc (suc (suc (suc (suc i))))))) h = absurd (omega arith)

-- its bits in reverse order are those that the body has there
put : (word i : ℕ) → i < 7 → {octets : List ℕ} → octets ≡ bytes_high_first 8 word → {v : ℕ} → v ≡ spelled (reverse (digits 8 (get_or octets i 0)))
    → v ≡ get_or (octets_of 7 (digits 64 word)) i 0
put word i l {octets} o {v} e =
    let bits : ℕ = word / 2 ^ (56 - 8 * i) in
    e ∙ ap (λ (n : ℕ). spelled (reverse (digits 8 n))) (ap (λ (os : List ℕ). get_or os i 0) o ∙ octet_of word i l)
    ∙ ap (λ (ds : List ℕ). spelled (reverse ds)) (digits_mod 8 bits ∙ sym (digits-part 64 word (8 * i) 8 (56 - 8 * i) (omega arith)))
    ∙ sym (octet_at 7 (digits 64 word) i l)

pub loop-i-init : goal.loop-i-init
loop-i-init c = filled_start _ _

pub loop-i-preserved : goal.loop-i-preserved
loop-i-preserved c =
    filled_step _ _ _ _ c.loop-i.invariant (length_octets 7 _ ∙ sym c.told-out) (omega (arith, length_octets 7 (digits 64 c.args.word)))
    (put _ _ c.loop-i-test.true c.to_be_bytes-octets.ensures c.reversed.ensures)

pub returns : goal.returns
returns c = filled_end _ _ _ _ c.loop-i.invariant (length_octets 7 _ ∙ sym c.told-out) (omega (arith, length_octets 7 (digits 64 c.args.word)))
