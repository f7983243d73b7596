-- What packing and unpacking say of each other in each mode, over the promises of `pack` and `unpack`, and the worked examples.
use mathlib.Core.Path.{◌≡◌, refl, sym, ap, ◌∙◌}
use mathlib.Core.Bool.{true}
use mathlib.Core.List.{List, ◌++◌, flatten}
use Prim.Native.Nat.{ℕ, ◌≤◌, ◌<◌}
use native.Mathlib.Omega.{arith}
use lib.ListN.{length, get_or, take, drop}
use lib.Seq.{take_at}
use Rattle.std.specs.Prelude.{Result}
use Rattle.refusal.specs.Report.{Report, accepted, report_of}
use Rattle.refusal.specs.declared.Refusal.{Refusal}
use Rattle.fields.specs.Bits.{digits, spelled, bits_of, octets_of}
use Rattle.fields.specs.Table.{field_of, fields_of, field_bits, placed, body_of, first_large, run, consecutive}
use Rattle.fields.specs.Modes.{is_mode, widths, widths_of, table_of, count_of}
use Rattle.fields.specs.Answers.{unpacking, packing, Unpacks, Packs}
use Rattle.fields.specs.RoundTrip.{Fitting, RoundTrip}
use Rattle.fields.specs.Examples.{Examples}
use Rattle.fields.proofs.Answers.{accepted_fills, Unpackable, unpackable_accepted, accepted_unpackable, Packable, packable_accepted, accepted_packable}
use Rattle.fields.proofs.Large.{all_fit, none_is_large}
use Rattle.fields.proofs.Modes.{mode_once}
use Rattle.fields.proofs.RoundTrip.{round_trip, unpacked_fit}

-- the law, in each mode
pub mode_round_trip : (mode : ℕ) → is_mode mode ≡ true → RoundTrip (table_of mode)
mode_round_trip mode m = round_trip (table_of mode) (mode_once mode m)

number_of : {report other : Report ℕ} → report ≡ other → report.number ≡ 0 → other.number ≡ 0
number_of e h = ap (λ (r : Report ℕ). r.number) (sym e) ∙ h

-- a body that `unpack` accepted comes back from its fields
pub unpacked_packed : (mode : ℕ) (body before after : List ℕ) (r : Result ℕ Refusal) → Unpacks mode body before after r → (report_of 0 r).number ≡ 0
    → ((i : ℕ) → get_or body i 0 < 256) → (out left : List ℕ) (s : Result ℕ Refusal) → Packs mode (take (count_of mode) after) out left s → 7 ≤ length out
    → (report_of 0 s ≡ accepted 7) × (left ≡ body ++ drop 7 out)
unfolding count_of
unpacked_packed mode body before after r u h octets out left s k room =
    let a : Unpackable mode body (length before) = accepted_unpackable mode body (length before) (number_of u.answer h) in
    let fields : List ℕ = fields_of (table_of mode) body in
    let fit : Fitting (table_of mode) fields = unpacked_fit (table_of mode) body in
    let first : take (count_of mode) after ≡ fields =
    ap (take (count_of mode)) (u.fields ∙ accepted_fills (count_of mode) fields before (unpackable_accepted mode body (length before) a))
    ∙ take_at fields (drop (count_of mode) before) (count_of mode) fit.as_many in
    let p : packing mode (take (count_of mode) after) (length out) ≡ accepted 7 =
    rw first
    (packable_accepted mode fields (length out) (record {
      mode_known = a.mode_known;
      as_many = fit.as_many;
      none_large = omega (arith, none_is_large (table_of mode) fields fit);
      enough = room;
    })) in
    let again : body_of (table_of mode) fields ≡ body =
    (mode_round_trip mode a.mode_known).body_again body (record { seven = a.seven; octets = octets; end = a.end }) in
    (k.answer ∙ p, k.octets ∙ accepted_fills 7 (body_of (table_of mode) (take (count_of mode) after)) out p ∙ rw (first, again))

-- fields that `pack` accepted come back from their body
pub packed_unpacked : (mode : ℕ) (fields out left : List ℕ) (r : Result ℕ Refusal) → Packs mode fields out left r → (report_of 0 r).number ≡ 0
    → (before after : List ℕ) (s : Result ℕ Refusal) → Unpacks mode (take 7 left) before after s → count_of mode ≤ length before
    → (report_of 0 s ≡ accepted (count_of mode)) × (after ≡ fields ++ drop (count_of mode) before)
unfolding count_of
packed_unpacked mode fields out left r k h before after s u room =
    let a : Packable mode fields (length out) = accepted_packable mode fields (length out) (number_of k.answer h) in
    let body : List ℕ = body_of (table_of mode) fields in
    let law : RoundTrip (table_of mode) = mode_round_trip mode a.mode_known in
    let first : take 7 left ≡ body =
    ap (take 7) (k.octets ∙ accepted_fills 7 body out (packable_accepted mode fields (length out) a)) ∙ take_at body (drop 7 out) 7 (law.legal fields).seven in
    let p : unpacking mode (take 7 left) (length before) ≡ accepted (count_of mode) =
    rw first
    (unpackable_accepted mode body (length before)
    (record { mode_known = a.mode_known; seven = (law.legal fields).seven; end = (law.legal fields).end; enough = room })) in
    let again : fields_of (table_of mode) body ≡ fields =
    law.fields_again fields (all_fit (table_of mode) fields refl a.as_many refl a.none_large) in
    (u.answer ∙ p, u.fields ∙ accepted_fills (count_of mode) (fields_of (table_of mode) (take 7 left)) before p ∙ rw (first, again))

-- the worked examples, computed
pub examples : Examples
unfolding is_mode count_of table_of widths_of widths consecutive run unpacking packing first_large body_of octets_of placed flatten field_bits fields_of field_of bits_of spelled digits
examples = record {
  voicing_16 = record { takes_fields = refl; packed = refl; takes_body = refl; unpacked = refl };
  gain1_1 = record { takes_fields = refl; packed = refl; takes_body = refl; unpacked = refl };
  gain1_64 = record { takes_fields = refl; packed = refl; takes_body = refl; unpacked = refl };
}
