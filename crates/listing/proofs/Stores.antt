-- Laws of `Stored`: octets that are stored one after another.
use Rattle.std.proofs.Common.{◌≡◌, ◌∙◌, List, ◌++◌, ℕ, ◌≤◌, length, length-append, arith}
use Rattle.octets.proofs.Put.{put-put}
use Rattle.listing.specs.Steps.{Stored}

pub stored_same : {o : List ℕ} {a : ℕ} {xs ys e : List ℕ} {r : ℕ} → xs ≡ ys → Stored o a xs e r → Stored o a ys e r
stored_same q p = rw q at p

-- octets behind others, up to an index of the whole
pub stored_then : {o : List ℕ} {a : ℕ} {xs e : List ℕ} {r : ℕ} → Stored o a xs e r → {ys f : List ℕ} {s : ℕ} → Stored e r ys f s → s ≤ length o
    → Stored o a (xs ++ ys) f s
stored_then {o} {a} {xs} p {ys} q h = record {
  octets = q.octets ∙ rw (p.octets, p.end) (put-put o a xs (omega (arith, p.end, q.end)) ys (omega (arith, p.end, q.end)));
  end = q.end ∙ rw p.end (omega (arith, length-append xs ys));
}
