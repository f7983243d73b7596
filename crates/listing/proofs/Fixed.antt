-- What `list` and `close` promise leaves one answer, and one content of the lent buffers.
use mathlib.Core.Path.{◌≡◌, sym, ◌∙◌}
use mathlib.Core.List.{List}
use Prim.Native.Nat.{ℕ}
use Rattle.std.specs.Prelude.{Result}
use Rattle.refusal.specs.declared.Refusal.{Refusal}
use Rattle.listing.specs.Answers.{ListsPart, Closes}
use Rattle.listing.specs.declared.State.{State}
use Rattle.listing.specs.declared.Progress.{Progress}

pub list_fixed : {s : State} {input b out : List ℕ} {r r'' : Result Progress Refusal} {b' b'' out' out'' : List ℕ} → ListsPart s input b out r b' out' → ListsPart s input b out r'' b'' out''
    → (r ≡ r'') × (b' ≡ b'') × (out' ≡ out'')
list_fixed g h = (g.answer ∙ sym h.answer, g.payload ∙ sym h.payload, g.output ∙ sym h.output)

pub close_fixed : {s : State} {out : List ℕ} {r r'' : Result ℕ Refusal} {out' out'' : List ℕ} → Closes s out r out' → Closes s out r'' out''
    → (r ≡ r'') × (out' ≡ out'')
close_fixed g h = (g.answer ∙ sym h.answer, g.output ∙ sym h.output)
