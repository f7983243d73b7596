-- What `list_block` promises, from the definitions of `listing`.
use Rattle.std.specs.Prelude.{◌≡◌, List, ℕ, None, Result, IfOk, OnOk}
use Rattle.std.specs.declared.io.Error.{Error}
use Rattle.listing.specs.Listing.{run, state_of, started}
use Rattle.listing.specs.declared.State.{State}

-- in the state s, with b in the payload's buffer: where all lines of the input are written, the state is the one behind it, and the
-- payload's buffer holds b'. Whether the system takes them is left free, and so is what the output buffer then holds
pub record ListsBlock (s : State) (input b : List ℕ) (r : Result State Error) (b' : List ℕ) : Type 0 where
  pub state : IfOk r (λ t. t ≡ state_of (run None (started s b) input))
  pub payload : OnOk r (b' ≡ (run None (started s b) input).buffer)
