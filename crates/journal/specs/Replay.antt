-- "Reading goes entry by entry": calls of `entry_at` one after another, each from where the last entry ended.
use Rattle.std.specs.Prelude.{◌≡◌, List, [], ◌∷◌, ◌++◌, ℕ, ◌-◌, length, take, drop}
use Rattle.refusal.specs.Numbers.{number_of}
use Rattle.refusal.specs.declared.Reason.{Reason}
use Rattle.journal.specs.Entry.{Entry, Legal, entry_octets, journal_octets, AllLegal}
use Rattle.journal.specs.Broken.{Broken}
use Rattle.journal.specs.Answers.{handed, nothing, entry_at}

-- how reading ends: a refusal's number and place, both 0 at the journal's end
pub record Ending : Type 0 where
  pub number : ℕ
  pub place : ℕ

-- at the journal's end
abbrev pub whole : Ending
whole = record { number = 0; place = 0 }

-- from the index a of the octets xs on, the answers are these entries, and then this ending
pub data Replay (xs : List ℕ) : ℕ → List Entry → Ending → Type 0 where
  stops : {a n p : ℕ} → entry_at xs a ≡ nothing n p → Replay xs a [] (record { number = n; place = p })
  goes : {a : ℕ} {es : List Entry} {o : Ending} (t s b n : ℕ) → entry_at xs a ≡ handed t s b n → Replay xs n es o
      → Replay xs a (record { ticks = t; source = s; payload = take (n - b) (drop b xs) } ∷ es) o

-- what is left behind the entries: nothing, at the journal's end; or octets that are refused with a number, and the place is
-- where they begin
pub data Ended (rest : List ℕ) (p : ℕ) : Ending → Type 0 where
  at_end : rest ≡ [] → Ended rest p whole
  at_refusal : {r : Reason} → Broken rest r → Ended rest p (record { number = number_of r; place = p })

-- "entries handed out before a refusal stand, and its place is where the refused entry begins, in octets from the journal's
-- start": the octets xs are those of these legal entries, and then a rest that ends so
pub record Holds (xs : List ℕ) (es : List Entry) (o : Ending) : Type 0 where
  pub rest : List ℕ
  pub text : xs ≡ journal_octets es ++ rest
  pub legal : AllLegal es
  pub ended : Ended rest (length (journal_octets es)) o

-- a refusal with the number k at the place p, behind these entries: the octets xs are theirs and then a rest, the place is where it begins, and
-- it begins with no legal entry's octets
pub record RefusedAt (xs : List ℕ) (es : List Entry) (k p : ℕ) : Type 0 where
  pub rest : List ℕ
  pub text : xs ≡ journal_octets es ++ rest
  pub place : p ≡ length (journal_octets es)
  pub reason : Reason
  pub number : k ≡ number_of reason
  pub why : Broken rest reason
  pub no_entry : (e : Entry) (more : List ℕ) → Legal e → rest ≡ entry_octets e ++ more → ⊥
