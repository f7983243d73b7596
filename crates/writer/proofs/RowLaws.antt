-- The checks of one row: what each test comes to, what a row that passes shows, and that a row that may stand there passes.
use mathlib.Core.Path.{◌≡◌, refl, sym, ap, ◌∙◌}
use mathlib.Core.Logic.{◌⊎◌, inl, inr}
use mathlib.Core.Bool.{Bool, true, false, ◌||◌}
use mathlib.Core.List.{List, [], ◌∷◌, ◌++◌}
use Prim.Native.Nat.{ℕ, ◌≤◌, ◌<◌}
use native.Mathlib.Omega.{arith}
use native.Mathlib.Decide.{ℕ_discrete}
use lib.ListN.{length}
use borrow.Author.Tests.{lt-ltb, le-ltb, eq-eqb, ne_eqb}
use Rattle.std.specs.Prelude.{Option, Some, None, Result, Ok, Err, ok_or}
use Rattle.refusal.specs.declared.Reason.{Reason}
use Rattle.refusal.specs.declared.Reason.TheVariants.{ComfortNoiseNotLast, RatesMixed, Unknown, WrongTc}
use Rattle.wire.specs.Frame.{agreed_rate, AgreedOn, LegalRow, table, row, rate}
use Rattle.wire.specs.Answers.{shape_of}
use Rattle.wire.specs.declared.Framing.{Framing}
use Rattle.wire.specs.declared.Kind.{Kind}
use Rattle.wire.specs.declared.Row.{Row}
use Rattle.wire.specs.declared.Shape.{Shape}
use Rattle.octets.proofs.Order.{below_or}
use Rattle.writer.specs.Rows.{Outcome, passed, refused, is_wrong_tc, differs, disagrees, is_mixed, row_of}
use Rattle.writer.specs.Stages.{shape_checked, AllOf, OneRate, named_row}

-- ---- rates

pub all_same : (r : ℕ) (xs : List Row) → AllOf r xs → differs r xs ≡ false
all_same r [] a = refl
all_same r (x ∷ xs) a = simp (eq-eqb (rate x) r a.0) (all_same r xs a.1)

pub same_all : (r : ℕ) (xs : List Row) → differs r xs ≡ false → AllOf r xs
same_all r [] e = tt
same_all r (x ∷ xs) e = go (ℕ_discrete (rate x) r) (same_all r xs)
  where
    go : Dec (rate x ≡ r) → (differs r xs ≡ false → AllOf r xs) → AllOf r (x ∷ xs)
    go (yes q) rest = (q, rest (simp (eq-eqb (rate x) r q) at e))
    go (no q) rest = absurd (let d : true ≡ false = simp (ne_eqb (rate x) r q) at e in cc)

pub all_snoc : (r : ℕ) (xs : List Row) (x : Row) → AllOf r xs → rate x ≡ r → AllOf r (xs ++ (x ∷ []))
all_snoc r [] x a e = (e, tt)
all_snoc r (y ∷ xs) x a e = (a.0, all_snoc r xs x a.1 e)

pub all_front : (r : ℕ) (xs : List Row) (x : Row) → AllOf r (xs ++ (x ∷ [])) → AllOf r xs × (rate x ≡ r)
all_front r [] x a = (tt, a.0)
all_front r (y ∷ xs) x a = let w = all_front r xs x a.1 in ((a.0, w.0), w.1)

module _ (fr : Framing) (r : ℕ) where
  agrees : AgreedOn fr r → disagrees fr r ≡ false
  agrees (inl z) = simp (le-ltb 0 (agreed_rate fr) (omega arith))
  agrees (inr e) = go (below_or 0 (agreed_rate fr))
    where
      go : (0 < agreed_rate fr) ⊎ (agreed_rate fr ≤ 0) → disagrees fr r ≡ false
      go (inl h) = simp (lt-ltb 0 (agreed_rate fr) h, eq-eqb (agreed_rate fr) r e)
      go (inr h) = simp (le-ltb 0 (agreed_rate fr) h)

  other : (agreed_rate fr ≡ 0 → ⊥) → (agreed_rate fr ≡ r → ⊥) → disagrees fr r ≡ true
  other z n = simp (lt-ltb 0 (agreed_rate fr) (omega arith), ne_eqb (agreed_rate fr) r n)

  agreed_on : disagrees fr r ≡ false → AgreedOn fr r
  agreed_on e = go (ℕ_discrete (agreed_rate fr) 0) (ℕ_discrete (agreed_rate fr) r)
    where
      go : Dec (agreed_rate fr ≡ 0) → Dec (agreed_rate fr ≡ r) → AgreedOn fr r
      go (yes z) q = inl z
      go (no z) (yes q) = inr q
      go (no z) (no q) = absurd (let d : true ≡ false = sym (other z q) ∙ e in cc)

  module _ (xs : List Row) where
    pub unmixed : AgreedOn fr r → AllOf r xs → is_mixed fr r xs ≡ false
    unmixed g a = simp (agrees g) (all_same r xs a)

    pub of_one : is_mixed fr r xs ≡ false → AgreedOn fr r × AllOf r xs
    of_one e = go (disagrees fr r) refl e
      where
        go : (b : Bool) → disagrees fr r ≡ b → (b || differs r xs) ≡ false → AgreedOn fr r × AllOf r xs
        go true q d = absurd cc
        go false q d = (agreed_on q, same_all r xs d)

module _ (fr : Framing) (s : ℕ) (xs : List Row) (one : OneRate fr s xs) (r : ℕ) where
  pub one_none : s ≡ 0 → is_mixed fr r xs ≡ false
  one_none z = ap (is_mixed fr r) (one.none z) ∙ unmixed fr r [] (go one.agreed) tt
    where
      go : AgreedOn fr s → AgreedOn fr r
      go (inl e) = inl e
      go (inr e) = inl (e ∙ z)

  pub one_same : r ≡ s → is_mixed fr r xs ≡ false
  one_same e = unmixed fr r xs (rw e one.agreed) (rw e one.same)

  pub one_other : (s ≡ 0 → ⊥) → (r ≡ s → ⊥) → is_mixed fr r xs ≡ true
  one_other z n = go xs one.same one.some
    where
      or_true : (b : Bool) → (b || true) ≡ true
      or_true true = refl
      or_true false = refl

      go : (ys : List Row) → AllOf s ys → (ys ≡ [] → s ≡ agreed_rate fr) → is_mixed fr r ys ≡ true
      go [] a e = simp (other fr r (λ q. z (e refl ∙ q)) (λ q. n (sym q ∙ sym (e refl))))
      go (y ∷ ys) a e = simp (ne_eqb (rate y) r (λ q. n (sym q ∙ a.0))) (or_true (disagrees fr r))

-- ---- the tests, one by one

module _ (fr : Framing) (earlier : List Row) (later : ℕ) (k : Kind) (t : ℕ) where
  pub row_low : t < (table k).least → row_of fr earlier later (Some k) t ≡ refused WrongTc (length earlier)
  unfolding row_of
  row_low h = simp (lt-ltb t (table k).least h)

  pub row_high : (table k).least ≤ t → (table k).most < t → row_of fr earlier later (Some k) t ≡ refused WrongTc (length earlier)
  unfolding row_of
  row_high l h = simp (le-ltb t (table k).least l, lt-ltb (table k).most t h)

  module _ (legal : LegalRow (row k t)) where
    right : is_wrong_tc k t ≡ false
    right = simp (le-ltb t (table k).least legal.least, le-ltb (table k).most t legal.most)

    pub noise_followed : (table k).rate ≡ 0 → 0 < later → row_of fr earlier later (Some k) t ≡ refused ComfortNoiseNotLast (length earlier)
    unfolding row_of
    noise_followed z h = simp (right, eq-eqb (table k).rate 0 z, lt-ltb 0 later h)

    pub noise_last : (table k).rate ≡ 0 → later ≤ 0 → row_of fr earlier later (Some k) t ≡ passed (row k t)
    unfolding row_of
    noise_last z h = simp (right, eq-eqb (table k).rate 0 z, le-ltb 0 later h)

    module _ (z : (table k).rate ≡ 0 → ⊥) where
      pub coder_same : is_mixed fr (table k).rate earlier ≡ false → row_of fr earlier later (Some k) t ≡ passed (row k t)
      unfolding row_of
      coder_same e = simp (right, ne_eqb (table k).rate 0 z, e)

      pub coder_mixed : is_mixed fr (table k).rate earlier ≡ true → row_of fr earlier later (Some k) t ≡ refused RatesMixed (length earlier)
      unfolding row_of
      coder_mixed e = simp (right, ne_eqb (table k).rate 0 z, e)

-- ---- a row that passes

-- comfort noise that nothing follows, or a coder row of the rate of all earlier ones, the rate agreed if there is one
abbrev pub Standing : Framing → List Row → ℕ → Row → Type 0
Standing fr earlier later x = ((rate x ≡ 0) × (later ≤ 0)) ⊎ ((rate x ≡ 0 → ⊥) × AgreedOn fr (rate x) × AllOf (rate x) earlier)

-- the row x was made of this kind and TC, and may stand there
pub record Fit (fr : Framing) (earlier : List Row) (later : ℕ) (k : Option Kind) (t : ℕ) (x : Row) : Type 0 where
  pub kind : k ≡ Some x.kind
  pub tc : t ≡ x.tc
  pub legal : LegalRow x
  pub stands : Standing fr earlier later x

-- what a check of a row says; a refusal's place is the row
abbrev pub Says : Framing → List Row → ℕ → Option Kind → ℕ → Outcome Row → Type 0
Says fr earlier later k t (passed x) = Fit fr earlier later k t x
Says fr earlier later k t (refused reason place) = place ≡ length earlier

pub says : (fr : Framing) (earlier : List Row) (later : ℕ) (k : Option Kind) (t : ℕ) → Says fr earlier later k t (row_of fr earlier later k t)
unfolding row_of
says fr earlier later None t = refl
says fr earlier later (Some k) t = low (below_or t (table k).least) (below_or (table k).most t)
  where
    mixed : LegalRow (row k t) → ((table k).rate ≡ 0 → ⊥) → (b : Bool) → is_mixed fr (table k).rate earlier ≡ b → Says fr earlier later (Some k) t (row_of fr earlier later (Some k) t)
    mixed l z true e = rw (coder_mixed fr earlier later k t l z e) refl
    mixed l z false e = rw (coder_same fr earlier later k t l z e) (record { kind = refl; tc = refl; legal = l; stands = inr (let w = of_one fr (table k).rate earlier e in (z, w.0, w.1)) })

    stands : LegalRow (row k t) → Dec ((table k).rate ≡ 0) → (0 < later) ⊎ (later ≤ 0) → Says fr earlier later (Some k) t (row_of fr earlier later (Some k) t)
    stands l (yes z) (inl h) = rw (noise_followed fr earlier later k t l z h) refl
    stands l (yes z) (inr h) = rw (noise_last fr earlier later k t l z h) (record { kind = refl; tc = refl; legal = l; stands = inl (z, h) })
    stands l (no z) h = mixed l z (is_mixed fr (table k).rate earlier) refl

    low : (t < (table k).least) ⊎ ((table k).least ≤ t) → ((table k).most < t) ⊎ (t ≤ (table k).most) → Says fr earlier later (Some k) t (row_of fr earlier later (Some k) t)
    low (inl h) m = rw (row_low fr earlier later k t h) refl
    low (inr h) (inl m) = rw (row_high fr earlier later k t h m) refl
    low (inr h) (inr m) = stands (record { least = h; most = m }) (ℕ_discrete (table k).rate 0) (below_or 0 later)

-- a legal row that may stand there passes
pub fit_passes : (fr : Framing) (earlier : List Row) (later : ℕ) (x : Row) → LegalRow x → Standing fr earlier later x → row_of fr earlier later (Some x.kind) x.tc ≡ passed x
fit_passes fr earlier later x l (inl w) = noise_last fr earlier later x.kind x.tc l w.0 w.1
fit_passes fr earlier later x l (inr w) = coder_same fr earlier later x.kind x.tc l w.0 (unmixed fr (rate x) earlier w.1 w.2)

-- ---- as the code asks: by the row's shape and the rate of the earlier rows

module _ (fr : Framing) (x : Row) (later s : ℕ) {y : Shape} (is : y ≡ shape_of fr x) where
  abbrev Admits : Result Shape Reason → Type 0
  Admits r = (earlier : List Row) → OneRate fr s earlier → r ≡ shape_checked fr (row_of fr earlier later (Some x.kind) x.tc)

  passes : ((earlier : List Row) → OneRate fr s earlier → row_of fr earlier later (Some x.kind) x.tc ≡ passed x) → Admits (Ok y)
  passes h earlier one = ap Ok is ∙ ap (shape_checked fr) (sym (h earlier one))

  pub refuses_tc : (y.tc < y.entry.least) ⊎ ((y.entry.least ≤ y.tc) × (y.entry.most < y.tc)) → Admits (Err WrongTc)
  refuses_tc (inl h) earlier one = ap (shape_checked fr) (sym (row_low fr earlier later x.kind x.tc (rw is at h)))
  refuses_tc (inr h) earlier one = ap (shape_checked fr) (sym (row_high fr earlier later x.kind x.tc (rw is at h.0) (rw is at h.1)))

  module _ (low : y.entry.least ≤ y.tc) (high : y.tc ≤ y.entry.most) where
    legal : LegalRow x
    legal = record { least = rw is at low; most = rw is at high }

    pub refuses_noise : y.entry.rate ≡ 0 → 0 < later → Admits (Err ComfortNoiseNotLast)
    refuses_noise z h earlier one = ap (shape_checked fr) (sym (noise_followed fr earlier later x.kind x.tc legal (rw is at z) h))

    pub admits_noise : y.entry.rate ≡ 0 → later ≤ 0 → Admits (Ok y)
    admits_noise z h = passes (λ earlier one. noise_last fr earlier later x.kind x.tc legal (rw is at z) h)

    module _ (z : y.entry.rate ≡ 0 → ⊥) where
      pub refuses_rate : (s ≡ 0 → ⊥) → (y.entry.rate ≡ s → ⊥) → Admits (Err RatesMixed)
      refuses_rate n q earlier one = ap (shape_checked fr) (sym (coder_mixed fr earlier later x.kind x.tc legal (rw is at z) (one_other fr s earlier one (rate x) n (rw is at q))))

      -- of the rate of all earlier ones, or the first
      pub admits_coder : ((s ≡ 0 → ⊥) × (y.entry.rate ≡ s)) ⊎ (s ≡ 0) → Admits (Ok y)
      admits_coder (inl q) = passes (λ earlier one. coder_same fr earlier later x.kind x.tc legal (rw is at z) (one_same fr s earlier one (rate x) (rw is at q.1)))
      admits_coder (inr n) = passes (λ earlier one. coder_same fr earlier later x.kind x.tc legal (rw is at z) (one_none fr s earlier one (rate x) n))

-- ---- the row that two numbers name

-- the answer of the look-up, taken further
module _ (o : Option Kind) (t : ℕ) {f : Result Kind Reason} (is : f ≡ ok_or o Unknown) where
  pub named-unknown : (e : Reason) → f ≡ Err e → Err e ≡ named_row o t
  unfolding named_row
  named-unknown e a = go o (sym is ∙ a)
    where
      go : (p : Option Kind) → ok_or p Unknown ≡ Err e → Err e ≡ named_row p t
      go None q = cc
      go (Some k) q = absurd cc

  pub named-known : (k : Kind) → f ≡ Ok k → Ok (row k t) ≡ named_row o t
  unfolding named_row
  named-known k a = go o (sym is ∙ a)
    where
      go : (p : Option Kind) → ok_or p Unknown ≡ Ok k → Ok (row k t) ≡ named_row p t
      go None q = absurd cc
      go (Some j) q = let same : j ≡ k = cc in cc

-- its checks
module _ (o : Option Kind) (t : ℕ) {f : Result Row Reason} (is : f ≡ named_row o t) (fr : Framing) (earlier : List Row) (later : ℕ) where
  pub unnamed-refused : (e : Reason) → f ≡ Err e → Err e ≡ shape_checked fr (row_of fr earlier later o t)
  unfolding row_of named_row
  unnamed-refused e a = go o (sym is ∙ a)
    where
      go : (p : Option Kind) → named_row p t ≡ Err e → Err e ≡ shape_checked fr (row_of fr earlier later p t)
      go None q = cc
      go (Some k) q = absurd cc

  pub named_checked : (x : Row) → f ≡ Ok x → row_of fr earlier later (Some x.kind) x.tc ≡ row_of fr earlier later o t
  unfolding named_row
  named_checked x a = go o (sym is ∙ a)
    where
      go : (p : Option Kind) → named_row p t ≡ Ok x → row_of fr earlier later (Some x.kind) x.tc ≡ row_of fr earlier later p t
      go None q = absurd cc
      go (Some k) q = let same : x ≡ row k t = cc in ap (λ (y : Row). row_of fr earlier later (Some y.kind) y.tc) same
