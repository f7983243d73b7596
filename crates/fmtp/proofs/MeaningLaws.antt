-- `meaning` gives settings exactly for the texts that mean them by `Means`, and these settings.
use Rattle.std.proofs.Common.{◌≡◌, ◌⊎◌, ℕ, zero, suc, ◌≤◌, Bool, true, false, List, [], ◌∷◌, ◌++◌, map, length, decimal, eqb, bytes_eq, refl, sym, ap, ◌∙◌, inl, inr, arith, append-nil, length-append, eq-eqb, eqb-true, Option, Some, None}
use Rattle.std.proofs.lemmas.Bool.{false≢true, or_cases, cases_eq}
use Rattle.std.proofs.lemmas.Fmt.{decimal_is_IsNumeral}
use Rattle.std.proofs.lemmas.Option.{none-some, same_Some, option_and_then_some}
use Rattle.std.proofs.lemmas.Slice.Eq.{bytes_eq-Decides}
use Rattle.std.proofs.Math.Bool.{or-true}
use Rattle.std.specs.Char.{to_ascii_lowercase}
use Rattle.std.specs.Fmt.{digits}
use Rattle.std.specs.Str.Parse.{digits_value}
use Rattle.fmtp.specs.declared.Settings.{Settings}
use Rattle.fmtp.specs.Settings.{is_in, rates, is_rate, are_rates, is_tcmax}
use Rattle.fmtp.specs.Text.{bitrate_name, tcmax_name, equals, semicolon, comma, further_text, rates_text}
use Rattle.fmtp.specs.Meaning.{cut, before, behind, number_in, down_from, Item, bitrate, tcmax, bitrate_item, in_places, each, bitrate_of, tcmax_of, item_named, item_of, items, combined, meaning}
use Rattle.fmtp.specs.Means.{Spelled, Bitrate, Tcmax, Means, neither, bitrate_tcmax, tcmax_bitrate}
use Rattle.fmtp.specs.Means as means
use Rattle.fmtp.proofs.SettingsLaws.{Rate, bps2400, bps1200, bps600, rate_cases, rate_range, Rates, one, two, three, rates_cases, tcmax_range, in_range}
use Rattle.fmtp.proofs.Decimals.{decimal_free, decimal_pos, further_none, further_some}
use Rattle.fmtp.proofs.Cutting.{free_append, free_spelling, joined, parts, cut_free, cut_at, before_at, behind_at, both_sides, Each, nil, cons, each_read, each_found}

-- ---- numbers

-- a number found in a list stands in it, and the text is its own
pub number_in_lem : (ns t : List ℕ) (n : ℕ) → number_in ns t ≡ Some n → (is_in n ns ≡ true) × (t ≡ decimal n)
number_in_lem [] t n e = absurd (none-some n e)
number_in_lem (m ∷ ns) t n e = go (bytes_eq (decimal m) t) refl (number_in_lem ns t n)
  where
    go : (b : Bool) → bytes_eq (decimal m) t ≡ b → (number_in ns t ≡ Some n → (is_in n ns ≡ true) × (t ≡ decimal n)) → (is_in n (m ∷ ns) ≡ true) × (t ≡ decimal n)
    go true s r =
        let f : Some m ≡ Some n = simp s at e in
        let k : n ≡ m = cc in
        (simp (eq-eqb n m k), sym ((bytes_eq-Decides (decimal m) t).0 s) ∙ ap decimal (sym k))
    go false s r =
        let p = r (simp s at e) in
        (simp (p.0, or-true), p.1)

rate_number : (r : ℕ) → is_rate r ≡ true → number_in rates (decimal r) ≡ Some r
unfolding digits
rate_number r h = go (rate_cases r h)
  where
    go : {r : ℕ} → Rate r → number_in rates (decimal r) ≡ Some r
    go bps2400 = refl
    go bps1200 = refl
    go bps600 = refl

number_rate : (t : List ℕ) (r : ℕ) → number_in rates t ≡ Some r → (is_rate r ≡ true) × (t ≡ decimal r)
unfolding is_rate
number_rate t r e = number_in_lem rates t r e

-- numbers 1 to 255 have different decimals
decimal_one : (m n : ℕ) → 1 ≤ m → m ≤ 255 → 1 ≤ n → n ≤ 255 → decimal m ≡ decimal n → m ≡ n
decimal_one m n a b c d e = sym (decimal_is_IsNumeral m (omega arith)).1 ∙ ap (digits_value 10) e ∙ (decimal_is_IsNumeral n (omega arith)).1

tcmax_number : (k n : ℕ) → 1 ≤ n → n ≤ k → k ≤ 255 → number_in (down_from k) (decimal n) ≡ Some n
tcmax_number zero n a b c = absurd (omega arith)
tcmax_number (suc k) n a b c = go (bytes_eq (decimal (suc k)) (decimal n)) refl (tcmax_number k n a)
  where
    go : (x : Bool) → bytes_eq (decimal (suc k)) (decimal n) ≡ x → (n ≤ k → k ≤ 255 → number_in (down_from k) (decimal n) ≡ Some n) → number_in (down_from (suc k)) (decimal n) ≡ Some n
    go true s r = simp s (ap Some (decimal_one (suc k) n (omega arith) (omega arith) a (omega arith) ((bytes_eq-Decides (decimal (suc k)) (decimal n)).0 s)))
    go false s r = simp s (r (other (cases_eq n (suc k))) (omega arith))
      where
        other : (n ≡ suc k) ⊎ (n ≡ suc k → ⊥) → n ≤ k
        other (inl e) = absurd (false≢true (sym s ∙ rw (← e) ((bytes_eq-Decides (decimal n) (decimal n)).1 refl)))
        other (inr e) = omega arith

down_range : (k n : ℕ) → is_in n (down_from k) ≡ true → (1 ≤ n) × (n ≤ k)
down_range zero n h = absurd (false≢true h)
down_range (suc k) n h = go (or_cases (eqb n (suc k)) (is_in n (down_from k)) h) (down_range k n)
  where
    go : (eqb n (suc k) ≡ true) ⊎ (is_in n (down_from k) ≡ true) → (is_in n (down_from k) ≡ true → (1 ≤ n) × (n ≤ k)) → (1 ≤ n) × (n ≤ suc k)
    go (inl e) r = let f : n ≡ suc k = eqb-true n (suc k) e in (omega arith, omega arith)
    go (inr e) r = let p = r e in (p.0, omega (arith, p.1))

-- ---- the value of a tcmax item

tcmax_value : (n : ℕ) → is_tcmax n ≡ true → tcmax_of (decimal n) ≡ Some (tcmax n)
unfolding tcmax_of
tcmax_value n h = let p = tcmax_range n h in simp (tcmax_number 255 n p.0 p.1 (omega arith))

record TcmaxValue (v : List ℕ) (i : Item) : Type 0 where
  n : ℕ
  number : is_tcmax n ≡ true
  text : v ≡ decimal n
  is : i ≡ tcmax n

value_tcmax : (v : List ℕ) (i : Item) → tcmax_of v ≡ Some i → TcmaxValue v i
unfolding tcmax_of
value_tcmax v i e = go (number_in (down_from 255) v) refl
  where
    go : (x : Option ℕ) → number_in (down_from 255) v ≡ x → TcmaxValue v i
    go None f = absurd (none-some i (simp f at e))
    go (Some n) f =
        let g : Some (tcmax n) ≡ Some i = simp f at e in
        let p = number_in_lem (down_from 255) v n f in
        let r = down_range 255 n p.0 in
        record { n = n; number = in_range n r.0 r.1; text = p.1; is = cc }

-- ---- the value of a bitrate item

-- two and three rates joined by commas
two_text : (a b : ℕ) → is_rate b ≡ true → rates_text a b 0 ≡ decimal a ++ (comma ∷ decimal b)
two_text a b rb = rw (further_some b (λ e. omega (arith, (rate_range b rb).0)), further_none 0 refl, append-nil (decimal b))

one_text : (a : ℕ) → rates_text a 0 0 ≡ decimal a
one_text a = rw (further_none 0 refl) (append-nil (decimal a))

three_text : (a b c : ℕ) → is_rate b ≡ true → is_rate c ≡ true → rates_text a b c ≡ decimal a ++ (comma ∷ (decimal b ++ (comma ∷ decimal c)))
three_text a b c rb rc = rw (further_some b (λ e. omega (arith, (rate_range b rb).0)), further_some c (λ e. omega (arith, (rate_range c rc).0)))

no_comma : (r : ℕ) → is_in comma (decimal r) ≡ false
no_comma r = decimal_free comma r (inl (omega arith))

cut-rates : (a b c : ℕ) → are_rates a b c ≡ true → Rates a b c → bitrate_of (rates_text a b c) ≡ Some (bitrate a b c)
unfolding bitrate_of bitrate_item
cut-rates a b c h (one ra) =
    let e = each_read (number_in rates) (cons (rate_number a ra) nil) in
    simp (one_text a, cut_free comma (decimal a) (no_comma a), e, h)
cut-rates a b c h (two ra rb ab) =
    let e = each_read (number_in rates) (cons (rate_number a ra) (cons (rate_number b rb) nil)) in
    simp (two_text a b rb, cut_at comma (decimal a) (decimal b) (no_comma a), cut_free comma (decimal b) (no_comma b), e, h)
cut-rates a b c h (three ra rb rc ab ac bc) =
    let e = each_read (number_in rates) (cons (rate_number a ra) (cons (rate_number b rb) (cons (rate_number c rc) nil))) in
    simp (three_text a b c rb rc, cut_at comma (decimal a) (decimal b ++ (comma ∷ decimal c)) (no_comma a), cut_at comma (decimal b) (decimal c) (no_comma b), cut_free comma (decimal c) (no_comma c), e, h)

record BitrateValue (v : List ℕ) (i : Item) : Type 0 where
  a : ℕ
  b : ℕ
  c : ℕ
  rates : are_rates a b c ≡ true
  text : v ≡ rates_text a b c
  is : i ≡ bitrate a b c

placed : (a b c : ℕ) (v : List ℕ) (i : Item) → v ≡ rates_text a b c → bitrate_item a b c ≡ Some i → BitrateValue v i
unfolding bitrate_item
placed a b c v i t e = go (are_rates a b c) refl
  where
    go : (x : Bool) → are_rates a b c ≡ x → BitrateValue v i
    go false f = absurd (none-some i (simp f at e))
    go true f =
        let g : Some (bitrate a b c) ≡ Some i = simp f at e in
        record { a = a; b = b; c = c; rates = f; text = t; is = cc }

places : (p : List ℕ) (ps : List (List ℕ)) (rs : List ℕ) (i : Item) → Each (number_in rates) (p ∷ ps) rs → in_places rs ≡ Some i → BitrateValue (joined comma p ps) i
places p ps rs i (cons {y = a} e nil) h =
    placed a 0 0 p i ((number_rate p a e).1 ∙ sym (one_text a)) h
places p ps rs i (cons {y = a} e (cons {p = q} {y = b} f nil)) h =
    let x = number_rate p a e in
    let y = number_rate q b f in
    placed a b 0 (p ++ (comma ∷ q)) i (rw (x.1, y.1) (sym (two_text a b y.0))) h
places p ps rs i (cons {y = a} e (cons {p = q} {y = b} f (cons {p = u} {y = c} g nil))) h =
    let x = number_rate p a e in
    let y = number_rate q b f in
    let z = number_rate u c g in
    placed a b c (p ++ (comma ∷ (q ++ (comma ∷ u)))) i (rw (x.1, y.1, z.1) (sym (three_text a b c y.0 z.0))) h
places p ps rs i (cons e (cons f (cons g (cons k r)))) h = absurd (none-some i h)

value_bitrate : (v : List ℕ) (i : Item) → bitrate_of v ≡ Some i → BitrateValue v i
unfolding bitrate_of
value_bitrate v i e = go (each (number_in rates) (cut comma v)) refl
  where
    go : (x : Option (List ℕ)) → each (number_in rates) (cut comma v) ≡ x → BitrateValue v i
    go None f = absurd (none-some i (simp f at e))
    go (Some rs) f =
        let w = parts comma v in
        let g = each_found (number_in rates) (w.first ∷ w.more) rs (rw w.are at f) in
        rw w.text (places w.first w.more rs i g (simp f at e))

-- ---- items

-- the text of an item
pub data ItemText (t : List ℕ) : Item → Type 0 where
  rates_item : {a b c : ℕ} → Bitrate a b c t → ItemText t (bitrate a b c)
  tcmax_text : {n : ℕ} → Tcmax n t → ItemText t (tcmax n)

module _ {name value t : List ℕ} (s : Spelled name value t) where
  -- a sign that folds to itself stands in no spelling of a name that does not have it
  spelling_free : (x : ℕ) → to_ascii_lowercase x ≡ x → is_in x name ≡ false → is_in x s.spelling ≡ false
  spelling_free x l h = free_spelling x s.spelling l (rw s.folds h)

  item_named_lem : to_ascii_lowercase equals ≡ equals → is_in equals name ≡ false → item_named name value ≡ item_of t
  unfolding item_of
  item_named_lem l h =
      let f = spelling_free equals l h in
      rw (s.text, before_at equals s.spelling value f, behind_at equals s.spelling value f, s.folds)

  -- no `;` stands in it
  item_free : to_ascii_lowercase semicolon ≡ semicolon → is_in semicolon name ≡ false → is_in semicolon value ≡ false → is_in semicolon t ≡ false
  item_free l h g = rw s.text (free_append semicolon s.spelling (equals ∷ value) (spelling_free semicolon l h) g)

  pub item_some : t ≡ [] → ⊥
  item_some e = omega (arith, ap length (sym s.text ∙ e), length-append s.spelling (equals ∷ value))

rates_free : {a b c : ℕ} → Rates a b c → is_in semicolon (rates_text a b c) ≡ false
rates_free {a} {b} {c} r = go r
  where
    free : (r : ℕ) → is_in semicolon (decimal r) ≡ false
    free r = decimal_free semicolon r (inr (omega arith))

    go : {a b c : ℕ} → Rates a b c → is_in semicolon (rates_text a b c) ≡ false
    go (one {a} ra) = rw (one_text a) (free a)
    go (two {a} {b} ra rb ab) = rw (two_text a b rb) (free_append semicolon (decimal a) (comma ∷ decimal b) (free a) (free b))
    go (three {a} {b} {c} ra rb rc ab ac bc) =
        rw (three_text a b c rb rc)
        (free_append semicolon (decimal a) (comma ∷ (decimal b ++ (comma ∷ decimal c))) (free a) (free_append semicolon (decimal b) (comma ∷ decimal c) (free b) (free c)))

-- what its text is read as, and that it is one part of a text
record Whole (t : List ℕ) (i : Item) : Type 0 where
  read : item_of t ≡ Some i
  free : is_in semicolon t ≡ false
  some_text : t ≡ [] → ⊥

item_read : {t : List ℕ} {i : Item} → ItemText t i → Whole t i
unfolding item_named
item_read (rates_item {a = a} {b = b} {c = c} k) = record {
  read = sym (item_named_lem k.item refl refl) ∙ cut-rates a b c k.rates (rates_cases a b c k.rates);
  free = item_free k.item refl refl (rates_free (rates_cases a b c k.rates));
  some_text = item_some k.item;
}
item_read (tcmax_text {n = n} k) = record {
  read = sym (item_named_lem k.item refl refl) ∙ tcmax_value n k.number;
  free = item_free k.item refl refl (decimal_free semicolon n (inr (omega arith)));
  some_text = item_some k.item;
}

spelled : (t name value : List ℕ) → bytes_eq (map to_ascii_lowercase (before equals t)) name ≡ true → behind equals t ≡ value → (value ≡ [] → ⊥) → Spelled name value t
spelled t name value s e n = record {
  spelling = before equals t;
  folds = (bytes_eq-Decides (map to_ascii_lowercase (before equals t)) name).0 s;
  text = both_sides equals t (λ z. n (sym e ∙ z)) ∙ rw e refl;
}

rates_some : (a b c : ℕ) → rates_text a b c ≡ [] → ⊥
rates_some a b c e = omega (arith, ap length e, length-append (decimal a) (further_text b ++ further_text c), decimal_pos a)

item_found : (t : List ℕ) (i : Item) → item_of t ≡ Some i → ItemText t i
unfolding item_of item_named
item_found t i e = go (bytes_eq (map to_ascii_lowercase (before equals t)) bitrate_name) refl (bytes_eq (map to_ascii_lowercase (before equals t)) tcmax_name) refl
  where
    go : (x : Bool) → bytes_eq (map to_ascii_lowercase (before equals t)) bitrate_name ≡ x → (y : Bool) → bytes_eq (map to_ascii_lowercase (before equals t)) tcmax_name ≡ y → ItemText t i
    go true f y g =
        let v = value_bitrate (behind equals t) i (simp f at e) in
        rw v.is (rates_item (record { rates = v.rates; item = spelled t bitrate_name (rates_text v.a v.b v.c) f v.text (rates_some v.a v.b v.c) }))
    go false f true g =
        let v = value_tcmax (behind equals t) i (simp (f, g) at e) in
        rw v.is (tcmax_text (record { number = v.number; item = spelled t tcmax_name (decimal v.n) g v.text (λ z. omega (arith, ap length z, decimal_pos v.n)) }))
    go false f false g = absurd (none-some i (simp (f, g) at e))

-- ---- texts

items_some : (t : List ℕ) → (t ≡ [] → ⊥) → items t ≡ cut semicolon t
items_some [] n = absurd (n refl)
items_some (x ∷ t) n = refl

one_item_lem : {t : List ℕ} {i : Item} → ItemText t i → meaning t ≡ combined (i ∷ [])
unfolding meaning
one_item_lem {t} {i} k =
    let w = item_read k in
    simp (items_some t w.some_text, cut_free semicolon t w.free, w.read)

two_items_lem : {t u : List ℕ} {i j : Item} → ItemText t i → ItemText u j → meaning (t ++ (semicolon ∷ u)) ≡ combined (i ∷ j ∷ [])
unfolding meaning
two_items_lem {t} {u} {i} {j} k l =
    let w = item_read k in
    let v = item_read l in
    let n : t ++ (semicolon ∷ u) ≡ [] → ⊥ = λ e. omega (arith, ap length e, length-append t (semicolon ∷ u)) in
    simp (items_some (t ++ (semicolon ∷ u)) n, cut_at semicolon t u w.free, cut_free semicolon u v.free, w.read, v.read)

pub means_meaning : {t : List ℕ} {s : Settings} → Means t s → meaning t ≡ Some s
unfolding meaning
means_meaning neither = refl
means_meaning (means.bitrate i) = one_item_lem (rates_item i)
means_meaning (means.tcmax i) = one_item_lem (tcmax_text i)
means_meaning (bitrate_tcmax i j) = two_items_lem (rates_item i) (tcmax_text j)
means_meaning (tcmax_bitrate i j) = two_items_lem (tcmax_text i) (rates_item j)

pub alone_means : (t : List ℕ) (i : Item) (s : Settings) → ItemText t i → combined (i ∷ []) ≡ Some s → Means t s
alone_means t i s (rates_item k) h = rw (← (same_Some _ _ h)) (means.bitrate k)
alone_means t i s (tcmax_text k) h = rw (← (same_Some _ _ h)) (means.tcmax k)

pub both_mean : (t u : List ℕ) (i j : Item) (s : Settings) → ItemText t i → ItemText u j → combined (i ∷ j ∷ []) ≡ Some s → Means (t ++ (semicolon ∷ u)) s
both_mean t u i j s (rates_item k) (rates_item l) h = absurd (none-some s h)
both_mean t u i j s (rates_item k) (tcmax_text l) h = rw (← (same_Some _ _ h)) (bitrate_tcmax k l)
both_mean t u i j s (tcmax_text k) (rates_item l) h = rw (← (same_Some _ _ h)) (tcmax_bitrate k l)
both_mean t u i j s (tcmax_text k) (tcmax_text l) h = absurd (none-some s h)

all_mean : (p : List ℕ) (ps : List (List ℕ)) (is : List Item) (s : Settings) → Each item_of (p ∷ ps) is → combined is ≡ Some s → Means (joined semicolon p ps) s
all_mean p ps is s (cons {y = i} e nil) h = alone_means p i s (item_found p i e) h
all_mean p ps is s (cons {y = i} e (cons {p = q} {y = j} f nil)) h = both_mean p q i j s (item_found p i e) (item_found q j f) h
all_mean p ps is s (cons e (cons f (cons g r))) h = absurd (none-some s h)

pub meaning_means : (t : List ℕ) (s : Settings) → meaning t ≡ Some s → Means t s
unfolding meaning
meaning_means [] s e = rw (← (same_Some _ _ e)) neither
meaning_means (x ∷ t) s e = go (each item_of (cut semicolon (x ∷ t))) refl
  where
    go : (o : Option (List Item)) → each item_of (cut semicolon (x ∷ t)) ≡ o → Means (x ∷ t) s
    go None f = absurd (none-some s (simp f at e))
    go (Some is) f =
        let w = parts semicolon (x ∷ t) in
        let g = each_found item_of (w.first ∷ w.more) is (rw w.are at f) in
        rw w.text (all_mean w.first w.more is s g (simp f at e))
