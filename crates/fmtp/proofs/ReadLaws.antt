-- The reader's steps give what a text means: they take the items of exactly the texts that mean settings.
use Rattle.std.proofs.Common.{◌≡◌, ◌==◌, ◌⊎◌, ℕ, ◌+◌, Bool, true, false, List, [], ◌∷◌, ◌++◌, map, length, decimal, refl, sym, ap, subst, ◌∙◌, inl, arith, append_assoc, append-nil, length-append, eqb-true, Option, Some, None, option_and_then, Result, Ok, Err, ok_or}
use Rattle.std.proofs.lemmas.List.{map-append}
use Rattle.std.proofs.lemmas.Option.{none-some, same_Some, some_pair_parts, option_and_then_some}
use Rattle.std.specs.Char.{to_ascii_lowercase}
use Rattle.refusal.specs.declared.Reason.TheVariants.{WrongSettings}
use Rattle.refusal.specs.declared.Refusal.{Refusal}
use Rattle.refusal.specs.Report.{report_of, refusal}
use Rattle.fmtp.specs.declared.Settings.{Settings}
use Rattle.fmtp.specs.Settings.{is_tcmax}
use Rattle.fmtp.specs.Text.{bitrate_name, tcmax_name, equals, semicolon, rates_text}
use Rattle.fmtp.specs.Meaning.{Item, bitrate, tcmax, combined, meaning}
use Rattle.fmtp.specs.Means.{Spelled, Means, neither, bitrate_tcmax, tcmax_bitrate}
use Rattle.fmtp.specs.Means as means
use Rattle.fmtp.specs.Answers.{no_settings, meaning_report, Reads}
use Rattle.fmtp.specs.Steps.{Taken, behind_word, take_rates, take_tcmax, take_number, item_behind, take_item, settings_behind, settings_behind_two, settings_in}
use Rattle.fmtp.proofs.SettingsLaws.{tcmax_range, in_range}
use Rattle.fmtp.proofs.Words.{Begun, behind_found, behind_read, behind_other, folds_alone, spelled-length}
use Rattle.fmtp.proofs.NumberLaws.{Ends, nothing, joined, number_read, number_found}
use Rattle.fmtp.proofs.RateLaws.{rates_read, rates_found}
use Rattle.fmtp.proofs.MeaningLaws.{ItemText, rates_item, tcmax_text, item_some, means_meaning, meaning_means, alone_means, both_mean}

-- ---- an item's name and value

module _ {name value t : List ℕ} (i : Spelled name value t) where
  head_folds : map to_ascii_lowercase (i.spelling ++ (equals ∷ [])) ≡ name ++ (equals ∷ [])
  head_folds = map-append to_ascii_lowercase i.spelling (equals ∷ []) ∙ ap (λ (l : List ℕ). l ++ (equals ∷ [])) i.folds

  value_read : (u : List ℕ) → behind_word (name ++ (equals ∷ [])) (t ++ u) ≡ Some (value ++ u)
  value_read u =
      let e : t ++ u ≡ i.spelling ++ (equals ∷ []) ++ (value ++ u) = ap (λ (l : List ℕ). l ++ u) i.text ∙ simp append_assoc in
      rw e (behind_read (name ++ (equals ∷ [])) (i.spelling ++ (equals ∷ [])) (value ++ u) head_folds)

  -- how long an item is
  pub item_length : length t ≡ length (name ++ (equals ∷ [])) + length value
  item_length =
      let n = spelled-length (i.spelling ++ (equals ∷ [])) (name ++ (equals ∷ [])) head_folds in
      omega (arith, ap length i.text, length-append i.spelling (equals ∷ value), length-append i.spelling (equals ∷ []))

-- a spelling of `tcmax` is none of `bitrate`
other_name : (s u : List ℕ) → map to_ascii_lowercase s ≡ tcmax_name → behind_word (bitrate_name ++ (equals ∷ [])) (s ++ u) ≡ None
other_name [] u e = absurd (cc)
other_name (x ∷ s) u e =
    let f : to_ascii_lowercase x ≡ 116 = cc in
    behind_other 98 x _ (s ++ u) (λ g. omega (arith, f, g))

-- a word that is spelled with a `=` behind it
spelled : (name s value : List ℕ) → map to_ascii_lowercase s ≡ name ++ (equals ∷ []) → Spelled name value (s ++ value)
spelled [] [] value e = absurd (cc)
spelled [] (x ∷ []) value e =
    let f : x ≡ equals = folds_alone x equals (inl (omega arith)) (cc) in
    record { spelling = []; folds = refl; text = ap (λ (y : ℕ). y ∷ value) f }
spelled [] (x ∷ y ∷ s) value e = absurd (cc)
spelled (w ∷ name) [] value e = absurd (cc)
spelled (w ∷ name) (x ∷ s) value e =
    let r = spelled name s value (cc) in
    let f : map to_ascii_lowercase r.spelling ≡ name = r.folds in
    record { spelling = x ∷ r.spelling; folds = cc; text = ap (λ (l : List ℕ). x ∷ l) r.text }

-- ---- an item

item_read : {t : List ℕ} {i : Item} → ItemText t i → (u : List ℕ) → Ends u → take_item (t ++ u) ≡ Some (i, u)
unfolding take_item take_tcmax
item_read (rates_item {a} {b} {c} k) u e = rw (value_read k.item u) (rates_read u e a b c k.rates)
item_read {t} (tcmax_text {n} k) u e =
    let r = tcmax_range n k.number in
    let o : behind_word (bitrate_name ++ (equals ∷ [])) (t ++ u) ≡ None =
    rw (k.item.text, append_assoc k.item.spelling (equals ∷ decimal n) u) (other_name k.item.spelling (equals ∷ (decimal n ++ u)) k.item.folds) in
    simp (o, value_read k.item u, number_read n u r.0 r.1 e)

-- a text that starts with an item
record Split (t : List ℕ) (i : Item) (u : List ℕ) : Type 0 where
  start : List ℕ
  item : ItemText start i
  text : t ≡ start ++ u

item_split : (t : List ℕ) (i : Item) (u : List ℕ) → take_item t ≡ Some (i, u) → Split t i u
unfolding take_item take_tcmax
item_split t i u e = go (behind_word (bitrate_name ++ (equals ∷ [])) t) refl
  where
    go : (o : Option (List ℕ)) → behind_word (bitrate_name ++ (equals ∷ [])) t ≡ o → Split t i u
    go (Some v) f =
        let b = behind_found (bitrate_name ++ (equals ∷ [])) t v f in
        let r = rates_found v i u (simp f at e) in
        let k = spelled bitrate_name b.spelling (rates_text r.a r.b r.c) b.folds in
        record {
          start = b.spelling ++ rates_text r.a r.b r.c;
          item = subst (ItemText (b.spelling ++ rates_text r.a r.b r.c)) (sym r.is) (rates_item (record { rates = r.rates; item = k }));
          text = b.text ∙ ap (λ (l : List ℕ). b.spelling ++ l) r.text ∙ sym (append_assoc b.spelling (rates_text r.a r.b r.c) u);
        }
    go None f =
        option_and_then_some _ (behind_word (tcmax_name ++ (equals ∷ [])) t) (i, u) (simp f at e)
        (λ v g e₁. option_and_then_some _ (take_number v) (i, u) e₁
        (λ n h e₂.
        let b = behind_found (tcmax_name ++ (equals ∷ [])) t v g in
        let p = some_pair_parts (tcmax n.0) i n.1 u e₂ in
        let r = number_found v n.0 n.1 h in
        let k = spelled tcmax_name b.spelling (decimal n.0) b.folds in
        record {
          start = b.spelling ++ decimal n.0;
          item = subst (ItemText (b.spelling ++ decimal n.0)) p.0 (tcmax_text (record { number = in_range n.0 r.least r.most; item = k }));
          text = b.text ∙ ap (λ (l : List ℕ). b.spelling ++ l) (r.text ∙ rw p.1 refl) ∙ sym (append_assoc b.spelling (decimal n.0) u);
        }))

-- ---- a text

some_text : {t : List ℕ} {i : Item} → ItemText t i → t ≡ [] → ⊥
some_text (rates_item k) = item_some k.item
some_text (tcmax_text k) = item_some k.item

-- a text that is not empty
settings_some : (t : List ℕ) → (t ≡ [] → ⊥) → settings_in t ≡ option_and_then (λ (i : Item × List ℕ). settings_behind i.0 i.1) (take_item t)
unfolding settings_in
settings_some [] n = absurd (n refl)
settings_some (x ∷ t) n = refl

item_alone : {t : List ℕ} {i : Item} → ItemText t i → take_item t ≡ Some (i, [])
item_alone {t} k = rw (append-nil t) at (item_read k [] nothing)

one_read : {t : List ℕ} {i : Item} → ItemText t i → settings_in t ≡ combined (i ∷ [])
one_read {t} k = settings_some t (some_text k) ∙ simp (item_alone k)

two_read : {t u : List ℕ} {i j : Item} → ItemText t i → ItemText u j → settings_in (t ++ (semicolon ∷ u)) ≡ combined (i ∷ j ∷ [])
two_read {t} {u} k l =
    settings_some (t ++ (semicolon ∷ u)) (λ e. omega (arith, ap length e, length-append t (semicolon ∷ u))) ∙ simp (item_read k (semicolon ∷ u) joined, item_alone l)

-- complete: what a text means is read
complete : {t : List ℕ} {s : Settings} → Means t s → settings_in t ≡ Some s
unfolding settings_in
complete neither = refl
complete (means.bitrate i) = one_read (rates_item i)
complete (means.tcmax i) = one_read (tcmax_text i)
complete (bitrate_tcmax i j) = two_read (rates_item i) (tcmax_text j)
complete (tcmax_bitrate i j) = two_read (tcmax_text i) (rates_item j)

-- sound: what is read is meant
behind_means : (t u : List ℕ) (i : Item) (s : Settings) → ItemText t i → settings_behind i u ≡ Some s → Means (t ++ u) s
behind_means t [] i s k e = rw (append-nil t) (alone_means t i s k e)
behind_means t (x ∷ u) i s k e = go (x == semicolon) refl
  where
    two_mean : (v : List ℕ) (j : Item) → Split u j v → settings_behind_two i j v ≡ Some s → Means (t ++ (semicolon ∷ u)) s
    two_mean [] j p f = rw (p.text ∙ append-nil p.start) (both_mean t p.start i j s k p.item f)
    two_mean (y ∷ v) j p f = absurd (none-some _ f)

    go : (b : Bool) → (x == semicolon) ≡ b → Means (t ++ (x ∷ u)) s
    go false f = absurd (none-some _ (simp f at e))
    go true f =
        let c : x ≡ semicolon = eqb-true x semicolon f in
        option_and_then_some _ (take_item u) s (simp f at e) (λ j g e₁. rw c (two_mean j.1 j.0 (item_split u j.0 j.1 g) e₁))

sound : (t : List ℕ) (s : Settings) → settings_in t ≡ Some s → Means t s
unfolding settings_in
sound [] s e = rw (← (same_Some _ _ e)) neither
sound (x ∷ t) s e =
    option_and_then_some _ (take_item (x ∷ t)) s e (λ i f e₁. let p = item_split (x ∷ t) i.0 i.1 f in rw p.text (behind_means p.start i.1 i.0 s p.item e₁))

-- the steps give what the text means
pub settings_meaning : (t : List ℕ) → settings_in t ≡ meaning t
settings_meaning t = go (settings_in t) refl (meaning t) refl
  where
    go : (o : Option Settings) → settings_in t ≡ o → (p : Option Settings) → meaning t ≡ p → o ≡ p
    go (Some s) e p f = sym (means_meaning (sound t s e)) ∙ f
    go None e None f = refl
    go None e (Some s) f = absurd (none-some s (sym e ∙ complete (meaning_means t s f)))

-- ---- the reader's promise

numbers_of : (o : Option Settings) → report_of no_settings (ok_or o (refusal WrongSettings 0)) ≡ meaning_report o
numbers_of None = refl
numbers_of (Some s) = refl

-- the answer has the numbers
pub reads : (t : List ℕ) (r : Result Settings Refusal) → r ≡ ok_or (meaning t) (refusal WrongSettings 0) → Reads t r
reads t r e = record { answer = e; numbers = ap (report_of no_settings) e ∙ numbers_of (meaning t) }
