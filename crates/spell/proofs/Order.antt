-- An order by keys that end in the spell number is a strict total order on spells of different numbers; and what a list that is kept in it
-- says of its spells. Assumes nothing.
use Rattle.basis.proofs.Prelude.{◌≡◌, refl, sym, ◌<◌, ◌≤◌, ℕ, List, List-as-Memᴰ, List·Memᴰ·cases-cons, List·Memᴰ·not-nil, [], ◌++◌, ◌∷◌, Bool, false, true, ◌⊎◌, inl, inr, both, by_eq, by_test, clash}
use Rattle.orders.proofs.Keys.{key_is, key_says, key_denies, lexical_asym, lexical_over}
use Rattle.spell.specs.{declared.Spell.Spell, Order.{lexical, earlier_of, listed_before, ordered_by}, Listing.Each}

-- ---- Orders by keys

lexical_trans : (ks : List (Spell → ℕ)) (a b c : Spell) → lexical ks a b ≡ true → lexical ks b c ≡ true → lexical ks a c ≡ true
lexical_trans ks a b c p q = by_test (lexical ks a c) (λ e. e) (λ e. absurd (clash q (lexical_over ks c a b e (lexical_asym ks a b p))))

lexical_total : (ks : List (Spell → ℕ)) (a b : Spell) → (a.number ≡ b.number → ⊥)
    → lexical (ks ++ (λ s. s.number) ∷ []) a b ≡ false → lexical (ks ++ (λ s. s.number) ∷ []) b a ≡ true
unfolding lexical
lexical_total [] a b differ h = key_is b.number a.number false (key_denies a.number b.number false h).0 (λ e. absurd (differ (sym e)))
lexical_total (k ∷ ks) a b differ h =
    let d = key_denies (k a) (k b) _ h in
    key_is (k b) (k a) _ d.0 (λ e. lexical_total ks a b differ (d.1 (sym e)))

pub record StrictOrder (t : Spell → Spell → Bool) : Type 0 where
  pub one_way : (a b : Spell) → t a b ≡ true → t b a ≡ false
  pub trans : (a b c : Spell) → t a b ≡ true → t b c ≡ true → t a c ≡ true
  pub total : (a b : Spell) → (a.number ≡ b.number → ⊥) → t a b ≡ false → t b a ≡ true

-- the laws for any keys that end in the spell number
by_keys : (ks : List (Spell → ℕ)) → StrictOrder (lexical (ks ++ (λ s. s.number) ∷ []))
by_keys ks = record { one_way = lexical_asym _; trans = lexical_trans _; total = lexical_total ks }

pub text_order : StrictOrder earlier_of
text_order = unfold earlier_of in by_keys ((λ s. s.first) ∷ (λ s. s.last) ∷ [])

pub answer_order : StrictOrder listed_before
answer_order = unfold listed_before in by_keys ((λ s. s.first) ∷ (λ s. s.last) ∷ (λ s. s.candidate) ∷ [])

-- of two spells one after the other in an answer the earlier begins earlier, or on the same day and lasts no longer
pub listed_days : (a b : Spell) → listed_before a b ≡ true → (a.first < b.first) ⊎ ((a.first ≡ b.first) × (a.last ≤ b.last))
listed_days a b h = unfold listed_before lexical in
    let f = key_says a.first b.first _ h in
    by_eq a.first b.first f.0 (λ e. inr (e, (key_says a.last b.last _ (f.1 e)).0)) inl

-- of two with equal days that which comes first has no higher candidate number
pub twins_rise : (a b : Spell) → a.first ≡ b.first → a.last ≡ b.last → listed_before a b ≡ true → a.candidate ≤ b.candidate
twins_rise a b f l h = unfold listed_before lexical in
    (key_says a.candidate b.candidate _ ((key_says a.last b.last _ ((key_says a.first b.first _ h).1 f)).1 l)).0

-- ---- Each spell of a list

pub each_map : (P Q : Spell → Type 0) → ((x : Spell) → P x → Q x) → (l : List Spell) → Each P l → Each Q l
unfolding Each
each_map P Q f [] e = tt
each_map P Q f (x ∷ l) e = (f x e.0, each_map P Q f l e.1)

-- P holds of a spell of the list
pub each_member : (P : Spell → Type 0) (l : List Spell) (x : Spell) → Each P l → List-as-Memᴰ x l → P x
unfolding Each
each_member P [] x e m = absurd (List·Memᴰ·not-nil m)
each_member P (y ∷ l) x e m = elim (List·Memᴰ·cases-cons m) [ inl same ↦ rw same e.0 | inr below ↦ each_member P l x e.1 below ]

-- ---- A list kept in an order: its first spell is earlier than each other, and so on

module _ {t : Spell → Spell → Bool} (o : StrictOrder t) where
  pub asym : (a b : Spell) → t a b ≡ true → t b a ≡ false
  asym = o.one_way

  pub ordered_tail : (x : Spell) (l : List Spell) → ordered_by t (x ∷ l) ≡ true → ordered_by t l ≡ true
  unfolding ordered_by
  ordered_tail x [] h = refl
  ordered_tail x (y ∷ l) h = (both (t x y) (ordered_by t (y ∷ l)) h).1

  pub ordered_first : (x : Spell) (l : List Spell) → ordered_by t (x ∷ l) ≡ true → Each (λ z. t x z ≡ true) l
  unfolding ordered_by Each
  ordered_first x [] h = tt
  ordered_first x (y ∷ l) h =
      let p = both (t x y) (ordered_by t (y ∷ l)) h in
      (p.0, each_map (λ z. t y z ≡ true) (λ z. t x z ≡ true) (λ z. o.trans x y z p.0) l (ordered_first y l p.1))

  pub ordered_cons : (x : Spell) (l : List Spell) → Each (λ z. t x z ≡ true) l → ordered_by t l ≡ true → ordered_by t (x ∷ l) ≡ true
  unfolding ordered_by Each
  ordered_cons x [] e h = refl
  ordered_cons x (y ∷ l) e h = rw e.0 h

  -- a spell of the list comes before each that follows it
  pub comes_before : (before after : List Spell) (a b : Spell) → ordered_by t (before ++ a ∷ after) ≡ true → List-as-Memᴰ b after → t a b ≡ true
  comes_before [] after a b h i = each_member (λ z. t a z ≡ true) after b (ordered_first a after h) i
  comes_before (x ∷ before) after a b h i = comes_before before after a b (ordered_tail x (before ++ a ∷ after) h) i
