-- A list in order, and one spell more at its end. Assumes nothing.
use Rattle.register.proofs.Names.{List, Spell, [], ◌&&◌, ◌++◌, ◌∙◌, ◌∷◌, ◌≡◌, both, by_test, earlier_of, follows, ordered, ordered_by, refl, sym, true}

ordered_append : (l : List Spell) (x : Spell) (m : List Spell) → ordered (l ++ x ∷ m) ≡ ordered l && (follows l x && ordered (x ∷ m))
unfolding ordered_by follows
ordered_append [] x m = refl
ordered_append (a ∷ []) x m = refl
ordered_append (a ∷ b ∷ l) x m = rw (ordered_append (b ∷ l) x m) (by_test (earlier_of a b) (λ t. rw t) (λ t. rw t))

pub ordered_follows : (l : List Spell) (x : Spell) (m : List Spell) → ordered (l ++ x ∷ m) ≡ true → follows l x ≡ true
ordered_follows l x m h = (both (follows l x) (ordered (x ∷ m)) (both (ordered l) _ (sym (ordered_append l x m) ∙ h)).1).0

pub ordered_more : (l : List Spell) (x : Spell) → ordered l ≡ true → follows l x ≡ true → ordered (l ++ (x ∷ [])) ≡ true
ordered_more l x h k = unfold ordered_by in ordered_append l x [] ∙ rw (h, k)

pub follows_more : (l : List Spell) (s x : Spell) → earlier_of s x ≡ follows (l ++ (s ∷ [])) x
unfolding follows
follows_more [] s x = refl
follows_more (a ∷ []) s x = refl
follows_more (a ∷ b ∷ l) s x = follows_more (b ∷ l) s x
