-- `questions::cover` meets its contract: the rows' question answers as the account does. Assumes nothing.
use Rattle.questions.proofs.{Names.{◌∙◌, ◌≡◌, refl, sym, ◌<◌, suc, ℕ, List, [], ◌∷◌, true, eqb, List·getD-map, get_or, length, length-map, arith, eq-eqb, eqb-true, ne_eqb, by_mark, unknown_number, Spell, blank, distinct, Told, named, Gave, covering, cover_of, cover_in, below_is, Cover, firsts_of, lasts_of, refused, settle, reaching, cover, ask, Outcome, found_of, numbers_of, number_at, in_at, stands_none, one_spell, cover_does, List-as-Memᴰ, published_built, Asked}, Asking.{question_told, rows_asked}}
use Rattle.questions.proofs.cover.Goals as goal

-- the first spell of the number k, or none
cover_hit : (p : List Spell) (k : ℕ) → distinct p ≡ true → (x : Spell) → List-as-Memᴰ x p → x.number ≡ k → cover k p p ≡ reaching x.first x.last p
cover_hit p k d x i e = cover_does (λ r. r ≡ reaching x.first x.last p) p k p
    (λ none. absurd (stands_none p k none x i e)) (λ y j f. rw (one_spell y x p d j i (f ∙ sym e)))

cover_miss : (p : List Spell) (k : ℕ) (l : List Spell) → ((j : ℕ) → j < length l → (get_or l j blank).number ≡ k → ⊥) → cover k l p ≡ refused unknown_number
unfolding cover
cover_miss p k [] f = refl
cover_miss p k (x ∷ l) f = rw (ne_eqb x.number k (f 0 (omega arith))) (cover_miss p k l (λ j g. f (suc j) (omega arith)))

cover_asked : {ix ds ns ns' : List ℕ} {l : Told} {o : Outcome} {k : ℕ} → o ≡ found_of l → Gave l ns' (cover_in ix k ns) → Asked ix (Cover k) ds ns o ns'
cover_asked {k = k} = unfold cover_of covering named ask settle in rows_asked (λ _ ns fs ls. cover_of ns fs ls k) (λ m q d.
    let p = m.published in
    let size = length-map p (λ (s : Spell). s.first) in
    let i = below_is (λ j. eqb (get_or (numbers_of p) j 0) k) (length (firsts_of p)) in
    by_mark (named (numbers_of p) (firsts_of p) (lasts_of p) k)
    (λ z. rw (z, covering, cover_miss p k p (λ j h e. i.miss j (omega arith) (omega arith) (eq-eqb _ _ (number_at p j ∙ e)))))
    (λ r z.
    let hit = cover_hit p k d (get_or p r blank) (in_at p r (omega (arith, i.within))) (sym (number_at p r) ∙ eqb-true _ _ (i.hit r z)) in
    rw (z, covering, List·getD-map (λ (s : Spell). s.first) p r blank, List·getD-map (λ (s : Spell). s.last) p r blank, hit) (question_told m q _ _)))

pub returns : goal.returns
returns c = search cover_asked

pub cover-requires : goal.cover-requires
cover-requires c = search published_built
