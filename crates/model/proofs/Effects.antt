-- All calls of the account gone through once, for any property of what comes of a call, and the questions for any property of what they do.
-- Assumes nothing.
use Rattle.basis.proofs.Prelude.{◌≡◌, refl, ◌≤◌, ℕ, List, List-as-Memᴰ, List·Memᴰ·head, List·Memᴰ·tail, [], ◌∷◌, Bool, ◌&&◌, cond, false, true, eqb, leb, length, arith, eqb-false, eqb-true, by_cases}
use Rattle.model.proofs.{Names.{accepted, off_calendar, reversed, unknown_number, unsorted_days, short_buffer, no_such_rule, is_rule, published_of, stands, Spell, is_day, days_ok, write_all, ticks, Call, Enter, Amend, Strike, TakeBack, Publish, Write, Ask, Question, idle, enter_refusal, amend_refusal, strike_refusal, take_back_refusal, on_any, rising, listed, with_standing, After, Effect, refused, done, gives, refuse, gave, wrote, settle, with_published, become, amend, take_back, reaching, reaches, comparisons_of, in_sheet, several, cover, ask, effect_of, step_of, reads, State, Request}}
use Rattle.model.specs.declared.Question.TheVariants.{Day, Span, Cover, Days, Mask}

-- ---- What a call does

module _ (F : Effect → Type 0) where
  -- an edit or a take back: what the check n says, it does
  pub become_does : (m : State) (n : ℕ) (l : List Spell) (p : List (List Spell))
      → (n ≡ accepted → F (done (with_standing l p m))) → ((n ≡ accepted → ⊥) → F (refused n)) → F (become n l p m)
  become_does m n l p made kept = by_cases F (eqb n accepted) (λ e. made (eqb-true n accepted e)) (λ e. kept (eqb-false n accepted e))

  -- the spell that is asked for is in the list, and has the number, or none has it
  pub cover_does : (p : List Spell) (k : ℕ) (l : List Spell) → (stands l k ≡ false → F (refused unknown_number))
      → ((x : Spell) → List-as-Memᴰ x l → x.number ≡ k → F (reaching x.first x.last p)) → F (cover k l p)
  unfolding cover stands
  cover_does p k [] none asked = none refl
  cover_does p k (x ∷ l) none asked =
      by_cases F (eqb x.number k) (λ e. asked x (List·Memᴰ·head refl) (eqb-true x.number k e))
      (λ e. cover_does p k l (λ n. none (rw e n)) (λ y i. asked y (List·Memᴰ·tail i)))

  -- F holds of every refusal that a call gives; the number is never 0
  module _ (no : (n : ℕ) → (n ≡ accepted → ⊥) → F (refused n)) where
    -- an effect behind a check
    pub checked : (b : Bool) (n : ℕ) {e : Effect} → (n ≡ accepted → ⊥) → F e → F (cond b e (refused n))
    checked b n bad p = by_cases F b (λ _. p) (λ _. no n bad)

    -- days, and a mask, whose days are the ticked ones
    pub several_does : (p : List Spell) (ds : List ℕ) (n : ℕ) → F (gives (listed (on_any ds) p) 0 n) → F (several ds n p)
    several_does p ds n asked = checked (days_ok ds) off_calendar (omega arith) (checked (rising ds) unsorted_days (omega arith) asked)

    -- any question, of which at most 64 days are ticked
    pub asks_does : (p : List Spell) (ds : List ℕ) → ((h l : ℕ) → F (reaching h l p))
        → ((es : List ℕ) (n : ℕ) → n ≤ 64 → F (gives (listed (on_any es) p) 0 n)) → (w : Question) → F (ask w ds p)
    unfolding ask
    asks_does p ds asked some (Day d) = checked (is_day d) off_calendar (omega arith) (asked d d)
    asks_does p ds asked some (Span b c) =
        checked (is_day b && is_day c) off_calendar (omega arith) (checked (leb b c) reversed (omega arith) (asked c b))
    asks_does p ds asked some (Cover k) = cover_does p k p (λ _. no unknown_number (omega arith)) (λ x _ _. asked x.first x.last)
    asks_does p ds asked some Days = several_does p ds 0 (some ds 0 (omega arith))
    asks_does p ds asked some (Mask b k) = several_does p (ticks b k) (length (ticks b k)) (some (ticks b k) _ (in_sheet b k))

-- ---- What comes of a call

module _ (P : After → Type 0) (m : State) (q : Request) where
  -- P holds of whatever may come of the call c: a refusal, spell numbers, a text, another standing list and past, another published list
  pub record Any (c : Call) : Type 0 where
    pub refusing : (n : ℕ) → (n ≡ accepted → ⊥) → P (refuse n m q)
    pub asked : (h l : ℕ) → P (gave (listed (reaches h l) m.published) (comparisons_of h l m.published) 0 m q)
    pub several : (ds : List ℕ) (n : ℕ) → n ≤ 64 → P (gave (listed (on_any ds) m.published) 0 n m q)
    pub written : P (wrote (write_all m.standing) m q)
    pub changed : reads c ≡ false → (l : List Spell) (p : List (List Spell)) → P (refuse accepted (with_standing l p m) q)
    pub published : (rule : ℕ) → c ≡ Publish rule → P (refuse accepted (with_published (published_of rule m.standing) m) q)

  becomes : {c : Call} → Any c → reads c ≡ false → (n : ℕ) (l : List Spell) (p : List (List Spell)) → P (settle (become n l p m) m q)
  becomes a e n l p = unfold settle in become_does (λ x. P (settle x m q)) m n l p (λ _. a.changed e l p) (a.refusing n)

  -- what fits its lent list, or 11
  fits : {c : Call} → Any c → (b : Bool) {x : After} → P x → P (cond b x (refuse short_buffer m q))
  fits a b p = by_cases P b (λ _. p) (λ _. a.refusing short_buffer (omega arith))

  pub every : (c : Call) → Any c → P (step_of c m q)
  unfolding effect_of take_back settle
  every (Enter s) a = becomes a refl (enter_refusal m.standing s) _ _
  every (Amend s) a =
      let n = amend_refusal m.standing s in
      by_cases (λ x. P (settle x m q)) (idle m.standing s) (λ _. becomes a refl n _ _) (λ _. becomes a refl n _ _)
  every (Strike k) a = becomes a refl (strike_refusal m.standing k) _ _
  every TakeBack a = becomes a refl (take_back_refusal m.past) _ _
  every (Publish rule) a = checked (λ x. P (settle x m q)) a.refusing (is_rule rule) no_such_rule (omega arith) (a.published rule refl)
  every Write a = fits a (leb (length (write_all m.standing)) (length q.text)) a.written
  every (Ask w) a = asks_does (λ x. P (settle x m q)) a.refusing m.published q.days
      (λ h l. fits a (leb (length (listed (reaches h l) m.published)) (length q.numbers)) (a.asked h l))
      (λ ds n few. fits a (leb (length (listed (on_any ds) m.published)) (length q.numbers)) (a.several ds n few)) w
