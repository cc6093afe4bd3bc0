-- When the checks of an edit accept it. Assumes nothing.
use Rattle.basis.proofs.Prelude.{◌≡◌, ◌<◌, ℕ, List, false, true, ◌↔◌, eqb, leb, length, eq-eqb, eqb-false, eqb-true, leb-false, lt-leb, ne_eqb, by_test}
use Rattle.model.proofs.Names.{accepted, Spell, refusal_of, stands, needed, past, or_else, enter_refusal, amend_refusal, strike_refusal}

-- ---- Two checks, one after the other

pub stops : (n m : ℕ) → (n ≡ accepted → ⊥) → n ≡ or_else n m
stops n m h = rw (ne_eqb n accepted h)

pub passes : (n m : ℕ) → n ≡ accepted → m ≡ or_else n m
passes n m h = rw (eq-eqb n accepted h)

both_pass : (n m : ℕ) → or_else n m ≡ accepted → (n ≡ accepted) × (m ≡ accepted)
both_pass n m h = by_test (eqb n accepted) (λ e. (eqb-true n accepted e, rw e at h)) (λ e. absurd (eqb-false n accepted e (rw e at h)))

-- ---- The checks of enter, amend and strike

module _ (l : List Spell) (s : Spell) where
  -- an accepted enter: the spell passes, its number is free and there is room
  pub record Enters : Type 0 where
    pub passes : refusal_of s ≡ accepted
    pub free : stands l s.number ≡ false
    pub room : length l < 1024

  pub enters : enter_refusal l s ≡ accepted → Enters
  enters h = unfold enter_refusal in
      let p = both_pass (refusal_of s) _ h in
      let q = past (stands l s.number) 5 _ p.1 in
      search (leb-false, past (leb 1024 (length l)) 7 accepted q.1)

  pub enter_accepted : enter_refusal l s ≡ accepted ↔ Enters
  unfolding enter_refusal
  enter_accepted = (enters, λ e. rw (eq-eqb (refusal_of s) accepted e.passes, e.free, lt-leb 1024 (length l) e.room))

  -- an accepted amend: the spell passes, and its number stands
  pub record Amends : Type 0 where
    pub passes : refusal_of s ≡ accepted
    pub there : stands l s.number ≡ true

  pub amends : amend_refusal l s ≡ accepted → Amends
  amends h = unfold amend_refusal in let p = both_pass (refusal_of s) _ h in search (needed (stands l s.number) 6 0 p.1)

  pub amend_accepted : amend_refusal l s ≡ accepted ↔ Amends
  unfolding amend_refusal
  amend_accepted = (amends, λ a. rw (eq-eqb (refusal_of s) accepted a.passes, a.there))

-- an accepted strike: the number stands
pub strike_accepted : (l : List Spell) (k : ℕ) → strike_refusal l k ≡ accepted ↔ (stands l k ≡ true)
strike_accepted l k = unfold strike_refusal in (λ e. (needed (stands l k) 6 0 e).0, λ e. rw e)
