-- What the edits do, each claim one of every state. Assumes nothing.
use Rattle.basis.proofs.Prelude.{◌∙◌, ◌≡◌, ap, refl, sym, ℕ, List, List-as-Memᴰ, ◌∷◌, false, true, ◌↔◌, ◌⊎◌, length, take, by_test}
use Rattle.model.proofs.{Names.{accepted, unknown_number, is_rule, Spell, refusal_of, earlier_of, stands, distinct, write_all, Enter, Amend, Strike, TakeBack, Publish, Write, Ask, insert, remove, replace, idle, enter_refusal, amend_refusal, strike_refusal, remember, on_day, listed, published_of, with_standing, with_published, After, refuse, settle, over, become, edit, effect_of, step_of, Passes, State, Request}, Checks.{stops, passes, Enters, enter_accepted, Amends, amend_accepted, strike_accepted}, Edits.{in_insert, in_remove, idle_stands}, Effects.become_does, Claims.{back_takes, write_writes}, Asked.day_lists}
use mathlib.Core.Logic.{⊎_map}
use Rattle.model.specs.declared.Question.TheVariants.{Day}

module _ (m : State) (q : Request) where
  -- ---- When an edit is accepted

  become_answer : (n : ℕ) (l : List Spell) (p : List (List Spell)) → (settle (become n l p m) m q).answer.refusal ≡ n
  become_answer n l p = unfold settle in become_does (λ e. (settle e m q).answer.refusal ≡ n) m n l p (λ e. sym e) (λ _. refl)

  -- AN AMEND answers with the first of its checks that refuses it, as the others do: those of `Edits.antt`, in their order
  pub amend_answer : (s : Spell) → (step_of (Amend s) m q).answer.refusal ≡ amend_refusal m.standing s
  amend_answer s = unfold effect_of in by_test (idle m.standing s) (λ e. rw e (become_answer _ _ _)) (λ e. rw e (become_answer _ _ _))

  -- ENTER is accepted exactly where the spell passes the checks 1 to 5, its number does not stand and less than 1,024 stand
  pub enter_when : (s : Spell) → (step_of (Enter s) m q).answer.refusal ≡ accepted ↔ Enters m.standing s
  enter_when s = unfold effect_of in rw (become_answer (enter_refusal m.standing s) _ _) (enter_accepted m.standing s)

  -- AMEND exactly where the spell passes and its number stands
  pub amend_when : (s : Spell) → (step_of (Amend s) m q).answer.refusal ≡ accepted ↔ Amends m.standing s
  amend_when s = rw (amend_answer s) (amend_accepted m.standing s)

  -- STRIKE exactly where the number stands
  pub strike_when : (k : ℕ) → (step_of (Strike k) m q).answer.refusal ≡ accepted ↔ (stands m.standing k ≡ true)
  strike_when k = unfold effect_of in rw (become_answer (strike_refusal m.standing k) _ _) (strike_accepted m.standing k)

  -- the checks 1 to 5 of an amend come before the other

  pub amend_bad : (s : Spell) → (Passes s → ⊥) → (step_of (Amend s) m q).answer.refusal ≡ refusal_of s
  amend_bad s bad = unfold amend_refusal in amend_answer s ∙ sym (stops (refusal_of s) _ bad)

  pub amend_unknown : (s : Spell) → Passes s → stands m.standing s.number ≡ false → (step_of (Amend s) m q).answer.refusal ≡ unknown_number
  amend_unknown s fine free = unfold amend_refusal in amend_answer s ∙ sym (passes (refusal_of s) _ fine) ∙ rw free

  -- ---- What an accepted edit does

  -- the spells that stand after it are those of which `In` is true, the former standing list is at the front of the past, which has
  -- at most 64, and the published list is as it was
  pub record Edited (In : Spell → Type 0) (x : State) : Type 0 where
    pub standing : (s : Spell) → List-as-Memᴰ s x.standing ↔ In s
    pub past : x.past ≡ take 64 (m.standing ∷ m.past)
    pub published : x.published ≡ m.published

  edited : {In : Spell → Type 0} (n : ℕ) (l : List Spell) → ((s : Spell) → List-as-Memᴰ s l ↔ In s)
      → (settle (edit n l m) m q).answer.refusal ≡ accepted → Edited In (settle (edit n l m) m q).state
  edited {In} n l is = unfold settle remember in
      become_does (λ e. (settle e m q).answer.refusal ≡ accepted → Edited In (settle e m q).state) m n l (remember m.standing m.past)
      (λ _ _. record { standing = is; past = refl; published = refl }) (λ no r. absurd (no r))

  -- ENTER adds the spell, and no other goes or comes
  pub enter_adds : (s : Spell) → (step_of (Enter s) m q).answer.refusal ≡ accepted
      → Edited (λ x. (x ≡ s) ⊎ List-as-Memᴰ x m.standing) (step_of (Enter s) m q).state
  enter_adds s = unfold effect_of in edited (enter_refusal m.standing s) (insert s m.standing) (in_insert earlier_of s m.standing)

  -- spell numbers are unique in every state that calls lead to (`always-kept` in `Runs.antt`)
  module _ (unique : distinct m.standing ≡ true) where
    -- STRIKE removes the spell of that number, and keeps the others
    pub strike_removes : (k : ℕ) → (step_of (Strike k) m q).answer.refusal ≡ accepted
        → Edited (λ x. List-as-Memᴰ x m.standing × (x.number ≡ k → ⊥)) (step_of (Strike k) m q).state
    strike_removes k = unfold effect_of in edited (strike_refusal m.standing k) (remove k m.standing) (in_remove k m.standing unique)

    -- AMEND by another spell than the standing one puts it in the place of that of its number, and keeps the others
    pub amend_replaces : (s : Spell) → idle m.standing s ≡ false → (step_of (Amend s) m q).answer.refusal ≡ accepted
        → Edited (λ x. (x ≡ s) ⊎ (List-as-Memᴰ x m.standing × (x.number ≡ s.number → ⊥))) (step_of (Amend s) m q).state
    amend_replaces s real = unfold effect_of in rw real (edited (amend_refusal m.standing s) (replace s m.standing) (λ x.
        let put = in_insert earlier_of s (remove s.number m.standing) x in
        let kept = in_remove s.number m.standing unique x in
        (λ i. ⊎_map (λ e. e) kept.0 (put.0 i), λ i. put.1 (⊎_map (λ e. e) kept.1 i))))

  -- AN IDLE AMEND, by a spell that equals the standing one in all fields, answers 0 and leaves the whole state as it is
  pub idle_keeps : (s : Spell) → Passes s → idle m.standing s ≡ true → step_of (Amend s) m q ≡ refuse accepted m q
  idle_keeps s fine same = unfold effect_of settle in
      rw (same, (amend_accepted m.standing s).1 (record { passes = fine; there = idle_stands m.standing s same }))

  -- A TAKE BACK after an accepted edit gives the former standing list, and leaves the published list
  pub edit_taken_back : {In : Spell → Type 0} {x : State} → Edited In x → (r : Request)
      → step_of TakeBack x r ≡ refuse accepted (with_standing m.standing (take 63 m.past) m) r
  edit_taken_back {In} {x} e r = rw (← e.published) (back_takes x r m.standing (take 63 m.past) e.past)

-- ---- What is amended after a publish is written, and not yet asked

module _ (m : State) (p e : Request) (rule : ℕ) (known : is_rule rule ≡ true) (s : Spell) (real : idle m.standing s ≡ false) where
  -- the state after a publish and an amend by another spell than the standing one
  abbrev amended : After
  amended = step_of (Amend s) (step_of (Publish rule) m p).state e

  -- WRITING gives the amended list, and a DAY still asks the list as it was published
  pub amended_unpublished : amended.answer.refusal ≡ accepted → (q : Request) (d : ℕ)
      → ((step_of Write amended.state q).answer.refusal ≡ accepted
      → (step_of Write amended.state q).answer.text ≡ over (write_all (replace s m.standing)) q.text)
      × ((step_of (Ask (Day d)) amended.state q).answer.refusal ≡ accepted
      → (step_of (Ask (Day d)) amended.state q).answer.numbers ≡ over (listed (on_day d) (published_of rule m.standing)) q.numbers)
  amended_unpublished r q d = unfold effect_of settle in
      let fine : amend_refusal m.standing s ≡ accepted = sym (amend_answer (with_published (published_of rule m.standing) m) e s) ∙ rw known at r in
      rw (known, real, fine) (
        λ h. let w = write_writes _ q h in rw w.length at w.text,
        λ h. let a = day_lists _ q d h in rw a.count at a.numbers,
      )
