-- A plan is what the account says of its call, on the list l of n spells where its number stands at p; its checks are those of the account,
-- in their order. Assumes nothing.
use Rattle.basis.proofs.Prelude.{◌∙◌, ◌≡◌, ap, refl, sym, ◌-◌, ◌<◌, ◌≤◌, suc, ℕ, List, ◌∷◌, false, true, leb, ltb, drop, get_or, length, length-append, length-drop, length-take, take, arith, eq-eqb, le-leb, leb-false, leb-true, lt-leb, ltb-false, ltb-true, ne_eqb, by_cases, by_test, cond}
use Rattle.refusal.specs.Table.{accepted, unknown_number, no_history}
use Rattle.spell.specs.{declared.Spell.Spell, Blank.blank, Listing.stands, Same.same_of}
use Rattle.model.{specs.Edits.{insert, remove, replace, idle, enter_refusal, amend_refusal}, proofs.Checks.{enters, amends}}
use Rattle.spell_places.{specs.{Search.stands_at, List.{putting, without}}, proofs.{Found.{idle_index, stands_index}, Changing.{put_in, removed_is, without_none}}}
use Rattle.journal.specs.{declared.Undo.Undo, Journal.noted, Past.{undo, entering, replacing}}
use Rattle.plans.specs.{Plans.{Decision, no_plan, enter_check, plan_enter, amend_check, plan_amend, plan_strike, plan_back, deeper_by}}

-- ---- A number is looked for in the list l of n spells: p is where it stands, or n

module _ (l : List Spell) (k : ℕ) {n p : ℕ} (long : length l ≡ n) (at-index : p ≡ stands_at k l) where
  stands_is : stands l k ≡ ltb p n
  stands_is = rw (at-index, ← long) (stands_index k l)

  place_in : stands l k ≡ true → p < n
  place_in h = ltb-true p n (sym stands_is ∙ h)

-- ---- Enter and amend of the spell s, as the code checks it

module _ (l : List Spell) (s : Spell) {n p : ℕ} (long : length l ≡ n) (at-index : p ≡ stands_at s.number l) where
  enter_refusal_lem : enter_refusal l s ≡ enter_check s p n
  enter_refusal_lem = unfold enter_refusal in rw (stands_is l s.number long at-index, long) (by_test (ltb p n) (λ e. rw e) (λ e. rw e))

  amend_refusal_lem : amend_refusal l s ≡ amend_check s p n
  amend_refusal_lem = unfold amend_refusal in
      rw (stands_is l s.number long at-index)
      (by_test (ltb p n) (λ e. rw (e, lt-leb n p (ltb-true p n e))) (λ e. rw (e, le-leb n p (ltb-false p n e))))

-- ---- Plans

-- a plan by which no check refuses, the list l becomes l', and the entry e is noted in a journal of the depth d
pub record Makes (x : Decision) (l l' : List Spell) (e : Undo) (d : ℕ) : Type 0 where
  pub done : x.refusal ≡ accepted
  pub list : putting x.puts x.spell (without x.out l) ≡ l'
  pub notes : x.notes ≡ true
  pub entry : x.entry ≡ e
  pub depth : x.depth ≡ d

-- a plan by which the newest of d entries goes, and the list l becomes l'
pub record Undoes (x : Decision) (l l' : List Spell) (d : ℕ) : Type 0 where
  pub done : x.refusal ≡ accepted
  pub list : putting x.puts x.spell (without x.out l) ≡ l'
  pub notes : x.notes ≡ false
  pub depth : x.depth ≡ d - 1

-- nothing changes
pub none_keeps : (l : List Spell) (d z : ℕ) → length l ≤ 1024 → let x = no_plan d z in putting x.puts x.spell (without x.out l) ≡ l
none_keeps l d z few = without_none 1024 l few

-- ---- Enter and amend of the spell s

module _ (l : List Spell) (s : Spell) {n p : ℕ} (long : length l ≡ n) (few : n ≤ 1024) (at : p ≡ stands_at s.number l) (d : ℕ) where
  pub enter_leaves : (enter_refusal l s ≡ accepted → ⊥) → plan_enter s p n d ≡ no_plan d (enter_refusal l s)
  enter_leaves h = rw (← enter_refusal_lem l s long at, ne_eqb (enter_refusal l s) accepted h)

  pub enter_makes : enter_refusal l s ≡ accepted → Makes (plan_enter s p n d) l (insert s l) (entering s) d
  enter_makes h =
      let list : putting true s (without 1024 l) ≡ insert s l = rw (without_none 1024 l (omega arith)) (put_in s l (enters l s h).room) in
      rw (← enter_refusal_lem l s long at, eq-eqb (enter_refusal l s) accepted h) (search)

  abbrev old : Spell
  old = get_or l p blank

  pub amend_leaves : (amend_refusal l s ≡ accepted → ⊥) → plan_amend s p old n d ≡ no_plan d (amend_refusal l s)
  amend_leaves h = rw (← amend_refusal_lem l s long at, ne_eqb (amend_refusal l s) accepted h)

  module _ (h : amend_refusal l s ≡ accepted) where
    -- what is found is the spell of an idle amend
    idle_is : idle l s ≡ same_of old s
    idle_is = rw at (idle_index s l (amends l s h).there)

    pub amend_makes : idle l s ≡ false → Makes (plan_amend s p old n d) l (replace s l) (replacing s.number l) d
    amend_makes i =
        let there = place_in l s.number long at (amends l s h).there in
        let room : length (without p l) < 1024 = omega (arith, length-append (take p l) (drop (suc p) l), length-take p l, length-drop (suc p) l) in
        rw (← amend_refusal_lem l s long at, eq-eqb (amend_refusal l s) accepted h, ← idle_is, i)
        (record { done = refl; list = put_in s (without p l) room ∙ ap (insert s) (removed_is s.number l at); notes = refl; entry = rw at; depth = refl })

    pub amend_idles : idle l s ≡ true → plan_amend s p old n d ≡ no_plan d accepted
    amend_idles i = rw (← amend_refusal_lem l s long at, eq-eqb (amend_refusal l s) accepted h, ← idle_is, i)

-- ---- Strike of the number k

module _ (l : List Spell) (k : ℕ) {n p : ℕ} (long : length l ≡ n) (at : p ≡ stands_at k l) (d : ℕ) where
  pub strike_leaves : stands l k ≡ false → plan_strike k p (get_or l p blank) n d ≡ no_plan d unknown_number
  strike_leaves h = rw (le-leb n p (ltb-false p n (sym (stands_is l k long at) ∙ h)))

  pub strike_makes : stands l k ≡ true → Makes (plan_strike k p (get_or l p blank) n d) l (remove k l) (replacing k l) d
  strike_makes h =
      rw (lt-leb n p (place_in l k long at h))
      (record { done = refl; list = removed_is k l at; notes = refl; entry = rw at; depth = refl })

-- ---- Take back of the entry e

pub back_leaves : (e : Undo) (p : ℕ) {d : ℕ} → d ≡ 0 → plan_back e p d ≡ no_plan d no_history
back_leaves e p none = rw none

pub back_undoes : (l : List Spell) (e : Undo) {p : ℕ} (d : ℕ) → p ≡ stands_at e.number l → (d ≡ 0 → ⊥) → (e.stood ≡ true → length (remove e.number l) < 1024)
    → Undoes (plan_back e p d) l (undo e l) d
back_undoes l e {p} d at some room = unfold undo in
    let list : putting e.stood e.spell (without p l) ≡ cond e.stood (insert e.spell (remove e.number l)) (remove e.number l)
    = rw (removed_is e.number l at) (by_test e.stood (λ s. rw s (put_in e.spell _ (room s))) (λ s. rw s)) in
    rw (ne_eqb d 0 some) (search)

-- ---- The depth

-- one more entry, of which a 65th falls off
pub deeper_noted : (e : Undo) (es : List Undo) → length es ≤ 64 → deeper_by (length es) true ≡ length (noted e es)
deeper_noted e es few =
    let many = length-take 64 (e ∷ es) in
    by_cases (λ r. r ≡ length (noted e es)) (leb 64 (length es)) (λ h. omega (arith, leb-true 64 (length es) h)) (λ h. omega (arith, leb-false 64 (length es) h))
