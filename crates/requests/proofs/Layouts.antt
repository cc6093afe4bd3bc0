-- What fields ask, by their layout: nothing that has a form, a call with no days, a list of days or a length; and what is found of a field. Assumes nothing.
use Rattle.basis.proofs.Prelude.{◌≡◌, refl, ◌≤◌, ℕ, List, [], ◌∷◌}
use Rattle.requests.proofs.Names.{Found, found, unreadable, read_length, read_mask, read_number, read_line, length_within, Call, Ask, Layout, Alone, Number, Pair, MaskFields, DayFields, Length, Unknown, LengthWord, alone_call, spell_call, number_call, pair_call, limit_of, Demand, malformed, asks, asking, ended, length_asks, read_days, ask_days, asked_by}
use Rattle.model.specs.declared.Question.TheVariants.{Mask}
use Rattle.requests.specs.declared.Layout.TheVariants.{Spell}

-- R holds of what has no form
module _ (R : Demand → Demand → Type 0) (none : R malformed malformed) where
  ended_as : (a b : Demand) (s : List ℕ) → R a b → R (ended a s) (ended b s)
  ended_as a b [] p = p
  ended_as a b (_ ∷ s) p = none

  asking_as : {A : Type 0} (f : Found A) (k : A → List ℕ → Demand) → ((a : A) (rest : List ℕ) → f ≡ found a rest → R (k a rest) (k a rest)) → R (asking f k) (asking f k)
  asking_as (found a rest) k h = h a rest refl
  asking_as unreadable k h = none

  -- and of every call with no days
  module _ (call : (c : Call) → R (asks c) (asks c)) where
    last_as : {A : Type 0} (f : Found A) (k : A → Call) → R (asking f (λ a. ended (asks (k a)))) (asking f (λ a. ended (asks (k a))))
    last_as f k = asking_as f _ (λ a rest e. ended_as _ _ rest (call (k a)))

    -- and so of what is asked with one room for days and with another
    pub by_layout : (l : Layout) (room room' : ℕ) (s : List ℕ) → (l ≡ DayFields → R (ask_days (read_days room s)) (ask_days (read_days room' s)))
        → ((w : LengthWord) (n : ℕ) → l ≡ Length w → n ≤ limit_of w → R (length_asks w n) (length_asks w n)) → R (asked_by l room s) (asked_by l room' s)
    unfolding asked_by
    by_layout (Alone w) room room' s d n = ended_as _ _ s (call (alone_call w))
    by_layout (Spell w) room room' s d n = last_as (read_line s) (spell_call w)
    by_layout (Number w) room room' s d n = last_as (read_number 10 s) (number_call w)
    by_layout Pair room room' s d n = asking_as (read_number 9 s) _ (λ a rest e. last_as (read_number 10 rest) (pair_call a))
    by_layout MaskFields room room' s d n = asking_as (read_number 9 s) _ (λ b rest e. last_as (read_mask 10 rest) (λ k. Ask (Mask b k)))
    by_layout DayFields room room' s d n = d refl
    by_layout (Length w) room room' s d n =
        asking_as (read_length (limit_of w) 10 s) _ (λ k rest e. ended_as _ _ rest (n w k refl (length_within (limit_of w) 10 s k rest e)))
    by_layout Unknown room room' s d n = none
