-- The lists of the account stay in the order, their numbers unique, through every call; and what is claimed of every list of calls,
-- begun fresh or on any text. Assumes nothing.
use Rattle.basis.proofs.Prelude.{by_cases, ◌≡◌, ap, refl, ◌≤◌, ℕ, List, List-as-Memᴰ, List·Memᴰ·cases-cons, List·Memᴰ·head, List·Memᴰ·not-nil, List·Memᴰ·tail, [], ◌∷◌, true, ◌↔◌, inl, inr, length, length-take, drop, take, take-append-drop, arith, false, true≢false, by_test, ⊎_elim}
use mathlib.Core.List.Memᴰ
use Rattle.model.proofs.{Names.{accepted, Spell, HeldUrgency, Sound, Good, Orderly, text_order, answer_order, each_member, each_map, cut_passes, cut_sound, Register, write_all, read_text, good, bad, text_again, list_again, Call, Enter, Amend, Strike, TakeBack, Publish, Write, Ask, Question, insert, remove, replace, idle, enter_refusal, amend_refusal, strike_refusal, remember, Effect, begun, fresh, with_standing, settle, reads, edit, take_back, effect_of, refuse, step_of, step, Begun, afresh, after, Kept, Passes, Brings, is_rule, State, Request, Answer}, Edits.{orderly_none, orderly_insert, orderly_remove, orderly_replace, idle_itself, idle_member}, Publishing.{Cuts, published_orderly}, Checks.{enters, amends, strike_accepted}, Effects.become_does, Claims.reads_keep, Asked.{Answered, answers}, Editing.idle_keeps}
use Rattle.model.specs.Reached.{reading}

module _ (P : Spell → Type 0) where
  -- ---- The beginning

  kept_none : (l : List Spell) → Orderly P l → Kept P (with_standing l [] fresh)
  kept_none l o =
      record { standing = o; past = λ x i. absurd (List·Memᴰ·not-nil i); depth = omega arith; published = orderly_none answer_order P }

  begun_kept : ((s : Spell) → Sound s → P s) → {m : State} → Begun m → Kept P m
  begun_kept f afresh = kept_none [] (orderly_none text_order P)
  begun_kept f (reading text) = go (read_text text) refl
    where
      go : (g : Register) → read_text text ≡ g → Kept P (begun g)
      go (good l) e = unfold begun in kept_none l (let g : Good l = (text_again text l e).1 in search (each_map Sound P f l g.each))
      go (bad n line) e = unfold begun in kept_none [] (orderly_none text_order P)

  -- ---- A call

  module _ (cuts : Cuts P) {m : State} (q : Request) (k : Kept P m) where
    abbrev Keeps : Effect → Type 0
    Keeps e = Kept P (settle e m q).state

    remembered : (x : List Spell) → List-as-Memᴰ x (remember m.standing m.past) → Orderly P x
    remembered x i = unfold remember in ⊎_elim (λ s. rw s k.standing) (k.past x)
        (List·Memᴰ·cases-cons (rw take-append-drop at (Memᴰ.append_left (drop 64 (m.standing ∷ m.past)) i)))

    edit_keeps : (n : ℕ) (l : List Spell) → (n ≡ accepted → Orderly P l) → Keeps (edit n l m)
    edit_keeps n l h = unfold remember settle in
        let few = length-take 64 (m.standing ∷ m.past) in
        become_does Keeps m n l (remember m.standing m.past) (λ e. search (remembered, arith)) (λ _. k)

    back_keeps : (past : List (List Spell)) → ((l : List Spell) → List-as-Memᴰ l past → Orderly P l) → length past ≤ 64 → Keeps (take_back past m)
    unfolding take_back settle
    back_keeps [] h few = k
    back_keeps (l ∷ past) h few = search (List·Memᴰ·head, List·Memᴰ·tail, arith)

    call_keeps : (c : Call) → reads c ≡ false → Brings P c → Keeps (effect_of c q.days m)
    unfolding effect_of settle
    call_keeps (Enter s) _ b = edit_keeps (enter_refusal m.standing s) _ (λ e.
        let c = enters m.standing s e in search (orderly_insert text_order P, b s (inl refl) c.passes))
    call_keeps (Amend s) _ b = by_cases Keeps (idle m.standing s) (λ _. become_does Keeps m (amend_refusal m.standing s) _ _ (λ _. k) (λ _. k))
        (λ _. edit_keeps (amend_refusal m.standing s) _ (λ e.
        let c = amends m.standing s e in search (orderly_replace text_order P, b s (inr refl) c.passes)))
    call_keeps (Strike n) _ b = edit_keeps (strike_refusal m.standing n) _ (λ e.
        let there = (strike_accepted m.standing n).0 e in search (orderly_remove text_order P))
    call_keeps TakeBack _ b = back_keeps m.past k.past k.depth
    call_keeps (Publish rule) _ b = by_cases Keeps (is_rule rule) (λ _. search (k.past, published_orderly rule P cuts)) (λ _. k)
    call_keeps Write r b = absurd (true≢false r)
    call_keeps (Ask w) r b = absurd (true≢false r)

    step_kept : Brings P q.call → Kept P (step m q).state
    step_kept b = by_test (reads q.call) (λ r. rw (reads_keep m q r) k) (λ r. call_keeps q.call r b)

  -- ---- A list of calls

  after_kept : Cuts P → {m : State} → Kept P m → (qs : List Request) → ((q : Request) → List-as-Memᴰ q qs → Brings P q.call) → Kept P (after m qs)
  unfolding after
  after_kept cuts k [] b = k
  after_kept cuts {m = m} k (q ∷ qs) b = after_kept cuts {m = (step m q).state} (step_kept cuts q k (b q (List·Memᴰ·head refl))) qs (λ r i. b r (List·Memᴰ·tail i))

-- ---- What is claimed of every list of calls

module _ {m₀ : State} (begin : Begun m₀) (calls : List Request) where
  -- IN THE ORDER, EACH NUMBER ONCE: the standing list, every list of the past and the published list, at most 1,024 spells, each of
  -- which passes the checks 1 to 5; the past is at most 64 lists
  pub always_kept : Kept Passes (after m₀ calls)
  always_kept = after_kept Passes cut_passes (begun_kept Passes (λ s g. g.entered) begin) calls (λ q _ s _ e. e)

  -- SOUND, where each spell that a call brings has numbers of 16 bits and a 32-bit float
  pub always_sound : ((q : Request) → List-as-Memᴰ q calls → Brings Sound q.call) → Kept Sound (after m₀ calls)
  always_sound = after_kept Sound cut_sound (begun_kept Sound (λ s g. g) begin) calls

  -- so the text of the standing list reads back as the standing list
  pub written_again : ((q : Request) → List-as-Memᴰ q calls → Brings Sound q.call) → read_text (write_all (after m₀ calls).standing) ≡ good (after m₀ calls).standing
  written_again b = list_again (after m₀ calls).standing (always_sound b).standing

  -- AN AMEND BY A SPELL THAT STANDS answers 0 and leaves the whole state as it is
  pub always_idle : (q : Request) (s : Spell) → List-as-Memᴰ s (after m₀ calls).standing → step_of (Amend s) (after m₀ calls) q ≡ refuse accepted (after m₀ calls) q
  always_idle q s i =
      let o = always_kept.standing in
      idle_keeps (after m₀ calls) q s (each_member Passes _ s o.each i) (idle_itself s _ o.unique i)

  -- and no other is idle, where each spell that a call brings is sound
  pub always_real : ((q : Request) → List-as-Memᴰ q calls → Brings Sound q.call)
      → (s : Spell) → Sound s → idle (after m₀ calls).standing s ≡ true ↔ List-as-Memᴰ s (after m₀ calls).standing
  always_real b s sound =
      let o = (always_sound b).standing in
      (idle_member _ (each_map Sound (λ x. HeldUrgency x.urgency) (λ x g. g.held) _ o.each) s sound.held, idle_itself s _ o.unique)

  -- EACH ONCE, IN THE ORDER: an accepted question's answer is the numbers of the published spells that fit, each once, in the order, and
  -- their count
  pub always_answered : (q : Request) (w : Question)
      → (step_of (Ask w) (after m₀ calls) q).answer.refusal ≡ accepted → Answered (after m₀ calls) q w (step_of (Ask w) (after m₀ calls) q).answer
  always_answered = let p = always_kept.published in answers (after m₀ calls) p.unique p.in_order
