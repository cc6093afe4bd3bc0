-- From an edit of the standing list to the postcondition of the call. Assumes nothing.
use Rattle.basis.proofs.Prelude.{◌≡◌, ap, refl, sym, ℕ, List, [], ◌∷◌, Bool, cond, false, false≢true, true, eqb, eqb-true, by_test}
use Rattle.service.proofs.Names.{accepted, Spell, Wf, list_of, pasts, Edits, TakesBack, Does, Call, Enter, Amend, Strike, TakeBack, Publish, Write, Ask, take_back_refusal, front_or, rest_of, State, Request, Effect, settle, become, edit, take_back, effect_of, asking, with_standing, Outcome, told_of, answer_of, Service, Stepped, service_of, leaves_of, Blocks, Represents, Changed, Changes}
use Rattle.standing.specs.{Standing.After, declared.Standing.Standing}
use Rattle.journal.specs.declared.Undo.{Undo}

abbrev stepped_of : After → Stepped
stepped_of e = record { service = service_of e.standing; outcome = told_of e.refusal }

-- the standing list and the past after an edit, with what is told of it, are those of an effect on the state m
abbrev Follows : After → State → Effect → Request → Type 0
Follows e m f q = settle f m q ≡ record { state = with_standing (list_of e.standing) (pasts e.standing) m; answer = answer_of (told_of e.refusal) q.numbers q.text }

-- a result that follows what the call does, whatever stands beside it
changed : {sv : Service} {c : Call} {e : After} → Wf e.standing → e.standing ≡ leaves_of sv.standing c → (eqb e.refusal accepted ≡ false → e.standing ≡ sv.standing)
    → ((m : State) (bs : Blocks) (q : Request) → Represents sv bs m → Follows e m (effect_of c q.days m) q) → Changed sv c (stepped_of e)
changed {c = c} w whole kept f = record {
  valid = record { standing = w };
  whole = ap service_of whole;
  kept = λ t. ap service_of (kept t);
  met = λ bs days numbers text g. record {
    given = record { valid = record { standing = w }; published = g.published };
    answer = λ m h. rw (f m bs (asking c days numbers text) h);
    after = λ m h. rw (f m bs (asking c days numbers text) h) (record { valid = record { standing = w }; standing = refl; past = refl; shows = h.shows });
  };
}

-- enter, amend, strike: idle by the test i, refused with the number n, and else the standing list becomes l
module _ {sv : Service} {e : After} {l : List Spell} {u : Undo} where
  edit_follows : (i : Bool) {n : ℕ} (m : State) (bs : Blocks) (q : Request) → Edits sv.standing e i n l u → Represents sv bs m
      → Follows e m (cond i (become n m.standing m.past m) (edit n l m)) q
  unfolding settle
  edit_follows true {n} m bs q d h = rw (d.refusal, d.past, d.list, h.past, h.standing) (by_test (eqb n accepted) (λ t. rw (t, eqb-true n accepted t)) (λ t. rw t))
  edit_follows false {n} m bs q d h = rw (d.refusal, d.past, d.list, h.past, h.standing) (by_test (eqb n accepted) (λ t. rw (t, eqb-true n accepted t)) (λ t. rw t))

  -- a refused one leaves every place
  edit_kept : (i : Bool) {n : ℕ} → Edits sv.standing e i n l u → eqb e.refusal accepted ≡ false → e.standing ≡ sv.standing
  edit_kept i d t = d.kept (by_test i (λ e. rw e) (λ e. rw (e, ← d.refusal) t))

-- take back, which is refused where there is no past
back_follows : {sv : Service} {e : After} (m : State) (bs : Blocks) (q : Request) → TakesBack sv.standing e → Represents sv bs m → Follows e m (take_back m.past m) q
unfolding take_back take_back_refusal front_or rest_of settle
back_follows m bs q d h = rw (d.refusal, d.past, d.list, h.past, h.standing) (go m.past refl)
  where
    go : (past : List (List Spell)) → m.past ≡ past → settle (take_back past m) m q
        ≡ record { state = with_standing (front_or m.standing past) (rest_of past) m; answer = answer_of (told_of (take_back_refusal past)) q.numbers q.text }
    go [] none = ap (λ (p : List (List Spell)). record { state = with_standing m.standing p m; answer = answer_of (told_of (take_back_refusal [])) q.numbers q.text }) none
    go (x ∷ past) is = refl

no_past : (past : List (List Spell)) → eqb (take_back_refusal past) accepted ≡ false → past ≡ []
unfolding take_back_refusal
no_past [] t = refl
no_past (l ∷ past) t = absurd (false≢true (sym t))

-- WHAT A CALL MAKES of the standing list, with what is told of it, is what it makes of the service
pub changes : (sv : Service) (c : Call) (st' : Standing) {n : ℕ} {o : Outcome} → Does sv.standing c (record { standing = st'; refusal = n }) → o ≡ told_of n
    → Changes sv c (record { service = service_of st'; outcome = o })
unfolding effect_of leaves_of Does
changes sv (Enter s) st' d is = rw is (changed d.wf d.whole (edit_kept false d) (λ m bs q h. edit_follows false m bs q (rw h.standing at d) h))
changes sv (Amend s) st' d is = rw is (changed d.wf d.whole (edit_kept _ d) (λ m bs q h. edit_follows _ m bs q (rw h.standing at d) h))
changes sv (Strike k) st' d is = rw is (changed d.wf d.whole (edit_kept false d) (λ m bs q h. edit_follows false m bs q (rw h.standing at d) h))
changes sv TakeBack st' d is = rw is (changed d.wf d.whole (λ t. d.kept (no_past _ (rw d.refusal at t))) (λ m bs q h. back_follows m bs q d h))
changes sv (Publish rule) st' d is = rw is (ap stepped_of d)
changes sv Write st' d is = rw is (ap stepped_of d)
changes sv (Ask w) st' d is = rw is (ap stepped_of d)
