-- What is decided, carried out, is what the account says of its call: pure facts, no code. Assumes nothing.
use Rattle.basis.proofs.Prelude.{◌∙◌, ◌≡◌, refl, sym, ℕ, List, [], ◌∷◌, Bool, cond, false, false≢true, not, true, eqb, get_or, length, length-take, ◌-◌, ◌<◌, arith, clash, eqb-false, eqb-true, untrue, by_test}
use Rattle.std.specs.Prelude.{Result, Ok, Err, is_some, unwrap_or}
use Rattle.std.specs.Result.{result_and, result_unwrap_or}
use Rattle.refusal.specs.{Numbers.number_in, declared.Refusal.Refusal}
use Rattle.model.proofs.Checks.{strike_accepted}
use Rattle.standing.proofs.{Names.{plan_for, over, own_over, accepted, no_history, Spell, Sound, Good, Goods, makes, Edits, undo, past_of, pasts, remember, past_pushed, goods_take, text_order, earlier_of, insert, length-insert, remove, replace, entering, replacing, insert_remove, remove_none, remove_insert, removed_gone, orderly_insert, orderly_remove, orderly_replace, enters, amends, strike_refusal, stands, blank, blank_entry, idle, take_back_refusal, front_or, rest_of, Call, Enter, Amend, Strike, TakeBack, Publish, Write, Ask, Undo, noting, Standing, After, Decision, Decides, Plan, plan_by, list_of, entries, Wf, TakesBack, after_take_back, Does, stands_at, changing, counted_of, counted_is, putting, without, Located, found_in, holding, noted, deeper_by, newest_first, newest_of, no_plan, plan_of, pop, number_of, Takes, Makes, Undoes, none_keeps, enter_leaves, enter_makes, amend_leaves, amend_idles, amend_makes, strike_leaves, strike_makes, back_leaves, back_undoes, deeper_noted}, Places.{list_length, entries_long, entries_over, journal_own, over_same, list_over, past_over, wf_over}}

-- all places after a plan is carried out
abbrev pub applied : Standing → Decision → Standing
applied st x = record {
  spells = changing x.out x.puts x.spell st.count st.spells;
  count = counted_of st.count x.out x.puts;
  journal = cond x.notes (noting x.entry x.depth st.journal) st.journal;
  depth = deeper_by x.depth x.notes;
}

-- what comes of it, with what is told
abbrev pub outcome : Standing → Decision → After
outcome st x = record { standing = applied st x; refusal = x.refusal }

-- what holds of an equal outcome
as_known : (P : After → Type 0) {r r' : After} → r ≡ r' → P r' → P r
as_known P is h = rw is h

module _ {st : Standing} (w : Wf st) where
  -- the list of a plan that is carried out, with its length
  applied_is : (x : Decision) {l : List Spell} → putting x.puts x.spell (without x.out (list_of st)) ≡ l
      → outcome st x ≡ record { standing = record { spells = over l st.spells; count = length l; journal = (applied st x).journal; depth = (applied st x).depth }; refusal = x.refusal }
  applied_is x is = rw (← is, counted_is st.count x.out x.puts x.spell st.spells w.places w.count_within)

  -- nothing changes
  left : {x : Decision} {z : ℕ} → x ≡ no_plan st.depth z → outcome st x ≡ record { standing = st; refusal = z }
  left {z = z} is =
      rw is (applied_is (no_plan st.depth z) (none_keeps (list_of st) st.depth z (omega (arith, list_length w, w.count_within))) ∙ rw (own_over st.count st.spells (omega (arith, w.places, w.count_within)), list_length w))

  -- an entry is noted
  made : {x : Decision} {l : List Spell} {e : Undo} → Makes x (list_of st) l e st.depth → outcome st x ≡ record { standing = holding st l (noted e (entries st)); refusal = accepted }
  made {x} {e = e} m =
      let deep : deeper_by st.depth true ≡ length (noted e (entries st)) = rw (entries_long w st.depth (omega arith)) at (deeper_noted e (entries st) (omega (arith, entries_long w st.depth (omega arith), w.depth_within))) in
      applied_is x m.list ∙ rw (m.done, m.notes, m.entry, m.depth, deep)

  module _ (x : Decision) (idle : Bool) (n : ℕ) (l' : List Spell) (e : Undo) where
    kept_does : makes idle n ≡ false → x ≡ no_plan st.depth n → Edits st (outcome st x) idle n l' e
    kept_does not is = as_known (λ r. Edits st r idle n l' e) (left is) (record { refusal = refl; wf = w; list = rw not; past = rw not; kept = λ _. refl; whole = rw not })

    -- an edit of the plan x: accepted and not idle it is made, and then its list can stand and its entry takes it back; else it leaves all as it was
    edit_does : (n ≡ accepted → idle ≡ false → Makes x (list_of st) l' e st.depth × Good l' × (undo e l' ≡ list_of st))
        → (n ≡ accepted → idle ≡ true → x ≡ no_plan st.depth accepted) → ((n ≡ accepted → ⊥) → x ≡ no_plan st.depth n) → Edits st (outcome st x) idle n l' e
    edit_does makes-it idles leaves =
        by_test (eqb n accepted)
        (λ ok. let done = eqb-true n accepted ok in by_test idle
        (λ i. kept_does (rw i) (rw done (idles done i)))
        (λ i.
        let yes : makes idle n ≡ true = rw (i, ok) in
        let m = makes-it done i in
        let es = noted e (entries st) in
        let remembered : past_of l' es ≡ remember (list_of st) (pasts st) = past_pushed e (list_of st) l' (entries st) m.2 in
        let wf = wf_over st l' es w m.1 (omega (arith, length-take 64 (e ∷ entries st))) (rw remembered (unfold remember Goods in goods_take 64 (list_of st ∷ pasts st) (w.good, w.goods))) in
        let list = list_over st l' es in
        let past = past_over st l' es ∙ remembered in
        let kept : makes idle n ≡ false → holding st l' es ≡ st = λ no. absurd (clash yes no) in
        let told = sym done in
        as_known (λ r. Edits st r idle n l' e) (made m.0) (search yes)))
        (λ no. kept_does (by_test idle (λ i. rw i) (λ i. rw (i, no))) (leaves (eqb-false n accepted no)))

  -- ---- Take back

  -- there is no past: nothing changes
  takes_none : st.depth ≡ 0 → TakesBack st (record { standing = st; refusal = no_history })
  unfolding past_of take_back_refusal front_or rest_of
  takes_none z =
      let none : entries st ≡ [] = rw z in
      record { refusal = rw none; wf = w; list = rw none; past = rw none; kept = λ _. refl; whole = rw none (sym (rw none at (over_same st w))) }

  module _ (some : st.depth ≡ 0 → ⊥) where
    abbrev newest : Undo
    newest = newest_of st.depth st.journal

    abbrev rest : List Undo
    rest = newest_first (st.depth - 1) st.journal

    entries_are : entries st ≡ newest ∷ rest
    entries_are = pop st.journal st.depth (omega (arith, w.rooms, w.depth_within)) some

    goods_are : Good (undo newest (list_of st)) × Goods (past_of (undo newest (list_of st)) rest)
    unfolding past_of Goods
    goods_are = rw entries_are at w.goods

    -- where the edit replaced a spell, there is room for it
    undo_room : newest.stood ≡ true → length (remove newest.number (list_of st)) < 1024
    unfolding undo
    undo_room e = omega (arith, length-insert earlier_of newest.spell (remove newest.number (list_of st)), rw e at goods_are.0.few)

    -- the front of the past over the list, and the newest entry gone
    takes_one : {x : Decision} → Undoes x (list_of st) (undo newest (list_of st)) st.depth → TakesBack st (outcome st x)
    unfolding past_of front_or take_back_refusal rest_of
    takes_one {x} m =
        let l = undo newest (list_of st) in
        let long = entries_long w (st.depth - 1) (omega arith) in
        let is : outcome st x ≡ record { standing = holding st l rest; refusal = accepted } =
        applied_is x m.list ∙ rw (m.done, m.notes, m.depth, journal_own w (st.depth - 1) (omega arith), long) in
        let wf = wf_over st l rest w goods_are.0 (omega (arith, w.depth_within)) goods_are.1 in
        let kept : pasts st ≡ [] → holding st l rest ≡ st = λ none. let never = rw entries_are at none in cc in
        let whole : holding st l rest ≡ after_take_back st = rw entries_are in
        as_known (TakesBack st) is (search (entries_are, list_over, entries_over))

-- ---- Any call

-- carried out, it is what the account says
pub does : {st : Standing} (w : Wf st) (c : Call) → Takes c (plan_for st c).refusal → Does st c (outcome st (plan_for st c))
unfolding plan_of number_of Takes Does undo
does {st} w (Enter s) sound =
    let l = list_of st in
    edit_does w _ false _ (insert s l) (entering s)
    (λ ok _.
    let m = enter_makes l s (list_length w) w.count_within refl st.depth ok in
    let h = enters l s ok in
    (m, orderly_insert text_order Sound s l w.good (sound m.done) h.free h.room, remove_insert earlier_of s l h.free))
    (λ ok i. absurd (false≢true i)) (enter_leaves l s (list_length w) w.count_within refl st.depth)
does {st} w (Amend s) sound =
    let l = list_of st in
    edit_does w _ (idle l s) _ (replace s l) (replacing s.number l)
    (λ ok i.
    let m = amend_makes l s (list_length w) w.count_within refl st.depth ok i in
    let there = (amends l s ok).there in
    let gone = remove_insert earlier_of s (remove s.number l) (removed_gone s.number l w.good.unique) in
    (m, orderly_replace text_order Sound s l w.good (sound m.done) there, rw gone (insert_remove s.number l w.good.in_order there)))
    (amend_idles l s (list_length w) w.count_within refl st.depth) (amend_leaves l s (list_length w) w.count_within refl st.depth)
does {st} w (Strike k) takes =
    let l = list_of st in
    edit_does w _ false _ (remove k l) (replacing k l)
    (λ ok _.
    let there = (strike_accepted l k).0 ok in
    let gone = remove_none k (remove k l) (removed_gone k l w.good.unique) in
    (strike_makes l k (list_length w) refl st.depth there, orderly_remove text_order Sound k l w.good there, rw gone (insert_remove k l w.good.in_order there)))
    (λ ok i. absurd (false≢true i))
    (λ no. let gone = untrue (stands l k) (λ t. no ((strike_accepted l k).1 t)) in strike_leaves l k (list_length w) refl st.depth gone ∙ (unfold strike_refusal in rw gone))
does {st} w TakeBack takes =
    let newest = newest_of st.depth st.journal in
    by_test (eqb st.depth 0)
    (λ e. let none = eqb-true st.depth 0 e in as_known (TakesBack st) (left w (back_leaves newest (stands_at newest.number (list_of st)) none)) (takes_none w none))
    (λ e. let some = eqb-false st.depth 0 e in takes_one w some (back_undoes (list_of st) newest st.depth refl some (undo_room w some)))
does w (Publish rule) takes = left w refl
does w Write takes = left w refl
does w (Ask q) takes = left w refl

-- ---- As the code finds it, and as it carries it out

-- where it is refused, nothing changes
pub refuses : {st : Standing} (w : Wf st) (c : Call) {z : ℕ} → plan_for st c ≡ no_plan st.depth z → Takes c z → Does st c (record { standing = st; refusal = z })
refuses {st} w c is takes = rw (left w is) at (does w c (rw is takes))

-- a plan p changes what the decision x that it is made of does
module _ (st : Standing) (x : Decision) {p : Plan} (by : p ≡ plan_by x) where
  pub changes_by : changing p.out (is_some p.put) (unwrap_or p.put blank) st.count st.spells ≡ (applied st x).spells
  changes_by = rw by (by_test x.puts (λ e. rw e) (λ e. rw e))

  pub counts_by : counted_of st.count p.out (is_some p.put) ≡ (applied st x).count
  counts_by = rw by (by_test x.puts (λ e. rw e) (λ e. rw e))

  pub notes_by : (j : List Undo) → cond (is_some p.note) (noting (unwrap_or p.note blank_entry) p.depth j) j ≡ cond x.notes (noting x.entry x.depth j) j
  notes_by j = rw by (by_test x.notes (λ e. rw e) (λ e. rw e))

  pub deepens_by : deeper_by p.depth (is_some p.note) ≡ (applied st x).depth
  deepens_by = rw by (by_test x.notes (λ e. rw e) (λ e. rw e))

-- the plan of an answer, and what is told: by a refusal nothing changes
module _ (d : ℕ) (x : Decision) where
  plan_known : (r : Result Plan Refusal) → Decides d x r → result_unwrap_or r (plan_by (no_plan d accepted)) ≡ plan_by x
  plan_known (Ok p) h = h.1
  plan_known (Err z) h = rw h

  told_known : (r : Result Plan Refusal) → Decides d x r → number_in r ≡ x.refusal
  told_known (Ok p) h = sym h.0
  told_known (Err z) h = rw h

told_alone : (r : Result Plan Refusal) → number_in (result_and r (Ok (tt {0}))) ≡ number_in r
told_alone (Ok p) = refl
told_alone (Err z) = refl

pub carried : {st : Standing} (w : Wf st) (c : Call) {i k : ℕ} {f : Located} (r : Result Plan Refusal) {p : Plan} {a : List Spell} {m : ℕ} {j : List Undo} {d : ℕ} {o : Result (Unit {0}) Refusal}
    → i ≡ st.depth - 1 → k ≡ number_of c (get_or st.journal i blank_entry).number → f ≡ found_in k (list_of st)
    → Decides st.depth (plan_of c (get_or st.journal i blank_entry) f.place f.spell st.count st.depth) r → Takes c (number_in r)
    → p ≡ result_unwrap_or r (plan_by (no_plan st.depth accepted))
    → a ≡ changing p.out (is_some p.put) (unwrap_or p.put blank) st.count st.spells → m ≡ counted_of st.count p.out (is_some p.put)
    → j ≡ cond (is_some p.note) (noting (unwrap_or p.note blank_entry) p.depth st.journal) st.journal → d ≡ deeper_by p.depth (is_some p.note) → o ≡ result_and r (Ok (tt {0}))
    → Does st c (record { standing = record { spells = a; count = m; journal = j; depth = d }; refusal = number_in o })
carried {st} w c r ei ek ef decided takes ep ea em ej ed eo =
    let known : Decides st.depth (plan_for st c) r = rw (ef, ek, ei) at decided in
    let x = plan_for st c in
    let by = ep ∙ plan_known st.depth x r known in
    let told = told_known st.depth x r known in
    rw (ea, em, ej, ed, eo, told_alone r, changes_by st x by, counts_by st x by, notes_by st x by st.journal, deepens_by st x by, told) (does w c (rw told at takes))
