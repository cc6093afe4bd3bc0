-- What stands in the places of an array whose first ones were written, and of a standing list so made. Assumes nothing.
use Rattle.basis.proofs.Prelude.{◌∙◌, ◌≡◌, ap, ◌≤◌, ℕ, List, reverse, reverse-reverse, drop, length, length-reverse, take, length-take-le, take-append_seam, take_at, arith}
use Rattle.standing.proofs.Names.{over, own_over, over_length, Spell, Good, Undo, Standing, holding, newest_first, list_of, entries, past_of, pasts, Goods, Wf}

-- ---- A standing list

pub list_length : {st : Standing} → Wf st → length (list_of st) ≡ st.count
list_length {st} w = length-take-le st.count st.spells (omega (arith, w.places, w.count_within))

-- the entries of the first d places, and these put over the journal
module _ {st : Standing} (w : Wf st) (d : ℕ) (h : d ≤ st.depth) where
  pub entries_long : length (newest_first d st.journal) ≡ d
  entries_long = length-reverse (take d st.journal) ∙ length-take-le d st.journal (omega (arith, w.rooms, w.depth_within))

  pub journal_own : over (reverse (newest_first d st.journal)) st.journal ≡ st.journal
  journal_own = rw (reverse-reverse (take d st.journal)) (own_over d st.journal (omega (arith, w.rooms, w.depth_within)))

-- its own list and entries change nothing
pub over_same : (st : Standing) → Wf st → holding st (list_of st) (entries st) ≡ st
over_same st w =
    rw (own_over st.count st.spells (omega (arith, w.places, w.count_within)), list_length w, journal_own w st.depth (omega arith), entries_long w st.depth (omega arith))

module _ (st : Standing) (l : List Spell) (es : List Undo) where
  pub list_over : list_of (holding st l es) ≡ l
  list_over = take-append_seam l (drop (length l) st.spells)

  pub entries_over : entries (holding st l es) ≡ es
  entries_over = rw (take_at (reverse es) (drop (length (reverse es)) st.journal) (length es) (length-reverse es)) (reverse-reverse es)

  pub past_over : pasts (holding st l es) ≡ past_of l es
  past_over = ap (λ (x : List Spell). past_of x (entries (holding st l es))) list_over ∙ ap (past_of l) entries_over

  -- it can stand where its list and its past can
  pub wf_over : Wf st → Good l → length es ≤ 64 → Goods (past_of l es) → Wf (holding st l es)
  wf_over w good few goods =
      let places = over_length l st.spells (omega (arith, good.few, w.places)) ∙ w.places in
      let rooms = over_length (reverse es) st.journal (omega (arith, length-reverse es, w.rooms)) ∙ w.rooms in
      search (list_over, entries_over)
