-- A standing list's words in their parts: the array, the journal, the count and the depth; and that they read back as it. Assumes nothing.
use Rattle.basis.proofs.Prelude.{◌∙◌, ◌≡◌, ap, ◌≤◌, ℕ, List, [], ◌++◌, ◌∷◌, append_assoc, append-nil, drop, drop-append-le, drop_of_length-le, get_or, length, length-append, length-drop, length-take, List·getD-append, map, set, drop_at, get_or_at, get_or-append-add, sets-eq, take_at, arith, le-leb}
use Rattle.standing.proofs.Names.{Every, Narrow, Wf, entry_back, every_same, spell_back, array_in, assembled, journal_in, spell_width, entry_width, spells_length, journal_length, count_place, depth_place, standing_length, written, parts, PutAll, spell_words, spell_of, spell_near, put_first, put_long, written_length, read_back, spell_long, Standing, entry_words, entry_of, entry_long, packed, unpacked, Packs}

-- the words after an entry's own are not read
pub entry_near : (x r : List ℕ) → entry_width ≤ length x → entry_of (x ++ r) ≡ entry_of x
unfolding entry_of
entry_near x r h =
    rw (le-leb entry_width (length (x ++ r)) (omega (arith, length-append x r)), le-leb entry_width (length x) h)
    (rw (List·getD-append x r 0 0 (omega arith), List·getD-append x r 0 1 (omega arith), drop-append-le 2 x r (omega arith), spell_near (drop 2 x) r (omega (arith, length-drop 2 x))))

-- ---- The words of any standing list

pub array_long : (x : List ℕ) → length x ≡ standing_length → length (array_in x) ≡ spells_length
array_long x whole = simp (length-take) (omega arith)

-- an array put over the first words, and a journal over those behind them, as the code puts them back
abbrev pub with_array : List ℕ → List ℕ → List ℕ
with_array x a = a ++ drop spells_length x

abbrev pub rejoined : List ℕ → List ℕ → List ℕ → List ℕ
rejoined x a b = array_in (with_array x a) ++ (b ++ drop journal_length (drop spells_length (with_array x a)))

module _ (x a : List ℕ) (whole : length x ≡ standing_length) (array : length a ≡ spells_length) where
  pub journal_long : length (journal_in (with_array x a)) ≡ journal_length
  journal_long = simp (length-take, length-append, length-drop) (omega arith)

  pub put_back : (b : List ℕ) → length b ≡ journal_length → (n d : ℕ) → set (set (rejoined x a b) count_place n) depth_place d ≡ assembled a b n d
  put_back b journal n d =
      let t : List ℕ = n ∷ d ∷ [] in
      let rest = drop journal_length (drop spells_length x) in
      let all : length (a ++ b ++ rest) ≡ standing_length = simp (length-append, length-drop) (omega arith) in
      rw (take_at a (drop spells_length x) spells_length array, drop_at a (drop spells_length x) spells_length array, ← append_assoc a b rest)
      (sets-eq t (a ++ b ++ rest) count_place (omega arith)
      ∙ rw (take_at (a ++ b) rest count_place (omega (arith, length-append a b)), drop_of_length-le (a ++ b ++ rest) {i = standing_length} (omega arith), append-nil))

module _ (a b : List ℕ) (n d : ℕ) (array : length a ≡ spells_length) (journal : length b ≡ journal_length) where
  abbrev t : List ℕ
  t = n ∷ d ∷ []

  pub array_of : array_in (assembled a b n d) ≡ a
  array_of = rw append_assoc (take_at a (b ++ t) spells_length array)

  pub journal_of : journal_in (assembled a b n d) ≡ b
  journal_of = rw (append_assoc, drop_at a (b ++ t) spells_length array) (take_at b t journal_length journal)

  pub unpacked_assembled : unpacked (assembled a b n d) ≡ record { spells = parts spell_width spell_of 1024 a; count = n; journal = parts entry_width entry_of 64 b; depth = d }
  unfolding unpacked
  unpacked_assembled =
      let all : length (a ++ b) ≡ count_place = omega (arith, length-append a b) in
      let depth : get_or (assembled a b n d) depth_place 0 ≡ d = rw all at (get_or-append-add (a ++ b) t 1 0) in
      rw (array_of, get_or_at (a ++ b) n (d ∷ []) 0 count_place all, journal_of, depth)

-- ---- The words of a standing list

-- values put over as many words as theirs are
put_whole : {A : Type 0} {f : A → List ℕ} {g : List ℕ → A} {a : List A} {l c : List ℕ} {n : ℕ} → length (written f a) ≡ n → length l ≡ n → PutAll f g a l c → c ≡ written f a
put_whole {f = f} {a = a} {l} long all p = p.words ∙ put_first (written f a) l (omega arith) ∙ rw (drop_of_length-le l {i = length (written f a)} (omega arith), append-nil)

module _ (st : Standing) (places : length st.spells ≡ 1024) (rooms : length st.journal ≡ 64) where
  pub spells_long : length (written spell_words st.spells) ≡ spells_length
  spells_long = written_length spell_words spell_of spell_long st.spells ∙ omega arith

  pub entries_long : length (written entry_words st.journal) ≡ journal_length
  entries_long = written_length entry_words entry_of entry_long st.journal ∙ omega arith

  -- THE IDENTITY: what is packed is unpacked as it was
  pub unpacked_packed : map (λ s. spell_of (spell_words s)) st.spells ≡ st.spells → map (λ e. entry_of (entry_words e)) st.journal ≡ st.journal → unpacked (packed st) ≡ st
  unfolding packed
  unpacked_packed es ej =
      unpacked_assembled (written spell_words st.spells) (written entry_words st.journal) st.count st.depth spells_long entries_long
      ∙ rw (read_back spell_width spell_of spell_near spell_words spell_long st.spells places, es, read_back entry_width entry_of entry_near entry_words entry_long st.journal rooms, ej)

  -- as the code writes it: the array, the journal in the part after it, the count and the depth
  pub put_standing : (x a b : List ℕ) → length x ≡ standing_length → PutAll spell_words spell_of st.spells (array_in x) a → PutAll entry_words entry_of st.journal (journal_in (with_array x a)) b
      → Packs st (set (set (rejoined x a b) count_place st.count) depth_place st.depth)
  unfolding packed
  put_standing x a b whole p q =
      let array = put_long p ∙ array_long x whole in
      let room = journal_long x a whole array in
      let words : set (set (rejoined x a b) count_place st.count) depth_place st.depth ≡ packed st =
      put_back x a whole array b (put_long q ∙ room) st.count st.depth ∙ rw (put_whole spells_long (array_long x whole) p, put_whole entries_long room q) in
      record { words = words; back = ap unpacked words ∙ unpacked_packed (p.back (omega (arith, spells_long, array_long x whole))) (q.back (omega (arith, entries_long, room))) }

-- PACKING IS THE IDENTITY: the words of a standing list that the calls gave read back as it, all its places, used or not. Of each
-- place no more is asked than what the checker knows of every value: a grade is 16 bits wide, and a reading is a 32-bit float.
pub packing_identity : (st : Standing) → Wf st → Every (λ s. Narrow s.urgency) st.spells → Every (λ e. Narrow e.spell.urgency) st.journal
    → unpacked (packed st) ≡ st
packing_identity st w hs hj =
    unpacked_packed st w.places w.rooms (every_same (λ s. Narrow s.urgency) (λ s. spell_of (spell_words s)) spell_back st.spells hs)
    (every_same (λ e. Narrow e.spell.urgency) (λ e. entry_of (entry_words e)) (λ e h. entry_back e (spell_back e.spell h)) st.journal hj)
