-- The spells that words hold, as the code reads them. Assumes nothing.
use Rattle.basis.proofs.Prelude.{◌∙◌, ◌≡◌, ap, refl, sym, ◌*◌, ◌<◌, ◌≤◌, ℕ, List, Bool, false, not, true, drop, eqb, eq-eqb, get_or, get_or-take, length, length-take-le, List·getD-eq-default, ne_eqb, take, arith}
use Rattle.standing_words.proofs.Names.{Located, Spell, blank, earlier_of, found_in, lead, lead_at, parts_at, parts_length, place_of, spell_read, spell_of, spell_width, spells_length, spells_of}

-- so many spells as there are places
pub places : (x : List ℕ) {n : ℕ} → n ≤ 1024 → n ≤ length (spells_of x)
places x h = omega (arith, parts_length spell_width spell_of 1024 x)

-- a spell by its place, and its number, the first of its words
module _ (x : List ℕ) (i : ℕ) {n : ℕ} (few : n ≤ 1024) (h : i < n) where
  pub spell_is : {s : Spell} → s ≡ spell_of (drop (spell_width * i) x) → s ≡ get_or (spells_of x) i blank
  spell_is read = let at : spell_width * i ≡ i * spell_width = omega arith in read ∙ rw at (sym (parts_at spell_width spell_of 1024 i x blank (omega arith)))

  pub number_is : {s : Spell} {k : ℕ} → length x ≡ spells_length → s ≡ spell_of (drop (spell_width * i) x) → get_or x (spell_width * i) 0 ≡ k → s.number ≡ k
  number_is room read is = ap (λ (s : Spell). s.number) (read ∙ sym (spell_read x (spell_width * i) refl refl (omega arith))) ∙ is

  pub number_not : {k : ℕ} → length x ≡ spells_length → (get_or x (spell_width * i) 0 ≡ k → ⊥) → (get_or (spells_of x) i blank).number ≡ k → ⊥
  number_not room differs is = differs (sym (number_is room (sym (spell_is refl)) refl) ∙ is)

-- ---- A search among the first n

module _ (x : List ℕ) (n : ℕ) (few : n ≤ 1024) (f : Spell → Bool) where
  long : length (take n (spells_of x)) ≡ n
  long = length-take-le n (spells_of x) (places x few)

  stops : {i : ℕ} → i < n → ((j : ℕ) → j < i → f (get_or (spells_of x) j blank) ≡ true) → f (get_or (spells_of x) i blank) ≡ false → i ≡ lead f (take n (spells_of x))
  stops {i} h before here = lead_at f (take n (spells_of x)) i (omega (arith, long))
      (λ j k. rw (get_or-take n (spells_of x) j blank (omega arith)) (before j k)) (λ _. rw (get_or-take n (spells_of x) i blank h) here)

  ends : ((j : ℕ) → j < n → f (get_or (spells_of x) j blank) ≡ true) → n ≡ lead f (take n (spells_of x))
  ends before = lead_at f (take n (spells_of x)) n (omega (arith, long))
      (λ j k. rw (get_or-take n (spells_of x) j blank k) (before j k)) (λ h. absurd (omega (arith, long)))

-- a number
abbrev pub passes : ℕ → Spell → Bool
passes k s = not (eqb s.number k)

module _ (x : List ℕ) (n k : ℕ) (few : n ≤ 1024) (whole : length x ≡ spells_length) where
  pub passed : (i : ℕ) → i < n → (get_or x (spell_width * i) 0 ≡ k → ⊥) → passes k (get_or (spells_of x) i blank) ≡ true
  passed i h differs = rw (ne_eqb _ _ (number_not x i few h whole differs))

  pub found_here : {i : ℕ} {s : Spell} → i < n → ((j : ℕ) → j < i → passes k (get_or (spells_of x) j blank) ≡ true) → get_or x (spell_width * i) 0 ≡ k → s ≡ spell_of (drop (spell_width * i) x)
      → ◌≡◌ {A = Located} (record { place = i; spell = s }) (found_in k (take n (spells_of x)))
  found_here {i} {s} h before is read =
      let own : s ≡ get_or (spells_of x) i blank = spell_is x i few h read in
      let number : (get_or (spells_of x) i blank).number ≡ k = rw (← own) (number_is x i few h whole read is) in
      let at = stops x n few (passes k) h before (rw (eq-eqb _ _ number)) in
      rw (← at, get_or-take n (spells_of x) i blank h, own)

  pub found_none : {s : Spell} → ((j : ℕ) → j < n → passes k (get_or (spells_of x) j blank) ≡ true) → s ≡ blank → ◌≡◌ {A = Located} (record { place = n; spell = s }) (found_in k (take n (spells_of x)))
  found_none before is =
      let at = ends x n few (passes k) before in
      rw (← at, is, List·getD-eq-default (take n (spells_of x)) blank {n = n} (omega (arith, long x n few (passes k))))

-- the place of s
module _ (x : List ℕ) (m : ℕ) (s : Spell) (few : m ≤ 1024) where
  abbrev before : ℕ → Type 0
  before i = (j : ℕ) → j < i → earlier_of (get_or (spells_of x) j blank) s ≡ true

  pub earlier_is : {y : Spell} {i : ℕ} {b c : Bool} → i < m → y ≡ spell_of (drop (spell_width * i) x) → b ≡ earlier_of y s → b ≡ c → earlier_of (get_or (spells_of x) i blank) s ≡ c
  earlier_is {i = i} h read told is = rw (← spell_is x i few h read, ← told) is

  pub place_here : {i : ℕ} → i < m → before i → earlier_of (get_or (spells_of x) i blank) s ≡ false → i ≡ place_of s (take m (spells_of x))
  place_here h b here = stops x m few (λ y. earlier_of y s) h b here

  pub place_end : before m → m ≡ place_of s (take m (spells_of x))
  place_end b = ends x m few (λ y. earlier_of y s) b
