-- What moving and putting words makes of the spells and the entries that they hold. Assumes nothing.
use Rattle.basis.proofs.Prelude.{◌∙◌, ◌≡◌, refl, ◌*◌, ◌+◌, ◌-◌, ◌<◌, ◌≤◌, ℕ, List, Bool, ◌&&◌, false, true, ltb, length, take, length-take-le, arith, le-leb, le-ltb}
use Rattle.std.specs.Prelude.{Option, Some, None, is_some, unwrap_or}
use Rattle.std.specs.List.{copy_within}
use Rattle.standing_words.proofs.{Names.{Exchanges, Holds, Notes, Put, PutsIn, Spell, TakesOut, Undo, blank, copied_down, counted_of, entries_of, entry_long, entry_near, entry_of, entry_width, entry_words, inserted, journal_length, last_entry, left_le, left_of, mul_comm, own_over, parts, parts_length, place_of, push_full, push_room, put_after, remove_none, spell_long, spell_near, spell_of, spell_width, spell_words, spells_length, spells_of, written}, Reading.places, Values.{copies, puts_over}}

module _ {A : Type 0} {k : ℕ} {f : A → List ℕ} {g : List ℕ → A} {n : ℕ} where
  -- words hold what is read of them
  pub as_read : (x : List ℕ) → length x ≡ n * k → Holds k f g (written f (parts k g n x) ≡ x) n x (parts k g n x)
  as_read x h = record { long = h; read = refl; laid = λ e. e }

  -- one change after another
  pub then : {L : Type 0} {x x' : List ℕ} {a b : List A} → Holds k f g L n x a → Holds k f g (written f (parts k g n x) ≡ x) n x' b → Holds k f g L n x' b
  then p q = record { long = q.long; read = q.read; laid = λ h. q.laid (rw p.read (p.laid h)) }

-- ---- The spells

module _ (x : List ℕ) (whole : length x ≡ spells_length) where
  copied_spells : (i j d : ℕ) → i ≤ j → j ≤ 1024 → d + (j - i) ≤ 1024
      → Holds spell_width spell_words spell_of (written spell_words (spells_of x) ≡ x) 1024 (copy_within x (i * spell_width) (j * spell_width) (d * spell_width)) (copy_within (spells_of x) i j d)
  copied_spells = copies spell_width spell_words spell_of spell_long spell_near _ (as_read x whole)

  module _ (n p : ℕ) (few : n ≤ 1024) where
    pub takes_none : n ≤ p → TakesOut n p x x
    takes_none h = rw (← remove_none p n (spells_of x) (places x few) h) (as_read x whole)

    pub takes_one : {x' : List ℕ} → p < n → x' ≡ copy_within x (spell_width * (p + 1)) (spell_width * n) (spell_width * p) → TakesOut n p x x'
    takes_one h down =
        rw (down, mul_comm spell_width (p + 1), mul_comm spell_width n, mul_comm spell_width p, ← copied_down p n (spells_of x) h (places x few) refl)
        (copied_spells (p + 1) n p (omega arith) few (omega arith))

  module _ (m : ℕ) (few : m ≤ 1024) where
    puts_same : (puts : Bool) (s : Spell) → (puts && ltb m 1024) ≡ false → PutsIn m puts s x x
    puts_same puts s none = rw (length-take-le m (spells_of x) (places x few), none, own_over m (spells_of x) (places x few)) (as_read x whole)

    pub puts_none : {put : Option Spell} → put ≡ None → PutsIn m (is_some put) (unwrap_or put blank) x x
    puts_none none = rw none (puts_same false blank refl)

    pub puts_full : {put : Option Spell} (s : Spell) → put ≡ Some s → 1024 ≤ m → PutsIn m (is_some put) (unwrap_or put blank) x x
    puts_full s some h = rw some (puts_same true s (le-ltb m 1024 h))

    -- the words from its place on make room for it
    pub puts_one : (s : Spell) {q : ℕ} {x' x'' : List ℕ} → m < 1024 → q ≡ place_of s (take m (spells_of x)) → q ≤ m → x' ≡ copy_within x (spell_width * q) (spell_width * m) (spell_width * (q + 1))
        → Put spell_words spell_of s (spell_width * q) x' x'' → PutsIn m true s x x''
    puts_one s {q} room at low up p =
        rw (p.words, up, mul_comm spell_width q, mul_comm spell_width m, mul_comm spell_width (q + 1), ← inserted m s (spells_of x) room (parts_length spell_width spell_of 1024 x) at low refl)
        (puts_over spell_width spell_words spell_of spell_long spell_near _ (copied_spells q m (q + 1) low few (omega arith)) q s p.back (omega arith))

module _ (x : List ℕ) (n p : ℕ) {m : ℕ} (few : n ≤ 1024) (is : m ≡ counted_of n p false) where
  -- how many are left
  left_is : m ≡ left_of n p
  left_is = is ∙ rw (le-leb n 1024 few)

  pub left_in : m ≤ 1024
  left_in = omega (arith, left_le p n (spells_of x) (places x few) left_is)

  pub changes : {x' x'' : List ℕ} (puts : Bool) (s : Spell) → TakesOut n p x x' → PutsIn m puts s x' x'' → Exchanges n p puts s x x''
  changes puts s out in' = rw (← put_after p n (spells_of x) (places x few) left_is puts s) (rw out.read at (then out in'))

-- ---- The journal

module _ (y : List ℕ) (d : ℕ) (e : Undo) (whole : length y ≡ journal_length) where
  pub notes_room : {y' : List ℕ} → d < 64 → Put entry_words entry_of e (entry_width * d) y y' → Notes d true e y y'
  notes_room h p =
      rw (p.words, mul_comm entry_width d, ← push_room (entries_of y) d e (parts_length entry_width entry_of 64 y) h) (puts_over entry_width entry_words entry_of entry_long entry_near _ (as_read y whole) d e p.back h)

  -- the oldest entry goes
  pub notes_full : {y' y'' : List ℕ} → 64 ≤ d → y' ≡ copy_within y entry_width (length y) 0 → Put entry_words entry_of e last_entry y' y'' → Notes d true e y y''
  notes_full h down p =
      let long = parts_length entry_width entry_of 64 y in
      let oldest = copies entry_width entry_words entry_of entry_long entry_near _ {n = 64} (as_read y whole) 1 64 0 (omega arith) (omega arith) (omega arith) in
      rw (p.words, down, whole, ← push_full (entries_of y) d e long (copy_within (entries_of y) 1 (length (entries_of y)) 0) h refl, long)
      (puts_over entry_width entry_words entry_of entry_long entry_near _ oldest 63 e p.back (omega arith))
