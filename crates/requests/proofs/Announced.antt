-- How many bytes follow a line: only the word `read` has any, the first of the table. Assumes nothing.
use Rattle.requests.proofs.{Names.{call_words, question_words, passed, read_decimal, read_digits, read_letter, read_line, read_urgency, String, Head, Layout, Length, LengthWord, Room, Read, limit_of, Request, table, begins, bytes_of, head_of, Demand, asks_call, asks_room, asks_read, malformed, length_asks, read_days, asked_by, asked_of, following, request_of, Announces, Asks, following_in}, Layouts.by_layout}
use Rattle.basis.proofs.Prelude.{◌≡◌, refl, sym, ◌<◌, ◌≤◌, ℕ, List, [], ◌++◌, ◌∷◌, Bool, ◌&&◌, both, by_cases, clash, cond, eqb, true, false, drop, length, le-leb, lt-leb, not, not-false, not-true, ◌∙◌}

-- ---- Other words: nothing follows

-- the layout is not that of `read`: the field "1" and LF announce no text
unfoldable silent : Layout → Bool
silent l = eqb (following (asked_by l 0 (49 ∷ 10 ∷ []))) 0

none_by : (l : Layout) (room : ℕ) (s : List ℕ) → silent l ≡ true → following (asked_by l room s) ≡ 0
unfolding silent following asked_by read_decimal read_digits passed
none_by l room s e =
    by_layout (λ a _. following a ≡ 0) refl (λ _. refl) l room room s (λ _. by_cases (λ a. following a ≡ 0) (read_days room s).whole (λ _. refl) (λ _. refl)) none_length
  where
    none_length : (w : LengthWord) (n : ℕ) → l ≡ Length w → n ≤ limit_of w → following (length_asks w n) ≡ 0
    none_length Room n k h = refl
    none_length Read n k h = absurd (clash e (rw k refl))

-- ---- The table

unfoldable all_silent : List (String × Layout) → Bool
all_silent [] = true
all_silent (row ∷ rows) = silent row.1 && all_silent rows

silent_head : (rows : List (String × Layout)) (s : List ℕ) → all_silent rows ≡ true → silent (head_of rows s).layout ≡ true
unfolding all_silent head_of silent asked_by following
silent_head [] s e = refl
silent_head (row ∷ rows) s e =
    let all = both (silent row.1) (all_silent rows) e in
    by_cases (λ (h : Head). silent h.layout ≡ true) (begins (bytes_of row.0) s) (λ _. all.0) (λ _. silent_head rows s all.1)

-- the words but `read`
abbrev others : List (String × Layout)
others = ("room\t", Length Room) ∷ (question_words ++ call_words)

none_other : (line : List ℕ) (room : ℕ) (s : List ℕ) → following (asked_by (head_of others line).layout room s) ≡ 0
none_other line room s =
    none_by _ room s (silent_head others line (unfold all_silent silent following asked_by read_decimal read_digits read_line read_urgency read_letter passed read_days in refl))

abbrev read_word : List ℕ
read_word = bytes_of "read\t"

read_head : (rows : List (String × Layout)) (s : List ℕ) → head_of (("read\t", Length Read) ∷ rows) s ≡ cond (begins read_word s) (record { layout = Length Read; at = 5 }) (head_of rows s)
unfolding head_of
read_head rows s = refl

-- ---- A line

pub following_in_lem : (q : Request) (a : Demand) → q ≡ request_of a → following_in q ≡ following a
unfolding following
following_in_lem q (asks_call c ds) e = rw e
following_in_lem q (asks_room n) e = rw e
following_in_lem q (asks_read n) e = rw e
following_in_lem q malformed e = rw e

module _ (line : List ℕ) where
  -- one longer than 65,536 bytes
  pub long_none : 65536 < length line → Announces line 0
  unfolding asked_of following
  long_none h room = rw (lt-leb (length line) 65536 h)

  -- tried, where it is no longer than that
  module _ (short : length line ≤ 65536) {b : Bool} (is : b ≡ begins read_word line) where
    pub other_none : not b ≡ true → Announces line 0
    unfolding asked_of table
    other_none e room = rw (le-leb (length line) 65536 short, read_head, sym is ∙ not-true b e) (sym (none_other line room _))

    pub read_announces : not b ≡ false → {q : Request} → Asks (Length Read) (drop 5 line) q → {r : ℕ} → r ≡ following_in q → Announces line r
    unfolding asked_of table
    read_announces e {q} k f room = f ∙ rw (le-leb (length line) 65536 short, read_head, sym is ∙ not-false b e) (following_in_lem q _ (k room))
