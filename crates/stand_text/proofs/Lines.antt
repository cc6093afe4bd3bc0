-- A day's line: what the answer to the day says of the published list that an index shows, and the line put into a buffer from its last
-- number to the day. Assumes nothing.
use Rattle.basis.proofs.Prelude.{◌≡◌, ap, refl, ◌*◌, ◌<◌, ◌≤◌, ℕ, List, [], ◌∷◌, map, false, leb, length, take, take-append_seam, arith, le-leb, leb-true, both, by_cases, by_test, clash}
use Rattle.spell.{specs.{declared.Spell.Spell, Listing.{Each, Sound}}, proofs.Entered.entered}
use Rattle.calendar.specs.Calendar.{is_day}
use Rattle.fields.specs.{Fields.{number_text, numbers_text}, Answers.Puts}
use Rattle.model.{specs.{declared.Question.TheVariants.Day, Questions.{on_day, filter, listed, comparisons_of}, Effects.{with_published, Answer, settle}, Model.{fresh, ask, effect_of}}, proofs.{Filter.listed_few, Bridge.comparisons_le}}
use Rattle.outcomes.specs.{declared.Outcome.Outcome, Outcomes.answer_of}
use Rattle.published_index.specs.Index.{Shows, Published}
use Rattle.questions.specs.Asked.{Asked}
use Rattle.replies.{specs.Sending.Sends, proofs.Sending.{put_sends, Placed, placed_sends, placed_numbers, placed_number}}
use Rattle.stand_text.specs.Report.{line_of, day_line, DayEnds}

-- ---- The answer

-- a spell stands on no day off the calendar
filter_off : (d : ℕ) → is_day d ≡ false → (p : List Spell) → Each Sound p → filter (on_day d) p ≡ []
unfolding filter Each
filter_off d off [] g = refl
filter_off d off (s ∷ p) g = by_cases (λ (l : List Spell). l ≡ []) (on_day d s)
    (λ e.
    let n = entered s g.0.entered in
    let f = both (leb s.first d) (leb d s.last) e in
    absurd (clash {b = is_day d} (rw (le-leb 1 d (omega (arith, leb-true)), le-leb d 4000 (omega (arith, leb-true)))) off))
    (λ _. filter_off d off p g.1)

-- as many spells as are counted stand on day d, with these comparisons (document 01's looks), and their numbers are the first of a list
record DayAnswer (p : List Spell) (d : ℕ) (a : Answer) : Type 0 where
  pub count : a.count ≡ length (listed (on_day d) p)
  pub comparisons : a.comparisons ≡ comparisons_of d d p
  pub numbers : take a.count a.numbers ≡ listed (on_day d) p

-- a question's answer does not go by what stands, so the state may be one in which nothing stands
day_tells : {ix : List ℕ} {p : List Spell} {d : ℕ} {ns : List ℕ} {o : Outcome} {ns' : List ℕ} → Asked ix (Day d) [] ns o ns'
    → 1024 ≤ length ns → Shows ix p → DayAnswer p d (answer_of o ns' [])
unfolding effect_of ask settle
day_tells {p = p} {d} {ns} a room s =
    let few = listed_few (on_day d) p in
    rw (a.answer (with_published p fresh) [] s) (by_test (is_day d)
    (λ e. rw (e, le-leb (length (listed (on_day d) p)) (length ns) (omega (arith, s.good.few)))
    (record { count = refl; comparisons = refl; numbers = take-append_seam (listed (on_day d) p) _ }))
    (λ off.
    let none : listed (on_day d) p ≡ [] = ap (map (λ (s : Spell). s.number)) (filter_off d off p s.good.each) in
    rw off (record { count = rw none; comparisons = omega (arith, comparisons_le d d p, ap length none); numbers = rw none })))

-- ---- The line

-- the line of a day on which somebody stands, and of one on which nobody does
line_is : (d c : ℕ) (ns : List ℕ)
    → (0 < length ns → number_text d 9 (number_text (length ns) 9 (number_text c 9 (numbers_text ns []))) ≡ line_of d ns c)
    × (length ns ≡ 0 → numbers_text ns [] ≡ line_of d ns c)
unfolding line_of numbers_text
line_is d c [] = (λ h. absurd (omega arith), λ _. refl)
line_is d c (n ∷ ns) = (λ _. refl, λ h. absurd (omega arith))

module _ {ix : List ℕ} {d : ℕ} {ns out : List ℕ} {o : Outcome} (g : Published ix) (asked : Asked ix (Day d) [] ns o out)
    (room : 1024 ≤ length ns) where
  pub day_known : (o.count ≤ 1024) × (o.comparisons ≤ 3072)
  day_known = let t = day_tells asked room g.shows in omega (arith, g.shows.good.few, listed_few (on_day d) g.list, comparisons_le d d g.list)

  module _ {entry a : List ℕ} {i : ℕ} (size : length entry ≡ 8192)
      (q : Puts (6 * length (take o.count out)) (numbers_text (take o.count out)) entry 8192 i a) where
    -- the numbers leave room for three more
    placed : Placed entry a i (numbers_text (take o.count out) []) 18
    placed =
        let t = day_tells asked room g.shows in
        let long : length (take o.count out) ≡ o.count = omega (arith, ap length t.numbers) in
        placed_numbers entry 8192 size 18 a i (take o.count out) (omega (arith, day_known)) (omega arith) q

    -- what holds of every list that the index shows holds of one, since it shows some
    ends : {r : ℕ} {exit : List ℕ} → ((p : List Spell) → Shows ix p → Sends (day_line d p) entry r exit) → DayEnds ix d entry r exit
    ends line = record { inside = omega (arith, (line g.list g.shows).place); line = line }

    -- nobody stands on the day, and there are no numbers to put
    pub day_none : o.count ≡ 0 → DayEnds ix d entry i a
    day_none e = ends (λ p s.
        let t = day_tells asked room s in
        rw (← (line_is d (comparisons_of d d p) (listed (on_day d) p)).1 (omega arith), ← t.numbers) (put_sends placed.put))

    -- before the numbers the comparisons, the count and the day are put
    pub day_some : {b e exit : List ℕ} {j l r : ℕ} → 0 < o.count → Puts 6 (number_text o.comparisons 9) a i j b
        → Puts 6 (number_text o.count 9) b j l e → Puts 6 (number_text d 9) e l r exit → DayEnds ix d entry r exit
    day_some some comparisons count day = ends (λ p s.
        let t = day_tells asked room s in
        rw (← (line_is d (comparisons_of d d p) (listed (on_day d) p)).0 (omega arith), ← t.count, ← t.comparisons, ← t.numbers)
        (search (placed, placed_sends, placed_number)))
