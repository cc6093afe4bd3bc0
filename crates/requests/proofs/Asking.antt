-- What a line asks, as the program holds it: its days stand in the lent list, and its room is one that can be lent. Assumes nothing.
use Rattle.basis.proofs.Prelude.{◌≡◌, ap, refl, ◌≤◌, suc, zero, ℕ, List, [], ◌++◌, ◌∷◌, by_cases, by_test, leb, drop, length, take_at, arith}
use Rattle.requests.proofs.{Names.{by_found, Found, found, unreadable, read_number, Ask, Request, Layout, LengthWord, Room, Read, limit_of, table, head_of, Demand, asks_call, malformed, length_asks, DayList, last_day, read_days, ask_days, asked_by, days_by, asked_of, days_of, request_of, asked_from, days_in, room_in, Parses}, Layouts.by_layout}
use Rattle.model.specs.declared.Question.TheVariants.{Days}

-- a demand is what its request asks with a list that begins with xs; it has at most n days, and its room is at most 65,536
record Sound (a : Demand) (xs : List ℕ) (n : ℕ) : Type 0 where
  asked : (rest : List ℕ) → asked_from (request_of a) (xs ++ rest) ≡ a
  days : days_in (request_of a) ≤ n
  room : room_in (request_of a) ≤ 65536

sound_none : (xs : List ℕ) (n : ℕ) → Sound malformed xs n
sound_none xs n = record { asked = λ _. refl; days = omega arith; room = omega arith }

sound_length : (w : LengthWord) (k : ℕ) (xs : List ℕ) (n : ℕ) → k ≤ limit_of w → Sound (length_asks w k) xs n
sound_length Room k xs n h = record { asked = λ _. refl; days = omega arith; room = omega arith }
sound_length Read k xs n h = record { asked = λ _. refl; days = omega arith; room = omega arith }

-- no more days are read than there is room for
last_few : (f : Found ℕ) → length (last_day f).days ≤ 1
last_few (found d []) = omega arith
last_few (found d (b ∷ rest)) = omega arith
last_few unreadable = omega arith

days_few : (n : ℕ) (s : List ℕ) → length (read_days n s).days ≤ n
unfolding read_days
days_few zero s = omega arith
days_few (suc n) s = by_found (read_number 9 s) (λ d rest e. rw e (omega (arith, days_few n rest))) (λ e. rw e (omega (arith, last_few (read_number 10 s))))

sound_days : (l : DayList) (n : ℕ) → length l.days ≤ n → Sound (ask_days l) l.days n
sound_days l n h = by_cases (λ a. Sound a l.days n) l.whole
    (λ _. record { asked = λ rest. ap (asks_call (Ask Days)) (take_at l.days rest (length l.days) refl); days = h; room = omega arith })
    (λ _. sound_none l.days n)

sound_by : (l : Layout) (n : ℕ) (s : List ℕ) → Sound (asked_by l n s) (days_by l n s) n
unfolding days_by
sound_by l n s = by_layout (λ a _. Sound a (days_by l n s) n) (sound_none _ n) (λ c. record { asked = λ _. refl; days = omega arith; room = omega arith }) l n n s
    (λ e. rw e (sound_days (read_days n s) n (days_few n s))) (λ w k e h. sound_length w k _ n h)

sound : (n : ℕ) (s : List ℕ) → Sound (asked_of n s) (days_of n s) n
unfolding asked_of days_of
sound n s = by_test (leb (length s) 65536) (λ e. rw e (sound_by (head_of table s).layout n (drop (head_of table s).at s))) (λ e. rw e (sound_none [] n))

module _ (line days : List ℕ) (r : Request) (days' : List ℕ) (p : Parses line days r days') where
  pub parsed_asked : asked_from r days' ≡ asked_of (length days) line
  parsed_asked = rw (p.request, p.places) ((sound (length days) line).asked (drop (length (days_of (length days) line)) days))

  pub parsed_days : days_in r ≤ length days'
  parsed_days = rw (p.request, p.sized) (sound (length days) line).days

  pub parsed_room : room_in r ≤ 65536
  parsed_room = rw p.request (sound (length days) line).room
