-- What a change and the laying out of columns leave in all places. Assumes nothing.
use Rattle.std.specs.Prelude.{ℕ, suc, ◌+◌, ◌-◌, ◌≡◌, Bool, ◌&&◌, cond, List, ◌++◌, map, leb, ltb, length, take, drop}
use Rattle.buffer.specs.Buffer.{over}
use Rattle.spell.specs.declared.Spell.{Spell}
use Rattle.model.specs.Edits.{insert}

-- the list without the spell at the place p
abbrev pub without : ℕ → List Spell → List Spell
without p l = take p l ++ drop (suc p) l

-- s put in, where that is asked for and there is a place for one more
abbrev pub putting : Bool → Spell → List Spell → List Spell
putting puts s l = cond (puts && ltb (length l) 1024) (insert s l) l

-- the spell at p taken out of the first n of the array a, and s put in, where that is asked for
abbrev pub changing : ℕ → Bool → Spell → ℕ → List Spell → List Spell
changing p puts s n a = over (putting puts s (without p (take n a))) a

-- how many of n spells are left without the one at p
abbrev pub left_of : ℕ → ℕ → ℕ
left_of n p = cond (ltb p n) (n - 1) n

-- one more than m, where one is put in and there is room
abbrev pub plus_one : ℕ → Bool → ℕ
plus_one m puts = cond (puts && ltb m 1024) (m + 1) m

-- how many stand after a change of the first n
abbrev pub counted_of : ℕ → ℕ → Bool → ℕ
counted_of n p puts = plus_one (left_of (cond (leb n 1024) n 1024) p) puts

-- one field of each spell of l, in the first places; later places keep what they held
abbrev pub column_of : (Spell → ℕ) → List Spell → List ℕ → List ℕ
column_of field l before = over (map field l) before

-- the numbers, candidates, first days and last days of the list l are laid out
pub record LaidOut (l : List Spell) (r : ℕ) (numbers candidates firsts lasts numbers' candidates' firsts' lasts' : List ℕ) : Type 0 where
  pub count : r ≡ length l
  pub number : numbers' ≡ column_of (λ s. s.number) l numbers
  pub candidate : candidates' ≡ column_of (λ s. s.candidate) l candidates
  pub first : firsts' ≡ column_of (λ s. s.first) l firsts
  pub last : lasts' ≡ column_of (λ s. s.last) l lasts
