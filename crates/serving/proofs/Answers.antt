-- A request that is coming in pieces: what has come of it is what the bytes read so far make; and an answer gathered, a request seen. Assumes nothing.
use Rattle.basis.proofs.Prelude.{◌∙◌, ◌≡◌, ◌≤◌, ℕ, List, [], ◌++◌, append_assoc, append-nil, true, length, take, arith, ◌<◌, inl, inr}
use Rattle.streams.{specs.{declared.{Frame.Frame, Framed.{Framed, TheVariants.{Whole, Part}}}, Stream.begun, Advancing.{next, part_of, partial_of, Advances}, History.opened}, proofs.Claims.{go_on, next_append}}
use Rattle.serving.specs.Serving.{between, Taken, Takes, Gathers, Sees}
use Rattle.gathering.{specs.Gathering.Appended, proofs.Gathering.grown}
use Rattle.service.specs.Service.{Blocks}
use Rattle.conversations.specs.{declared.Looked.Looked, Answering.Looks}

-- what is kept of it, and the bytes from `at` to `to`, make what the bytes s and those read since make
pub record Coming (s arrived line payload : List ℕ) (f : Frame) (at to : ℕ) : Type 0 where
  pub end_in : to ≤ 65536
  pub bytes : List ℕ
  pub is : next (partial_of f line payload) (between arrived at to) ≡ next begun (s ++ bytes)

pub comes : {arrived line payload : List ℕ} {f : Frame} {start : ℕ} (end : ℕ) {to : ℕ} → f ≡ opened → take to arrived ≡ take end arrived → to ≤ length arrived
    → length arrived ≡ 65536 → Coming (between arrived start end) arrived line payload f start to
unfolding part_of
comes end e t h long = record { end_in = omega arith; bytes = []; is = rw (e, append-nil, t) }

module _ {s arrived line payload line' payload' : List ℕ} {f : Frame} {at to : ℕ} {r : Framed} (c : Coming s arrived line payload f at to)
    (a : Advances f (take to arrived) at line payload r line' payload') where
  -- a part of it is taken, and a read brings the first n bytes of a list
  pub goes_on : {f' : Frame} → r ≡ Part f' → (arrived' l : List ℕ) {n : ℕ} → n ≤ length l → length l ≡ 65536 → Coming s arrived' line' payload' f' 0 n
  unfolding go_on
  goes_on e arrived' l {n} h long = let p = rw e at a.progress in record {
    end_in = omega arith;
    bytes = c.bytes ++ take n arrived';
    is = rw (← append_assoc s c.bytes (take n arrived'), next_append begun (s ++ c.bytes) (take n arrived'), ← c.is, ← p);
  }

  -- it is whole
  pub is_whole : {n m place held : ℕ} → r ≡ Whole n m place → {arrived₀ : List ℕ} {start end : ℕ} → s ≡ between arrived₀ start end
      → Takes arrived₀ start end (record { line = n; payload = m; whole = true; start = place; end = to; held = held }) arrived line' payload'
  is_whole w e = let b = rw w at a in record {
    line_fits = b.within.0.line;
    text_within = b.within.0.payload;
    end_in = c.end_in;
    bytes = c.bytes;
    came = λ _. rw (← e) (b.progress ∙ c.is);
  }

module _ (answer gathered : List ℕ) (held : ℕ) where
  pub gathers_after : (n : ℕ) (gathered' : List ℕ) → Appended answer gathered held n gathered' → held < n
      → Gathers answer gathered held (record { held = n; «open» = true }) gathered'
  gathers_after n gathered' a h = λ _. inl (grown answer gathered held n gathered' a h)

  -- after a write it stands alone
  pub gathers_alone : (kept : List ℕ) (n : ℕ) (gathered' : List ℕ) → Appended answer kept 0 n gathered' → 0 < n
      → Gathers answer gathered held (record { held = n; «open» = true }) gathered'
  gathers_alone kept n gathered' a h = λ e. inr (grown answer kept 0 n gathered' a h)

-- a request that is taken, with a look at its line
pub sees : {arrived arrived' line' payload' : List ℕ} {start end : ℕ} {q : Taken} {bs : Blocks} {room : ℕ}
    {days numbers text out days' numbers' out' : List ℕ} {l : Looked}
    → Takes arrived start end q arrived' line' payload'
    → (q.whole ≡ true → Looks bs room (take q.line line') days numbers text out l days' numbers' out')
    → Sees bs room arrived start end days numbers text out
    (record { line = q.line; payload = q.payload; whole = q.whole; start = q.start; end = q.end; held = q.held; looked = l })
    arrived' line' payload' days' numbers' out'
sees t looks = record { takes = t; looks = looks }
