-- A text that is put into a list before a place, byte by byte from its end to its front. Assumes nothing.
use Rattle.basis.proofs.Prelude.{◌∙◌, ◌≡◌, ap, ◌+◌, ◌-◌, ◌<◌, ◌≤◌, suc, ℕ, List, ◌++◌, ◌∷◌, drop, length, length-append, length-drop, length-set, set, take, take-append-drop, drop_at, length-take-le, set_split, take_at, take-set-le, take-take, arith, le-leb, lt-leb}
use Rattle.fields.specs.Answers.{Puts}

-- a list with its places before r as they were and the text from r on
pub record Put (entry exit : List ℕ) (r : ℕ) (text : List ℕ) : Type 0 where
  pub sized : length exit ≡ length entry
  pub inside : r ≤ length entry
  pub kept : take r exit ≡ take r entry
  pub written : drop r exit ≡ text

-- nothing is put yet
pub put_none : (l : List ℕ) (i : ℕ) → i ≤ length l → Put l l i (drop i l)
put_none l i h = search

-- so many places are taken
pub put_place : {entry exit : List ℕ} {r : ℕ} {text : List ℕ} → Put entry exit r text → r + length text ≡ length entry
put_place {exit = exit} {r} p = omega (arith, p.sized, p.inside, ap length p.written, length-drop r exit)

-- one byte more
pub put_one : {entry buf : List ℕ} {i : ℕ} {text : List ℕ} (b : ℕ) → Put entry buf i text → 1 ≤ i → Put entry (set buf (i - 1) b) (i - 1) (b ∷ text)
put_one {entry} {buf} {i} b p h =
    let up : suc (i - 1) ≡ i = omega arith in
    let split = set_split buf (i - 1) b (omega arith) in
    let at = drop_at (take (i - 1) buf) (b ∷ drop (suc (i - 1)) buf) (i - 1) (length-take-le (i - 1) buf (omega arith)) in
    search (arith, length-set buf (i - 1) b, take-set-le (i - 1) buf (i - 1) b (omega arith), take-take (i - 1) i buf (omega arith), take-take (i - 1) i entry (omega arith))

-- the byte that ends a field
pub put_end : (e at : ℕ) (l : List ℕ) → 1 ≤ at → at ≤ length l → Put l (set l (at - 1) e) (at - 1) (e ∷ drop at l)
put_end e at l h k = put_one e (put_none l at k) h

pub put_sized : (l exit text : List ℕ) (at e r : ℕ) → Put (set l at e) exit r text → length exit ≡ length l
put_sized l exit text at e r p = p.sized ∙ length-set l at e

-- one text put before another
pub put_on : {a b c : List ℕ} {i j : ℕ} {t u : List ℕ} → Put a b i t → Put b c j u → j ≤ i → Put a c j u
put_on {a} {b} {i = i} {j} p q h = search (arith, take-take j i b h, take-take j i a h)

-- ---- the writers' contract
-- with room for it, the text is put
pub puts_room : {entry exit : List ℕ} {at r : ℕ} (room : ℕ) (text : List ℕ → List ℕ) → room ≤ at → at ≤ length entry
    → Put entry exit r (text (drop at entry)) → Puts room text entry at r exit
puts_room {entry} {exit} {at} {r} room text h k p =
    let same : r ≡ length entry - length (text (drop at entry)) = omega (arith, put_place p) in
    search (le-leb room at h, le-leb at (length entry) k, take-append-drop r exit)

-- without it, every place is kept
pub puts_before : (room : ℕ) (text : List ℕ → List ℕ) (entry : List ℕ) (at : ℕ) → at < room → Puts room text entry at at entry
puts_before room text entry at h = search (lt-leb room at h)

pub puts_past : (room : ℕ) (text : List ℕ → List ℕ) (entry : List ℕ) (at : ℕ) → room ≤ at → length entry < at → Puts room text entry at at entry
puts_past room text entry at h k = search (le-leb room at h, lt-leb at (length entry) k)

-- what a caller that has the room gets
pub room_puts : {entry exit : List ℕ} {at r : ℕ} (room : ℕ) (text : List ℕ → List ℕ) → room ≤ at → at ≤ length entry
    → length (text (drop at entry)) ≤ room + length (drop at entry) → Puts room text entry at r exit → Put entry exit r (text (drop at entry))
room_puts {entry} {exit} {at} {r} room text h k w p =
    let t = text (drop at entry) in
    let start : r ≡ length entry - length t = cc (le-leb room at h, le-leb at (length entry) k) in
    let all : exit ≡ take r entry ++ t = cc (le-leb room at h, le-leb at (length entry) k) in
    let long = length-take-le r entry (omega arith) in
    let sum = ap length all ∙ length-append (take r entry) t in
    let rest = length-drop at entry in
    search (arith, take_at (take r entry) t r long, drop_at (take r entry) t r long)

-- and so many places are taken at most
pub field_put : {entry exit : List ℕ} {at r : ℕ} (room : ℕ) (text : List ℕ → List ℕ) → ((rest : List ℕ) → length (text rest) ≤ room + length rest)
    → room ≤ at → at ≤ length entry → Puts room text entry at r exit → Put entry exit r (text (drop at entry)) × (at ≤ r + room)
field_put {entry} {at = at} room text w h k p =
    let q = room_puts room text h k (w (drop at entry)) p in
    (q, omega (arith, put_place q, length-drop at entry, w (drop at entry)))
