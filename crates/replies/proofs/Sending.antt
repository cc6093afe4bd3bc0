-- An answer put into a list from its end to its front, field by field, with the places that are left before it. Assumes nothing.
use Rattle.basis.proofs.Prelude.{◌∙◌, ◌≡◌, ap, refl, sym, ◌*◌, ◌+◌, ◌-◌, ◌≤◌, ℕ, List, [], ◌++◌, ◌∷◌, append-nil, drop, drop_of_length-le, length, length-append, length-drop, take, take-append-drop, drop_at, take_at, length-take-le, take-length, arith, le-leb}
use lib.Dec.{lit≤}
use borrow.Rule.Slice.PartMut.{put_mid, mid_of, mid_len, Post-is}
use Rattle.fields.{specs.{Fields.{byte_text, end_before, number_text, numbers_text}, Answers.Puts}, proofs.{Puts.{Put, put_on, put_place, room_puts}, Widths.{decimal_wide, decimal_width, numbers_width, numbers_wide}}}
use Rattle.replies.specs.{Replies.bytes_text, Sending.Sends}

-- what is put to the end is sent
pub put_sends : {entry exit : List ℕ} {r : ℕ} {t : List ℕ} → Put entry exit r t → Sends t entry r exit
put_sends {entry} {exit} {r} {t} p =
    let same : r ≡ length entry - length t = omega (arith, put_place p) in
    record { fits = omega (arith, put_place p); place = same; places = sym (take-append-drop r exit) ∙ rw (p.kept, p.written, same) }

-- what is sent is put to the end
pub sends_put : {entry exit : List ℕ} {r : ℕ} {t : List ℕ} → Sends t entry r exit → Put entry exit r t
sends_put {entry} {exit} {r} {t} p =
    let front = length-take-le r entry (omega arith) in
    let whole : exit ≡ take r entry ++ t = cc in
    let long = ap length whole ∙ length-append (take r entry) t in
    search (arith, take_at (take r entry) t r front, drop_at (take r entry) t r front)

-- and stands there from its place on
pub sends_bytes : {entry exit : List ℕ} {r : ℕ} {t : List ℕ} → Sends t entry r exit → drop r exit ≡ t
sends_bytes p = (sends_put p).written

-- a text copied into the places before `at`
pub put_copied : (out text : List ℕ) (at : ℕ) → length text ≤ at → at ≤ length out → (part : List ℕ)
    → part ≡ text
    → Puts (length text) (bytes_text text) out at (at - length text) (put_mid (at - length text) (at - (at - length text)) out part)
put_copied out text at h k part whole =
    let same : at - length text ≡ length out - length (text ++ drop at out) = omega (arith, length-append text (drop at out), length-drop at out) in
    let room = le-leb (length text) at h in
    let fits = le-leb at (length out) k in
    record { place = rw (room, fits) same; places = rw (room, fits, whole, Post-is (at - length text) at out (omega arith), same) }

-- ---- Parts of an answer

-- the text t is put from the place i on, and k places or more are left before it
pub record Placed (a b : List ℕ) (i : ℕ) (t : List ℕ) (k : ℕ) : Type 0 where
  pub put : Put a b i t
  pub room : k ≤ i

pub placed_sends : {a b : List ℕ} {i : ℕ} {t : List ℕ} → Placed a b i t 0 → Sends t a i b
placed_sends p = put_sends p.put

-- one field more before what is put: a text f, which takes so much room or less
pub on : {a b c : List ℕ} {i j : ℕ} {t : List ℕ} {k : ℕ} (room : ℕ) (f : List ℕ → List ℕ) → ((s : List ℕ) → (length s ≤ length (f s)) × (length (f s) ≤ room + length s))
    → Placed a b i t (k + room) → Puts room f b i j c → Placed a c j (f t) k
on {b = b} {i = i} {t = t} room f width p q =
    let u = rw p.put.written at (room_puts room f (omega arith) (omega arith) (width (drop i b)).1 q) in
    let r = put_on p.put u (omega (arith, put_place p.put, put_place u, (width t).0)) in
    record { put = r; room = omega (arith, put_place p.put, put_place r, (width t).1) }

-- the last part, in a list of n places
module _ (out : List ℕ) (n : ℕ) (long : length out ≡ n) (k : ℕ) where
  pub placed_none : k ≤ n → Placed out out n [] k
  placed_none h = record { put = record { sized = refl; inside = omega arith; kept = refl; written = drop_of_length-le out {i = n} (omega arith) }; room = h }

  module _ (b : List ℕ) (i : ℕ) where
    pub placed_numbers : (ns : List ℕ) → length ns ≤ 1024 → k + 6144 ≤ n → Puts (6 * length ns) (numbers_text ns) out n i b → Placed out b i (numbers_text ns []) k
    placed_numbers ns few h q = on (6 * length ns) (numbers_text ns) (λ s. (numbers_wide ns s, numbers_width ns s)) (record { put = (placed_none (omega arith)).put; room = omega arith }) q

    pub placed_text : (t : List ℕ) → length t ≤ 65536 → k + 65536 ≤ n → Puts (length t) (bytes_text t) out n i b → Placed out b i t k
    placed_text t few h q = rw append-nil at (on {k = k} (length t) (bytes_text t) (λ s. omega (arith, length-append t s)) (record { put = (placed_none (omega arith)).put; room = omega arith }) q)

-- one part before others
module _ (a b c : List ℕ) (i j : ℕ) (t : List ℕ) (k : ℕ) where
  pub placed_number : (n e e' : ℕ) → Placed a b i t (k + 6) → Puts 6 (number_text n e) b i j c → e ≡ e' → Placed a c j (number_text n e' t) k
  placed_number n e e' p q s = rw s at (on 6 (number_text n e) (λ s. omega (arith, decimal_wide n (e ∷ s), decimal_width n (e ∷ s))) p q)

  pub placed_byte : (x x' : ℕ) → Placed a b i t (k + 1) → Puts 1 (byte_text x) b i j c → x ≡ x' → Placed a c j (x' ∷ t) k
  placed_byte x x' p q s = rw s at (on 1 (byte_text x) (λ s. omega arith) p q)

  pub placed_bytes : (w : List ℕ) → Placed a b i t (k + length w) → Puts (length w) (bytes_text w) b i j c → Placed a c j (w ++ t) k
  placed_bytes w p q = on (length w) (bytes_text w) (λ s. omega (arith, length-append w s)) p q

-- the first of several numbers
pub placed_more : (a b : List ℕ) (i n : ℕ) (ns t : List ℕ) (k : ℕ) → Placed a b i (number_text n (end_before (length ns)) (numbers_text ns t)) k → Placed a b i (numbers_text (n ∷ ns) t) k
unfolding numbers_text
placed_more a b i n ns t k p = p

pub ruleset placing = (placed_sends, placed_none, placed_numbers, placed_text, placed_number, placed_more, placed_byte, placed_bytes, lit≤)
