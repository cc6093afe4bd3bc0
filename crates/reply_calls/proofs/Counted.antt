-- The numbers of a question's answer put into a list, with the comparisons that it reports or none. Assumes nothing.
use Rattle.basis.proofs.Prelude.{◌≡◌, ◌+◌, ◌≤◌, ℕ, List, [], ◌∷◌, length, arith}
use Rattle.std.proofs.Common.{Option, Some, None, refl}
use Rattle.fields.{specs.{Fields.{end_before, number_text, numbers_text}, Answers.Puts}, proofs.{Puts.put_place, Widths.{decimal_wide, decimal_width, numbers_width}}}
use Rattle.register.specs.Text.{tab}
use Rattle.replies.{specs.{Replies.{bytes_text, listed_word, ticked_word, listed_text, several_text, ticked_text, dashed_text}, Sending.Sends}, proofs.Sending.{Placed, on, sends_put}}
use Rattle.reply_calls.specs.Counted.{comparisons_text, room_for, counted_text}

-- they take six places at most
wide : (c : Option ℕ) (e : ℕ) (s : List ℕ) → (length s ≤ length (comparisons_text c e s)) × (length (comparisons_text c e s) ≤ room_for c + length s) × (room_for c ≤ 6)
wide (Some n) e s = omega (arith, decimal_wide n (e ∷ s), decimal_width n (e ∷ s))
wide None e s = omega arith

pub placed_comparisons : {a b b' : List ℕ} {i j : ℕ} {t : List ℕ} {k : ℕ} (c : Option ℕ) (e e' : ℕ)
    → Placed a b i t (k + 6) → Puts (room_for c) (comparisons_text c e) b i j b' → e ≡ e' → Placed a b' j (comparisons_text c e' t) k
placed_comparisons {k = k} c e e' p q s =
    rw s at (on {k = k} (room_for c) (comparisons_text c e) (λ s. ((wide c e s).0, (wide c e s).1)) (record { put = p.put; room = omega (arith, (wide c e []).2, p.room) }) q)

pub placed_counted : {out b : List ℕ} {i : ℕ} (n : ℕ) (c : Option ℕ) (ns : List ℕ) (k : ℕ) → Sends (counted_text n c ns) out i b → length b ≡ 131072 → length ns ≤ 1024 → k ≤ 100000
    → Placed out b i (counted_text n c ns) k
unfolding counted_text
placed_counted n c ns k q long few h =
    let p = sends_put q in
    let s = numbers_text ns [] in
    let e = end_before (length ns) in
    record { put = p; room = omega (arith, decimal_width n (9 ∷ comparisons_text c e s), wide c e s, numbers_width ns [], put_place p) }

-- a day's, a span's or a cover's answer, that of a days question, and that of a mask
pub listed_counted : (k n : ℕ) (ns : List ℕ) → bytes_text listed_word (counted_text k (Some n) ns) ≡ listed_text k n ns
unfolding counted_text listed_text numbers_text
listed_counted k n ns = refl

pub several_counted : (k : ℕ) (ns : List ℕ) → bytes_text listed_word (counted_text k None ns) ≡ several_text k ns
unfolding counted_text several_text dashed_text
several_counted k ns = refl

pub ticked_counted : (t k : ℕ) (ns : List ℕ) → bytes_text ticked_word (number_text t tab (counted_text k None ns)) ≡ ticked_text t k ns
unfolding counted_text ticked_text dashed_text
ticked_counted t k ns = refl
