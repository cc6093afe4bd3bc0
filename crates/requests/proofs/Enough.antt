-- A line of at most 65,536 bytes has fewer than 32,768 days: more room for them changes nothing. Assumes nothing.
use Rattle.basis.proofs.Prelude.{◌≡◌, ap, refl, sym, ◌*◌, ◌+◌, ◌≤◌, suc, zero, ℕ, List, [], ◌∷◌, by_test, false, leb, drop, length, length-drop, arith, leb-true}
use Rattle.requests.proofs.{Names.{by_found, found, unreadable, read_number, decimal_wide, write_number, table, head_of, read_days, ask_days, asked_of}, Layouts.by_layout}

-- a number and the byte that ends it take two bytes or more
number_takes : (e : ℕ) (s : List ℕ) (d : ℕ) (rest : List ℕ) → read_number e s ≡ found d rest → 2 + length rest ≤ length s
number_takes e s d rest h = omega (arith, ap length (write_number e s d rest h).1, decimal_wide d (e ∷ rest))

none_short : (e : ℕ) (s : List ℕ) → length s ≤ 1 → read_number e s ≡ unreadable
none_short e s h = by_found (read_number e s) (λ d rest k. absurd (omega (arith, number_takes e s d rest k))) (λ k. k)

none_days : (m : ℕ) (s : List ℕ) → length s ≤ 1 → read_days m s ≡ record { days = []; whole = false }
unfolding read_days
none_days zero s h = refl
none_days (suc m) s h = rw (none_short 9 s h, none_short 10 s h)

days_enough : (n j : ℕ) (s : List ℕ) → length s ≤ 2 * n + 1 → read_days n s ≡ read_days (n + j) s
unfolding read_days
days_enough zero j s h = sym (none_days (0 + j) s (omega arith))
days_enough (suc n) j s h =
    let up : suc n + j ≡ suc (n + j) = omega arith in
    rw up (by_found (read_number 9 s) (λ d rest k. rw (k, days_enough n j rest (omega (arith, number_takes 9 s d rest k)))) (λ k. rw k))

-- WHAT A LINE ASKS is the same with more room for its days
pub days_room : (j : ℕ) (s : List ℕ) → asked_of 32768 s ≡ asked_of (32768 + j) s
unfolding asked_of
days_room j s = by_test (leb (length s) 65536)
    (λ e.
    let few = leb-true (length s) 65536 e in
    let less = length-drop (head_of table s).at s in
    rw e (by_layout ◌≡◌ refl (λ _. refl) _ 32768 (32768 + j) _ (λ _. ap ask_days (days_enough 32768 j (drop (head_of table s).at s) (omega arith))) (λ _ _ _ _. refl)))
    (λ e. rw e)
