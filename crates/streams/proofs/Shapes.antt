-- The requests of a stream by the shape of its bytes: a line with its LF and the text after it, or less. Assumes nothing.
use Rattle.basis.proofs.Prelude.{◌∙◌, ◌≡◌, ap, refl, ◌+◌, ◌-◌, ◌<◌, ◌≤◌, suc, zero, zero-add, ℕ, List, [], ◌++◌, ◌∷◌, append_assoc, append-nil, length, length-append, take, length-take-le, arith, lt-leb}
use Rattle.requests.specs.Requests.{malformed, asked_of, following}
use Rattle.streams.specs.Stream.{in_line, kept, wants, settled, line_fed, feed, onward, cut_from, cut, Plain}

pub kept_take : (most : ℕ) (s : List ℕ) (b : ℕ) → kept most (take most s) b ≡ take most (s ++ b ∷ [])
unfolding kept
kept_take zero s b = refl
kept_take (suc most) [] b = refl
kept_take (suc most) (a ∷ s) b = ap (λ (l : List ℕ). a ∷ l) (kept_take most s b)

-- bytes of a line, none of them LF
line_on : (k s t : List ℕ) → Plain s → cut_from (in_line (take 65537 k)) (s ++ t) ≡ cut_from (in_line (take 65537 (k ++ s))) t
unfolding cut_from feed line_fed onward
line_on k [] t h = rw append-nil
line_on k (b ∷ s) t h =
    rw h.0 (ap (λ (l : List ℕ). cut_from (in_line l) (s ++ t)) (kept_take 65537 k b) ∙ rw append_assoc at (line_on (k ++ b ∷ []) s t h.1))

-- bytes of a text, after which n are still wanted
text_on : (line q p t : List ℕ) (n : ℕ)
    → onward (settled line (take 65536 q) (length p + n)) (λ x. cut_from x (p ++ t)) ≡ onward (settled line (take 65536 (q ++ p)) n) (λ x. cut_from x t)
unfolding cut_from feed onward settled
text_on line q [] t n = rw (zero-add, append-nil)
text_on line q (b ∷ p) t n = let z : suc (length p) + n ≡ suc (length p + n) = omega arith in rw (z, kept_take 65536 q b, text_on line (q ++ b ∷ []) p t n, append_assoc)

-- A WHOLE REQUEST at the beginning of a stream: a line, its LF, and as many bytes as the line wants after it
pub cut_request : (l p t : List ℕ) → Plain l → length p ≡ wants (take 65537 (l ++ 10 ∷ []))
    → cut (l ++ 10 ∷ (p ++ t)) ≡ record { line = take 65537 (l ++ 10 ∷ []); payload = take 65536 p } ∷ cut t
unfolding cut_from feed line_fed onward settled
cut_request l p t h e = let z : wants (take 65537 (l ++ 10 ∷ [])) ≡ length p + 0 = omega arith in
    line_on [] l (10 ∷ (p ++ t)) h ∙ rw (kept_take 65537 l 10, z) (text_on (take 65537 (l ++ 10 ∷ [])) [] p t 0)

-- A LINE THAT IS NOT WHOLE is no request
pub cut_line : (l : List ℕ) → Plain l → cut l ≡ []
unfolding cut_from
cut_line l h = rw append-nil at (line_on [] l [] h)

-- A TEXT THAT IS NOT WHOLE: neither
pub cut_text : (l p : List ℕ) → Plain l → length p < wants (take 65537 (l ++ 10 ∷ [])) → cut (l ++ 10 ∷ p) ≡ []
unfolding cut_from feed line_fed onward settled
cut_text l p h e = let line = take 65537 (l ++ 10 ∷ []) in let z : wants line ≡ length p + suc (wants line - suc (length p)) = omega arith in
    line_on [] l (10 ∷ p) h ∙ rw (kept_take 65537 l 10, z) (rw append-nil at (text_on line [] p [] (suc (wants line - suc (length p)))))

-- ---- A line of more than 65,536 bytes

-- it is malformed, also as it is kept
pub long_malformed : (l : List ℕ) → 65536 < length l → asked_of 32768 (take 65537 l) ≡ malformed
unfolding asked_of
long_malformed l h = rw (lt-leb (length (take 65537 l)) 65536 (omega (arith, length-take-le 65537 l (omega arith))))

-- A LINE OF MORE THAN 65,536 BYTES, its LF among them: it is passed over up to its LF, and no text follows it
pub cut_long : (l t : List ℕ) → Plain l → 65536 ≤ length l
    → cut (l ++ 10 ∷ t) ≡ record { line = take 65537 (l ++ 10 ∷ []); payload = [] } ∷ cut t
unfolding wants following
cut_long l t h k =
    cut_request l [] t h (rw (long_malformed (l ++ 10 ∷ []) (omega (arith, length-append l (10 ∷ [])))))
