-- Decimals parted by tabs, put into a list from the last to the first. Assumes nothing.
use Rattle.basis.proofs.Prelude.{[], ◌+◌, ◌++◌, append-nil, append_assoc, length-append}
use Rattle.std.proofs.lemmas.List.{nil_from_length}
use Rattle.decimals.proofs.Names.{List, Put, Puts, ◌*◌, ◌/◌, ◌∙◌, ◌∷◌, ◌≡◌, ◌≤◌, ap, arith, decimal_wide, drop, end_before, field_put, length, length-drop, number_width, number_text, numbers_text, put_none, put_on, put_place, puts_room, ℕ}

-- `left` are still to be put; the others, after those, stand in front of what stood from `at` on
pub record Rest (ns entry : List ℕ) (at : ℕ) (buf : List ℕ) (place : ℕ) (left : List ℕ) (others : ℕ) : Type 0 where
  pub done : List ℕ
  pub all : left ++ done ≡ ns
  pub count : others ≡ length done
  pub put : Put entry buf place (numbers_text done (drop at entry))
  pub roomy : 6 * length left ≤ place

module _ {ns entry : List ℕ} {at : ℕ} (h : length ns ≤ at / 6) (k : at ≤ length entry) where
  pub rest_none : {left : List ℕ} {others : ℕ} → left ≡ ns → others ≡ 0 → Rest ns entry at entry at left others
  unfolding numbers_text
  rest_none {left} all none = record {
    done = [];
    all = append-nil left ∙ all;
    count = none;
    put = put_none entry at k;
    roomy = omega (arith, ap length all);
  }

  module _ {buf : List ℕ} {place : ℕ} {left : List ℕ} {others : ℕ} (g : Rest ns entry at buf place left others) where
    pub rest_one : (n : ℕ) {front exit : List ℕ} {r e more : ℕ} → left ≡ front ++ (n ∷ []) → more ≡ others + 1 → e ≡ end_before others
        → Puts 6 (number_text n e) buf place r exit → Rest ns entry at exit r front more
    unfolding numbers_text
    rest_one n {front} {exit} {r} {e} last one is p =
        let long : length left ≡ length front + 1 = ap length last ∙ length-append front (n ∷ []) in
        let in_buf : place ≤ length buf = omega (arith, g.put.sized, g.put.inside) in
        let q = field_put 6 (number_text n e) (number_width n e) (omega (arith, g.roomy)) in_buf p in
        let wide = decimal_wide n (e ∷ drop place buf) in
        let less = put_place q.0 in
        let rest = length-drop place buf in
        let on = put_on g.put q.0 (omega arith) in
        record {
          done = n ∷ g.done;
          all = rw (last, append_assoc) at g.all;
          count = omega (arith, g.count);
          put = rw (g.put.written, is, g.count) at on;
          roomy = omega (arith, g.roomy);
        }

    pub rest_all : length left ≡ 0 → Puts (6 * length ns) (numbers_text ns) entry at place buf
    rest_all none =
        let whole : g.done ≡ ns = rw (nil_from_length left none) at g.all in
        puts_room (6 * length ns) (numbers_text ns) (omega arith) k (rw whole at g.put)
