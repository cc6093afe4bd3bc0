-- What the builder lays is the block of the definition: column by column, and then the whole. Assumes nothing.
use Rattle.stabbing_index.proofs.{Names.{length-take, List·getD-eq-default, ltb, not, not-true, not-false, rules, Linked, Chained, ◌&&◌, ◌≢◌, ◌∙◌, ◌≡◌, ap, refl, sym, ◌+◌, ◌-◌, ◌≤◌, suc, zero, ℕ, List, [], ◌++◌, ◌∷◌, append_assoc, Bool, false, true, get_or, get_or-take, length, length-set, set, take, length-take-le, take_all, arith, le-leb, lt-leb, lt-ltb, by_mark, by_test, clash, day_at, head, parent, child, last_child, left_sibling, next, start, latest, capacity, day_count, first_column, last_column, parent_column, left_column, child_column, next_column, start_table, latest_table, bucket_table, row_count, index_length, rows_ok, column, last_of, head_link, laid, block_of, child_is, parent_is, head_past, row_past, left_small, child_small, next_small, column_length, column_at, column_only, Columns, ColumnsOf, Dayed, DaysAsks, Extends, name_words, mark_words, beside, link_words, day_words, RowsOf}, Laying.{laid_more, laid_word, laid_column, grown_all, naming}, DayTables.undayed, Links.{unlinked, unchained}}
use Rattle.stabbing_index.specs.Build.{Builds}
use Rattle.stabbing.proofs.Block.{rows_sorted}

-- ---- words of the rows
pub row_none : (xs : List ℕ) (n k : ℕ) → n ≤ k → 0 ≡ day_at (take n xs) k
row_none xs n k h = sym (List·getD-eq-default (take n xs) 0 {n = k} (omega (arith, length-take n xs)))

same_last : {xs ys fs ls : List ℕ} {n : ℕ} (m : ℕ) → Columns xs ys fs ls n → m ≤ length fs → last_of ys m ≡ last_of ls m
same_last zero q h = refl
same_last (suc p) q h = q.lasts p (omega (arith, q.count))

-- a column of marks, and the last days beside it
marks_laid : {xs ys fs ls e x : List ℕ} (ws : List ℕ) {n a b : ℕ} {f : ℕ → ℕ} → Columns xs ys fs ls n → length ws ≡ capacity → ((p : ℕ) → get_or ws p 0 ≡ f p) → ((p : ℕ) → f p ≤ length fs)
    → Extends e a b (mark_words ys ws) x → Extends e a b (beside ls f) x
marks_laid {ys = ys} {ls = ls} ws {f = f} q s w small i = let g : ℕ → ℕ = λ p. last_of ys (get_or ws p 0) in rw (
  column_only capacity (λ p. last_of ls (f p)) (column capacity g) (column_length capacity g) (λ p h. column_at capacity g p h ∙ rw (w p) (same_last (f p) q (small p))),
  column_only capacity f ws s (λ p _. w p),
) at i

-- ---- the links and the tables by day, one column after another
pub days_laid : {fs ls ss bs : List ℕ} → Dayed fs ls ss bs day_count → {e m x : List ℕ} → Extends e start_table (start_table + length ss) ss m → Extends m latest_table (latest_table + length bs) bs x → Extends e start_table bucket_table (day_words fs ls) x
unfolding day_words
days_laid {fs} {ls} q i j = laid_more (laid_column day_count (λ d. start fs ls d d) q.starts.size q.starts.done i) (laid_column day_count (latest fs ls) q.begun.size q.begun.done j)

-- ---- what the passes ask of rows that can be published, and what `link` found of them
module _ (xs ys : List ℕ) (n : ℕ) (rows : RowsOf xs ys n) where
  pub columns_of : ColumnsOf xs ys n
  columns_of = let sorted = rows_sorted (take n xs) (take n ys) rows.in_order in search get_or-take

  pub days_asked : {ps qs cs : List ℕ} → Linked (take n xs) (take n ys) ps qs cs n → DaysAsks xs ys n ps
  days_asked found = let columns = columns_of in search

module _ {xs ys fs ls ps qs cs : List ℕ} {n : ℕ} (q : Columns xs ys fs ls n) (found : Linked fs ls ps qs cs n) where
  -- every child has a head for its parent, so the column of the children is that of the heads' last children
  last_children : (v : ℕ) → get_or cs v 0 ≡ head_link fs ls (last_child fs ls) v
  last_children v = unfold last_child in found.children v ∙ by_test (ltb v (length fs) && head fs ls v) (λ e. rw (e, q.count))
      (λ e. rw e (by_mark (child fs ls (suc v) n) (λ z. z) (λ b z. let c = child_is fs ls (suc v) n in let p = parent_is fs ls b in
      let t : ltb v (length fs) && head fs ls v ≡ true = rw (lt-ltb v (length fs) (omega (arith, c.within, (c.hit b z).1, p.within, q.count)), (p.hit v (c.hit b z).1).0) in absurd (clash t e))))

  pub tree_laid : {ns e₀ e₁ e₂ e₃ e₄ e₅ : List ℕ} → Chained fs ls ns n → Extends e₀ parent_column (parent_column + length ps) ps e₁ → Extends e₁ left_column child_column (mark_words ys qs) e₂
      → Extends e₂ child_column next_column (mark_words ys cs) e₃ → Extends e₃ next_column start_table (mark_words ys ns) e₄ → Extends e₄ start_table bucket_table (day_words fs ls) e₅
      → Extends e₀ parent_column bucket_table (link_words fs ls ++ day_words fs ls) e₅
  tree_laid {ns} chains parents left child chain days = unfold link_words in
      let past : (link : ℕ → ℕ) (v : ℕ) → n ≤ v → head_link fs ls link v ≡ 0 = λ link v h. head_past fs ls link v (rw q.count h) in
      laid_more (laid_more (laid_more (laid_more
      (laid_column capacity (head_link fs ls (parent fs ls)) found.parents.size (λ p _. grown_all found.parents (past (parent fs ls)) p) parents)
      (marks_laid qs q found.lefts.size (grown_all found.lefts (past (left_sibling fs ls))) (left_small fs ls) left))
      (marks_laid cs q found.size last_children (child_small fs ls) child))
      (marks_laid ns q chains.size (grown_all chains (λ v h. row_past fs ls (next fs ls) v (omega (arith, q.count)))) (next_small fs ls) chain))
      days

-- ---- the whole block
-- the count in the word after them all
counted : {e x ws : List ℕ} {size : ℕ} (v : ℕ) → Extends e 0 size ws x → length e ≡ size + 1 → set x size v ≡ ws ++ (v ∷ [])
counted {x = x} {size = size} v i h = sym (take_all (suc size) (set x size v) (omega (arith, length-set x size v, i.size))) ∙ (laid_word i v (omega arith)).front

whole : (ns fs ls : List ℕ) (n : ℕ) → length fs ≡ n → column capacity (day_at ns) ++ column capacity (day_at fs) ++ column capacity (day_at ls) ++ (link_words fs ls ++ day_words fs ls) ++ name_words ns n ++ (n ∷ []) ≡ block_of ns fs ls
whole ns fs ls n e = unfold block_of laid link_words day_words in rw (sym e) (simp append_assoc)

-- all that is laid, and the count, make the block
pub filled : (ns xs ys : List ℕ) {n : ℕ} → RowsOf xs ys n → {e₀ e₁ e₂ e₃ e₄ e₅ : List ℕ} → length e₀ ≡ index_length
    → Extends e₀ 0 first_column (column capacity (day_at (take n ns))) e₁
    → Extends e₁ first_column last_column (column capacity (day_at (take n xs))) e₂
    → Extends e₂ last_column parent_column (column capacity (day_at (take n ys))) e₃
    → Extends e₃ parent_column bucket_table (link_words (take n xs) (take n ys) ++ day_words (take n xs) (take n ys)) e₄
    → Extends e₄ bucket_table row_count (name_words (take n ns) n) e₅ → set e₅ row_count n ≡ block_of (take n ns) (take n xs) (take n ys)
filled ns xs ys {n} q h numbers firsts lasts tree names =
    counted n (laid_more (laid_more (laid_more (laid_more numbers firsts) lasts) tree) names) h
    ∙ whole (take n ns) (take n xs) (take n ys) n q.count

-- ---- rows that can be published, and those that can not
module _ (ns xs ys : List ℕ) {n : ℕ} (h : n ≤ capacity) {b : Bool} (t : b ≡ rows_ok (take n xs) (take n ys)) where
  pub out_of_order_lem : {e : List ℕ} → not b ≡ true → Builds ns xs ys n e false e
  out_of_order_lem z = record { answer = sym (rw (le-leb n capacity h, sym t ∙ not-true b z)); block = sym (rw (le-leb n capacity h, sym t ∙ not-true b z)) }

  pub built : not b ≡ false → {e x : List ℕ} → x ≡ block_of (take n ns) (take n xs) (take n ys) → Builds ns xs ys n e true x
  built z y = record { answer = sym (rw (le-leb n capacity h, sym t ∙ not-false b z)); block = y ∙ sym (rw (le-leb n capacity h, sym t ∙ not-false b z)) }

pub rows_of : (xs ys : List ℕ) {n : ℕ} → n ≤ capacity → {b : Bool} → b ≡ rows_ok (take n xs) (take n ys) → not b ≡ false → length xs ≡ capacity → RowsOf xs ys n
rows_of xs ys {n} h {b} t z l = record { few = h; count = length-take-le n xs (omega arith); in_order = sym t ∙ not-false b z }

pub ruleset tests = (out_of_order_lem, built, rows_of, lt-leb, rules)

pub ruleset steps = (undayed, unlinked, unchained, columns_of, days_laid, days_asked, tree_laid, filled, naming)
