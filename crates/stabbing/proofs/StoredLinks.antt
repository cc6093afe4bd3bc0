-- The links of any index that publish leaves, as they are stored: a word of 16 bits each. Assumes nothing.
use Rattle.stabbing.proofs.{Block.{fs_rows, place, word_at, words_long}, Marking.{child_small, head_link_lem, left_small, next_small, parent_small, row_link_lem, row_past}, Names.{Block, List, ◌*◌, ◌++◌, ◌+◌, ◌<◌, ◌∙◌, ◌≡◌, ◌≤◌, arith, capacity, child_column, drop, false, firsts, get_or, head, head_link, last_child, lasts, le-ltb, left_column, left_sibling, length, length-append, length-drop, length-take, lt-ltb, next, next_column, parent, parent_column, rows, take, true, ℕ}}

-- A column of links of heads: at a head the definition's mark, which is 0 where it has none; 0 at a row that is no head, and past the rows;
-- every mark at most 1,024
pub record HeadLinks (ix : List ℕ) (base : ℕ) (link : ℕ → ℕ) : Type 0 where
  pub heads : (p : ℕ) → p < rows ix → head (firsts ix) (lasts ix) p ≡ true → get_or ix (p + base) 0 ≡ link p
  pub others : (p : ℕ) → p < rows ix → head (firsts ix) (lasts ix) p ≡ false → get_or ix (p + base) 0 ≡ 0
  pub past : (p : ℕ) → rows ix ≤ p → p < capacity → get_or ix (p + base) 0 ≡ 0
  pub marks : (p : ℕ) → p < capacity → get_or ix (p + base) 0 ≤ capacity

-- one of links of rows: of every row the definition's mark
pub record RowLinks (ix : List ℕ) (base : ℕ) (link : ℕ → ℕ) : Type 0 where
  pub all : (p : ℕ) → p < rows ix → get_or ix (p + base) 0 ≡ link p
  pub past : (p : ℕ) → rows ix ≤ p → p < capacity → get_or ix (p + base) 0 ≡ 0
  pub marks : (p : ℕ) → p < capacity → get_or ix (p + base) 0 ≤ capacity

-- the words of a column, and of the four
abbrev pub column_of : List ℕ → ℕ → List ℕ
column_of ix base = take capacity (drop base ix)

abbrev pub links_of : List ℕ → List ℕ
links_of ix = column_of ix parent_column ++ column_of ix left_column ++ column_of ix child_column ++ column_of ix next_column

pub record StoredLinks (ix : List ℕ) : Type 0 where
  pub parents : HeadLinks ix parent_column (parent (firsts ix) (lasts ix))
  pub lefts : HeadLinks ix left_column (left_sibling (firsts ix) (lasts ix))
  pub children : HeadLinks ix child_column (last_child (firsts ix) (lasts ix))
  pub nexts : RowLinks ix next_column (next (firsts ix) (lasts ix))
  -- 4,096 words of two bytes
  pub words : length (links_of ix) ≡ 4096
  pub bytes : 2 * length (links_of ix) ≡ 8192

module _ (ix : List ℕ) (b : Block ix) where
  head_links : (base : ℕ) (link : ℕ → ℕ) → ((p : ℕ) → p < capacity → get_or ix (p + base) 0 ≡ head_link (firsts ix) (lasts ix) link p) → ((p : ℕ) → head_link (firsts ix) (lasts ix) link p ≤ length (firsts ix)) → HeadLinks ix base link
  head_links base link word small = let n = fs_rows ix b in let few = b.few in record {
    heads = λ p h hp. word p (omega arith) ∙ head_link_lem (firsts ix) (lasts ix) link p (omega arith) hp;
    others = λ p h hp. word p (omega arith) ∙ rw (lt-ltb p (length (firsts ix)) (omega arith), hp);
    past = λ p h g. word p g ∙ rw (le-ltb p (length (firsts ix)) (omega arith));
    marks = λ p h. omega (arith, word p h, small p);
  }

  pub stored_links : StoredLinks ix
  unfolding place
  stored_links = let n = fs_rows ix b in let few = b.few in
      let long : length (links_of ix) ≡ 4096 = simp (length-append, length-take, length-drop, words_long ix b) in record {
        parents = head_links parent_column _ (λ p h. word_at ix b 3 p (omega arith) h) (parent_small (firsts ix) (lasts ix));
        lefts = head_links left_column _ (λ p h. word_at ix b 4 p (omega arith) h) (left_small (firsts ix) (lasts ix));
        children = head_links child_column _ (λ p h. word_at ix b 6 p (omega arith) h) (child_small (firsts ix) (lasts ix));
        nexts = record {
          all = λ p h. word_at ix b 8 p (omega arith) (omega arith) ∙ row_link_lem (firsts ix) (lasts ix) (next (firsts ix) (lasts ix)) p (omega arith);
          past = λ p h g. word_at ix b 8 p (omega arith) g ∙ row_past (firsts ix) (lasts ix) (next (firsts ix) (lasts ix)) p (omega arith);
          marks = λ p h. omega (arith, word_at ix b 8 p (omega arith) h, next_small (firsts ix) (lasts ix) p);
        };
        words = long;
        bytes = rw long;
      }
