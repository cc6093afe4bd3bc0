-- A standing list in words of 16 bits, and the standing list of any words. Assumes nothing.
use Rattle.std.specs.Prelude.{ℕ, ◌≡◌, List, [], ◌∷◌, ◌++◌, get_or, take, drop}
use Rattle.packing.specs.Layout.{spell_width, entry_width, spells_length, journal_length, count_place, depth_place}
use Rattle.packing.specs.Blocks.{written, parts}
use Rattle.packing.specs.Words.{spell_words, spell_of}
use Rattle.journal.specs.Words.{entry_words, entry_of}
use Rattle.standing.specs.declared.Standing.{Standing}

-- the words of an array and of a journal, with the count and the depth
abbrev pub assembled : List ℕ → List ℕ → ℕ → ℕ → List ℕ
assembled a b n d = a ++ b ++ (n ∷ d ∷ [])

-- all places of the array, all places of the journal, the count and the depth
unfoldable pub packed : Standing → List ℕ
packed st = assembled (written spell_words st.spells) (written entry_words st.journal) st.count st.depth

-- the words of the array, and those of the journal behind them
abbrev pub array_in : List ℕ → List ℕ
array_in l = take spells_length l

abbrev pub journal_in : List ℕ → List ℕ
journal_in l = take journal_length (drop spells_length l)

unfoldable pub unpacked : List ℕ → Standing
unpacked l = record {
  spells = parts spell_width spell_of 1024 (array_in l);
  count = get_or l count_place 0;
  journal = parts entry_width entry_of 64 (journal_in l);
  depth = get_or l depth_place 0;
}

-- l is st in words, and reads back as st
pub record Packs (st : Standing) (l : List ℕ) : Type 0 where
  pub words : l ≡ packed st
  pub back : unpacked l ≡ st
