-- The account's own answers to the program's calls, computed from its definitions. Assumes nothing.
use Rattle.basis.proofs.Prelude.{◌∙◌, ◌≡◌, ap, refl, sym, ℕ, List, [], ◌++◌, ◌∷◌, true, eqb, get_or, replicate, eq-eqb}
use lib.Ieee.{is_nan, to_bits, of_bits}
use Rattle.fields.specs.Fields.{digits_of, decimal_of}
use Rattle.spell.specs.{Order.{listed_before, earlier_of}, Listing.stands}
use Rattle.register.specs.Text.{line_text, text_onto}
use Rattle.stabbing.specs.Tree.{below, keep, count, head, next, parent, child, left_sibling, last_child, fits_at, start, on_path, formula}
use Rattle.orders.specs.Orders.{sorted_by}
use Rattle.rules.specs.Rules.{last_of}
use Rattle.model.specs.{Edits.{insert_by, enter_refusal, remember}, Publishing.published_of, Questions.{filter, comparisons_of}, Effects.settle, Model.{fresh, take_back, ask, effect_of, run}}
use Rattle.packing.specs.Blocks.{written}
use Rattle.coding.specs.Coded.{code_at, call_of, next_of, decode_from, decode}
use Rattle.replay.specs.Replayed.{Holds}

-- ---- The program's calls

-- the code of an `enter`
abbrev enter : ℕ → ℕ → ℕ → ℕ → ℕ → ℕ → List ℕ
enter number candidate first last kind value = 1 ∷ number ∷ candidate ∷ first ∷ last ∷ kind ∷ value ∷ replicate 3 0

abbrev calls : List ℕ
calls = enter 13 9 5 8 0 1 ++ enter 14 9 5 6 1 0x3F80_0000 ++ enter 13 7 1 9 0 2
    ++ (5 ∷ 1 ∷ replicate 8 0)
    ++ (7 ∷ 0 ∷ 0 ∷ 5 ∷ 0 ∷ 0 ∷ 0 ∷ 0 ∷ 3 ∷ 0 ∷ [])
    ++ (7 ∷ 0 ∷ 0 ∷ 5 ∷ 0 ∷ 0 ∷ 0 ∷ 0 ∷ 1 ∷ 0 ∷ [])
    ++ (4 ∷ replicate 9 0) ++ (6 ∷ replicate 8 0 ++ 14 ∷ []) ++ (4 ∷ replicate 9 0) ++ (4 ∷ replicate 9 0)

-- a run of them left so many answers, and these results, numbers and text
abbrev Left : ℕ → List ℕ → List ℕ → List ℕ → Type 0
Left = Holds (run fresh (decode calls [] (replicate 55 77) (replicate 5 99) (replicate 16 7))) (replicate 55 77) (replicate 5 99) (replicate 16 7)

-- ---- What it leaves

-- the results of a call that tells its refusal alone
abbrev refused : ℕ → List ℕ
refused n = n ∷ replicate 4 0

abbrev told : List ℕ
told = refused 0 ++ refused 0 ++ refused 6 ++ refused 0 ++ (0 ∷ 2 ∷ 1 ∷ 0 ∷ 0 ∷ []) ++ refused 11
    ++ refused 0 ++ (0 ∷ 0 ∷ 0 ∷ 13 ∷ 0 ∷ []) ++ refused 0 ++ refused 9 ++ replicate 5 77

abbrev listed : List ℕ
listed = 14 ∷ 13 ∷ 99 ∷ 99 ∷ 99 ∷ []

-- the text of the line "13 9 5 8 G 1", and what was there
abbrev written' : List ℕ
written' = (49 ∷ 51 ∷ 9 ∷ 57 ∷ 9 ∷ 53 ∷ 9 ∷ 56 ∷ 9 ∷ 71 ∷ 9 ∷ 49 ∷ 10 ∷ []) ++ (7 ∷ 7 ∷ 7 ∷ [])

-- how many calls are answered, and what results, numbers and text then hold
seen : Left 10 told listed written'
unfolding decode_from code_at next_of call_of written run settle effect_of take_back ask enter_refusal insert_by published_of last_of sorted_by listed_before remember earlier_of stands is_nan to_bits of_bits
    filter comparisons_of below keep count head next parent child left_sibling last_child fits_at start on_path formula text_onto line_text decimal_of digits_of
seen = record { count = refl; told = refl; listed = refl; written = refl }

-- a list that is known whole has at each place what the known one has there
at : {l known : List ℕ} (i v : ℕ) → l ≡ known → get_or known i 0 ≡ v → eqb (get_or l i 0) v ≡ true
at i v e is = eq-eqb _ v (ap (λ (l : List ℕ). get_or l i 0) e ∙ is)

-- what a run left
module _ {n : ℕ} {results' numbers' text' : List ℕ} (h : Left n results' numbers' text') where
  pub made : eqb n 10 ≡ true
  made = eq-eqb _ 10 (h.count ∙ sym seen.count)

  pub told_at : (i v : ℕ) → get_or told i 0 ≡ v → eqb (get_or results' i 0) v ≡ true
  told_at i v = at i v (h.told ∙ sym seen.told)

  pub listed_at : (i v : ℕ) → get_or listed i 0 ≡ v → eqb (get_or numbers' i 0) v ≡ true
  listed_at i v = at i v (h.listed ∙ sym seen.listed)

  pub written_at : (i v : ℕ) → get_or written' i 0 ≡ v → eqb (get_or text' i 0) v ≡ true
  written_at i v = at i v (h.written ∙ sym seen.written)
