-- The past as the entries give it, and an entry that is pushed on it. Assumes nothing.
use Rattle.basis.proofs.Prelude.{◌∙◌, ◌≡◌, ap, refl, sym, suc, zero, ℕ, List, [], ◌∷◌, length, take}
use Rattle.spell.specs.declared.Spell.{Spell}
use Rattle.model.specs.Edits.{remember}
use Rattle.journal.specs.{declared.Undo.Undo, Past.{undo, past_of, Goods}}

pub past_take : (n : ℕ) (l : List Spell) (es : List Undo) → take n (past_of l es) ≡ past_of l (take n es)
unfolding past_of
past_take zero l es = refl
past_take (suc n) l [] = refl
past_take (suc n) l (e ∷ es) = ap (λ (p : List (List Spell)). undo e l ∷ p) (past_take n (undo e l) es)

pub length_past : (l : List Spell) (es : List Undo) → length (past_of l es) ≡ length es
unfolding past_of
length_past l [] = refl
length_past l (e ∷ es) = ap suc (length_past (undo e l) es)

pub goods_take : (n : ℕ) (past : List (List Spell)) → Goods past → Goods (take n past)
unfolding Goods
goods_take zero past g = tt
goods_take (suc n) [] g = tt
goods_take (suc n) (l ∷ past) g = (g.0, goods_take n past g.1)

-- an entry that takes l' back to l, pushed: l goes to the front of the past
pub past_pushed : (e : Undo) (l l' : List Spell) (es : List Undo) → undo e l' ≡ l → past_of l' (take 64 (e ∷ es)) ≡ remember l (past_of l es)
past_pushed e l l' es back = unfold past_of remember in sym (past_take 64 l' (e ∷ es)) ∙ rw back refl
