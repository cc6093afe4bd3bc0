-- A standing list with no past: that of a fresh start, and that of a register text. Assumes nothing.
use Rattle.basis.proofs.Prelude.{◌≡◌, refl, ℕ, List, [], length-replicate, arith}
use Rattle.standing.proofs.{Names.{over_blank, orderly_none, text_order, Good, Goods, Sound, Fresh, past_of, Register, good, bad, read_text, blank, reading_of, written_read, begun, Standing, fresh_standing, loaded_of, Wf, list_of, pasts, after_reading}, Places.{list_over, past_over, wf_over}}

pub fresh_is : Fresh fresh_standing
unfolding past_of Goods
fresh_is = search (length-replicate, orderly_none text_order Sound, arith)

-- the standing list and the past with which the account begins
pub record Loads (g : Register) (st : Standing) : Type 0 where
  pub wf : Wf st
  pub list : list_of st ≡ (begun g).standing
  pub past : pasts st ≡ (begun g).past
  pub whole : st ≡ after_reading g

pub loads : (text : List ℕ) (g : Register) → read_text text ≡ g → Loads g (loaded_of (reading_of g))
unfolding reading_of begun past_of Goods
loads text (good l) e =
    let good : Good l = (written_read text l e).1 in
    rw (← over_blank l 1024 blank good.few) (record { wf = wf_over fresh_standing l [] fresh_is.wf good (omega arith) tt; list = list_over fresh_standing l []; past = past_over fresh_standing l []; whole = refl })
loads text (bad n line) e = record { wf = fresh_is.wf; list = refl; past = refl; whole = refl }
