-- `decimals::put_decimal` meets its contract. Assumes nothing.
use Rattle.decimals.proofs.{Names.{arith}, Puts.{digits_all, digits_none, digits_room, digits_step}}
use Rattle.decimals.proofs.put_decimal.Goals as goal

pub loop-v-init : goal.loop-v-init
loop-v-init c = search (digits_none, arith)

pub overflow_sub-i-in-loop-v : goal.overflow_sub-i-in-loop-v
overflow_sub-i-in-loop-v c = search digits_room

pub loop-v-preserved : goal.loop-v-preserved
loop-v-preserved c = search (digits_step, arith)

pub overflow_sub-i-2 : goal.overflow_sub-i-2
overflow_sub-i-2 c = search digits_room

pub returns : goal.returns
returns c = search (digits_all, arith)
