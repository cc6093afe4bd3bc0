-- `stabbing_query::climb` meets its contract: each goal is a step of `proofs/Walking.antt`. Assumes nothing.
use Rattle.basis.proofs.Prelude.{◌-◌, ℕ}
use Rattle.stabbing_query.proofs.{Names.{Does, beside_of}, Walking.{asks_chain, linked_beside, none_beside, asks_beside, all_beside, stops, headed_up, visit_up, falls_up, asks_up, goes_up}}
use Rattle.stabbing_query.proofs.+climb.Goals.{then-l-beside, else-l-beside, Joined-l-beside}
use Rattle.stabbing_query.proofs.+climb.Goals as goal

pub returns-then-m-eq0 : goal.returns-then-m-eq0
returns-then-m-eq0 t c = search stops

-- v's chain is listed, and what is beside it
beside : (t : ℕ) (c : Joined-l-beside t) → Does c.args.index.now c.args.found.now c.args.s c.if-l-beside.found c.if-l-beside.b (beside_of c.args.index.now c.args.l (c.args.m - 1))
beside t c =
    elim c.if-l-beside.branch [
      | then-l-beside w ↦ rw (w.found-is, w.b-is) (search (all_beside, visit_up))
      | else-l-beside w ↦ rw (w.found-is, w.b-is) (search (none_beside, visit_up))
    ]

-- v's chain
pub chain-a-requires : goal.chain-a-requires
chain-a-requires t c = search (asks_chain, visit_up)

-- its left sibling
pub overflow_sub-from : goal.overflow_sub-from
overflow_sub-from t c = search (linked_beside, headed_up)

pub descend-b-requires : goal.descend-b-requires
descend-b-requires t c = search (asks_beside, visit_up)

-- its parent
pub climb-requires : goal.climb-requires
climb-requires t c =
    let d = beside t (goal.at.climb-requires t c).Joined-l-beside in
    search (falls_up, asks_up)

pub returns : goal.returns
returns t c =
    let d = beside t (goal.at.returns t c).Joined-l-beside in
    search goes_up
