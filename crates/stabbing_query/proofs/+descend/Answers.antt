-- `stabbing_query::descend` meets its contract: each goal is a step of `proofs/Walking.antt`, taken for w and for its last child c. Assumes
-- nothing.
use Rattle.basis.proofs.Prelude.{◌+◌, ◌-◌, ℕ, rules}
use Rattle.stabbing_query.proofs.{Names.{Does, below_of}, Walking.{linked_below, headed_below, word_below, linked_beside, asks_chain, none_beside, all_beside, none_below, asks_below, all_below_lem, visit, stepped, calls_beside, calls_deep, calls_aside}}
use Rattle.stabbing_query.proofs.+descend.Goals.{then-l-deep, else-l-deep, then-l-below+then-l-near, then-l-below+else-l-near, else-l-below}
use Rattle.stabbing_query.proofs.+descend.Goals.{After-chain-arg-1, After-chain-arg-2-1}
use Rattle.stabbing_query.proofs.+descend.Goals as goal

-- what is below w's last child is listed
deep : (t : ℕ) (c : After-chain-arg-1 t) → Does c.args.index.now c.args.found.now (c.args.s + c.comparison.result) c.if-l-deep.found c.if-l-deep.b (below_of c.args.index.now c.args.l (c.from-c.result - 1))
deep t c =
    elim c.if-l-deep.branch [
      | then-l-deep w ↦ rw (w.found-is, w.b-is) (search (all_below_lem, asks_below))
      | else-l-deep w ↦ rw (w.found-is, w.b-is) (search (none_below, asks_below))
    ]

-- what is below w is listed, by each arm
below : (t : ℕ) (c : After-chain-arg-2-1 t) → Does c.args.index.now c.args.found.now c.args.s c.if-l-below.found c.if-l-below.a (below_of c.args.index.now c.args.l c.args.w)
below t c =
    elim c.if-l-below.branch [
      | then-l-below+then-l-near w ↦
          let d : Does c.args.index.now c.args.found.now (c.args.s + c.comparison.result) w.if-l-deep.found w.if-l-deep.b (below_of c.args.index.now c.args.l (w.from-c.result - 1)) =
          elim w.if-l-deep.branch [
            | then-l-deep v ↦ rw (v.found-is, v.b-is) (search (all_below_lem, asks_below))
            | else-l-deep v ↦ rw (v.found-is, v.b-is) (search (none_below, asks_below))
          ] in
          rw (w.found-is, w.a-is) (search (all_below_lem, stepped, asks_below, visit, all_beside))
      | then-l-below+else-l-near w ↦
          let d : Does c.args.index.now c.args.found.now (c.args.s + c.comparison.result) w.if-l-deep.found w.if-l-deep.b (below_of c.args.index.now c.args.l (w.from-c.result - 1)) =
          elim w.if-l-deep.branch [
            | then-l-deep v ↦ rw (v.found-is, v.b-is) (search (all_below_lem, asks_below))
            | else-l-deep v ↦ rw (v.found-is, v.b-is) (search (none_below, asks_below))
          ] in
          rw (w.found-is, w.a-is) (search (all_below_lem, stepped, asks_below, visit, none_beside))
      | else-l-below w ↦ rw (w.found-is, w.a-is) (search none_below)
    ]

pub bounds-index-c : goal.bounds-index-c
bounds-index-c t c = search (word_below, rules)

pub overflow_sub-from : goal.overflow_sub-from
overflow_sub-from t c = search (linked_below, headed_below)

pub descend-b-requires : goal.descend-b-requires
descend-b-requires t c = calls_deep _ c.requires (search) (search) c.from-c.ensures c.decreases (search) (search) c.from.ensures

pub chain-d-requires : goal.chain-d-requires
chain-d-requires t c =
    let d = deep t c in
    search (asks_chain, visit, asks_below)

pub bounds-index-c-then-l-below : goal.bounds-index-c-then-l-below
bounds-index-c-then-l-below t c = search (word_below, rules)

pub overflow_sub-from-then-l-near : goal.overflow_sub-from-then-l-near
overflow_sub-from-then-l-near t c = search (linked_beside, headed_below)

pub descend-a-requires : goal.descend-a-requires
descend-a-requires t c =
    let d = deep t (goal.at.descend-a-requires t c).After-chain-arg-1 in
    calls_aside _ c.requires (search) (search) c.from-c.ensures c.decreases d c.chain-d.ensures (search) (search) c.from-then-l-near.ensures

pub chain-e-requires : goal.chain-e-requires
chain-e-requires t c =
    let d = below t c in
    search (asks_chain, visit)

pub returns-then-beside-l : goal.returns-then-beside-l
returns-then-beside-l t c =
    let d = below t (goal.at.returns-then-beside-l t c).After-chain-arg-2-1 in
    search (stepped, none_beside, visit)

pub descend-requires : goal.descend-requires
descend-requires t c =
    let d = below t (goal.at.descend-requires t c).After-chain-arg-2-1 in
    calls_beside _ c.requires d c.chain-e.ensures (search) (search) c.from-2.ensures c.decreases

pub returns : goal.returns
returns t c =
    let d = below t (goal.at.returns t c).After-chain-arg-2-1 in
    search (stepped, all_beside, visit)
