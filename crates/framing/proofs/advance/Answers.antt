-- `framing::advance` meets its contract. Assumes nothing.
use Rattle.framing.proofs.{Names.{arith, rules, part_of}, Steps.{line_advances, part_goes, place_in, text_goes}}
use Rattle.framing.proofs.advance.Goals as goal

pub returns-then-frame-gt0 : goal.returns-then-frame-gt0
returns-then-frame-gt0 c =
    let l = place_in c.args.line.now c.args.frame.line c.min-n.result (search rules) in
    let p = place_in c.args.payload.now c.args.frame.payload c.min-m.result (search rules) in
    let s = place_in c.args.arrived.now c.args.from c.min-start.result (search rules) in
    search (text_goes, arith)

pub returns-in_default-Some : goal.returns-in_default-Some
returns-in_default-Some c =
    let l = place_in c.args.line.now c.args.frame.line c.min-n.result (search rules) in
    let p = place_in c.args.payload.now c.args.frame.payload c.min-m.result (search rules) in
    let s = place_in c.args.arrived.now c.args.from c.min-start.result (search rules) in
    search (line_advances, arith)

pub returns-in_default-None : goal.returns-in_default-None
unfolding part_of
returns-in_default-None c =
    let l = place_in c.args.line.now c.args.frame.line c.min-n.result (search rules) in
    let p = place_in c.args.payload.now c.args.frame.payload c.min-m.result (search rules) in
    let s = place_in c.args.arrived.now c.args.from c.min-start.result (search rules) in
    search (part_goes, arith)
