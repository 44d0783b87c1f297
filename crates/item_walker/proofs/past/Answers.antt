use Rattle.item_walker.proofs.Stages.{item-12, item-13, item-past}
use Rattle.item_walker.proofs.past.Goals as goal

pub returns-then-have-head : goal.returns-then-have-head
returns-then-have-head c =
    let args = c.args in
    item-12 args.s.now args.p c.if-have-head.true

pub returns-then-have-end : goal.returns-then-have-end
returns-then-have-end c =
    let args = c.args in
    let if1 = c.if-have-head in
    let e = c.wide.ensures.0 in
    rw e (item-13 args.s.now args.p if1.false (rw e at c.if-have-end.true))

pub returns : goal.returns
returns c =
    let args = c.args in
    let if1 = c.if-have-head in
    let e = c.wide.ensures.0 in
    rw e (item-past args.s.now args.p if1.false (rw e at c.if-have-end.false))
