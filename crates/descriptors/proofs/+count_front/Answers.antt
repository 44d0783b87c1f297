use Rattle.std.proofs.Common.{arith}
use Rattle.descriptors.proofs.Walks.{front-none, front_cut, front-more, front-most}
use Rattle.descriptors.proofs.+count_front.Goals as goal

pub returns-then-most-eq0 : goal.returns-then-most-eq0
returns-then-most-eq0 t c = front-none _ c.args.s.now c.if-most-eq0.true

pub returns-then-have-size : goal.returns-then-have-size
returns-then-have-size t c = front_cut _ c.args.s.now (omega (arith, c.front_size-size.ensures))

pub overflow_add-count : goal.overflow_add-count
overflow_add-count t c = omega (arith, front-most _ _ _ c.count_front-rest.ensures)

pub returns : goal.returns
returns t c = front-more _ _ _ _ (omega arith) c.front_size-size.ensures c.if-have-size.false c.count_front-rest.ensures
