use Rattle.link_reader.proofs.Filled.{Filled}
use Rattle.link_reader.proofs.items_of.Given as goal

abbrev pub invariant-loop-i : goal.invariant-loop-i
invariant-loop-i l = Filled l.base l.s l.n l.initial.p l.items l.p l.i
