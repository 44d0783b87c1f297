use Rattle.rct_indexer.proofs.Walks.{Walking}
use Rattle.rct_indexer.proofs.index_payload.Given as goal

abbrev pub invariant-loop-k : goal.invariant-loop-k
invariant-loop-k l = Walking l.payload l.links l.k l.at l.sets l.places
