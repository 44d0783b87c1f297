use Rattle.std.proofs.Common.{length}
use Rattle.descriptors.proofs.+count_front.Given as goal

-- the rest that it hands on is shorter
abbrev pub decreases-count_front : goal.decreases-count_front
decreases-count_front l = length l.s.now
