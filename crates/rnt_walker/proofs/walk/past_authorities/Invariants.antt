use Prim.Native.Nat.{◌-◌}
use mathlib.Core.Path.{◌≡◌, refl, sym, ◌∙◌}
use native.Mathlib.Omega.{arith}
use Rattle.wire.proofs.Verdicts.{reached-at, reached-refused}
use Rattle.wire.specs.Runs.{places_to}
use Rattle.rnt.specs.Reading.{named_end, authority_verdict}
use Rattle.rnt.proofs.Names.{named-up, named-passed}
use Rattle.rnt_heads.proofs.HeadLaws.{end-told}
use Rattle.rnt_walker.proofs.Walks.{at-counted, refused-counted, Sought, sought-start, Walking, walk_start, walk-on, walk-stop, walk_fine, walk-number, place-on, place_end}
use borrow.Author.Rules.{rules}
use Rattle.rnt_walker.proofs.walk.past_authorities.Given as goal

abbrev pub invariant-loop-p : goal.invariant-loop-p
invariant-loop-p l = Walking (named_end l.s) (named-up l.s) (authority_verdict l.s l.e) l.e l.at l.p l.i × Sought (places_to (named_end l.s) l.e l.at) l.number l.i l.place (places_to (named_end l.s) l.e l.p)

abbrev pub decreases-loop-p : goal.decreases-loop-p
decreases-loop-p l = l.e - l.p
