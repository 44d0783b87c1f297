use Rattle.link.specs.Answers.{last_place, told}
use lib.Seq.{take_all, length-take-le}
use mathlib.Core.Path.{refl, sym}
use native.Mathlib.Omega.{arith}
use Rattle.link_reader.proofs.told.Goals as goal

pub returns-then-s-le-LAST : goal.returns-then-s-le-LAST
unfolding told
returns-then-s-le-LAST c = sym (take_all last_place c.args.s.now c.if-s-le-LAST.true)

pub slice_bounds-result-end : goal.slice_bounds-result-end
slice_bounds-result-end c =
    let args = c.args in
    let h = c.if-s-le-LAST.false in
    sym (length-take-le last_place args.s.now (omega arith))

pub returns : goal.returns
unfolding told
returns c = refl
