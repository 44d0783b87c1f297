use mathlib.Core.Path.{◌≡◌}
use Rattle.rnt_parts.proofs.Inside.{common-inside}
use borrow.Author.Rules.{rules}
use Rattle.rnt_parts.proofs.common_descriptors.Goals as goal

pub returns : goal.returns
returns c =
    let args = c.args in
    let read-section = c.read_section in
    let s = args.s.now in
    rw (c.common_of.ensures, read-section.ensures, common-inside s) at c.handed.ensures
