use mathlib.Core.Path.{◌≡◌}
use Rattle.rnt_authority_parts.proofs.Inside.{authority-descriptors-inside}
use borrow.Author.Rules.{rules}
use Rattle.rnt_authority_parts.proofs.authority_descriptors.Goals as goal

pub returns : goal.returns
returns c =
    let args = c.args in
    let read-authority = c.read_authority in
    let s = args.s.now in
    rw (c.authority_descriptors_of.ensures, read-authority.ensures, authority-descriptors-inside s args.number args.authority) at c.handed.ensures
