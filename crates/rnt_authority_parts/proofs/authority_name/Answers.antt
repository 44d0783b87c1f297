use mathlib.Core.Path.{◌≡◌}
use Rattle.rnt_authority_parts.proofs.Inside.{authority-name-inside}
use borrow.Author.Rules.{rules}
use Rattle.rnt_authority_parts.proofs.authority_name.Goals as goal

pub returns : goal.returns
returns c =
    let args = c.args in
    let read-authority = c.read_authority in
    let s = args.s.now in
    rw (c.authority_name_of.ensures, read-authority.ensures, authority-name-inside s args.number args.authority) at c.handed.ensures
