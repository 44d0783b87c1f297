use mathlib.Core.Path.{◌≡◌}
use Rattle.rnt_parts.proofs.Inside.{provider-name-inside}
use borrow.Author.Rules.{rules}
use Rattle.rnt_parts.proofs.provider_name.Goals as goal

pub returns : goal.returns
returns c =
    let args = c.args in
    let read-provider = c.read_provider in
    let s = args.s.now in
    rw (c.provider_name_of.ensures, read-provider.ensures, provider-name-inside s args.number) at c.handed.ensures
