use mathlib.Core.Path.{◌≡◌}
use Rattle.rnt_parts.proofs.Inside.{provider-descriptors-inside}
use borrow.Author.Rules.{rules}
use Rattle.rnt_parts.proofs.provider_descriptors.Goals as goal

pub returns : goal.returns
returns c =
    let args = c.args in
    let read-provider = c.read_provider in
    let s = args.s.now in
    rw (c.provider_descriptors_of.ensures, read-provider.ensures, provider-descriptors-inside s args.number) at c.handed.ensures
