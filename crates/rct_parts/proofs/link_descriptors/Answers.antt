use mathlib.Core.Path.{◌≡◌, ◌∙◌}
use Rattle.rct_parts.proofs.Inside.{within-within}
use borrow.Author.Rules.{rules}
use Rattle.rct_parts.proofs.link_descriptors.Goals as goal

pub returns : goal.returns
returns c =
    let p = rw c.link_body.ensures.result_value at c.descriptors.ensures in
    record { result_value = p.result_value; ref_ptr_value = p.ref_ptr_value ∙ rw c.link_body.ensures.ref_ptr_value (within-within _ _ _) }
