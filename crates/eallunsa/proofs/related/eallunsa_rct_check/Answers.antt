use mathlib.Core.Path.{◌∙◌, ap}
use Rattle.flat_sections.specs.Sections.{rct_answer}
use borrow.Author.Rules.{rules}
use Rattle.eallunsa.proofs.related.eallunsa_rct_check.Goals as goal

pub returns : goal.returns
returns c = c.of.ensures ∙ ap rct_answer c.check_section.ensures
