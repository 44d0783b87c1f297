use mathlib.Core.Path.{◌∙◌, ap}
use Rattle.flat_answers.specs.Providers.{provider_found_answer}
use borrow.Author.Rules.{rules}
use Rattle.eallunsa.proofs.resolution.eallunsa_rnt_provider_at.Goals as goal

pub returns : goal.returns
returns c = c.of.ensures ∙ ap provider_found_answer c.read_provider.ensures
