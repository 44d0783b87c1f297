use Rattle.flat_answers.specs.Providers.{provider_answer}
use borrow.Author.Rules.{rules}
use Rattle.flat_answers.proofs.providers.ProviderAnswer.of.Goals as goal

pub returns-in-Ok : goal.returns-in-Ok
unfolding provider_answer
returns-in-Ok c = rw (c.in-Ok.is, c.fine.ensures)

pub returns-in-Err : goal.returns-in-Err
unfolding provider_answer
returns-in-Err c = rw (c.in-Err.is, c.no_provider.ensures)
