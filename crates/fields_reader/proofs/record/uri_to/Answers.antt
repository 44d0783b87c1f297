use Rattle.fields_reader.specs.Stages.{uri_to}
use borrow.Author.Rules.{rules}
use borrow.Author.Tests.{lt-ltb, le-ltb}
use Rattle.fields_reader.proofs.record.uri_to.Goals as goal

pub returns-then-uri_end-lt-URI_START : goal.returns-then-uri_end-lt-URI_START
unfolding uri_to
returns-then-uri_end-lt-URI_START c = rw (lt-ltb _ _ c.if-uri_end-lt-URI_START.true)

pub returns : goal.returns
unfolding uri_to
returns c = rw (le-ltb _ _ c.if-uri_end-lt-URI_START.false)
