use Rattle.link.proofs.Answers.{fields-fine}
use borrow.Author.Rules.{rules}
use Rattle.fields_reader.proofs.fields_got.Goals as goal

pub returns : goal.returns
returns c =
    let args = c.args in
    let pre = c.requires in
    rw (c.fields_at.ensures, pre.1.count) (fields-fine args.base args.reserved args.s.now pre.0)
