use mathlib.Core.Path.{sym, ap, ◌∙◌}
use Rattle.wire.proofs.Verdicts.{handed-on}
use Rattle.link.specs.Records.{fields_at}
use Rattle.link.specs.declared.LinkFields.{LinkFields}
use Rattle.link.proofs.Answers.{fields_had, link-filled, link-refused}
use borrow.Author.Rules.{rules}
use Rattle.link_reader.proofs.read_link.Goals as goal

pub items_of-requires : goal.items_of-requires
unfolding fields_at
items_of-requires c =
    let args = c.args in
    let h = fields_had args.base args.reserved args.s.now _ _ (sym c.read_fields.ensures ∙ c.in_ok-read.was) in
    (h.fine, ap (λ (k : LinkFields). k.number_items) h.fields, h.place)

pub returns : goal.returns
returns c =
    let args = c.args in
    link-filled args.base args.reserved args.s.now _ _ _ (sym c.read_fields.ensures ∙ c.in_ok-read.was) c.items_of.ensures

pub returns-in_err-read : goal.returns-in_err-read
returns-in_err-read c =
    let args = c.args in
    handed-on _ _ c.from_residual.ensures ∙ link-refused args.base args.reserved args.s.now _ (sym c.read_fields.ensures ∙ c.in_err-read.was)
