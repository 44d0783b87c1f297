use mathlib.Core.Path.{sym}
use borrow.Author.Tests.{not-true, not-false}
use Rattle.section_header.proofs.HeaderLaws.{header-unindicated, header-ranks}
use borrow.Author.Rules.{rules}
use Rattle.header_checker.proofs.check_header.Goals as goal

pub returns-then-not-header : goal.returns-then-not-header
returns-then-not-header c =
    let args = c.args in
    sym (header-unindicated args.header (not-true _ c.if-not-header.true))

pub returns : goal.returns
returns c =
    let check3 = c.check in
    let check = c.check-version in
    let check2 = c.check-reserved in
    let args = c.args in
    let if1 = c.if-not-header in
    rw (c.first_of-2.ensures, check3.ensures, c.first_of.ensures, check.ensures, check2.ensures) (sym (header-ranks args.header (not-false _ if1.false)))
