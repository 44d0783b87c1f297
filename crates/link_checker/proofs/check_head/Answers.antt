use Rattle.link_draft.specs.Checks.{check_head}
use borrow.Author.Rules.{rules}
use Rattle.link_checker.proofs.check_head.Goals as goal

pub returns : goal.returns
unfolding check_head
returns c =
    let first-of3 = c.first_of-2 in
    let two = c.first_of-last in
    let one = c.first_of in
    let precedence = c.narrow-precedence in
    let group = c.narrow-group in
    let reserved = c.narrow-reserved in
    let type = c.narrow-link_type in
    let term = c.narrow-term in
    let related = c.narrow-related in
    rw (c.first_of-4.ensures, c.first_of-3.ensures, first-of3.ensures, two.ensures, one.ensures, precedence.ensures, group.ensures, reserved.ensures, type.ensures, term.ensures, related.ensures)
