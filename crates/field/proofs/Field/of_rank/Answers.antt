use borrow.Author.Rules.{rules}
use borrow.Author.Tests.{eq-eqb, ne_eqb, le-leb, lt-leb}
use Rattle.field.proofs.Field.of_rank.Goals as goal

pub returns-then-rank-eq0 : goal.returns-then-rank-eq0
returns-then-rank-eq0 c = simp (eq-eqb _ _ c.if-rank-eq0.true)

pub returns-then-i-ge-LAST_RANK : goal.returns-then-i-ge-LAST_RANK
returns-then-i-ge-LAST_RANK c = simp (ne_eqb _ _ c.if-rank-eq0.false, le-leb _ _ c.if-i-ge-LAST_RANK.true)

pub returns : goal.returns
returns c =
    let if1 = c.if-rank-eq0 in
    simp (ne_eqb _ _ if1.false, lt-leb _ _ c.if-i-ge-LAST_RANK.false)
