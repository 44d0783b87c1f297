use borrow.Author.Tests.{lt-ltb, le-ltb}
use Rattle.wire.specs.Verdict.{refuse, ◌▷◌}
use Rattle.locator.specs.Reading.{size_at, locator_verdict, locator_size}
use borrow.Author.Rules.{rules}
use Rattle.locator_reader.proofs.locator_size.Goals as goal

pub returns-then-have-lt-HEAD : goal.returns-then-have-lt-HEAD
unfolding locator_size locator_verdict refuse ◌▷◌
returns-then-have-lt-HEAD c = simp (lt-ltb _ _ c.if-have-lt-HEAD.true) (rw c.cut.ensures)

pub returns-then-have-at : goal.returns-then-have-at
unfolding locator_size locator_verdict refuse ◌▷◌
returns-then-have-at c =
    let service-end = c.service_end-at in
    let be16-at = c.be16_at-head in
    let if1 = c.if-have-lt-HEAD in
    simp (le-ltb _ _ if1.false, ← be16-at.ensures, ← service-end.ensures.0, lt-ltb _ _ c.if-have-at.true) (rw c.cut-then-have-at.ensures)

pub returns-then-have-tail : goal.returns-then-have-tail
unfolding locator_size locator_verdict refuse ◌▷◌
returns-then-have-tail c =
    let if2 = c.if-have-at in
    let service-end = c.service_end-at in
    let be16-at = c.be16_at-head in
    let if1 = c.if-have-lt-HEAD in
    simp (le-ltb _ _ if1.false, ← be16-at.ensures, ← service-end.ensures.0, le-ltb _ _ if2.false, lt-ltb _ _ c.if-have-tail.true) (rw c.cut-then-have-tail.ensures)

pub returns-then-have-used : goal.returns-then-have-used
unfolding locator_size locator_verdict refuse ◌▷◌ size_at
returns-then-have-used c =
    let tail-length = c.tail_length in
    let if3 = c.if-have-tail in
    let if2 = c.if-have-at in
    let service-end = c.service_end-at in
    let be16-at = c.be16_at-head in
    let if1 = c.if-have-lt-HEAD in
    simp (le-ltb _ _ if1.false, ← be16-at.ensures, ← service-end.ensures.0, ← tail-length.ensures.0, le-ltb _ _ if2.false, le-ltb _ _ if3.false, lt-ltb _ _ c.if-have-used.true) (rw c.cut-then-have-used.ensures)

pub returns : goal.returns
unfolding locator_size locator_verdict refuse ◌▷◌ size_at
returns c =
    let if3 = c.if-have-tail in
    let if2 = c.if-have-at in
    let service-end = c.service_end-at in
    let be16-at = c.be16_at-head in
    let if1 = c.if-have-lt-HEAD in
    simp (le-ltb _ _ if1.false, ← be16-at.ensures, ← service-end.ensures.0, ← c.tail_length.ensures.0, le-ltb _ _ if2.false, le-ltb _ _ if3.false, le-ltb _ _ c.if-have-used.false)
