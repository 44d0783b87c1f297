use native.Mathlib.Omega.{arith}
use borrow.Author.Rules.{rules}
use Rattle.locator_reader.proofs.service_at.Goals as goal

pub be16_at-requires : goal.be16_at-requires
be16_at-requires c =
    let inline = c.inline in
    let pre = c.requires in
    omega (arith, simp (← inline.ensures, c.if-inline.true) at pre)

pub be16_at-requires-then-inline : goal.be16_at-requires-then-inline
be16_at-requires-then-inline c =
    let if1 = c.if-inline in
    let inline = c.inline in
    let pre = c.requires in
    omega (arith, simp (← inline.ensures, if1.true) at pre)

pub be16_at-requires-then-inline-2 : goal.be16_at-requires-then-inline-2
be16_at-requires-then-inline-2 c =
    let if1 = c.if-inline in
    let inline = c.inline in
    let pre = c.requires in
    omega (arith, simp (← inline.ensures, if1.true) at pre)

pub be16_at-requires-else-inline : goal.be16_at-requires-else-inline
be16_at-requires-else-inline c =
    let pre = c.requires in
    omega (arith, simp (← c.inline.ensures, c.if-inline.false) at pre)

pub returns-then-inline : goal.returns-then-inline
returns-then-inline c =
    let be16-at2 = c.be16_at-then-inline in
    let be16-at = c.be16_at in
    let low = c.low in
    let if1 = c.if-inline in
    let inline = c.inline in
    simp (← inline.ensures, if1.true) (rw (c.with_reserved.ensures, c.be16_at-then-inline-2.ensures, be16-at2.ensures, be16-at.ensures, low.ensures))

pub returns-else-inline : goal.returns-else-inline
returns-else-inline c =
    let if1 = c.if-inline in
    let inline = c.inline in
    simp (← inline.ensures, if1.false) (rw (c.low-else-inline.ensures, c.be16_at-else-inline.ensures))
