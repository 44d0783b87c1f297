use borrow.Author.Tests.{lt-ltb, le-ltb, le-leb, lt-leb}
use Rattle.rct_index_updater.proofs.are_numbers.Goals as goal

pub returns-then-number-ge-MOST_LINKS : goal.returns-then-number-ge-MOST_LINKS
returns-then-number-ge-MOST_LINKS c = rw (le-ltb _ _ c.if-number-ge-MOST_LINKS.true)

pub returns-then-count-gt-MOST_LINKS : goal.returns-then-count-gt-MOST_LINKS
returns-then-count-gt-MOST_LINKS c = rw (lt-ltb _ _ c.if-number-ge-MOST_LINKS.false, lt-leb _ _ c.if-count-gt-MOST_LINKS.true)

pub returns-then-at-ge-TURNS : goal.returns-then-at-ge-TURNS
returns-then-at-ge-TURNS c = rw (lt-ltb _ _ c.if-number-ge-MOST_LINKS.false, le-leb _ _ c.if-count-gt-MOST_LINKS.false, le-ltb _ _ c.if-at-ge-TURNS.true)

pub returns-then-old-gt-TURNS : goal.returns-then-old-gt-TURNS
returns-then-old-gt-TURNS c = rw (lt-ltb _ _ c.if-number-ge-MOST_LINKS.false, le-leb _ _ c.if-count-gt-MOST_LINKS.false, lt-ltb _ _ c.if-at-ge-TURNS.false, lt-leb _ _ c.if-old-gt-TURNS.true)

pub returns : goal.returns
returns c = rw (lt-ltb _ _ c.if-number-ge-MOST_LINKS.false, le-leb _ _ c.if-count-gt-MOST_LINKS.false, lt-ltb _ _ c.if-at-ge-TURNS.false, le-leb _ _ c.if-old-gt-TURNS.false)
