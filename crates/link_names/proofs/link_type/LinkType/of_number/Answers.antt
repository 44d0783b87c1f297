use borrow.Author.Tests.{ne_eqb, le-leb, lt-leb}
use Rattle.link_names.proofs.link_type.LinkType.of_number.Goals as goal

pub returns-in-0 : goal.returns-in-0
returns-in-0 c = simp c.in-0.is

pub returns-in-1 : goal.returns-in-1
returns-in-1 c = simp c.in-1.is

pub returns-in-2 : goal.returns-in-2
returns-in-2 c = simp c.in-2.is

pub returns-in-3 : goal.returns-in-3
returns-in-3 c = simp c.in-3.is
