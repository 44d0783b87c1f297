-- Demand 3: two desks replace two links, each with a text of its own, in either order.
-- Assumes nothing.
use Prim.Native.Nat.{ℕ, ◌≤◌}
use mathlib.Core.Path.{◌≡◌}
use mathlib.Core.Logic.{◌≢◌}
use mathlib.Core.List.{List}
use lib.ListN.{length}
use Rattle.wire.specs.Lists.{Bytes}
use Rattle.link.specs.Records.{link_of}
use Rattle.link.specs.declared.LinkInfo.{LinkInfo}
use Rattle.link_draft.specs.Carried.{Carried}
use Rattle.link_draft.specs.Checks.{check_link}
use Rattle.link_draft.proofs.Exact.{check-fits}
use Rattle.frame.specs.Syntax.{limit}
use Rattle.rct.specs.Syntax.{section_length, full_length}
use Rattle.rct.specs.Reading.{section_at}
use Rattle.rct_edit.specs.Edit.{with_link}
use Rattle.rct_edit.specs.Calls.{replacing}
use Rattle.rct_edit.proofs.TwoOrders.{Ends, two-orders}
use Rattle.wire.specs.Verdict.{Fine}

pub two-desks : (xs : List ℕ) (k j : ℕ) (t u : List ℕ) (a b : LinkInfo) → Bytes xs → Bytes t → Bytes u → Carried a → Carried b → k ≢ j
    → (replacing xs k t a).verdict ≡ Fine
    → (replacing xs j u b).verdict ≡ Fine
    → section_length (with_link (with_link (section_at xs) k (link_of t a)) j (link_of u b)) ≤ limit
    → full_length (with_link (with_link (section_at xs) k (link_of t a)) j (link_of u b)) ≤ length xs
    → Ends (with_link (with_link (section_at xs) k (link_of t a)) j (link_of u b)) (replacing (replacing xs k t a).buffer j u b)
    × Ends (with_link (with_link (section_at xs) k (link_of t a)) j (link_of u b)) (replacing (replacing xs j u b).buffer k t a)
unfolding replacing
two-desks xs k j t u a b bx bt bu ca cb n =
    two-orders xs k j (check_link t a) (check_link u b) (link_of t a) (link_of u b) bx n (check-fits t a bt ca) (check-fits u b bu cb)
