-- What the stage that tells a link anew is handed: nothing that a public contract cites.
-- Assumes nothing.
use Rattle.std.specs.Prelude.{ℕ, ◌≤◌, ◌<◌}
use Rattle.rct_edit.specs.Edit.{most_links}
use Rattle.rct_index.specs.Editing.{turns}

-- link k of n, or the next one, stands at q of a section that was old bytes long and is new
pub record Numbers (k n q old new : ℕ) : Type 0 where
  pub number : k < most_links
  pub count : n ≤ most_links
  pub place : q < turns
  pub before : old ≤ turns
  pub total : new ≤ turns
