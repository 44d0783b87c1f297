-- The numbers that a class has: all from a first to a last one.
-- Assumes nothing.
use Rattle.std.specs.Prelude.{ℕ, ◌≤◌}
use Rattle.link_names.specs.declared.Numbers.{Numbers}

abbrev pub from-to : ℕ → ℕ → Numbers
from-to a b = record { first = a; last = b }

-- one number alone
abbrev pub only : ℕ → Numbers
only n = from-to n n

abbrev pub Among : ℕ → Numbers → Type 0
Among n r = (r.first ≤ n) × (n ≤ r.last)
