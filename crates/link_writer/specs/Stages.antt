-- What a private stage of the writing leaves: whatever is put behind it, the whole is as if all had been put at once. So a
-- stage may answer any place past the buffer's end where its parts have no room.
-- Assumes nothing.
use Rattle.std.specs.Prelude.{ℕ, List, ◌++◌, ◌≡◌}
use Rattle.link_draft.specs.Writing.{put_all}

-- ps were put into xs from at on, which made ys, and what is behind them goes to next
pub record Puts (xs : List ℕ) (at : ℕ) (ps : List (List ℕ)) (ys : List ℕ) (next : ℕ) : Type 0 where
  pub rest : (qs : List (List ℕ)) → put_all ys next qs ≡ put_all xs at (ps ++ qs)
