-- The demands: two desks, read back, rebuilt; and the laws that they stand on.
pub mod TwoDesks
pub mod ReadBack
pub mod Rebuilt
pub mod Indicator
pub mod Limit
-- what they stand on
pub mod Answers
pub mod Edits
pub mod Again
