-- The laws of the index: what it tells of each link, what an edit makes of it, which numbers building answers; and that each public
-- contract leaves one outcome.
pub mod Marks
pub mod Members
pub mod Places
pub mod Nothing
pub mod BroughtUp
pub mod Anew
pub mod Built
pub mod Unique
