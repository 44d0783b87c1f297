-- The laws of a link to be written: passing the checks is fitting, they answer in the order of docs/REFUSALS.md, and what is written
-- of a record that passed is accepted and read as its link.
pub mod Counted
pub mod Rows
pub mod Sizes
pub mod Carriers
pub mod Exact
pub mod Short
pub mod Putting
pub mod Parts
pub mod Bodies
pub mod Firsts
pub mod Ranking
pub mod Order
pub mod Listed
pub mod Written
pub mod Unique
