-- The laws of making, appending and replacing, demands 2 and 3 among them; which numbers the calls can answer, and in which
-- order; and that each public contract leaves one outcome.
pub mod Records
pub mod Outcomes
pub mod Placed
pub mod Calls
pub mod WithRow
pub mod BodyRow
pub mod Listed
pub mod Rows
pub mod Order
pub mod MakingOrder
pub mod ReadsBack
pub mod TwoOrders
pub mod Rebuilt
pub mod Locality
pub mod Written
pub mod PlacedAt
pub mod Assembled
pub mod Narrow
pub mod Carriers
pub mod Unique
