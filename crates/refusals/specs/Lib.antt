-- The numbers of the fixed list.
pub mod FixedList
