-- Where a payload that is handed in ends.
pub mod Ends
