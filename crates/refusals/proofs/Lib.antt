-- Each call answers a number of the fixed list alone: the theorem of each call, by what it reads or writes.
pub mod Links
pub mod Frames
pub mod Rct
pub mod Rnt
pub mod Received
pub mod Numbers
-- what they are said with
pub mod Given
