pub mod Counting
pub mod Places
pub mod Positions
pub mod Searching
