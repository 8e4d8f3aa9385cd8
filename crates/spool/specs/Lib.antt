pub mod Records
pub mod Reading
pub mod Exact
pub mod Told
pub mod Memories
pub mod Spools
