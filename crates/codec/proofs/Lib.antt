pub mod Closing
pub mod Meanings
pub mod Short
