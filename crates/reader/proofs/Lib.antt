pub mod Agrees
pub mod Bytes
pub mod Compared
