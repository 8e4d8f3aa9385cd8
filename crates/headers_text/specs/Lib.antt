pub mod Hex
pub mod Shows
