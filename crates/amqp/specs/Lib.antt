pub mod States
pub mod Refusals
pub mod Tags
pub mod Headers
pub mod Texts
