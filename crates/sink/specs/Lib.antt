pub mod Frames
pub mod Cuts
