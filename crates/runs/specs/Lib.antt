pub mod Runs
pub mod Lives
pub mod Frames
pub mod Safe
