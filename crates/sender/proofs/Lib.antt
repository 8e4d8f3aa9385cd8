pub mod Carrying
pub mod Working
pub mod Resending
pub mod Detaching
pub mod Attaching
pub mod Sending
