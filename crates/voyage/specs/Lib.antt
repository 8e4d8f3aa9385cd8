pub mod Receiving
pub mod Returns
pub mod Reports
