pub mod Answers
pub mod Credits
pub mod Exports
pub mod Fields
pub mod Forms
pub mod States
pub mod Transfers
