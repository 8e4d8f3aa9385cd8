pub mod Parts
pub mod Exact
pub mod Writing
pub mod Laying
pub mod Fronts
