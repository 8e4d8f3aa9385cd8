pub mod Berths
