pub mod Cargoes
