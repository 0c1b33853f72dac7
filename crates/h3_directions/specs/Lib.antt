pub mod Direction
pub mod Eisenstein
