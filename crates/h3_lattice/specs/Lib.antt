pub mod Class
pub mod Digits
pub mod Examples
pub mod Expansion
pub mod Laws
pub mod Moved
