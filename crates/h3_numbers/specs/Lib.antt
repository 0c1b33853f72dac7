pub mod Examples
pub mod Laws
pub mod Number
pub mod Reading
pub mod Sum
pub mod Writing
