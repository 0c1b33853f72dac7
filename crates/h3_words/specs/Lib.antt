pub mod Call
pub mod Commands
mod Examples
pub mod Faults
pub mod Given
pub mod Options
pub mod Parse
pub mod Rows
pub mod Values
pub mod Version
