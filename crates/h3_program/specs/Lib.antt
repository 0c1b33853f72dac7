pub mod NamedFile
pub mod Program
pub mod Retried
