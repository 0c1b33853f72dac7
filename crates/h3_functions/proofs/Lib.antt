pub mod BasesLaws
pub mod Listed
