pub mod CarryLaws
pub mod DivisionLaws
pub mod EntryLaws
pub mod ExpansionLaws
pub mod LinearLaws
pub mod SumLaws
pub mod TurnLaws
