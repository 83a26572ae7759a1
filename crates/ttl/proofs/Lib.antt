pub mod Laws
pub mod RowLaws
pub mod TableLaws
pub mod Unique
