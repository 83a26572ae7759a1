pub mod Chain
pub mod LayoutLaws
pub mod MoreLaws
pub mod QuirkLaws
pub mod Unique
pub mod WholeLine
