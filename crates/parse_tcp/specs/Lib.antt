pub mod LineParts
pub mod RowPieces
