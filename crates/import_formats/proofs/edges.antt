pub mod EdgeSteps
pub mod PlaceCuts
pub mod FieldParts
pub mod RowSteps
