pub mod Fields
pub mod ReadingFields
pub mod Listed
pub mod FieldSizes
pub mod Written
