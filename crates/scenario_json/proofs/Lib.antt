pub mod Keys
pub mod ListLaws
pub mod JsonLaws
pub mod FieldLaws
