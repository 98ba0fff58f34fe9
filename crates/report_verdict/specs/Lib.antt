pub mod NumberText
pub mod LineText
pub mod VerdictText
pub mod JsonText
