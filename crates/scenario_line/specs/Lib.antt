pub mod EventLine
pub mod PlantLine
pub mod NamesAndTimes
pub mod KnownLines
pub mod PlainLine
