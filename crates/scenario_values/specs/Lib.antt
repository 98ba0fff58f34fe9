pub mod Forms
pub mod Names
pub mod PlantShape
pub mod PlantValues
