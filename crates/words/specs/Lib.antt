pub mod Parts
pub mod Left
pub mod Names
pub mod Words
