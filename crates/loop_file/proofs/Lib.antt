pub mod Next
pub mod Three
pub mod Spaced
pub mod Verbs
pub mod Unique
pub mod Turns
pub mod Writes
