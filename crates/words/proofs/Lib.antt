pub mod Steps
pub mod Readers
pub mod Numerals
