pub mod Plan
pub mod World
pub mod Law
pub mod Begun
