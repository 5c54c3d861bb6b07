pub mod Kinds
pub mod Interlocks
pub mod Laws
