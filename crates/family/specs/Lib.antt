pub mod Params
pub mod Laws
pub mod Meaning
pub mod Counts
pub mod Rules
