pub mod Kept
pub mod Places
pub mod Deals
mod Ranking
pub mod Standing
pub mod Index
pub mod Rings
pub mod Whole
pub mod Wires
pub mod Pigeon
pub mod Insert
pub mod Remove
pub mod Rewire
pub mod Passes
pub mod Counts
pub mod Orders
pub mod Stays
