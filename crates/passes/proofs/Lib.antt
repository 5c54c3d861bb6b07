pub mod Rows
mod Sweeping
mod Advancing
