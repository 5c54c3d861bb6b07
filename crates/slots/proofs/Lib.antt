mod Table
mod Trues
mod Fresh
mod Taking
mod Leaving
pub mod Free
