pub mod Products
pub mod Squares
pub mod Settling
