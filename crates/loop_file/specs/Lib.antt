pub mod Orders
pub mod Lines
pub mod Verbs
pub mod Ahead
pub mod Files
pub mod Closing
pub mod Shown
