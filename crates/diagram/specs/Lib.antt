pub mod Calls
pub mod Chart
pub mod World
pub mod View
pub mod Made
