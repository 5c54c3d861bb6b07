pub mod Book
pub mod View
pub mod Lines
pub mod Desks
pub mod Scans
pub mod Runs
pub mod Reports
