pub mod Ledger
pub mod Tables
pub mod View
