pub mod Load
pub mod Sheets
pub mod Rows
