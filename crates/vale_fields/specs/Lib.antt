pub mod Fields
pub mod Laws
pub mod Lists
pub mod Rows
pub mod Widths
