pub mod Few
pub mod FewLines
pub mod Pages
pub mod Reading
pub mod Sums
pub mod Names
