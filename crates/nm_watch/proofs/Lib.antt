pub mod Forgetting
