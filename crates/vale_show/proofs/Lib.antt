mod Digits
mod Pages
mod Showing
