mod Cells
mod Crosses
mod Husks
mod Lists
mod Lodging
mod Rounds
mod Walks
