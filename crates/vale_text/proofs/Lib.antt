mod Entries
mod Lines
mod NameWords
mod GivingBack
mod LineReads
mod Reading
pub mod Transcripts
mod Wider
