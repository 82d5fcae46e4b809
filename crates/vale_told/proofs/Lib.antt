mod CountersTold
mod Listing
mod PipeEnds
mod Telling
pub mod Tracing
