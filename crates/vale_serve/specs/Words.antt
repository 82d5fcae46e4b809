-- The words that the contracts of the calls have in common, in one place.
pub use Rattle.vale_entry.specs.World.{open_port}
pub use Rattle.vale_entry.specs.Legal.{IsLegal}
pub use Rattle.vale_book.specs.Recorded.{standing}
pub use Rattle.vale_serve.specs.Serving.{IsServed}
pub use Rattle.vale_serve.specs.Users.{IsMemory, IsMine, IsUser, SameUser, contents}
