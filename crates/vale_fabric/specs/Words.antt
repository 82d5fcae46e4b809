-- The words that the contracts of the calls have in common, in one place.
pub use Rattle.nm_turn.specs.Numbered.{Stands}
pub use Rattle.nm_turn.specs.Passes.{HasAll, Knows, forked_view, joined_view, kept_view}
pub use Rattle.nm_turn.specs.Shares.{IsWhole}
pub use Rattle.nm_frag.specs.Parts.{slots_of_length}
pub use Rattle.nm_types.specs.Sendable.{AreFrames, fits_buffer}
pub use Rattle.std.specs.List.{list_all}
pub use Rattle.vale_book.specs.Putting.{IsPut}
pub use Rattle.vale_book.specs.Recorded.{HadRoom, Recorded}
pub use Rattle.vale_book.specs.Sending.{IsSent}
pub use Rattle.vale_book.specs.Words.{AreOf, IsCut, IsLegal, IsSingle, OffersStand, buffers_of}
pub use Rattle.vale_book.specs.Words.{dests_wanted, given_by, indices_of, items_of, lease_id}
pub use Rattle.vale_book.specs.Words.{read_ask, standing, wanted}
pub use Rattle.vale_entry.specs.Transcript.{is_refusal}
pub use Rattle.vale_fabric.specs.Fabrics.{AnswersIn, IsPassIn, MayIn, RefusesIn, before}
pub use Rattle.vale_fabric.specs.Fabrics.{fixed_in, knowing, seen_by}
pub use Rattle.vale_fabric.specs.Settling.{IsAtHand}
pub use Rattle.vale_line.specs.Leased.{contents, next_of, with_frame}
pub use Rattle.vale_steps.specs.Words.{Frame, bytes_of, frames_in}
