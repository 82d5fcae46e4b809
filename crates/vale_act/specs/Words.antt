-- The words of other crates that the contracts of a script's run have in common, in one place.
pub use Rattle.nm_turn.specs.Numbered.{numbered}
pub use Rattle.nm_turn.specs.Shares.{IsWhole}
pub use Rattle.vale_captures.specs.Inputs.{frames_of, name_of}
pub use Rattle.vale_captures.specs.Outputs.{IsShortRecord, IsWritable}
pub use Rattle.vale_entry.specs.declared.entry.Entry.{Entry}
pub use Rattle.vale_fabric.specs.Fabrics.{IsPassIn, fixed_in, knowing}
pub use Rattle.vale_player.specs.Deeds.{AllSaveNamed, AreDoable, IsDoable, SavesNamed}
pub use Rattle.vale_player.specs.Inputs.{captures_of, names_of, records_in}
pub use Rattle.vale_player.specs.Kept.{AreWhole, Keeps, KeepsAll, KeepsMore, KeepsWhole, KeptFrames}
pub use Rattle.vale_replay.specs.Machine.{Machine}
pub use Rattle.vale_replay.specs.Replay.{act_of, shares_of, user_count}
pub use Rattle.vale_replay.specs.Saved.{acts_of_unit, saved_file, saves_of}
pub use Rattle.vale_script.specs.Sound.{IsSound}
