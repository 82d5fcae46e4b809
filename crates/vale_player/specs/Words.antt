-- The words of other crates that the contracts have in common, in one place.
pub use Rattle.nm_turn.specs.Passes.{Knows, forked_view, joined_view, kept_view}
pub use Rattle.nm_types.specs.Limits.{buffer_bytes, most_frame_bytes}
pub use Rattle.nm_types.specs.Names.{is_monitor_name, is_pipe_name}
pub use Rattle.nm_types.specs.OwnEdits.{has_room}
pub use Rattle.nm_types.specs.OwnPorts.{port_with_id, ring_at}
pub use Rattle.nm_types.specs.declared.id.Side.TheVariants.{Tx}
pub use Rattle.nm_user.specs.Calls.{IsRefused}
pub use Rattle.nm_user.specs.Leaving.{IsLeft}
pub use Rattle.nm_user.specs.Ports.{IsWatchable}
pub use Rattle.nm_user.specs.Saving.{frames_from}
pub use Rattle.nm_user.specs.Sessions.{IsThere, SessionState}
pub use Rattle.nm_user.specs.Syncs.{IsUnsent}
pub use Rattle.vale_captures.specs.Inputs.{captured}
pub use Rattle.vale_fabric.specs.Fabrics.{IsPassIn, fixed_in, knowing}
pub use Rattle.vale_fabric.specs.Roots.{root_of}
pub use Rattle.vale_replay.specs.Edits.{field_written}
pub use Rattle.vale_replay.specs.Replay.{act_of, acts_of, has_line}
pub use Rattle.vale_replay.specs.Tasks.{FinishPort, OpenPort, PutFrame, ReadCounts, SaveFrames}
pub use Rattle.vale_replay.specs.Tasks.{SendFrames, ShutPort, TakeFrames, WatchPort, frame_of_put}
pub use Rattle.vale_replay.specs.Tasks.{most_to_play, played, tasks_of, tasks_of_lines}
pub use Rattle.vale_script.specs.Sound.{IsSoundAct, most_of}
