-- what a history keeps: it is within its limits, and memory is there for each entry promised
use Rattle.std.specs.Prelude.{◌≡◌, ◌+◌, ◌<◌, ◌≤◌, ◌^◌, length, vec_capacity}
use Rattle.vale_entry.specs.declared.history.History.TheInside.{Inside}
use Rattle.vale_entry.specs.Room.{frame_bytes}

pub record IsKept (h : Inside) : Type 0 where
  pub few : h.limits.entries < 2 ^ 32
  pub fits : length h.entries.items + h.promised ≤ h.limits.entries
  pub kept : length h.entries.items + h.promised ≤ vec_capacity h.entries
  pub bytes_are : h.bytes ≡ frame_bytes h.entries.items
  pub bytes_fit : h.bytes ≤ h.limits.bytes
