-- the frames behind a batch's one pointer
use Rattle.std.specs.Prelude.{List, [], Option, Some, None}
use Rattle.std.specs.declared.alloc.Global.{Global}
use Rattle.std.specs.declared.sync.Arc.{Arc}
use Rattle.std.specs.Arc.{arc_value}
use Rattle.nm_types.specs.declared.frame.Run.{Run}
use Rattle.nm_types.specs.Frames.{Frame}

abbrev pub frames_in : Option (Arc Run Global) → List Frame
frames_in None = []
frames_in (Some run) = arc_value run
