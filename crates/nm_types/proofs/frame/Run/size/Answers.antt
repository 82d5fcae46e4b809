use Rattle.std.proofs.Common.{◌≡◌, ◌∙◌, length, arith}
use Rattle.nm_types.specs.Ends.{frames_from}
use Rattle.nm_types.specs.Frames.{bytes_of_frames}
use Rattle.nm_types.proofs.Places.{frames_size}
use Rattle.nm_types.proofs.frame.Run.size.Goals as goal

pub returns : goal.returns
returns c =
    let bytes = c.self.inside.bytes.items in
    let ends = c.self.inside.ends.items in
    let marks = c.self.inside.marks.items in
    let all = frames_size bytes ends marks 0 c.self.invariant.cut in
    let same : length bytes ≡ bytes_of_frames (frames_from bytes ends marks 0) = omega (arith, all) in
    rw (← c.self.view_is) (c.len.ensures ∙ (c.self.inside.bytes.ok.0 ∙ same))
