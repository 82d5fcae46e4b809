-- Copies of one frame that go into a transmit ring, one after another.
use Rattle.std.specs.Prelude.{ℕ, zero, suc, true, false, ◌≡◌, ◌≤◌, ◌<◌, List, length}
use Rattle.nm_types.specs.OwnPorts.{OwnState}
use Rattle.nm_types.specs.OwnEdits.{has_room, with_frame}

-- what a session has once a frame was put so many times
abbrev pub with_copies : ℕ → ℕ → List ℕ → OwnState → OwnState
with_copies zero id bytes s = s
with_copies (suc count) id bytes s = with_frame id bytes (with_copies count id bytes s)

-- each of so many finds room, once those before it were put
abbrev pub FindRoom : ℕ → ℕ → List ℕ → OwnState → Type 0
FindRoom zero id bytes s = Unit {0}
FindRoom (suc count) id bytes s = FindRoom count id bytes s × (has_room (with_copies count id bytes s) id (length bytes) ≡ true)

-- Of the copies wanted so many find room; behind them there is none, if they are not all.
pub record AreCopies (wanted count id : ℕ) (bytes : List ℕ) (s : OwnState) : Type 0 where
  pub most : count ≤ wanted
  pub room : FindRoom count id bytes s
  pub full : count < wanted → has_room (with_copies count id bytes s) id (length bytes) ≡ false
