-- What a session ends as, once the bytes of a buffer or one of the user's slots have been lent to be
-- written.
use Rattle.std.specs.Prelude.{ℕ, ◌≡◌, List, [], Option, OnSome}
use Rattle.std.specs.Borrow.{Lends, LendsIf, LendsSo, MutBor, Fml, Array, u8}
use mir.Syntax.{named}
use Rattle.nm_types.specs.declared.id.Side.{Side}
use Rattle.nm_types.specs.Slots.{SlotState}
use Rattle.nm_types.specs.OwnEdits.{with_user_slot}
use Rattle.nm_types.specs.contracts.slot.Slot.{the_row as slot_row}
use Rattle.nm_own.specs.WrittenBytes.{with_all_written}
use Rattle.nm_user.specs.Sessions.{SessionState}
use Rattle.nm_user.specs.contracts.session.Session.{the_row}

abbrev pub session_written : SessionState → ℕ → List ℕ → SessionState
session_written s idx bytes = record s { own = with_all_written s.own idx bytes }

abbrev pub session_with_slot : SessionState → Side → ℕ → ℕ → SlotState → SessionState
session_with_slot s side id at slot = record s { own = with_user_slot side id at slot s.own }

abbrev pub LendsBytes : MutBor SessionState → ℕ → MutBor (List ℕ) → Fml
LendsBytes s idx lent = Lends (the_row (record { mir = named 1; lft = [] })) (Array u8 0) s lent (session_written s.now idx)

-- where no bytes are lent, the session stays as it is
abbrev pub LendsNamed : MutBor SessionState → ℕ → Option (MutBor (List ℕ)) → Fml
LendsNamed s idx lent = LendsIf (the_row (record { mir = named 1; lft = [] })) (Array u8 0) s lent (session_written s.now idx) s.now

-- and so where no slot is
abbrev pub LendsSlot : MutBor SessionState → Side → ℕ → ℕ → Option (MutBor SlotState) → Fml
LendsSlot s side id at lent = LendsSo (the_row (record { mir = named 1; lft = [] })) slot_row s lent (λ n slot. OnSome lent (n ≡ session_with_slot s.now side id at slot)) (λ n. n ≡ s.now)
