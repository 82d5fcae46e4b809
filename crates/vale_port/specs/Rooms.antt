-- How the memory for a put is kept.
use Rattle.std.specs.Prelude.{◌≡◌, ◌≤◌, []}
use Rattle.std.specs.Vec.{vec_capacity}
use Rattle.vale_port.specs.declared.room.PutRoom.TheInside.{Inside}

pub record IsEmptyRoom (r : Inside) : Type 0 where
  pub no_taken : r.taken.items ≡ []
  pub no_lent : r.lent.items ≡ []
  pub no_back : r.back.items ≡ []
  pub taken_room : r.frames ≤ vec_capacity r.taken
  pub lent_room : r.frames ≤ vec_capacity r.lent
  pub back_room : r.frames ≤ vec_capacity r.back
