use Rattle.std.proofs.Common.{ℕ, ◌≡◌, ◌≤◌, ◌<◌, ◌-◌, List, Option, length, ap, arith}
use Rattle.std.specs.Prelude.{min}
use Rattle.std.specs.Vec.{vec_capacity, vec_len}
use Rattle.std.specs.HashMap.{spare}
use Rattle.nm_hold.specs.declared.table.PortTable.{PortTable}
use Rattle.nm_hold.proofs.Finding.{rows_enough}
use Rattle.nm_hold.proofs.ports.Ports.with_room_for_more.Goals as goal

below_both : (n a b : ℕ) → n < a → n < b → n < min a b
below_both n a b h k = omega (arith, h, k)

pub returns-clause-spare : goal.returns-clause-spare
returns-clause-spare c =
    let rows = c.self.inside.rows.items in
    let few : length c.args.self.now.tables ≤ length rows = rw (← c.self.view_is) (rows_enough rows) in
    let count : length c.as_slice.result.now ≡ length rows = ap (λ (xs : List (Option PortTable)). length xs) c.as_slice.ensures.value in
    below_both (length c.args.self.now.tables) (vec_capacity c.in_ok-rows.rows - vec_len c.in_ok-rows.rows) (spare c.reserve.new.self)
    (omega (arith, few, count, c.in_ok-rows.ensures.exact, c.in_ok-rows.ensures.len)) (omega (arith, few, count, c.in_ok-reserve.ensures.ok))
