use Rattle.std.proofs.Common.{ℕ, ◌≡◌, List, length, ap, sym, ◌∙◌, arith}
use Rattle.vale_entry.specs.declared.entry.Entry.{Entry}
use Rattle.vale_entry.specs.World.{free_count}
use Rattle.vale_entry.specs.Legal.{world_of}
use Rattle.vale_book.specs.Recorded.{Recorded}
use Rattle.vale_serve.specs.declared.users.User.{User}
use Rattle.vale_drive.proofs.Endings.{all-left, all-free}
use Rattle.vale_drive.proofs.drive.Drive.close.Goals as goal

pub destroy_empty-requires : goal.destroy_empty-requires
destroy_empty-requires c =
    let none = ap (λ (us : List User). length us) (all-left c.wind_up.new.book c.wind_up.new.users.items c.wind_up.ensures.kept c.wind_up.ensures.ended.left) in
    let size = c.wind_up.new.users.ok.0 in
    omega (arith, none, size)

pub close-requires : goal.close-requires
close-requires c =
    let none = all-left c.wind_up.new.book c.wind_up.new.users.items c.wind_up.ensures.kept c.wind_up.ensures.ended.left in
    all-free c.wind_up.new.book c.wind_up.new.users.items c.wind_up.ensures.kept (ap (λ (us : List User). length us) none)

pub returns-clause-free : goal.returns-clause-free
returns-clause-free c =
    let b = c.wind_up.new.book in
    let none = all-left b c.wind_up.new.users.items c.wind_up.ensures.kept c.wind_up.ensures.ended.left in
    let pool : b.pool ≡ c.args.self.pool = ap (λ (r : Recorded). r.pool) c.wind_up.ensures.ended.on.is ∙ ap (λ (r : Recorded). r.pool) c.self.view_is in
    ap (λ (es : List Entry). free_count (world_of c.args.self.pool es)) c.close.ensures.entries
    ∙ (ap (λ (p : ℕ). free_count (world_of p b.entries)) (sym pool)
    ∙ (all-free b c.wind_up.new.users.items c.wind_up.ensures.kept (ap (λ (us : List User). length us) none) ∙ pool))
