use Rattle.std.proofs.Common.{◌≡◌, Some, ap, take, rules}
use Rattle.nm_io.specs.Files.{appended}
use Rattle.nm_io.specs.ShelfState.{files_in}
use Rattle.nm_io.proofs.Stores.{seen_appended, seen_same}
use Rattle.nm_io.proofs.memory_shelf.MemoryShelfShelf.append.Goals as goal

pub returns-then-is_err-clause-err : goal.returns-then-is_err-clause-err
returns-then-is_err-clause-err c =
    let same : files_in c.extend.new.self.files ≡ files_in c.self.inside.stored.files = search rules in
    rw (← c.self.view_is) (ap (λ all. Some all) (seen_same c.self.inside.stored.files c.extend.new.self.files same))

pub returns-clause-grown : goal.returns-clause-grown
returns-clause-grown c =
    let grown : files_in c.extend.new.self.files ≡ appended (files_in c.self.inside.stored.files) c.args.name.now (take c.taken-count.result c.args.bytes.now) = search rules in
    rw (← c.self.view_is) (ap (λ all. Some all) (seen_appended c.self.inside.stored.files c.extend.new.self.files c.args.name.now (take c.taken-count.result c.args.bytes.now) grown))
