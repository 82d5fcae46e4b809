-- What a run promises, by its words.
use Rattle.std.specs.Prelude.{ℕ, ◌≡◌, List, Option, Some, None}
use Rattle.nm_types.specs.declared.limits.Limits.{Limits}
use Rattle.vale_run.specs.declared.status.Status.{Status}
use Rattle.vale_run.specs.declared.status.Status.TheVariants.{Usage}
use Rattle.vale_run.specs.Run.{Io, WritesNothing, Ends}
use Rattle.vale_run.specs.Load.{LoadEnds}
use Rattle.vale_run.specs.Migrate.{MigrateEnds}

-- The words name a script, or else a load's number, or else a text; where they do none of these the status
-- is Usage, and nowhere else.
abbrev pub Runs : Limits → Option (List ℕ) → Option ℕ → Option (List ℕ) → Io → Status → Type 0
Runs limits (Some name) load text io status = Ends limits io name status
Runs limits None (Some n) text io status = LoadEnds limits n io.writes io.holds io.new_holds status × (io.new_files ≡ io.files)
Runs limits None None (Some name) io status = MigrateEnds io name status
Runs limits None None None io status = (status ≡ Usage) × WritesNothing io
