use Rattle.std.specs.Prelude.{ℕ, List, map, string_bytes, String, Vec}
use Rattle.std.specs.Option.{option_map}
use Rattle.std.specs.declared.alloc.Global.{Global}
use Rattle.std.specs.BTreeMap.{BTreeMap, get_by_text}
use Rattle.std.specs.Str.{bytes_eq}
use Rattle.std.specs.Map.{lookup}
use Rattle.nm_io.specs.Calls.{CallState}
use Rattle.nm_io.specs.Files.{Files}

-- a shelf in memory: its files by name with their contents, and the calls that it had
pub record ShelfState : Type 0 where
  pub entries : List (List ℕ × List ℕ)
  pub calls : CallState

-- the files that are listed
abbrev pub files_of : List (List ℕ × List ℕ) → Files
files_of entries = λ name. lookup (bytes_eq name) entries

-- a name with its contents, as the map stores them
abbrev pub seen_entry : String Global × Vec ℕ Global → List ℕ × List ℕ
seen_entry entry = (string_bytes entry.0, entry.1.items)

-- the names with their contents that the map stores
abbrev pub seen_entries : BTreeMap (String Global) (Vec ℕ Global) → List (List ℕ × List ℕ)
seen_entries stored = map seen_entry stored.entries

-- the files that the map stores
abbrev pub files_in : BTreeMap (String Global) (Vec ℕ Global) → Files
files_in stored = λ name. option_map (λ v. v.items) (get_by_text stored name)
