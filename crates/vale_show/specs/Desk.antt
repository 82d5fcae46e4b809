-- How often reads of a file failed, where standard input is the one named by a dash.
use Rattle.std.specs.Prelude.{ℕ, List, codes, if◌then◌else◌, bytes_eq}

abbrev pub faults_of : ℕ → (List ℕ → ℕ) → List ℕ → ℕ
faults_of input files name = if bytes_eq name (codes "-") then input else files name
