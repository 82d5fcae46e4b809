-- Laws of chains and links.
use Rattle.std.specs.Prelude.{ℕ, ◌≡◌, ◌+◌, ◌<◌, ◌^◌, List, length}
use Rattle.nm_types.specs.Chain.{linked, link_of, chain_of}

-- what a chain finds and what is astray are all extra buffers
abbrev pub FoundAndAstrayAreAll : Type 0
FoundAndAstrayAreAll = (extras : List ℕ) (link : ℕ → ℕ) (head : ℕ) → (chain_of extras link head).found + (chain_of extras link head).astray ≡ length extras

-- a link that was written is read again
abbrev pub LinksAreReadAgain : Type 0
LinksAreReadAgain = (next : ℕ) (bytes : List ℕ) → next < 2 ^ 32 → link_of (linked next bytes) ≡ next
