-- The chain of a port's extra buffers: the first four bytes of each hold the index of the next as a
-- little-endian number, and 0 ends it.
use Rattle.std.specs.Prelude.{ℕ, zero, suc, not, ◌||◌, ◌==◌, ◌+◌, ◌-◌, ◌*◌, ◌/◌, ◌%◌, ◌^◌, if◌then◌else◌, List, [], ◌∷◌, ◌++◌, drop, get_or, length}
use Rattle.nm_types.specs.declared.id.Chain.{Chain}
use Rattle.nm_types.specs.SyncChecks.{contains_index}

-- a number of 32 bits as its four bytes, lowest first
abbrev pub link_bytes : ℕ → List ℕ
link_bytes next = (next % 256) ∷ (next / 256 % 256) ∷ (next / 256 ^ 2 % 256) ∷ (next / 256 ^ 3) ∷ []

-- a buffer's bytes once they link to the next buffer
abbrev pub linked : ℕ → List ℕ → List ℕ
linked next bytes = link_bytes next ++ drop 4 bytes

abbrev pub link_of : List ℕ → ℕ
link_of bytes = get_or bytes 0 0 + 256 * get_or bytes 1 0 + 256 ^ 2 * get_or bytes 2 0 + 256 ^ 3 * get_or bytes 3 0

-- at opening each extra links to the one after it, and the first is the chain's head
abbrev pub chain_head : List ℕ → ℕ
chain_head extras = get_or extras 0 0

abbrev pub opened_links : List ℕ → List ℕ
opened_links [] = []
opened_links (first ∷ others) = chain_head others ∷ opened_links others

-- the buffers that a walk meets: it ends at 0, at an index that is none of the extras, and at one that
-- it has met. `link` gives the link in a buffer, and `turns` is at least the number of extras
abbrev pub seen_in_chain : ℕ → List ℕ → (ℕ → ℕ) → List ℕ → ℕ → List ℕ
seen_in_chain zero extras link seen at = seen
seen_in_chain (suc turns) extras link seen at =
    if (at == 0) || (not (contains_index extras at) || contains_index seen at) then seen
    else seen_in_chain turns extras link (seen ++ at ∷ []) (link at)

abbrev pub found_in_chain : List ℕ → (ℕ → ℕ) → ℕ → ℕ
found_in_chain extras link head = length (seen_in_chain (length extras) extras link [] head)

abbrev pub chain_of : List ℕ → (ℕ → ℕ) → ℕ → Chain
chain_of extras link head = record {
  found = found_in_chain extras link head;
  astray = length extras - found_in_chain extras link head;
}
