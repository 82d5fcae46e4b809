-- Links written and read, and how long a chain is.
use Rattle.std.proofs.Common.{ℕ, zero, suc, ◌≡◌, ◌+◌, ◌*◌, ◌/◌, ◌%◌, ◌^◌, ◌<◌, ◌≤◌, not, nat_eq, List, [], ◌∷◌, ◌++◌, length, inl, inr, arith}
use Rattle.std.specs.Prelude.{◌||◌}
use Rattle.std.proofs.Math.Nat.{div-div-eq-div-mul}
use Rattle.std.proofs.lemmas.Bool.{cases_Bool}
use Rattle.std.proofs.lemmas.List.{length_push}
use Rattle.nm_types.specs.Chain.{seen_in_chain}
use Rattle.nm_types.specs.SyncChecks.{contains_index}
use Rattle.nm_extra.specs.Laws.{FoundAndAstrayAreAll, LinksAreReadAgain}

seen-count : (turns : ℕ) (extras : List ℕ) (link : ℕ → ℕ) (seen : List ℕ) (at : ℕ) → length (seen_in_chain turns extras link seen at) ≤ turns + length seen
seen-count zero extras link seen at = omega arith
seen-count (suc turns) extras link seen at = elim (cases_Bool (nat_eq at 0 || (not (contains_index extras at) || contains_index seen at))) [
  | inl e ↦ rw e (omega arith)
  | inr e ↦ rw e (omega (arith, seen-count turns extras link (seen ++ at ∷ []) (link at), length_push seen at))
]

pub found_and_astray_are_all : FoundAndAstrayAreAll
found_and_astray_are_all extras link head = omega (arith, seen-count (length extras) extras link [] head)

bytes_again : (n : ℕ) → n < 2 ^ 32 → n % 256 + 256 * (n / 256 % 256) + 256 ^ 2 * (n / 256 ^ 2 % 256) + 256 ^ 3 * (n / 256 ^ 3) ≡ n
bytes_again n h =
    let two = div-div-eq-div-mul n 256 256 in
    let three = div-div-eq-div-mul n (256 ^ 2) 256 in
    let a : n ≡ 256 * (n / 256) + n % 256 = omega arith in
    let b : n / 256 ≡ 256 * (n / 256 / 256) + n / 256 % 256 = omega arith in
    let c : n / 256 ^ 2 ≡ 256 * (n / 256 ^ 2 / 256) + n / 256 ^ 2 % 256 = omega arith in
    omega (arith, two, three)

pub links_are_read_again : LinksAreReadAgain
links_are_read_again next bytes h = bytes_again next h

pub ruleset link_laws = (found_and_astray_are_all, links_are_read_again)
