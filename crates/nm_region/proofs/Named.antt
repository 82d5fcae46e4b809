-- Buffers are told apart by their names, which no write of bytes changes.
use Rattle.std.proofs.Common.{ℕ, ◌≡◌, ◌<◌, List, [], ◌∷◌, length, take, drop, map, slice_set, get_or, refl, sym, ◌∙◌, ap, arith}
use Rattle.std.specs.List.{range_with_len}
use Rattle.std.proofs.lemmas.List.{map-set, set-get_or, get_or-map, append-nil, drop_all, take_all}
use Rattle.std.proofs.lemmas.List.Sorted.{IsPermutation-refl}
use Rattle.nm_region.specs.Buffers.{Buffer, RegionState, written_over, name_of, names_of, region_names, opened_buffer, opened_buffers, AreAllOf}

-- bytes written over as many are all there is
pub written_over_is : (old bytes : List ℕ) → length bytes ≡ length old → written_over old bytes ≡ bytes
written_over_is old bytes e =
    let none : drop (length bytes) old ≡ [] = drop_all (length bytes) old (omega arith) in
    let all : take (length old) bytes ≡ bytes = take_all (length old) bytes (omega arith) in
    rw (none, append-nil bytes, all)

names_of-opened_by : (r : RegionState) (indices : List ℕ) → names_of (map (opened_buffer r) indices) ≡ map (λ (index : ℕ). (r.region, index)) indices
names_of-opened_by r [] = refl
names_of-opened_by r (i ∷ is) = ap (λ (rest : List (ℕ × ℕ)). (r.region, i) ∷ rest) (names_of-opened_by r is)

pub names_of-opened : (r : RegionState) → names_of (opened_buffers r) ≡ region_names r
names_of-opened r = names_of-opened_by r (range_with_len 2 r.buffers)

pub names_of-set : (bufs : List Buffer) (i : ℕ) (b c : Buffer) → i < length bufs → b ≡ get_or bufs i b → name_of c ≡ name_of b → names_of (slice_set bufs i c) ≡ names_of bufs
names_of-set bufs i b c h e same =
    let here : get_or (names_of bufs) i (name_of b) ≡ name_of b = get_or-map name_of bufs i b (name_of b) h ∙ ap name_of (sym e) in
    map-set name_of bufs i c ∙ (ap (λ (n : ℕ × ℕ). slice_set (names_of bufs) i n) (same ∙ sym here) ∙ set-get_or (names_of bufs) i (name_of b))

-- buffers named as their region's, by rising index, are all of it
pub AreAllOf-named : (r : RegionState) (bufs : List Buffer) → names_of bufs ≡ region_names r → AreAllOf r bufs
AreAllOf-named r bufs e = rw e (IsPermutation-refl (region_names r))

pub AreAllOf-opened : (r : RegionState) (bufs : List Buffer) → bufs ≡ opened_buffers r → AreAllOf r bufs
AreAllOf-opened r bufs e = AreAllOf-named r bufs (ap names_of e ∙ names_of-opened r)

pub ruleset named = (names_of-set, AreAllOf-named, AreAllOf-opened)
