-- Ports with one number after another.
use Rattle.std.proofs.Common.{ℕ, ◌≡◌, ◌+◌, List, [], ◌∷◌, ◌++◌, map, refl, ap, arith}
use Rattle.std.specs.List.{range_with_len}
use Rattle.std.proofs.lemmas.List.FromFn.{length-range_with_len, get_or-range_with_len, map-range_with_len_more}
use Rattle.nm_types.specs.declared.id.PortId.{PortId}
use Rattle.vale_batch.specs.Wants.{IsRising, port_number}
use Rattle.bench.specs.Ports.{port_of, first_ports}

rising_range : (a n : ℕ) → IsRising (range_with_len a n)
rising_range a n i j d less within =
    let size = length-range_with_len a n in
    let first = get_or-range_with_len a n i d (omega (arith, less, within, size)) in
    let second = get_or-range_with_len a n j d (omega (arith, within, size)) in
    rw (first, second) (omega (arith, less))

numbers_of_ports : (numbers : List ℕ) → map port_number (map port_of numbers) ≡ numbers
numbers_of_ports [] = refl
numbers_of_ports (n ∷ ns) = ap (λ (rest : List ℕ). n ∷ rest) (numbers_of_ports ns)

pub rising_ports : (ports : List PortId) (count : ℕ) → ports ≡ first_ports count → IsRising (map port_number ports)
rising_ports ports count e = rw (e, numbers_of_ports (range_with_len 0 count)) (rising_range 0 count)

pub ports_more : (ports : List PortId) (count : ℕ) → ports ≡ first_ports count → ports ++ port_of count ∷ [] ≡ first_ports (count + 1)
ports_more ports count e = rw (e, map-range_with_len_more port_of 0 count count (omega arith)) refl

pub ruleset more_ports = (ports_more)
