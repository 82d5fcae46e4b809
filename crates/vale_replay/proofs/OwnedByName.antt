-- Which owner each buffer has, by where it lies: it has just one, and that one is among its owners.
use Rattle.std.proofs.Common.{Bool, true, false, cond, ℕ, zero, suc, ◌≤◌, ◌≡◌, List, [], ◌∷◌, ◌++◌, length, replicate, slice_get, Option, Some, refl, sym, ◌∙◌, ap, subst, arith}
use Rattle.std.specs.Prelude.{flat_map}
use Rattle.std.specs.List.{Contains}
use Rattle.std.proofs.lemmas.List.Elements.{Contains-append_left, Contains-append_right}
use Rattle.std.proofs.lemmas.Option.{same_Some}
use Rattle.nm_types.specs.OwnPorts.{OwnRing, OwnPort}
use Rattle.vale_entry.specs.World.{Port, Lot}
use Rattle.vale_entry.specs.Holdings.{PortBuffers, contains, is_buffer_index}
use Rattle.vale_entry.specs.Legal.{Standing, standing_of}
use Rattle.vale_entry.proofs.Counting.{contains-count}
use Rattle.vale_replay.specs.Machine.{Machine}
use Rattle.vale_replay.specs.Owners.{Owner, Pool, KernelSlot, Lease, UserSlot, ExtraList, owner_of_each, owners_of_lots, owners_at, user_places, kernel_places, owners_of_tx, owners_of_port, owners_of_user, owners_of, AreOwnedOnce, AreOwnedByName, BuffersAreOwnedByName}
use Rattle.vale_replay.proofs.Owned.{owned-once}

-- an owner who is among at most one is the only one
lone-owner : (owners : List Owner) (owner : Owner) → length owners ≤ 1 → Contains owners owner → owners ≡ owner ∷ []
lone-owner [] owner few (k, below, is) = absurd (omega (arith, below))
lone-owner (one ∷ []) owner few (zero, below, is) = ap (λ (o : Owner). o ∷ []) is
lone-owner (one ∷ []) owner few (suc k, below, is) = absurd (omega (arith, below))
lone-owner (one ∷ other ∷ owners) owner few has = absurd (omega (arith, few))

copies-have : (n : ℕ) (owner : Owner) → 1 ≤ n → Contains (replicate n owner) owner
copies-have zero owner some = absurd (omega (arith, some))
copies-have (suc n) owner some = (0, omega arith, refl)

each-has : (b : ℕ) (owner : Owner) (buffers : List ℕ) → contains b buffers ≡ true → Contains (owner_of_each b owner buffers) owner
each-has b owner buffers in_list = copies-have _ owner (contains-count b buffers in_list)

lots-have : (b : ℕ) (line : List Lot) (helds : List (List ℕ)) (n : ℕ) (lot : Lot) (buffers : List ℕ) → slice_get line n ≡ Some lot → slice_get helds n ≡ Some buffers
    → contains b buffers ≡ true → Contains (owners_of_lots b line helds) (cond lot.is_done KernelSlot Lease)
lots-have b [] helds n lot buffers at held in_list = absurd cc
lots-have b (first ∷ line) [] n lot buffers at held in_list = absurd cc
lots-have b (first ∷ line) (list ∷ helds) zero lot buffers at held in_list =
    let mine : cond first.is_done KernelSlot Lease ≡ cond lot.is_done KernelSlot Lease = ap (λ (x : Lot). cond x.is_done KernelSlot Lease) (same_Some first lot at) in
    let here : contains b list ≡ true = ap (contains b) (same_Some list buffers held) ∙ in_list in
    let has = Contains-append_left (owner_of_each b (cond first.is_done KernelSlot Lease) list) (owners_of_lots b line helds) (cond first.is_done KernelSlot Lease) (each-has b (cond first.is_done KernelSlot Lease) list here) in
    subst (λ (owner : Owner). Contains (owners_of_lots b (first ∷ line) (list ∷ helds)) owner) mine has
lots-have b (first ∷ line) (list ∷ helds) (suc n) lot buffers at held in_list =
    Contains-append_right (owner_of_each b (cond first.is_done KernelSlot Lease) list) (owners_of_lots b line helds) (cond lot.is_done KernelSlot Lease) (lots-have b line helds n lot buffers at held in_list)

-- what a port's kernel side owns, all ports own together
ports-have : (b : ℕ) (owner : Owner) (ports : List Port) (helds : List PortBuffers) (at : ℕ) (port : Port) (held : PortBuffers) → slice_get ports at ≡ Some port → slice_get helds at ≡ Some held
    → Contains (owner_of_each b KernelSlot held.idle ++ owners_of_lots b port.line held.lots) owner → Contains (owners_at b ports helds) owner
ports-have b owner [] helds at port held there has_buffers has = absurd cc
ports-have b owner (first ∷ ports) [] at port held there has_buffers has = absurd cc
ports-have b owner (first ∷ ports) (buffers ∷ helds) zero port held there has_buffers has =
    let here = subst (λ (x : PortBuffers). Contains (owner_of_each b KernelSlot x.idle ++ owners_of_lots b first.line x.lots) owner) (sym (same_Some buffers held has_buffers)) (subst (λ (x : Port). Contains (owner_of_each b KernelSlot held.idle ++ owners_of_lots b x.line held.lots) owner) (sym (same_Some first port there)) has) in
    Contains-append_left (owner_of_each b KernelSlot buffers.idle ++ owners_of_lots b first.line buffers.lots) (owners_at b ports helds) owner here
ports-have b owner (first ∷ ports) (buffers ∷ helds) (suc at) port held there has_buffers has =
    Contains-append_right (owner_of_each b KernelSlot buffers.idle ++ owners_of_lots b first.line buffers.lots) (owners_at b ports helds) owner (ports-have b owner ports helds at port held there has_buffers has)

-- what one of a list brings is among what all bring
all-have : {X : Type 0} (f : X → List Owner) (owner : Owner) (xs : List X) (at : ℕ) (x : X) → slice_get xs at ≡ Some x → Contains (f x) owner → Contains (flat_map f xs) owner
all-have f owner [] at x there has = absurd cc
all-have f owner (first ∷ xs) zero x there has =
    Contains-append_left (f first) (flat_map f xs) owner (subst (λ y. Contains (f y) owner) (sym (same_Some first x there)) has)
all-have f owner (first ∷ xs) (suc at) x there has =
    Contains-append_right (f first) (flat_map f xs) owner (all-have f owner xs at x there has)

few-owners : (pool b : ℕ) (owners : List Owner) (is_one : Bool) → length owners ≡ cond is_one 1 0 → length owners ≤ 1
few-owners pool b owners true same = omega (arith, same)
few-owners pool b owners false same = omega (arith, same)

module _ (pool : ℕ) (s : Standing) (users : List Machine) (once : AreOwnedOnce pool s users) where
  is-owned : (b : ℕ) (owner : Owner) → Contains (owners_of s users b) owner → owners_of s users b ≡ owner ∷ []
  is-owned b owner has = lone-owner (owners_of s users b) owner (few-owners pool b (owners_of s users b) (is_buffer_index pool b) (once b)) has

  abbrev kernel_owners : ℕ → List Owner
  kernel_owners b = owners_at b s.world.ports s.holdings.ports

  abbrev user_owners : ℕ → List Owner
  user_owners b = flat_map (owners_of_user b) users

  in-rings : (b : ℕ) (owner : Owner) → Contains (kernel_owners b) owner → owners_of s users b ≡ owner ∷ []
  in-rings b owner has =
      is-owned b owner (Contains-append_right (owner_of_each b Pool s.holdings.free) (kernel_owners b ++ user_owners b) owner (Contains-append_left (kernel_owners b) (user_owners b) owner has))

  of-users : (b : ℕ) (owner : Owner) (at : ℕ) (user : Machine) → slice_get users at ≡ Some user → (n : ℕ) (p : OwnPort) → slice_get user.own.ports n ≡ Some p
      → Contains (owners_of_port b p) owner → owners_of s users b ≡ owner ∷ []
  of-users b owner at user there n p opened has =
      let side = all-have (owners_of_port b) owner user.own.ports n p opened has in
      let all = all-have (owners_of_user b) owner users at user there side in
      is-owned b owner (Contains-append_right (owner_of_each b Pool s.holdings.free) (kernel_owners b ++ user_owners b) owner (Contains-append_right (kernel_owners b) (user_owners b) owner all))

  in-tx : (b : ℕ) (owner : Owner) (p : OwnPort) (r : OwnRing) → p.tx ≡ Some r → Contains (owner_of_each b UserSlot (user_places r) ++ owner_of_each b KernelSlot (kernel_places r)) owner
      → Contains (owners_of_port b p) owner
  in-tx b owner p r is has =
      Contains-append_left (owners_of_tx b p.tx) (owner_of_each b UserSlot p.rx.held ++ owner_of_each b ExtraList p.extra) owner
      (subst (λ (tx : Option OwnRing). Contains (owners_of_tx b tx) owner) (sym is) has)

  behind-tx : (b : ℕ) (owner : Owner) (p : OwnPort) → Contains (owner_of_each b UserSlot p.rx.held ++ owner_of_each b ExtraList p.extra) owner → Contains (owners_of_port b p) owner
  behind-tx b owner p has = Contains-append_right (owners_of_tx b p.tx) (owner_of_each b UserSlot p.rx.held ++ owner_of_each b ExtraList p.extra) owner has

  in-lot : (b : ℕ) (at : ℕ) (port : Port) (held : PortBuffers) → slice_get s.world.ports at ≡ Some port → slice_get s.holdings.ports at ≡ Some held
      → (n : ℕ) (lot : Lot) (buffers : List ℕ) → slice_get port.line n ≡ Some lot → slice_get held.lots n ≡ Some buffers → contains b buffers ≡ true
      → owners_of s users b ≡ cond lot.is_done KernelSlot Lease ∷ []
  in-lot b at port held there has n lot buffers in_line in_lots in_list =
      let owner : Owner = cond lot.is_done KernelSlot Lease in
      let lots = lots-have b port.line held.lots n lot buffers in_line in_lots in_list in
      in-rings b owner (ports-have b owner s.world.ports s.holdings.ports at port held there has (Contains-append_right (owner_of_each b KernelSlot held.idle) (owners_of_lots b port.line held.lots) owner lots))

  by-name : AreOwnedByName s users
  by-name = record {
    free = λ b in_list. is-owned b Pool (Contains-append_left (owner_of_each b Pool s.holdings.free) (kernel_owners b ++ user_owners b) Pool (each-has b Pool s.holdings.free in_list));
    idle = λ at port held there has b in_list. in-rings b KernelSlot (ports-have b KernelSlot s.world.ports s.holdings.ports at port held there has (Contains-append_left (owner_of_each b KernelSlot held.idle) (owners_of_lots b port.line held.lots) KernelSlot (each-has b KernelSlot held.idle in_list)));
    leased = λ at port held there has n lot buffers in_line in_lots out b in_list. in-lot b at port held there has n lot buffers in_line in_lots in_list ∙ ap (λ (is_done : Bool). cond is_done KernelSlot Lease ∷ []) out;
    published = λ at port held there has n lot buffers in_line in_lots done b in_list. in-lot b at port held there has n lot buffers in_line in_lots in_list ∙ ap (λ (is_done : Bool). cond is_done KernelSlot Lease ∷ []) done;
    writable = λ at user there n p opened r is b in_list. of-users b UserSlot at user there n p opened (in-tx b UserSlot p r is (Contains-append_left (owner_of_each b UserSlot (user_places r)) (owner_of_each b KernelSlot (kernel_places r)) UserSlot (each-has b UserSlot (user_places r) in_list)));
    pushed = λ at user there n p opened r is b in_list. of-users b KernelSlot at user there n p opened (in-tx b KernelSlot p r is (Contains-append_right (owner_of_each b UserSlot (user_places r)) (owner_of_each b KernelSlot (kernel_places r)) KernelSlot (each-has b KernelSlot (kernel_places r) in_list)));
    received = λ at user there n p opened b in_list. of-users b UserSlot at user there n p opened (behind-tx b UserSlot p (Contains-append_left (owner_of_each b UserSlot p.rx.held) (owner_of_each b ExtraList p.extra) UserSlot (each-has b UserSlot p.rx.held in_list)));
    extra = λ at user there n p opened b in_list. of-users b ExtraList at user there n p opened (behind-tx b ExtraList p (Contains-append_right (owner_of_each b UserSlot p.rx.held) (owner_of_each b ExtraList p.extra) ExtraList (each-has b ExtraList p.extra in_list)));
  }

pub owned-by-name : BuffersAreOwnedByName
owned-by-name program captures history nows way =
    by-name program.pool (standing_of program.pool history) nows.users (owned-once program captures history nows way)
