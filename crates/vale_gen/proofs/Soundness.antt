-- A load is sound.
use Rattle.std.proofs.Common.{ℕ, ◌+◌, ◌%◌, ◌≤◌, ◌≡◌, Bool, true, false, cond, not, ◌||◌, ◌&&◌, List, [], ◌∷◌, ◌++◌, map, flat_map, Option, Some, None, is_some, refl, sym, ap, subst, ◌∙◌, arith, append-nil}
use Rattle.std.specs.List.{range_with_len, AllByRecursion as Each}
use Rattle.nm_types.specs.Names.{IsName, is_monitor_name}
use Rattle.nm_types.specs.Limits.{most_counts, buffer_bytes}
use Rattle.nm_types.specs.declared.fault.LineCause.TheVariants.{User, Port, Order, Twice}
use Rattle.nm_types.proofs.Lists.{each-joined}
use Rattle.vale_script.specs.declared.script.Act.{Act}
use Rattle.vale_script.specs.declared.script.Act.TheVariants.{Enter, Open, Put, Tx, Rx}
use Rattle.vale_script.specs.declared.script.Line.{Line}
use Rattle.vale_script.specs.Keeps.{AreAlike}
use Rattle.vale_script.specs.Replay.{user_name as name_among, act_says, lines_say, program_says, replayed, MeetNoCause}
use Rattle.vale_script.specs.Rules.{Draft, Opened, nothing_said, port_key, act_cause, cause_of, with_line, block_with, after}
use Rattle.vale_script.specs.Sound.{IsSoundAct, IsSoundLine, IsSoundUnit, IsSound}
use Rattle.vale_script.specs.Statements.{Statement, NewUser, Begin, End, Does}
use Rattle.vale_words.specs.Words.{text_of}
use Rattle.vale_gen.proofs.Users.{for_users, is_named, no_monitor}
use Rattle.vale_gen.specs.Load.{Deed, user_name, port_name, puts, syncs, is_followed, frame_deeds, user_deeds, numbered, users, block_deeds, load_program}

-- What stands in a block.

abbrev IsWorkAct : ℕ → Act → Type 0
IsWorkAct user (Put name count to from len fill) = (name ≡ port_name user) × (count ≤ most_counts) × (len ≤ buffer_bytes)
IsWorkAct user (Tx name) = name ≡ port_name user
IsWorkAct user (Rx name keep) = name ≡ port_name user
IsWorkAct user _ = ⊥

record IsWork (deed : Deed) : Type 0 where
  pub least : 1 ≤ deed.user
  pub most : deed.user ≤ 4
  pub act : IsWorkAct deed.user deed.act

each-flat : {X Y : Type 0} (P : Y → Type 0) (f : X → List Y) → ((x : X) → Each P (f x)) → (xs : List X) → Each P (flat_map f xs)
each-flat P f all [] = tt
each-flat P f all (x ∷ xs) = each-joined P (f x) (flat_map f xs) (all x) (each-flat P f all xs)

put-work : (n user j : ℕ) → 1 ≤ user → user ≤ 4 → IsWork (puts n user j)
put-work n user j least most =
    let fits : 60 + (n + user + j) % 64 ≤ buffer_bytes = omega arith in
    record { least = least; most = most; act = (refl, omega arith, fits) }

syncs-work : (b : Bool) (user : ℕ) → 1 ≤ user → user ≤ 4 → Each IsWork (cond b (syncs user) [])
syncs-work true user least most = (record { least = least; most = most; act = refl }, (record { least = least; most = most; act = refl }, tt))
syncs-work false user least most = tt

frame-work : (n user : ℕ) → 1 ≤ user → user ≤ 4 → (j : ℕ) → Each IsWork (frame_deeds n user j)
frame-work n user least most j = (put-work n user j least most, syncs-work (is_followed j) user least most)

user-work : (n user frames : ℕ) → 1 ≤ user → user ≤ 4 → Each IsWork (user_deeds n user frames)
unfolding user_deeds
user-work n user frames least most = each-flat IsWork (frame_deeds n user) (frame-work n user least most) (range_with_len 0 frames)

block-work : (n : ℕ) → Each IsWork (block_deeds n)
block-work n =
    each-joined IsWork (user_deeds n 1 2000) _ (user-work n 1 2000 (omega arith) (omega arith))
    (each-joined IsWork (user_deeds n 2 2000) _ (user-work n 2 2000 (omega arith) (omega arith))
    (each-joined IsWork (user_deeds n 3 2000) _ (user-work n 3 2000 (omega arith) (omega arith))
    (each-joined IsWork (user_deeds n 4 2000) [] (user-work n 4 2000 (omega arith) (omega arith)) tt)))

-- What the users are called.

abbrev names : List (List ℕ)
names = map user_name users

named : (user : ℕ) → 1 ≤ user → user ≤ 4 → name_among names user ≡ user_name user
named = for_users (λ (user : ℕ). name_among names user ≡ user_name user) refl refl refl refl

-- Where the block begins, all users are known and each has its port open.

abbrev opens_port : ℕ → Statement
opens_port user = Does (user_name user) (Open (port_name user) 256 256 0)

abbrev front : List Statement
front = NewUser (user_name 1) ∷ NewUser (user_name 2) ∷ NewUser (user_name 3) ∷ NewUser (user_name 4)
    ∷ opens_port 1 ∷ opens_port 2 ∷ opens_port 3 ∷ opens_port 4 ∷ Begin ∷ []

abbrev begun : Draft
begun = replayed nothing_said front

knows : (user : ℕ) → 1 ≤ user → user ≤ 4 → is_some (begun.numbers (user_name user)) ≡ true
knows = for_users (λ (user : ℕ). is_some (begun.numbers (user_name user)) ≡ true) refl refl refl refl

has-port : (user : ℕ) → 1 ≤ user → user ≤ 4 → is_some (begun.ports (port_key (user_name user) (port_name user))) ≡ true
unfolding text_of
has-port = for_users (λ (user : ℕ). is_some (begun.ports (port_key (user_name user) (port_name user))) ≡ true) refl refl refl refl

-- A line of the block is not bad there, and leaves all as it is but the block.

sends : (known there monitor : Bool) → known ≡ true → there ≡ true → monitor ≡ false → cond (not known) (Some User) (cond (((not there || (true && monitor)) || false) || false) (Some Port) (cond false (Some Twice) None)) ≡ None
sends true true false a b c = refl
sends false there monitor a b c = absurd cc
sends true false monitor a b c = absurd cc
sends true true true a b c = absurd cc

receives : (known there monitor : Bool) → known ≡ true → there ≡ true → cond (not known) (Some User) (cond (((not there || (false && monitor)) || false) || false) (Some Port) (cond false (Some Twice) None)) ≡ None
receives true true monitor a b = refl
receives false there monitor a b = absurd cc
receives true false monitor a b = absurd cc

record Stands (draft : Draft) (user : ℕ) : Type 0 where
  pub known : is_some (draft.numbers (user_name user)) ≡ true
  pub there : is_some (draft.ports (port_key (user_name user) (port_name user))) ≡ true
  pub monitor : is_monitor_name (port_name user) ≡ false

stands : (draft : Draft) (user : ℕ) → AreAlike draft begun → 1 ≤ user → user ≤ 4 → Stands draft user
stands draft user alike least most = record {
  known = ap (λ (numbers : List ℕ → Option ℕ). is_some (numbers (user_name user))) alike.numbers ∙ knows user least most;
  there = ap (λ (ports : List ℕ → Option Bool). is_some (ports (port_key (user_name user) (port_name user)))) alike.ports ∙ has-port user least most;
  monitor = no_monitor user least most;
}

no-cause : (draft : Draft) (user : ℕ) (act : Act) → Stands draft user → IsWorkAct user act → act_cause draft (user_name user) act ≡ None
no-cause draft user (Put name count to from len fill) s work =
    subst (λ (port : List ℕ). act_cause draft (user_name user) (Put port count to from len fill) ≡ None) (sym work.0) (sends _ _ _ s.known s.there s.monitor)
no-cause draft user (Tx name) s work =
    subst (λ (port : List ℕ). act_cause draft (user_name user) (Tx port) ≡ None) (sym work) (sends _ _ _ s.known s.there s.monitor)
no-cause draft user (Rx name keep) s work =
    subst (λ (port : List ℕ). act_cause draft (user_name user) (Rx port keep) ≡ None) (sym work) (receives _ _ (is_monitor_name (port_name user)) s.known s.there)
no-cause draft user act s work = absurd work

some-with : (block : Option Opened) (line : Line) → is_some (block_with block line) ≡ is_some block
some-with None line = refl
some-with (Some block) line = refl

line-alike : (draft : Draft) (line : Line) → AreAlike draft begun → AreAlike (with_line draft line) begun
line-alike draft line a = record { users = a.users; numbers = a.numbers; ports = a.ports; files = a.files; played = a.played; block = some-with draft.block line ∙ a.block }

stays : (draft : Draft) (user : List ℕ) (number : ℕ) (act : Act) → IsWorkAct number act → AreAlike draft begun → AreAlike (after draft 0 (Does user act)) begun
stays draft user number (Put name count to from len fill) work a = line-alike draft _ a
stays draft user number (Tx name) work a = line-alike draft _ a
stays draft user number (Rx name keep) work a = line-alike draft _ a
stays draft user number act work a = absurd work

work-says : (number : ℕ) (user : List ℕ) (act : Act) → IsWorkAct number act → act_says user act ≡ Does user act
work-says number user (Put name count to from len fill) work = refl
work-says number user (Tx name) work = refl
work-says number user (Rx name keep) work = refl
work-says number user act work = absurd work

-- what these statements meet behind any draft like the one where the block began
record Goes (draft : Draft) (said : List Statement) : Type 0 where
  pub causes : MeetNoCause draft said
  pub users : (replayed draft said).users ≡ names
  pub played : (replayed draft said).played ≡ []

end-cause : (b : Bool) → b ≡ true → cond b None (Some Order) ≡ None
end-cause true e = refl
end-cause false e = absurd cc

goes-end : (draft : Draft) → AreAlike draft begun → Goes draft (End ∷ [])
goes-end draft a = record { causes = (end-cause (is_some draft.block) a.block, tt); users = a.users; played = a.played }

goes-with : (draft : Draft) (said : Statement) (more : List Statement) → cause_of draft said ≡ None → Goes (after draft 0 said) more → Goes draft (said ∷ more)
goes-with draft said more none goes = record { causes = (none, goes.causes); users = goes.users; played = goes.played }

goes-work : (deeds : List Deed) → Each IsWork deeds → (at : ℕ) (draft : Draft) → AreAlike draft begun → Goes draft (lines_say names (numbered at deeds) ++ End ∷ [])
goes-work [] all at draft a = goes-end draft a
goes-work (deed ∷ deeds) all at draft a =
    let work = all.0 in
    let rest : List Statement = lines_say names (numbered (at + 1) deeds) ++ End ∷ [] in
    let said : act_says (name_among names deed.user) deed.act ≡ Does (user_name deed.user) deed.act =
    ap (λ (name : List ℕ). act_says name deed.act) (named deed.user work.least work.most) ∙ work-says deed.user (user_name deed.user) deed.act work.act in
    subst (λ (s : Statement). Goes draft (s ∷ rest)) (sym said)
    (goes-with draft (Does (user_name deed.user) deed.act) rest
    (no-cause draft deed.user deed.act (stands draft deed.user a work.least work.most) work.act)
    (goes-work deeds all.1 (at + 1) (after draft 0 (Does (user_name deed.user) deed.act)) (stays draft (user_name deed.user) deed.user deed.act work.act a)))

goes-front : (said : List Statement) → Goes begun said → Goes nothing_said (front ++ said)
unfolding text_of
goes-front said goes = record { causes = (refl, (refl, (refl, (refl, (refl, (refl, (refl, (refl, (refl, goes.causes))))))))); users = goes.users; played = goes.played }

alike-self : AreAlike begun begun
alike-self = record { users = refl; numbers = refl; ports = refl; files = refl; played = refl; block = refl }

goes-load : (n : ℕ) → Goes nothing_said (program_says (load_program n))
goes-load n =
    let block : List Statement = lines_say names (numbered 10 (block_deeds n)) ++ End ∷ [] in
    subst (λ (said : List Statement). Goes nothing_said (front ++ said)) (sym (append-nil block)) (goes-front block (goes-work (block_deeds n) (block-work n) 10 begun alike-self))

-- Each line is sound.

work-sound : (user : ℕ) (act : Act) → IsName (port_name user) → IsWorkAct user act → IsSoundAct act
work-sound user (Put name count to from len fill) is work = (subst IsName (sym work.0) is, work.1, work.2)
work-sound user (Tx name) is work = subst IsName (sym work) is
work-sound user (Rx name keep) is work = subst IsName (sym work) is
work-sound user act is work = absurd work

lines-sound : (deeds : List Deed) (at : ℕ) → Each IsWork deeds → Each (IsSoundLine 4) (numbered at deeds)
lines-sound [] at all = tt
lines-sound (deed ∷ deeds) at all = (
  record { least = all.0.least; most = all.0.most; act = work-sound deed.user deed.act (is_named deed.user all.0.least all.0.most) all.0.act },
  lines-sound deeds (at + 1) all.1,
)

entered : (at user : ℕ) → 1 ≤ user → user ≤ 4 → IsSoundLine 4 (record { at = at; user = user; act = Enter })
entered at user least most = record { least = least; most = most; act = tt }

opened : (at user : ℕ) → 1 ≤ user → user ≤ 4 → IsSoundLine 4 (record { at = at; user = user; act = Open (port_name user) 256 256 0 })
opened at user least most = record { least = least; most = most; act = (is_named user least most, omega arith, omega arith, omega arith) }

units-sound : (n : ℕ) → Each (IsSoundUnit 4) (load_program n).units
units-sound n = (
  entered 1 1 (omega arith) (omega arith),
  (
    entered 2 2 (omega arith) (omega arith),
    (
      entered 3 3 (omega arith) (omega arith),
      (
        entered 4 4 (omega arith) (omega arith),
        (
          opened 5 1 (omega arith) (omega arith),
          (
            opened 6 2 (omega arith) (omega arith),
            (
              opened 7 3 (omega arith) (omega arith),
              (
                opened 8 4 (omega arith) (omega arith),
                (lines-sound (block_deeds n) 10 (block-work n), tt),
              ),
            ),
          ),
        ),
      ),
    ),
  ),
)

pub load_sound : (n : ℕ) → IsSound (load_program n)
load_sound n =
    let goes = goes-load n in
    record {
      least = omega arith;
      most = omega arith;
      few = omega arith;
      names = (refl, (refl, (refl, (refl, tt))));
      units_are = units-sound n;
      causes = goes.causes;
      declares = sym goes.users;
      plays = sym goes.played;
    }
