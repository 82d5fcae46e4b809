-- What a Put brings is what its entry tells, whatever the history: the numbers of entries differ.
use Rattle.std.proofs.Common.{ℕ, ◌+◌, ◌<◌, ◌≤◌, ◌≡◌, Bool, true, false, cond, List, [], ◌∷◌, ◌++◌, filter, length, fold, refl, sym, ◌∙◌, ap, subst, arith, append-nil, append_assoc}
use Rattle.std.specs.List.{AllByRecursion as Each}
use Rattle.std.proofs.lemmas.List.Elements.{filter-append}
use Rattle.std.proofs.lemmas.Bool.{eq-eqb, ne_eqb}
use Rattle.vale_entry.specs.declared.entry.Ask.{Ask}
use Rattle.vale_entry.specs.declared.entry.Ask.TheVariants.{PutKept}
use Rattle.vale_entry.specs.declared.entry.Reply.{Reply}
use Rattle.vale_entry.specs.declared.entry.Reply.TheVariants.{Took}
use Rattle.vale_entry.specs.declared.entry.Entry.{Entry}
use Rattle.vale_entry.specs.World.{World}
use Rattle.vale_entry.specs.Pipe.{puts_to_port}
use Rattle.vale_entry.specs.Legal.{Standing, after, recorded_step, standing_of, fresh_standing}
use Rattle.vale_entry.specs.Delivered.{told_from, Brought, taken_of, put_by, of_entry_in}
use Rattle.vale_entry.specs.Fate.{is_brought_of}
use Rattle.vale_entry.specs.DeliveryLaws.{PutsAreOfReply}
use Rattle.vale_entry.proofs.Each.{each-weaker, each-append}
use Rattle.vale_entry.proofs.Worlds.{count-standing_after, count-world_of}

told_from-append :
    {X : Type 0} (tell : World → Entry → List X) (s : Standing) (past rest : List Entry)
    → told_from tell s (past ++ rest)
    ≡ told_from tell s past ++ told_from tell (fold after s past) rest
told_from-append tell s [] rest = refl
told_from-append tell s (e ∷ es) rest =
    ap (λ xs. tell s.world e ++ xs) (told_from-append tell (after s e) es rest)
    ∙ sym
    (append_assoc (tell s.world e) (told_from tell (after s e) es)
    (told_from tell (fold after (after s e) es) rest))

-- what an entry puts to a port
abbrev put_in : ℕ → World → Entry → List Brought
put_in = of_entry_in put_by

-- what is put bears the number of its entry
abbrev IsOrigin : ℕ → Brought → Type 0
IsOrigin number brought = brought.origin ≡ number

taken-origin : (number : ℕ) (reply : Reply) → Each (IsOrigin number) (taken_of number reply)
taken-origin number (Took items to) = (refl, tt)
taken-origin number _ = tt

origin_if :
    (number : ℕ) (reply : Reply) (b : Bool)
    → Each (IsOrigin number) (cond b (taken_of number reply) [])
origin_if number reply true = taken-origin number reply
origin_if number reply false = tt

put-origin :
    (to : ℕ) (w : World) (ask : Ask) (reply : Reply)
    → Each (IsOrigin (w.entry_count + 1)) (put_by to w ask reply)
put-origin to w (PutKept at offered) reply =
    origin_if (w.entry_count + 1) reply (puts_to_port w.ports at.0 to)
put-origin to w _ reply = tt

-- the origins of what entries put stand between the numbers of the first and of the last
abbrev IsBetween : ℕ → ℕ → Brought → Type 0
IsBetween low high brought = (low < brought.origin) × (brought.origin ≤ high)

puts-between : (to : ℕ) (s : Standing) (h : List Entry)
    → Each (IsBetween s.world.entry_count (s.world.entry_count + length h))
    (told_from (put_in to) s h)
puts-between to s [] = tt
puts-between to s (e ∷ es) =
    let count = count-standing_after s e (recorded_step s e.ask e.reply) in
    let low = s.world.entry_count in
    let high = s.world.entry_count + length (e ∷ es) in
    each-append (IsBetween low high) (put_in to s.world e) (told_from (put_in to) (after s e) es)
    (each-weaker (IsOrigin (low + 1)) (IsBetween low high)
    (λ b is. (omega (arith, is), omega (arith, is))) (put_in to s.world e)
    (put-origin to s.world e.ask e.reply))
    (each-weaker
    (IsBetween (after s e).world.entry_count ((after s e).world.entry_count + length es))
    (IsBetween low high)
    (λ b here.
    let above = here.0 in let below = here.1 in
    (omega (arith, count, above), omega (arith, count, below)))
    (told_from (put_in to) (after s e) es) (puts-between to (after s e) es))

filter-none :
    (number : ℕ) (bs : List Brought) → Each (λ (b : Brought). b.origin ≡ number → ⊥) bs
    → filter (is_brought_of number) bs ≡ []
filter-none number [] all = refl
filter-none number (b ∷ bs) all = rw (ne_eqb b.origin number all.0) (filter-none number bs all.1)

filter-all :
    (number : ℕ) (bs : List Brought) → Each (IsOrigin number) bs
    → filter (is_brought_of number) bs ≡ bs
filter-all number [] all = refl
filter-all number (b ∷ bs) all =
    rw (eq-eqb b.origin number all.0)
    (ap (λ (xs : List Brought). b ∷ xs) (filter-all number bs all.1))

pub puts-of_reply : PutsAreOfReply
puts-of_reply pool past e rest to =
    let s0 = fresh_standing pool in
    let s = standing_of pool past in
    let number = length past + 1 in
    let count : s.world.entry_count ≡ length past = count-world_of pool past in
    let next = count-standing_after s e (recorded_step s e.ask e.reply) in
    let before : filter (is_brought_of number) (told_from (put_in to) s0 past) ≡ [] =
    filter-none number (told_from (put_in to) s0 past)
    (each-weaker (IsBetween 0 (0 + length past)) (λ (b : Brought). b.origin ≡ number → ⊥)
    (λ b here is. let below = here.1 in omega (arith, below, is)) (told_from (put_in to) s0 past)
    (puts-between to s0 past)) in
    let behind : filter (is_brought_of number) (told_from (put_in to) (after s e) rest) ≡ [] =
    filter-none number (told_from (put_in to) (after s e) rest)
    (each-weaker
    (IsBetween (after s e).world.entry_count ((after s e).world.entry_count + length rest))
    (λ (b : Brought). b.origin ≡ number → ⊥)
    (λ b here is. let above = here.0 in omega (arith, above, is, count, next))
    (told_from (put_in to) (after s e) rest) (puts-between to (after s e) rest)) in
    let mine : filter (is_brought_of number) (put_in to s.world e) ≡ put_in to s.world e =
    filter-all number (put_in to s.world e)
    (subst (λ (n : ℕ). Each (IsOrigin (n + 1)) (put_in to s.world e)) count
    (put-origin to s.world e.ask e.reply)) in
    ap (filter (is_brought_of number)) (told_from-append (put_in to) s0 past (e ∷ rest))
    ∙
    (filter-append (is_brought_of number) (told_from (put_in to) s0 past)
    (put_in to s.world e ++ told_from (put_in to) (after s e) rest)
    ∙
    (ap
    (λ (xs : List Brought).
    xs
    ++ filter (is_brought_of number)
    (put_in to s.world e ++ told_from (put_in to) (after s e) rest))
    before
    ∙
    (filter-append (is_brought_of number) (put_in to s.world e)
    (told_from (put_in to) (after s e) rest)
    ∙ (ap (λ (xs : List Brought). filter (is_brought_of number) (put_in to s.world e) ++ xs) behind
    ∙ (append-nil (filter (is_brought_of number) (put_in to s.world e)) ∙ mine)))))
