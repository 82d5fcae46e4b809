-- Which sessions are there: an Enter adds one, a Leave takes one away, and no other entry does.
use Rattle.std.proofs.Common.{ℕ, ◌≡◌, Bool, true, false, List, [], ◌∷◌, ◌++◌, refl, ◌∙◌, ap}
use Rattle.vale_entry.specs.declared.entry.Ask.{Ask}
use Rattle.vale_entry.specs.declared.entry.Ask.TheVariants.{Enter, Leave}
use Rattle.vale_entry.specs.declared.entry.Entry.{Entry}
use Rattle.vale_entry.specs.Legal.{Standing, after, standing_of, world_of, Follows}
use Rattle.vale_entry.proofs.Follows.{EachKind, Left, follows-by}
use Rattle.vale_entry.proofs.Worlds.{standing-push}

abbrev pub comes_or_goes : Ask → Bool
comes_or_goes (Enter user) = true
comes_or_goes (Leave session) = true
comes_or_goes _ = false

module _ (s : Standing) where
  abbrev Stays : Entry → Standing → Type 0
  Stays e left = comes_or_goes e.ask ≡ false → left.world.sessions ≡ s.world.sessions

  kinds : EachKind s (Left s Stays)
  kinds = record {
    enters = λ user fits other. absurd cc;
    quiet = λ ask session reply q other. refl;
    opens = λ session name tx rx extra can refusal other. refl;
    sends = λ from frames port e can settled other. refl;
    grants = λ origin to offer first same other. refl;
    completes = λ lease lot e other. refl;
    receives = λ ask at back port receives e can other. refl;
    puts = λ at offered items port peer e can found other. refl;
    watches = λ at target sides port found e can there none other. refl;
    shuts = λ at port e settled other. refl;
    finishes = λ at bufs chain port fits e can out other. refl;
    leaves = λ session can other. absurd cc;
  }

  pub stays : (e : Entry) → Follows s e → Stays e (after s e)
  stays e follows = follows-by s Stays e follows kinds

pub sessions-stay : (pool : ℕ) (h : List Entry) (e : Entry) → Follows (standing_of pool h) e → comes_or_goes e.ask ≡ false
    → (world_of pool (h ++ e ∷ [])).sessions ≡ (world_of pool h).sessions
sessions-stay pool h e follows other = ap (λ (t : Standing). t.world.sessions) (standing-push pool h e) ∙ stays (standing_of pool h) e follows other
