-- Leases that a pass may complete or fill.
use Rattle.std.specs.Prelude.{ℕ, List}
use Rattle.nm_turn.specs.Numbered.{Stands}
use Rattle.vale_line.specs.Leased.{Leased}
use Rattle.vale_book.specs.Leases.{IsFilledBy, IsHeldFor}
use Rattle.vale_fabric.specs.declared.kept.Fixed.{Fixed}
use Rattle.vale_fabric.specs.Fabrics.{Knowing, seen_in}

-- by what the pass has seen, of a session for which the pass speaks
pub record MayFill (fixed : Fixed) (v : Knowing) (lease : Leased) : Type 0 where
  pub session : ℕ
  pub filled : IsFilledBy (seen_in fixed v) session lease
  pub speaks : Stands session v.mine

-- and the same of a lease that is to be filled with the frames at these places
pub record MayFillFrom (fixed : Fixed) (v : Knowing) (lease : Leased) (frames : List (List ℕ)) (places : List ℕ) : Type 0 where
  pub session : ℕ
  pub held : IsHeldFor (seen_in fixed v) session lease frames places
  pub speaks : Stands session v.mine
