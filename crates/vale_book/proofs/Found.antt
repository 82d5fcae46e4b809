-- The open port of an id, at its place in a book.
use Rattle.std.proofs.Common.{ℕ, Bool, true, ◌≡◌, Some, None, refl, sym, ◌∙◌, Option, List, is_some}
use Rattle.nm_types.specs.declared.id.SessionId.{SessionId}
use Rattle.vale_entry.specs.World.{Port, open_port}
use Rattle.vale_entry.specs.Legal.{is_met}
use Rattle.vale_entry.proofs.Places.{open-place}
use Rattle.vale_entry.proofs.HistoryLaws.{numbers-rise}
use Rattle.vale_port.specs.Lists.{IsFoundAt, IsNotFound, OfState}
use Rattle.vale_port.specs.Ports.{PortState}
use Rattle.vale_book.specs.declared.book.Book.TheInside.{Inside}
use Rattle.vale_book.specs.BookView.{IsBook}
use Rattle.vale_book.proofs.Moves.{before}
use Rattle.vale_book.proofs.Standing.{IsHere, met, found-here, not-found}

abbrev pub open_at : ℕ → List Port → Option Port
open_at id ports = open_port ports id

-- it stands in the world, and passes
pub record IsOpenHere (b : Inside) (id place : ℕ) (test : Port → Bool) : Type 0 where
  pub port : Port
  pub here : IsHere b.pool.buffers b.history.entries b (open_at id) place port
  pub id_is : port.id ≡ id
  pub passes : test port ≡ true

pub open-here : (b : Inside) (id place : ℕ) (test : Port → Bool) → IsBook b → IsFoundAt (open_at id) b.ports.items place
    → is_met test (open_port (before b).world.ports id) ≡ true → IsOpenHere b id place test
open-here b id place test k found is =
    let pool = b.pool.buffers in
    let h = b.history.entries in
    let m = met test (open_port (before b).world.ports id) is in
    let at = open-place (before b).world.ports _ id m.it (numbers-rise pool h).ports_rise m.found_is in
    record {
      port = m.it;
      here = found-here pool h b (open_at id) place m.it k.stands found m.found_is;
      id_is = at.id_is;
      passes = m.passes;
    }

-- and its session is that of the book's port
pub session-here : (b : Inside) (id place : ℕ) (test : Port → Bool) (here : IsOpenHere b id place test) (session : SessionId)
    → OfState (λ (p : PortState). session.0 ≡ p.session) b.ports.items place → here.port.session ≡ session.0
session-here b id place test here session is =
    sym (is here.here.at.state here.here.at.state_here ∙ here.here.at.is_seat.session)

pub never-missing : (b : Inside) (id : ℕ) (test : Port → Bool) → IsBook b → IsNotFound (open_at id) b.ports.items
    → is_met test (open_port (before b).world.ports id) ≡ true → ⊥
never-missing b id test k none is =
    let m = met test (open_port (before b).world.ports id) is in
    let wrong : Some m.it ≡ None = sym m.found_is ∙ not-found b.pool.buffers b.history.entries b (open_at id) k.stands none in
    absurd cc

abbrev pub any_port : Port → Bool
any_port port = true

pub met-any : (found : Option Port) → is_some found ≡ true → is_met any_port found ≡ true
met-any None is = absurd cc
met-any (Some port) is = refl
