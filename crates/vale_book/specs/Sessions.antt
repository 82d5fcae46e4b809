-- The sessions of a book, by their numbers.
use Rattle.std.specs.Prelude.{ℕ, Bool, not, ◌==◌, List, filter}
use Rattle.nm_types.specs.declared.id.SessionId.{SessionId}

abbrev pub is_other_user : ℕ → SessionId → Bool
is_other_user session other = not (other.0 == session)

abbrev pub users_without : ℕ → List SessionId → List SessionId
users_without session users = filter (is_other_user session) users
