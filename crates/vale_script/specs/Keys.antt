-- Names as numbers, and what tables by such numbers say of names.
use Rattle.std.specs.Prelude.{ℕ, Bool, ◌+◌, ◌*◌, ◌==◌, ◌&&◌, nat_eq, if◌then◌else◌, List, [], ◌∷◌, Option, None}
use Rattle.std.specs.HashMap.{HashMap, get}
use Rattle.vale_words.specs.Words.{is_user_name, is_file_name}

-- the bytes of a word as one number, the first one lowest
abbrev pub packed : List ℕ → ℕ
packed [] = 0
packed (b ∷ bs) = packed bs * 256 + b

-- what stands before the first blank of a text
abbrev pub before_blank : List ℕ → List ℕ
before_blank [] = []
before_blank (b ∷ bs) = if b == 32 then [] else b ∷ before_blank bs

-- what stands behind it
abbrev pub behind_blank : List ℕ → List ℕ
behind_blank [] = []
behind_blank (b ∷ bs) = if b == 32 then bs else behind_blank bs

-- a user's name, a blank, and a word
abbrev pub is_port_text : List ℕ → Bool
is_port_text text = is_user_name (before_blank text) && is_file_name (behind_blank text)

abbrev pub port_number : List ℕ → ℕ × ℕ
port_number text = (packed (before_blank text), packed (behind_blank text))

abbrev pub port_eq : (ℕ × ℕ) → (ℕ × ℕ) → Bool
port_eq x y = nat_eq x.0 y.0 && nat_eq x.1 y.1

-- the numbers of users by name
unfoldable pub numbers_seen : {S : Type 0} → HashMap ℕ ℕ S → List ℕ → Option ℕ
numbers_seen table = λ name. if is_user_name name then get nat_eq table (packed name) else None

-- the ports of users that stand open, by user and name with a blank between them
unfoldable pub ports_seen : {S : Type 0} → HashMap (ℕ × ℕ) Bool S → List ℕ → Option Bool
ports_seen table = λ text. if is_port_text text then get port_eq table (port_number text) else None
