-- The program of `load n`: four users on one switch. Each opens a port, and in one block each puts 2,000 frames
-- whose addresses and lengths hang on n.
use Rattle.std.specs.Prelude.{ℕ, zero, suc, Bool, false, ◌==◌, ◌||◌, ◌+◌, ◌*◌, ◌/◌, ◌%◌, ◌^◌, if◌then◌else◌, List, [], ◌∷◌, ◌++◌, map, flat_map, codes}
use Rattle.std.specs.List.{range_with_len}
use Rattle.nm_types.specs.declared.id.Mac.{Mac}
use Rattle.vale_script.specs.declared.script.Act.{Act}
use Rattle.vale_script.specs.declared.script.Act.TheVariants.{Enter, Open, Put, Tx, Rx}
use Rattle.vale_script.specs.declared.script.Line.{Line}
use Rattle.vale_script.specs.declared.script.Unit.TheVariants.{Single, Block}
use Rattle.vale_script.specs.Script.{Program}

-- the users are `u1` to `u4`, and their ports `vale0:u1` to `vale0:u4`
abbrev pub user_name : ℕ → List ℕ
user_name user = codes "u" ++ (48 + user) ∷ []

abbrev pub port_name : ℕ → List ℕ
port_name user = codes "vale0:" ++ user_name user

-- a user's random number, drawn anew for each frame: behind so many frames
unfoldable pub number_behind : ℕ → ℕ → ℕ → ℕ
number_behind n user zero = (n + user) % 2 ^ 64
number_behind n user (suc frames) = (number_behind n user frames * 6364136223846793005 + 1442695040888963407) % 2 ^ 64

-- 02:00:00:00:00:0d
abbrev pub station : ℕ → Mac
station d = record { 0 = 2 ∷ 0 ∷ 0 ∷ 0 ∷ 0 ∷ d ∷ [] }

abbrev pub everyone : Mac
everyone = record { 0 = 255 ∷ 255 ∷ 255 ∷ 255 ∷ 255 ∷ 255 ∷ [] }

abbrev pub destination_by : ℕ → Mac
destination_by k = if k == 4 then everyone else station (k + 1)

-- one of the four users or everyone, by a random number
abbrev pub destination : ℕ → Mac
destination x = destination_by (x / 2 ^ 33 % 5)

-- a user's frame j, counted from 0
abbrev pub put : ℕ → ℕ → ℕ → Act
put n user j = Put (port_name user) 1 (destination (number_behind n user (j + 1))) (station user) (60 + (n + user + j) % 64) (j % 256)

-- what a user does on a line
pub record Deed : Type 0 where
  pub user : ℕ
  pub act : Act

abbrev pub enters : ℕ → Deed
enters user = record { user = user; act = Enter }

abbrev pub opens : ℕ → Deed
opens user = record { user = user; act = Open (port_name user) 256 256 0 }

abbrev pub puts : ℕ → ℕ → ℕ → Deed
puts n user j = record { user = user; act = put n user j }

abbrev pub syncs : ℕ → List Deed
syncs user = record { user = user; act = Tx (port_name user) } ∷ record { user = user; act = Rx (port_name user) false } ∷ []

-- syncs follow every 64 frames, and the last one
abbrev pub is_followed : ℕ → Bool
is_followed j = ((j + 1) % 64 == 0) || (j + 1 == 2000)

abbrev pub frame_deeds : ℕ → ℕ → ℕ → List Deed
frame_deeds n user j = puts n user j ∷ (if is_followed j then syncs user else [])

-- what a user does with its first frames
unfoldable pub user_deeds : ℕ → ℕ → ℕ → List Deed
user_deeds n user frames = flat_map (frame_deeds n user) (range_with_len 0 frames)

-- the lines of these deeds, numbered from `at` on
abbrev pub numbered : ℕ → List Deed → List Line
numbered at [] = []
numbered at (deed ∷ deeds) = record { at = at; user = deed.user; act = deed.act } ∷ numbered (at + 1) deeds

abbrev pub users : List ℕ
users = range_with_len 1 4

abbrev pub opening : List Deed
opening = map enters users ++ map opens users

-- the block: the first user's lines, then the second's and so on
abbrev pub block_deeds : ℕ → List Deed
block_deeds n = flat_map (λ user. user_deeds n user 2000) users

-- Lines are numbered as in a script's text, where the block's `par` is line 9.
abbrev pub load_program : ℕ → Program
load_program n = record {
  pool = 8192;
  users = map user_name users;
  files = [];
  units = map Single (numbered 1 opening) ++ Block (numbered 10 (block_deeds n)) ∷ [];
}
