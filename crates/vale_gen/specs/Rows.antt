-- Parts of loads, worked by hand, as theorems that hold by computation.
use Rattle.std.specs.Prelude.{ℕ, ◌≡◌, true, false, List, [], ◌∷◌, length, map, sum_by, take, drop, codes, refl}
use Rattle.vale_script.specs.declared.script.Act.{Act}
use Rattle.vale_script.specs.declared.script.Act.TheVariants.{Enter, Open, Put, Tx, Rx}
use Rattle.vale_script.specs.declared.script.Line.{Line}
use Rattle.vale_script.specs.declared.script.Unit.{Unit}
use Rattle.vale_script.specs.declared.script.Unit.TheVariants.{Single, Block}
use Rattle.vale_gen.specs.Load.{Deed, number_behind, station, everyone, destination, put, is_followed, frame_deeds, user_deeds, load_program}

-- A user's numbers wrap at 2^64.

first_numbers : map (number_behind 7 1) (0 ∷ 1 ∷ 2 ∷ []) ≡ 8 ∷ 15462296684244204215 ∷ 6702960577162501242 ∷ []
unfolding number_behind
first_numbers = refl

wrapped_numbers : map (number_behind 18446744073709551615 4) (0 ∷ 1 ∷ []) ≡ 3 ∷ 2088359638719790806 ∷ []
unfolding number_behind
wrapped_numbers = refl

-- The bits from the 33rd on choose the destination, the fifth of which is everyone.

destinations : map destination (0 ∷ 8589934591 ∷ 8589934592 ∷ 25769803776 ∷ 34359738368 ∷ 42949672959 ∷ 42949672960 ∷ []) ≡ station 1 ∷ station 1 ∷ station 2 ∷ station 4 ∷ everyone ∷ everyone ∷ station 1 ∷ []
destinations = refl

all_stations : everyone ≡ record { 0 = 255 ∷ 255 ∷ 255 ∷ 255 ∷ 255 ∷ 255 ∷ [] }
all_stations = refl

-- Frames of `load 7`: the first of user 1, which goes to everyone, and the 301st of user 4.

first_frame : put 7 1 0 ≡ Put (codes "vale0:u1") 1 (record { 0 = 255 ∷ 255 ∷ 255 ∷ 255 ∷ 255 ∷ 255 ∷ [] }) (record { 0 = 2 ∷ 0 ∷ 0 ∷ 0 ∷ 0 ∷ 1 ∷ [] }) 68 0
unfolding number_behind
first_frame = refl

later_frame : put 7 4 300 ≡ Put (codes "vale0:u4") 1 (record { 0 = 2 ∷ 0 ∷ 0 ∷ 0 ∷ 0 ∷ 1 ∷ [] }) (record { 0 = 2 ∷ 0 ∷ 0 ∷ 0 ∷ 0 ∷ 4 ∷ [] }) 115 44
unfolding number_behind
later_frame = refl

abbrev length_of : Deed → ℕ
length_of deed = length_by deed.act
  where
    length_by : Act → ℕ
    length_by (Put name count to from len fill) = len
    length_by _ = 0

-- lengths are 60 to 123
least_and_most : map length_of (record { user = 1; act = put 63 1 0 } ∷ record { user = 1; act = put 62 1 0 } ∷ []) ≡ 60 ∷ 123 ∷ []
least_and_most = refl

-- those of 2,000 frames are 31 times all 64, and 16 more
all_lengths : map (λ (user : ℕ). sum_by length_of (user_deeds 7 user 2000)) (1 ∷ 2 ∷ 3 ∷ 4 ∷ []) ≡ 182744 ∷ 182760 ∷ 182776 ∷ 182792 ∷ []
unfolding user_deeds
all_lengths = refl

-- syncs follow 31 times 64 frames, and the last 16
followed : map is_followed (0 ∷ 62 ∷ 63 ∷ 64 ∷ 127 ∷ 1983 ∷ 1984 ∷ 1998 ∷ 1999 ∷ []) ≡ false ∷ false ∷ true ∷ false ∷ true ∷ true ∷ false ∷ false ∷ true ∷ []
followed = refl

followed_frame : map (λ (deed : Deed). deed.act) (frame_deeds 7 1 63) ≡ put 7 1 63 ∷ Tx (codes "vale0:u1") ∷ Rx (codes "vale0:u1") false ∷ []
followed_frame = refl

all_deeds : length (user_deeds 7 1 2000) ≡ 2064
unfolding user_deeds
all_deeds = refl

-- The whole: a line for each user that enters and opens its port, and the block.

abbrev single : ℕ → ℕ → Act → Unit
single at user act = Single (record { at = at; user = user; act = act })

first_units : take 8 (load_program 7).units ≡ single 1 1 Enter ∷ single 2 2 Enter ∷ single 3 3 Enter ∷ single 4 4 Enter ∷ single 5 1 (Open (codes "vale0:u1") 256 256 0) ∷ single 6 2 (Open (codes "vale0:u2") 256 256 0) ∷ single 7 3 (Open (codes "vale0:u3") 256 256 0) ∷ single 8 4 (Open (codes "vale0:u4") 256 256 0) ∷ []
first_units = refl

abbrev lines_in : List Unit → List Line
lines_in (Block lines ∷ []) = lines
lines_in _ = []

abbrev block_lines : List Line
block_lines = lines_in (drop 8 (load_program 7).units)

-- each user's lines are 2,064, the first one's before the second one's
block_users : map (λ (line : Line). line.user) (take 3 (drop 2063 block_lines)) ≡ 1 ∷ 2 ∷ 2 ∷ []
unfolding user_deeds
block_users = refl

block_begins : map (λ (line : Line). line.at) (take 2 block_lines) ≡ 10 ∷ 11 ∷ []
unfolding user_deeds
block_begins = refl

block_ends : length block_lines ≡ 8256
unfolding user_deeds
block_ends = refl

load_pool : (load_program 7).pool ≡ 8192
load_pool = refl

load_users : (load_program 7).users ≡ codes "u1" ∷ codes "u2" ∷ codes "u3" ∷ codes "u4" ∷ []
load_users = refl

no_files : (load_program 7).files ≡ []
no_files = refl
