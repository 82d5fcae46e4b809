-- Buffers with frames in their first bytes. A frame of several slots lies in as many buffers, one
-- behind the other.
use Rattle.std.specs.Prelude.{ℕ, Bool, ◌≡◌, ◌≤◌, ◌==◌, if◌then◌else◌, List, [], ◌∷◌, ◌++◌, length, take, map, flat_map}
use Rattle.nm_types.specs.Limits.{buffer_bytes}
use Rattle.nm_frag.specs.Parts.{parts_of, HeldPart, cut_frames}
use Rattle.nm_region.specs.Buffers.{Buffer}
use Rattle.nm_region.specs.Marked.{with_front}
use Rattle.vale_line.specs.declared.got.Got.{Got}

-- a buffer with a part of a frame in its first bytes, behind which so many parts follow
abbrev pub got_of : List ℕ → ℕ → Buffer → Got
got_of part rest buffer = record { buf = with_front part buffer; len = length part; rest = rest }

-- a buffer with no frame
abbrev pub blank : Buffer → Got
blank buffer = record { buf = buffer; len = 0; rest = 0 }

abbrev pub buffer_of : Got → Buffer
buffer_of got = got.buf

abbrev pub buffers_of : List Got → List Buffer
buffers_of gots = map buffer_of gots

-- the part of a frame in a buffer's first bytes
abbrev pub part_in : Got → List ℕ
part_in got = take got.len got.buf.bytes

-- a frame ends in this buffer
abbrev pub is_last : Got → Bool
is_last got = got.rest == 0

-- how many frames end in a buffer
abbrev pub last_count : Got → ℕ
last_count got = if is_last got then 1 else 0

-- the frames that end in these buffers, where the first one began with some bytes before them
abbrev pub frames_behind : List ℕ → List Got → List (List ℕ)
frames_behind begun [] = []
frames_behind begun (got ∷ gots) =
    if is_last got then (begun ++ part_in got) ∷ frames_behind [] gots else frames_behind (begun ++ part_in got) gots

-- the frames in buffers
abbrev pub frames_in : List Got → List (List ℕ)
frames_in gots = frames_behind [] gots

-- a frame's parts in buffers, one in each
abbrev pub gots_of_parts : List (List ℕ) → List Buffer → List Got
gots_of_parts [] buffers = []
gots_of_parts (part ∷ parts) [] = []
gots_of_parts (part ∷ parts) (buffer ∷ buffers) = got_of part (length parts) buffer ∷ gots_of_parts parts buffers

-- the buffers that a frame takes of these, with the frame
abbrev pub gots_with : List ℕ → List Buffer → List Got
gots_with bytes buffers = gots_of_parts (parts_of bytes) buffers

-- a frame's parts written into the first of these, one in each
abbrev pub written_parts : List (List ℕ) → List Got → List Got
written_parts [] gots = gots
written_parts (part ∷ parts) [] = []
written_parts (part ∷ parts) (got ∷ gots) = got_of part (length parts) got.buf ∷ written_parts parts gots

-- what a buffer tells of the part in it
abbrev pub held_part : Got → HeldPart
held_part got = record { bytes = part_in got; rest = got.rest }

abbrev pub held_parts : List Got → List HeldPart
held_parts gots = map held_part gots

-- whole frames lie in these buffers, each cut as frames are
abbrev pub IsCut : List Got → Type 0
IsCut gots = held_parts gots ≡ cut_frames (frames_in gots)

-- all bytes in buffers: those of a frame where its parts lie in them
abbrev pub joined_parts : List Got → List ℕ
joined_parts gots = flat_map part_in gots

-- parts that are told, written into the first of these, one in each
abbrev pub copied_parts : List HeldPart → List Got → List Got
copied_parts [] gots = gots
copied_parts (part ∷ parts) [] = []
copied_parts (part ∷ parts) (got ∷ gots) = got_of part.bytes part.rest got.buf ∷ copied_parts parts gots

-- no more bytes than a buffer has
abbrev pub FitsPart : Got → Type 0
FitsPart got = length (part_in got) ≤ buffer_bytes

-- a frame of one slot
abbrev pub IsSingle : Got → Type 0
IsSingle got = got.rest ≡ 0
