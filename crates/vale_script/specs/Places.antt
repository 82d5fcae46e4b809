-- What is wrong with a line's words, each at its place.
use Rattle.std.specs.Prelude.{ℕ, Bool, true, false, not, ◌||◌, if◌then◌else◌, List, [], ◌∷◌, codes, bytes_eq, is_some}
use Rattle.nm_types.specs.declared.fault.LineCause.{LineCause}
use Rattle.nm_types.specs.declared.fault.LineCause.TheVariants.{Word, Name}
use Rattle.nm_types.specs.declared.fault.LineCause.TheVariants as causes
use Rattle.vale_script.specs.declared.forms.Place.{Place}
use Rattle.vale_script.specs.declared.forms.Place.TheVariants.{UserName, PortName, Address, Number, Byte, Bytes, Side, Sides, Field, Value, Keep, Quiet}
use Rattle.vale_script.specs.declared.forms.Verb.{Verb}
use Rattle.vale_script.specs.declared.forms.Verb.TheVariants.{Rx, Poke, Move, Swap, Watch}
use Rattle.vale_script.specs.declared.script.SlotField.{SlotField}
use Rattle.vale_script.specs.declared.script.SlotField.TheVariants.{Idx, Len, Flags, Ptr}
use Rattle.vale_words.specs.Fixed.{value_of}
use Rattle.vale_words.specs.Words.{is_user_name, port_name, number_in, is_hex_byte, frame_bytes, is_mac}

abbrev pub is_side : List ℕ → Bool
is_side word = bytes_eq word (codes "tx") || bytes_eq word (codes "rx")

abbrev pub is_sides : List ℕ → Bool
is_sides word = (bytes_eq word (codes "t") || bytes_eq word (codes "r")) || bytes_eq word (codes "tr")

abbrev pub is_field : List ℕ → Bool
is_field word = ((bytes_eq word (codes "idx") || bytes_eq word (codes "len")) || bytes_eq word (codes "flags")) || bytes_eq word (codes "ptr")

-- the greatest value of a slot's field
abbrev pub greatest_of : List ℕ → ℕ
greatest_of field = if bytes_eq field (codes "idx") then 4294967295 else (if bytes_eq field (codes "ptr") then 18446744073709551615 else 65535)

-- none of the words that the place has
abbrev pub misses_word : Place → List ℕ → Bool
misses_word Side word = not (is_side word)
misses_word Sides word = not (is_sides word)
misses_word Field word = not (is_field word)
misses_word Keep word = not (bytes_eq word (codes "keep"))
misses_word Quiet word = not (bytes_eq word (codes "quiet"))
misses_word _ word = false

-- no number, one out of the place's range, or bad digits; a value's range hangs on the field before it
abbrev pub misses_number : Place → List ℕ → List ℕ → Bool
misses_number (Number low high) before word = not (is_some (number_in low high word))
misses_number Value before word = not (is_some (number_in 0 (greatest_of before) word))
misses_number Byte before word = not (is_hex_byte word)
misses_number Bytes before word = not (is_some (frame_bytes word))
misses_number _ before word = false

-- no name of a user or a port, or no address
abbrev pub misses_name : Place → List ℕ → Bool
misses_name UserName word = not (is_user_name word)
misses_name PortName word = not (is_some (port_name word))
misses_name Address word = not (is_mac word)
misses_name _ word = false

abbrev pub is_out : LineCause → Place → List ℕ → List ℕ → Bool
is_out Word place before word = misses_word place word
is_out causes.Number place before word = misses_number place before word
is_out Name place before word = misses_name place word
is_out _ place before word = false

-- a word is bad at its place for this cause, as far as places and words reach
abbrev pub any_out : LineCause → List Place → List ℕ → List (List ℕ) → Bool
any_out cause (place ∷ places) before (word ∷ words) = is_out cause place before word || any_out cause places word words
any_out cause places before words = false

-- the field of a slot
abbrev pub field_of : List ℕ → SlotField
field_of word = value_of ((codes "idx", Idx) ∷ (codes "len", Len) ∷ (codes "flags", Flags) ∷ []) word Ptr

-- whether lines of this form have words that are one of a few
abbrev pub has_fixed_words : Verb → Bool
has_fixed_words Rx = true
has_fixed_words Poke = true
has_fixed_words Move = true
has_fixed_words Swap = true
has_fixed_words Watch = true
has_fixed_words _ = false
