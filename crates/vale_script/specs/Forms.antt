-- The forms of lines, a row for each: the first word, the places of the longest form, and how many of them
-- each such line has.
use Rattle.std.specs.Prelude.{ℕ, List, [], ◌∷◌, Option, find, bytes_eq, codes}
use Rattle.nm_types.specs.Limits.{most_counts, most_pool, buffer_bytes, most_batch}
use Rattle.vale_script.specs.declared.forms.Form.{Form as Row}
use Rattle.vale_script.specs.declared.forms.Place.{Place}
use Rattle.vale_script.specs.declared.forms.Place.TheVariants.{UserName, PortName, Address, File, Number, Byte, Bytes, Side, Sides, Field, Value, Keep, Quiet}
use Rattle.vale_script.specs.declared.forms.Verb.{Verb}
use Rattle.vale_script.specs.declared.forms.Verb.TheVariants.{Pool, User, Open, Put, Hex, Play, Tx, Rx, Fwd, Poke, Move, Swap, Extra, Watch, Stat, Save, Close, Par, End}

pub record Form : Type 0 where
  pub word : List ℕ
  pub places : List Place
  pub least : ℕ

-- a number of 32 bits
abbrev pub any_number : Place
any_number = Number 0 4294967295

-- how many frames
abbrev pub frame_count : Place
frame_count = Number 0 most_counts

abbrev pub form_of : Verb → Form
form_of Pool = record { word = codes "pool"; places = Number 1 most_pool ∷ []; least = 1 }
form_of User = record { word = codes "user"; places = UserName ∷ []; least = 1 }
form_of Open = record { word = codes "open"; places = UserName ∷ PortName ∷ any_number ∷ any_number ∷ any_number ∷ []; least = 4 }
form_of Put = record { word = codes "put"; places = UserName ∷ PortName ∷ frame_count ∷ Address ∷ Address ∷ Number 0 buffer_bytes ∷ Byte ∷ []; least = 7 }
form_of Hex = record { word = codes "hex"; places = UserName ∷ PortName ∷ Bytes ∷ []; least = 3 }
form_of Play = record { word = codes "play"; places = UserName ∷ PortName ∷ File ∷ Number 1 most_batch ∷ []; least = 4 }
form_of Tx = record { word = codes "tx"; places = UserName ∷ PortName ∷ []; least = 2 }
form_of Rx = record { word = codes "rx"; places = UserName ∷ PortName ∷ Keep ∷ []; least = 2 }
form_of Fwd = record { word = codes "fwd"; places = UserName ∷ PortName ∷ PortName ∷ frame_count ∷ []; least = 4 }
form_of Poke = record { word = codes "poke"; places = UserName ∷ PortName ∷ Side ∷ any_number ∷ Field ∷ Value ∷ []; least = 6 }
form_of Move = record { word = codes "move"; places = UserName ∷ PortName ∷ Side ∷ any_number ∷ any_number ∷ []; least = 5 }
form_of Swap = record { word = codes "swap"; places = UserName ∷ PortName ∷ Side ∷ any_number ∷ PortName ∷ Side ∷ any_number ∷ Quiet ∷ []; least = 7 }
form_of Extra = record { word = codes "extra"; places = UserName ∷ PortName ∷ any_number ∷ any_number ∷ []; least = 4 }
form_of Watch = record { word = codes "watch"; places = UserName ∷ PortName ∷ PortName ∷ Sides ∷ []; least = 4 }
form_of Stat = record { word = codes "stat"; places = UserName ∷ PortName ∷ []; least = 2 }
form_of Save = record { word = codes "save"; places = UserName ∷ PortName ∷ File ∷ []; least = 3 }
form_of Close = record { word = codes "close"; places = UserName ∷ PortName ∷ []; least = 2 }
form_of Par = record { word = codes "par"; places = []; least = 0 }
form_of End = record { word = codes "end"; places = []; least = 0 }

abbrev pub verbs : List Verb
verbs = Pool ∷ User ∷ Open ∷ Put ∷ Hex ∷ Play ∷ Tx ∷ Rx ∷ Fwd ∷ Poke ∷ Move ∷ Swap ∷ Extra ∷ Watch ∷ Stat ∷ Save ∷ Close ∷ Par ∷ End ∷ []

unfoldable pub verb_of : List ℕ → Option Verb
verb_of word = find (λ (verb : Verb). bytes_eq (form_of verb).word word) verbs

abbrev pub shown_form : Row → Form
shown_form row = record { word = row.word.now; places = row.places.now; least = row.least }
