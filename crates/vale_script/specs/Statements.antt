-- What the words of a line say by themselves, or why they say nothing that a script may say.
use Rattle.std.specs.Prelude.{ℕ, ◌+◌, Bool, false, not, ◌==◌, ◌≡◌, nat_lt, nat_le, ◌||◌, ◌&&◌, if◌then◌else◌, List, [], ◌∷◌, length, Option, Some, None, Result, Ok, Err}
use Rattle.std.specs.Borrow.{Bor}
use Rattle.nm_types.specs.Limits.{most_counts, most_pool, buffer_bytes, most_batch}
use Rattle.nm_types.specs.declared.id.Mac.{Mac}
use Rattle.nm_types.specs.declared.fault.LineCause.{LineCause}
use Rattle.nm_types.specs.declared.fault.LineCause.TheVariants as causes
use Rattle.vale_script.specs.declared.script.Act.{Act}
use Rattle.vale_script.specs.declared.script.Act.TheVariants as acts
use Rattle.vale_script.specs.declared.forms.Verb.{Verb}
use Rattle.vale_script.specs.declared.forms.Verb.TheVariants as verbs
use Rattle.vale_script.specs.declared.statements.Said.{Said}
use Rattle.vale_script.specs.declared.statements.Said.TheVariants as said
use Rattle.vale_script.specs.declared.statements.LineFault.{LineFault}
use Rattle.vale_script.specs.declared.statements.LineFault.TheVariants.{Bad, NoMemory}
use Rattle.vale_script.specs.Forms.{form_of, verb_of}
use Rattle.vale_script.specs.Places.{any_out, greatest_of, field_of}
use Rattle.vale_words.specs.Fixed.{word_at, side_of, sides_of}
use Rattle.vale_words.specs.Words.{words_of, are_line_bytes, is_silent, is_user_name, port_name, text_of, number_in, hex_byte_of, frame_bytes, mac_of}

infixl 10 ◌>>=◌
abbrev pub ◌>>=◌ : {A B : Type 0} → Result A LineCause → (A → Result B LineCause) → Result B LineCause
Ok a >>= f = f a
Err cause >>= f = Err cause

abbrev pub or_cause : {A : Type 0} → LineCause → Option A → Result A LineCause
or_cause cause None = Err cause
or_cause cause (Some a) = Ok a

abbrev pub text_at : ℕ → List (List ℕ) → Result (List ℕ) LineCause
text_at i words = or_cause causes.Word (text_of (word_at i words))

abbrev pub user_at : List (List ℕ) → Result (List ℕ) LineCause
user_at words = if is_user_name (word_at 1 words) then text_at 1 words else Err causes.Name

abbrev pub port_at : ℕ → List (List ℕ) → Result (List ℕ) LineCause
port_at i words = or_cause causes.Name (port_name (word_at i words))

abbrev pub address_at : ℕ → List (List ℕ) → Result Mac LineCause
address_at i words = or_cause causes.Name (mac_of (word_at i words))

abbrev pub byte_at_place : ℕ → List (List ℕ) → Result ℕ LineCause
byte_at_place i words = or_cause causes.Number (hex_byte_of (word_at i words))

abbrev pub number_at : ℕ → ℕ → ℕ → List (List ℕ) → Result ℕ LineCause
number_at low high i words = or_cause causes.Number (number_in low high (word_at i words))

abbrev pub any_at : ℕ → List (List ℕ) → Result ℕ LineCause
any_at i words = number_at 0 4294967295 i words

-- two numbers, one behind the other
abbrev pub two_at : ℕ → List (List ℕ) → Result (ℕ × ℕ) LineCause
two_at i words = do
  first ← any_at i words
  second ← any_at (i + 1) words
  Ok (first, second)

-- the number of frames of a put or a forward
abbrev pub count_at : ℕ → List (List ℕ) → Result ℕ LineCause
count_at i words = number_at 0 most_counts i words

-- a last word that may be left out
abbrev pub extra_at : List (List ℕ) → Result ℕ LineCause
extra_at words = if length words == 6 then any_at 5 words else Ok 0

abbrev pub open_act : List (List ℕ) → Result Act LineCause
open_act words = do
  name ← port_at 2 words
  rings ← two_at 3 words
  extra ← extra_at words
  Ok (acts.Open name rings.0 rings.1 extra)

abbrev pub put_with : List ℕ → ℕ → List (List ℕ) → Result Act LineCause
put_with name count words = do
  to ← address_at 4 words
  from ← address_at 5 words
  len ← number_at 0 buffer_bytes 6 words
  fill ← byte_at_place 7 words
  Ok (acts.Put name count to from len fill)

abbrev pub put_act : List (List ℕ) → Result Act LineCause
put_act words = do
  name ← port_at 2 words
  count ← count_at 3 words
  put_with name count words

abbrev pub fwd_act : List (List ℕ) → Result Act LineCause
fwd_act words = do
  from ← port_at 2 words
  to ← port_at 3 words
  count ← count_at 4 words
  Ok (acts.Fwd from to count)

abbrev pub poke_act : List (List ℕ) → Result Act LineCause
poke_act words = do
  name ← port_at 2 words
  slot ← any_at 4 words
  value ← number_at 0 (greatest_of (word_at 5 words)) 6 words
  Ok (acts.Poke name (side_of (word_at 3 words)) slot (field_of (word_at 5 words)) value)

abbrev pub move_act : List (List ℕ) → Result Act LineCause
move_act words = do
  name ← port_at 2 words
  places ← two_at 4 words
  Ok (acts.Move name (side_of (word_at 3 words)) places.0 places.1)

abbrev pub swap_act : List (List ℕ) → Result Act LineCause
swap_act words = do
  name ← port_at 2 words
  slot ← any_at 4 words
  other ← port_at 5 words
  other_slot ← any_at 7 words
  Ok (acts.Swap name (side_of (word_at 3 words)) slot other (side_of (word_at 6 words)) other_slot (length words == 9))

abbrev pub extra_act : List (List ℕ) → Result Act LineCause
extra_act words = do
  name ← port_at 2 words
  places ← two_at 3 words
  Ok (acts.Extra name places.0 places.1)

abbrev pub watch_act : List (List ℕ) → Result Act LineCause
watch_act words = do
  monitor ← port_at 2 words
  target ← port_at 3 words
  Ok (acts.Watch monitor target (sides_of (word_at 4 words)))

abbrev pub named_by : Verb → ℕ → List ℕ → Result Act LineCause
named_by verbs.Tx count name = Ok (acts.Tx name)
named_by verbs.Rx count name = Ok (acts.Rx name (count == 4))
named_by verbs.Stat count name = Ok (acts.Stat name)
named_by verbs.Close count name = Ok (acts.Close name)
named_by _ count name = Err causes.Word

abbrev pub named_act : Verb → List (List ℕ) → Result Act LineCause
named_act verb words = port_at 2 words >>= named_by verb (length words)

abbrev pub plain_act : Verb → List (List ℕ) → Result Act LineCause
plain_act verbs.Open words = open_act words
plain_act verbs.Put words = put_act words
plain_act verbs.Fwd words = fwd_act words
plain_act verbs.Poke words = poke_act words
plain_act verbs.Move words = move_act words
plain_act verbs.Swap words = swap_act words
plain_act verbs.Extra words = extra_act words
plain_act verbs.Watch words = watch_act words
plain_act verb words = named_act verb words

abbrev pub frame_at : ℕ → List (List ℕ) → Result (List ℕ) LineCause
frame_at i words = or_cause causes.Number (frame_bytes (word_at i words))

abbrev pub hex_act : List (List ℕ) → Result Act LineCause
hex_act words = do
  name ← port_at 2 words
  bytes ← frame_at 3 words
  Ok (acts.Hex name (record { bytes = bytes; no_learn = false }))

abbrev pub play_act : List (List ℕ) → Result Act LineCause
play_act words = do
  name ← port_at 2 words
  file ← text_at 3 words
  batch ← number_at 1 most_batch 4 words
  Ok (acts.Play name file batch)

abbrev pub save_act : List (List ℕ) → Result Act LineCause
save_act words = do
  name ← port_at 2 words
  file ← text_at 3 words
  Ok (acts.Save name file)

abbrev pub act_of : Verb → List (List ℕ) → Result Act LineCause
act_of verbs.Hex words = hex_act words
act_of verbs.Play words = play_act words
act_of verbs.Save words = save_act words
act_of verb words = plain_act verb words

-- what a line says
pub data Statement : Type 0 where
  Nothing : Statement
  Pool : (size : ℕ) → Statement
  NewUser : (name : List ℕ) → Statement
  Begin : Statement
  End : Statement
  Does : (user : List ℕ) → (act : Act) → Statement

abbrev pub does_act : Verb → List (List ℕ) → Result Statement LineCause
does_act verb words = do
  user ← user_at words
  act ← act_of verb words
  Ok (Does user act)

abbrev pub statement_of : Verb → List (List ℕ) → Result Statement LineCause
statement_of verbs.Pool words = number_at 1 most_pool 1 words >>= (λ size. Ok (Pool size))
statement_of verbs.User words = user_at words >>= (λ name. Ok (NewUser name))
statement_of verbs.Par words = Ok Begin
statement_of verbs.End words = Ok End
statement_of verb words = does_act verb words

-- Why the words of a line are no such line, by the words alone: each cause is looked for in the whole line
-- before the next one.
abbrev pub cause_by : Verb → List ℕ → List (List ℕ) → Option LineCause
cause_by verb first others =
    if any_out causes.Word (form_of verb).places first others then Some causes.Word
    else (if nat_lt (length others) (form_of verb).least || nat_lt (length (form_of verb).places) (length others) then Some causes.Count
    else (if any_out causes.Number (form_of verb).places first others then Some causes.Number
    else (if any_out causes.Name (form_of verb).places first others then Some causes.Name
    else None)))

-- as many words as a line of this form has, with its fixed words at their places
abbrev pub has_form : Verb → List (List ℕ) → Bool
has_form verb [] = false
has_form verb (first ∷ others) =
    (nat_le (form_of verb).least (length others) && nat_le (length others) (length (form_of verb).places)) && not (any_out causes.Word (form_of verb).places first others)

abbrev pub cause_of_words : Verb → List (List ℕ) → Option LineCause
cause_of_words verb [] = Some causes.Word
cause_of_words verb (first ∷ others) = cause_by verb first others

abbrev pub said_unless : Option LineCause → Result Statement LineCause → Result Statement LineCause
said_unless (Some cause) said = Err cause
said_unless None said = said

abbrev pub said_by_verb : Option Verb → List (List ℕ) → Result Statement LineCause
said_by_verb None words = Err causes.Word
said_by_verb (Some verb) words = said_unless (cause_of_words verb words) (statement_of verb words)

abbrev pub words_said : List (List ℕ) → Result Statement LineCause
words_said words = said_by_verb (verb_of (word_at 0 words)) words

-- A line without words, and one whose first word begins with `#`, says nothing, whatever bytes it holds.
abbrev pub line_said : List ℕ → Result Statement LineCause
line_said line =
    if is_silent (words_of line) then Ok Nothing
    else (if are_line_bytes line then words_said (words_of line) else Err causes.Word)

-- how a call answers that

abbrev pub shown : Said → Statement
shown said.Nothing = Nothing
shown (said.Pool size) = Pool size
shown (said.NewUser name) = NewUser name.now
shown said.Begin = Begin
shown said.End = End
shown (said.Does user act) = Does user.now act

abbrev pub Faults : {A : Type 0} → Result A LineCause → LineFault → Type 0
Faults answer (Bad cause) = answer ≡ Err cause
Faults answer NoMemory = Unit {0}

abbrev pub Tells : Result Act LineCause → Result Act LineFault → Type 0
Tells answer (Ok act) = answer ≡ Ok act
Tells answer (Err fault) = Faults answer fault

abbrev pub TellsSaid : Result Statement LineCause → Result Said LineFault → Type 0
TellsSaid answer (Ok said) = answer ≡ Ok (shown said)
TellsSaid answer (Err fault) = Faults answer fault

abbrev pub shown_text : Result (Bor (List ℕ)) LineCause → Result (List ℕ) LineCause
shown_text (Ok text) = Ok text.now
shown_text (Err cause) = Err cause
