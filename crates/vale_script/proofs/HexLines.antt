-- The frame of a `hex` line fits a buffer.
use Rattle.std.proofs.Common.{ℕ, ◌≡◌, ◌≤◌, ◌==◌, ◌&&◌, ◌%◌, ◌/◌, ◌*◌, Bool, true, false, cond, List, [], length, bytes_eq, Option, Some, None, nat_lt, nat_le, Result, Ok, Err, refl, subst, arith}
use Rattle.std.specs.Prelude.{codes}
use Rattle.std.specs.List.{range_with_len}
use Rattle.std.proofs.lemmas.Bool.{and_parts, leb-true}
use Rattle.std.proofs.lemmas.List.{length-map}
use Rattle.std.proofs.lemmas.List.FromFn.{length-range_with_len}
use Rattle.nm_types.specs.Limits.{most_counts, most_pool, buffer_bytes, most_batch}
use Rattle.nm_types.specs.declared.fault.LineCause.{LineCause}
use Rattle.nm_types.specs.declared.fault.LineCause.TheVariants as causes
use Rattle.vale_script.specs.declared.script.Act.{Act}
use Rattle.vale_script.specs.declared.script.Act.TheVariants as acts
use Rattle.vale_script.specs.declared.forms.Verb.{Verb}
use Rattle.vale_script.specs.declared.forms.Verb.TheVariants as verbs
use Rattle.vale_script.specs.Forms.{verb_of}
use Rattle.vale_script.specs.Places.{greatest_of, field_of}
use Rattle.vale_script.specs.Statements.{Statement, Nothing, Pool, NewUser, Begin, End, Does, or_cause, text_at, user_at, port_at, address_at, byte_at_place, number_at, any_at, two_at, extra_at, frame_at, open_act, put_act, fwd_act, poke_act, move_act, swap_act, extra_act, watch_act, named_act, named_by, hex_act, play_act, save_act, act_of, does_act, statement_of, cause_of_words, said_unless, said_by_verb, words_said, line_said}
use Rattle.vale_script.proofs.Causes.{then-ok}
use Rattle.vale_words.specs.Fixed.{word_at, side_of, sides_of}
use Rattle.vale_words.specs.Words.{words_of, are_line_bytes, is_silent, has_up_to, are_hex, is_digits, bytes_of, byte_at, frame_bytes}

abbrev pub HexFits : Act → Type 0
HexFits (acts.Hex name frame) = length frame.bytes ≤ buffer_bytes
HexFits _ = Unit {0}

abbrev pub SaidFits : Statement → Type 0
SaidFits (Does user act) = HexFits act
SaidFits _ = Unit {0}

abbrev made_act : Act → Result Act LineCause
made_act act = Ok act

made : (this act : Act) → made_act this ≡ made_act act → HexFits this → HexFits act
made this act e fits = let same : this ≡ act = cc in subst HexFits same fits

-- ---- the digits of a frame

few-bytes : (word : List ℕ) → is_digits word ≡ true → length (bytes_of word) ≤ buffer_bytes
unfolding is_digits
few-bytes word is =
    let outer = and_parts (has_up_to (2 * buffer_bytes) word && (length word % 2 == 0)) (are_hex word) is in
    let inner = and_parts (has_up_to (2 * buffer_bytes) word) (length word % 2 == 0) outer.0 in
    let reach = and_parts (nat_lt 0 (length word)) (nat_le (length word) (2 * buffer_bytes)) inner.0 in
    let most = leb-true (length word) (2 * buffer_bytes) reach.1 in
    let count = length-map (range_with_len 0 (length word / 2)) (λ (k : ℕ). byte_at word (2 * k)) in
    let range = length-range_with_len 0 (length word / 2) in
    omega (arith, most, count, range)

few-in-frame : (word bytes : List ℕ) → frame_bytes word ≡ Some bytes → length bytes ≤ buffer_bytes
unfolding frame_bytes
few-in-frame word bytes e = by (bytes_eq word (codes ".")) (is_digits word) refl e
  where
    by : (dot digits : Bool) → is_digits word ≡ digits → cond dot (Some []) (cond digits (Some (bytes_of word)) None) ≡ Some bytes → length bytes ≤ buffer_bytes
    by true digits is at = let same : [] ≡ bytes = cc in subst (λ (b : List ℕ). length b ≤ buffer_bytes) same (omega arith)
    by false true is at = let same : bytes_of word ≡ bytes = cc in subst (λ (b : List ℕ). length b ≤ buffer_bytes) same (few-bytes word is)
    by false false is at = absurd cc

found : (cause : LineCause) (o : Option (List ℕ)) (x : List ℕ) → or_cause cause o ≡ Ok x → o ≡ Some x
found cause (Some y) x e = cc
found cause None x e = absurd cc

-- ---- what each verb says

hex-fits : (words : List (List ℕ)) (act : Act) → hex_act words ≡ Ok act → HexFits act
hex-fits words act e =
    let name = then-ok (port_at 2 words) _ act e in
    let bytes = then-ok (frame_at 3 words) _ act name.2 in
    let few = few-in-frame (word_at 3 words) bytes.0 (found causes.Number (frame_bytes (word_at 3 words)) bytes.0 bytes.1) in
    made (acts.Hex name.0 (record { bytes = bytes.0; no_learn = false })) act bytes.2 few

open-fits : (words : List (List ℕ)) (act : Act) → open_act words ≡ Ok act → HexFits act
open-fits words act e =
    let name = then-ok (port_at 2 words) _ act e in
    let both = then-ok (two_at 3 words) _ act name.2 in
    let extra = then-ok (extra_at words) _ act both.2 in
    made (acts.Open name.0 both.0.0 both.0.1 extra.0) act extra.2 tt

put-fits : (words : List (List ℕ)) (act : Act) → put_act words ≡ Ok act → HexFits act
put-fits words act e =
    let name = then-ok (port_at 2 words) _ act e in
    let count = then-ok (number_at 0 most_counts 3 words) _ act name.2 in
    let to = then-ok (address_at 4 words) _ act count.2 in
    let from = then-ok (address_at 5 words) _ act to.2 in
    let len = then-ok (number_at 0 buffer_bytes 6 words) _ act from.2 in
    let fill = then-ok (byte_at_place 7 words) _ act len.2 in
    made (acts.Put name.0 count.0 to.0 from.0 len.0 fill.0) act fill.2 tt

play-fits : (words : List (List ℕ)) (act : Act) → play_act words ≡ Ok act → HexFits act
play-fits words act e =
    let name = then-ok (port_at 2 words) _ act e in
    let file = then-ok (text_at 3 words) _ act name.2 in
    let batch = then-ok (number_at 1 most_batch 4 words) _ act file.2 in
    made (acts.Play name.0 file.0 batch.0) act batch.2 tt

save-fits : (words : List (List ℕ)) (act : Act) → save_act words ≡ Ok act → HexFits act
save-fits words act e =
    let name = then-ok (port_at 2 words) _ act e in
    let file = then-ok (text_at 3 words) _ act name.2 in
    made (acts.Save name.0 file.0) act file.2 tt

fwd-fits : (words : List (List ℕ)) (act : Act) → fwd_act words ≡ Ok act → HexFits act
fwd-fits words act e =
    let from = then-ok (port_at 2 words) _ act e in
    let to = then-ok (port_at 3 words) _ act from.2 in
    let count = then-ok (number_at 0 most_counts 4 words) _ act to.2 in
    made (acts.Fwd from.0 to.0 count.0) act count.2 tt

poke-fits : (words : List (List ℕ)) (act : Act) → poke_act words ≡ Ok act → HexFits act
poke-fits words act e =
    let name = then-ok (port_at 2 words) _ act e in
    let slot = then-ok (any_at 4 words) _ act name.2 in
    let value = then-ok (number_at 0 (greatest_of (word_at 5 words)) 6 words) _ act slot.2 in
    made (acts.Poke name.0 (side_of (word_at 3 words)) slot.0 (field_of (word_at 5 words)) value.0) act value.2 tt

move-fits : (words : List (List ℕ)) (act : Act) → move_act words ≡ Ok act → HexFits act
move-fits words act e =
    let name = then-ok (port_at 2 words) _ act e in
    let both = then-ok (two_at 4 words) _ act name.2 in
    made (acts.Move name.0 (side_of (word_at 3 words)) both.0.0 both.0.1) act both.2 tt

swap-fits : (words : List (List ℕ)) (act : Act) → swap_act words ≡ Ok act → HexFits act
swap-fits words act e =
    let name = then-ok (port_at 2 words) _ act e in
    let slot = then-ok (any_at 4 words) _ act name.2 in
    let there = then-ok (port_at 5 words) _ act slot.2 in
    let next = then-ok (any_at 7 words) _ act there.2 in
    made (acts.Swap name.0 (side_of (word_at 3 words)) slot.0 there.0 (side_of (word_at 6 words)) next.0 (length words == 9)) act next.2 tt

extra-fits : (words : List (List ℕ)) (act : Act) → extra_act words ≡ Ok act → HexFits act
extra-fits words act e =
    let name = then-ok (port_at 2 words) _ act e in
    let both = then-ok (two_at 3 words) _ act name.2 in
    made (acts.Extra name.0 both.0.0 both.0.1) act both.2 tt

watch-fits : (words : List (List ℕ)) (act : Act) → watch_act words ≡ Ok act → HexFits act
watch-fits words act e =
    let monitor = then-ok (port_at 2 words) _ act e in
    let target = then-ok (port_at 3 words) _ act monitor.2 in
    made (acts.Watch monitor.0 target.0 (sides_of (word_at 4 words))) act target.2 tt

tx-fits : (words : List (List ℕ)) (act : Act) → named_act verbs.Tx words ≡ Ok act → HexFits act
tx-fits words act e = let name = then-ok (port_at 2 words) (named_by verbs.Tx (length words)) act e in made (acts.Tx name.0) act name.2 tt

rx-fits : (words : List (List ℕ)) (act : Act) → named_act verbs.Rx words ≡ Ok act → HexFits act
rx-fits words act e = let name = then-ok (port_at 2 words) (named_by verbs.Rx (length words)) act e in made (acts.Rx name.0 (length words == 4)) act name.2 tt

stat-fits : (words : List (List ℕ)) (act : Act) → named_act verbs.Stat words ≡ Ok act → HexFits act
stat-fits words act e = let name = then-ok (port_at 2 words) (named_by verbs.Stat (length words)) act e in made (acts.Stat name.0) act name.2 tt

close-fits : (words : List (List ℕ)) (act : Act) → named_act verbs.Close words ≡ Ok act → HexFits act
close-fits words act e = let name = then-ok (port_at 2 words) (named_by verbs.Close (length words)) act e in made (acts.Close name.0) act name.2 tt

-- ---- what a line says

abbrev made_said : Statement → Result Statement LineCause
made_said said = Ok said

deed : (verb : Verb) (words : List (List ℕ)) (said : Statement) → ((act : Act) → act_of verb words ≡ Ok act → HexFits act) → does_act verb words ≡ Ok said → SaidFits said
deed verb words said fits e =
    let user = then-ok (user_at words) _ said e in
    let act = then-ok (act_of verb words) _ said user.2 in
    subst SaidFits (same user.0 act.0 act.2) (fits act.0 act.1)
  where
    same : (user : List ℕ) (act : Act) → made_said (Does user act) ≡ made_said said → Does user act ≡ said
    same user act is = cc

says : (this said : Statement) → made_said this ≡ made_said said → SaidFits this → SaidFits said
says this said e fits = let same : this ≡ said = cc in subst SaidFits same fits

statement-fits : (verb : Verb) (words : List (List ℕ)) (said : Statement) → statement_of verb words ≡ Ok said → SaidFits said
statement-fits verbs.Pool words said e = let size = then-ok (number_at 1 most_pool 1 words) _ said e in says (Pool size.0) said size.2 tt
statement-fits verbs.User words said e = let name = then-ok (user_at words) _ said e in says (NewUser name.0) said name.2 tt
statement-fits verbs.Open words said e = deed verbs.Open words said (open-fits words) e
statement-fits verbs.Put words said e = deed verbs.Put words said (put-fits words) e
statement-fits verbs.Hex words said e = deed verbs.Hex words said (hex-fits words) e
statement-fits verbs.Play words said e = deed verbs.Play words said (play-fits words) e
statement-fits verbs.Tx words said e = deed verbs.Tx words said (tx-fits words) e
statement-fits verbs.Rx words said e = deed verbs.Rx words said (rx-fits words) e
statement-fits verbs.Fwd words said e = deed verbs.Fwd words said (fwd-fits words) e
statement-fits verbs.Poke words said e = deed verbs.Poke words said (poke-fits words) e
statement-fits verbs.Move words said e = deed verbs.Move words said (move-fits words) e
statement-fits verbs.Swap words said e = deed verbs.Swap words said (swap-fits words) e
statement-fits verbs.Extra words said e = deed verbs.Extra words said (extra-fits words) e
statement-fits verbs.Watch words said e = deed verbs.Watch words said (watch-fits words) e
statement-fits verbs.Stat words said e = deed verbs.Stat words said (stat-fits words) e
statement-fits verbs.Save words said e = deed verbs.Save words said (save-fits words) e
statement-fits verbs.Close words said e = deed verbs.Close words said (close-fits words) e
statement-fits verbs.Par words said e = says Begin said e tt
statement-fits verbs.End words said e = says End said e tt

words-fit : (verb : Option Verb) (words : List (List ℕ)) (said : Statement) → said_by_verb verb words ≡ Ok said → SaidFits said
words-fit None words said e = absurd cc
words-fit (Some verb) words said e = unless (cause_of_words verb words) e
  where
    unless : (cause : Option LineCause) → said_unless cause (statement_of verb words) ≡ Ok said → SaidFits said
    unless None is = statement-fits verb words said is
    unless (Some cause) is = absurd cc

pub line-fits : (line : List ℕ) (said : Statement) → line_said line ≡ Ok said → SaidFits said
line-fits line said e = by (is_silent (words_of line)) (are_line_bytes line) e
  where
    by : (silent bytes : Bool) → cond silent (Ok Nothing) (cond bytes (words_said (words_of line)) (Err causes.Word)) ≡ Ok said → SaidFits said
    by true bytes is = says Nothing said is tt
    by false true is = words-fit (verb_of (word_at 0 (words_of line))) (words_of line) said is
    by false false is = absurd cc
