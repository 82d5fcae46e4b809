-- A line of the right form whose words are all read, each at its place, is bad for no cause.
use Rattle.std.proofs.Common.{◌≡◌, ◌∙◌, ◌≤◌, ◌<◌, ◌+◌, ◌==◌, ℕ, suc, Bool, true, false, not, cond, ◌||◌, ◌&&◌, List, [], ◌∷◌, length, drop, get_or, Option, Some, None, is_some, unwrap_or, nat_lt, nat_le, Result, Ok, Err, refl, sym, ap, subst, arith, zero, add-one}
use Rattle.std.proofs.lemmas.Bool.{or_from, and_parts, not-true, leb-true, cond-true, cond-false, le-ltb, eq-eqb}
use Rattle.std.proofs.lemmas.List.{get_or-drop}
use Rattle.nm_types.specs.Limits.{most_counts, most_pool, buffer_bytes, most_batch}
use Rattle.nm_types.specs.declared.id.Mac.{Mac}
use Rattle.nm_types.specs.declared.fault.LineCause.{LineCause}
use Rattle.nm_types.specs.declared.fault.LineCause.TheVariants as causes
use Rattle.vale_script.specs.declared.script.Act.{Act}
use Rattle.vale_script.specs.declared.forms.Place.{Place}
use Rattle.vale_script.specs.declared.forms.Place.TheVariants.{UserName, PortName, Address, File, Number, Byte, Bytes, Side, Sides, Field, Value, Keep, Quiet}
use Rattle.vale_script.specs.declared.forms.Verb.{Verb}
use Rattle.vale_script.specs.declared.forms.Verb.TheVariants as verbs
use Rattle.vale_script.specs.Forms.{Form, form_of, any_number, frame_count}
use Rattle.vale_script.specs.Places.{misses_number, misses_name, is_out, any_out, greatest_of}
use Rattle.vale_script.specs.Statements.{Statement, ◌>>=◌, or_cause, text_at, user_at, port_at, address_at, byte_at_place, number_at, any_at, two_at, extra_at, frame_at, open_act, put_act, fwd_act, poke_act, move_act, swap_act, extra_act, watch_act, named_act, hex_act, play_act, save_act, act_of, does_act, statement_of, cause_of_words, has_form, said_unless}
use Rattle.vale_words.specs.Fixed.{word_at}
use Rattle.vale_words.specs.Words.{is_user_name, port_name, number_in, is_hex_byte, byte_at, frame_bytes, is_mac, mac_of, mac_value}

-- a word is read at its place, behind the word before it
abbrev IsRead : Place → List ℕ → List ℕ → Type 0
IsRead place before word = (misses_number place before word ≡ false) × (misses_name place word ≡ false)

-- the words behind that in place i are read, as far as places and words reach
abbrev AreRead : List Place → ℕ → List (List ℕ) → Type 0
AreRead [] i words = Unit {0}
AreRead (place ∷ places) i words = (i + 1 < length words → IsRead place (word_at i words) (word_at (i + 1) words)) × AreRead places (i + 1) words

first-of : (words others : List (List ℕ)) (i : ℕ) (before : List ℕ) → drop i words ≡ before ∷ others → word_at i words ≡ before
first-of words others i before at =
    let plus : i + 0 ≡ i = omega arith in
    ap (λ (n : ℕ). word_at n words) (sym plus) ∙ sym (get_or-drop i words 0 []) ∙ ap (λ (ws : List (List ℕ)). get_or ws 0 []) at

after-of : (i : ℕ) (words others : List (List ℕ)) (before : List ℕ) → drop i words ≡ before ∷ others → (drop (suc i) words ≡ others) × (i < length words)
after-of i [] others before at = absurd (none i at)
  where
    none : (n : ℕ) → drop n [] ≡ before ∷ others → ⊥
    none zero e = absurd cc
    none (suc n) e = absurd cc
after-of zero (word ∷ words) others before at = (cc, omega arith)
after-of (suc i) (word ∷ words) others before at = let more = after-of i words others before at in let inside = more.1 in (more.0, omega (arith, inside))

rest-of : (words others : List (List ℕ)) (i : ℕ) (before : List ℕ) → drop i words ≡ before ∷ others → drop (i + 1) words ≡ others
rest-of words others i before at = ap (λ (n : ℕ). drop n words) (add-one i) ∙ (after-of i words others before at).0

none-out : (places : List Place) (i : ℕ) (words others : List (List ℕ)) (before : List ℕ) → drop i words ≡ before ∷ others → AreRead places i words
    → (any_out causes.Number places before others ≡ false) × (any_out causes.Name places before others ≡ false)
none-out [] i words others before at read = (refl, refl)
none-out (place ∷ places) i words [] before at read = (refl, refl)
none-out (place ∷ places) i words (word ∷ others) before at read =
    let next : drop (i + 1) words ≡ word ∷ others = rest-of words (word ∷ others) i before at in
    let within : i + 1 < length words = (after-of (i + 1) words others word next).1 in
    let here : IsRead place before word = subst (λ (w : List ℕ). IsRead place w word) (first-of words (word ∷ others) i before at)
    (subst (λ (w : List ℕ). IsRead place (word_at i words) w) (first-of words others (i + 1) word next) (read.0 within)) in
    let more = none-out places (i + 1) words others word next read.1 in (
      or_from (is_out causes.Number place before word) (any_out causes.Number places word others) here.0 more.0,
      or_from (is_out causes.Name place before word) (any_out causes.Name places word others) here.1 more.1,
    )

-- What is known of a word that was read.

pub then-ok : {A B : Type 0} (a : Result A LineCause) (f : A → Result B LineCause) (b : B) → (a >>= f) ≡ Ok b → (x : A) × (a ≡ Ok x) × (f x ≡ Ok b)
then-ok (Ok x) f b e = (x, refl, e)
then-ok (Err cause) f b e = absurd cc

-- two numbers that were read
two-ok : (i : ℕ) (words : List (List ℕ)) (both : ℕ × ℕ) → two_at i words ≡ Ok both
    → (first : ℕ) × (second : ℕ) × (any_at i words ≡ Ok first) × (any_at (i + 1) words ≡ Ok second)
two-ok i words both e =
    let first = then-ok (any_at i words) _ both e in
    let second = then-ok (any_at (i + 1) words) _ both first.2 in
    (first.0, second.0, first.1, second.1)

some-ok : {A : Type 0} (cause : LineCause) (found : Option A) (x : A) → or_cause cause found ≡ Ok x → not (is_some found) ≡ false
some-ok cause (Some y) x e = refl
some-ok cause None x e = absurd cc

read-user : (words : List (List ℕ)) (before x : List ℕ) → user_at words ≡ Ok x → IsRead UserName before (word_at 1 words)
read-user words before x e = (refl, by (is_user_name (word_at 1 words)) (text_at 1 words) e)
  where
    by : (b : Bool) (text : Result (List ℕ) LineCause) → cond b text (Err causes.Name) ≡ Ok x → not b ≡ false
    by true text e = refl
    by false text e = absurd cc

read-port : (i : ℕ) (words : List (List ℕ)) (before x : List ℕ) → port_at i words ≡ Ok x → IsRead PortName before (word_at i words)
read-port i words before x e = (refl, some-ok causes.Name (port_name (word_at i words)) x e)

read-number : (low high i : ℕ) (words : List (List ℕ)) (before : List ℕ) (x : ℕ) → number_at low high i words ≡ Ok x → IsRead (Number low high) before (word_at i words)
read-number low high i words before x e = (some-ok causes.Number (number_in low high (word_at i words)) x e, refl)

read-value : (i : ℕ) (words : List (List ℕ)) (before : List ℕ) (x : ℕ) → number_at 0 (greatest_of before) i words ≡ Ok x → IsRead Value before (word_at i words)
read-value i words before x e = (some-ok causes.Number (number_in 0 (greatest_of before) (word_at i words)) x e, refl)

read-address : (i : ℕ) (words : List (List ℕ)) (before : List ℕ) (x : Mac) → address_at i words ≡ Ok x → IsRead Address before (word_at i words)
unfolding mac_of
read-address i words before x e = (refl, by (is_mac (word_at i words)) (mac_value (word_at i words)) e)
  where
    by : (b : Bool) (mac : Mac) → or_cause causes.Name (cond b (Some mac) None) ≡ Ok x → not b ≡ false
    by true mac e = refl
    by false mac e = absurd cc

read-byte : (i : ℕ) (words : List (List ℕ)) (before : List ℕ) (x : ℕ) → byte_at_place i words ≡ Ok x → IsRead Byte before (word_at i words)
read-byte i words before x e = (by (is_hex_byte (word_at i words)) (byte_at (word_at i words) 0) e, refl)
  where
    by : (b : Bool) (n : ℕ) → or_cause causes.Number (cond b (Some n) None) ≡ Ok x → not b ≡ false
    by true n e = refl
    by false n e = absurd cc

read-bytes : (i : ℕ) (words : List (List ℕ)) (before x : List ℕ) → frame_at i words ≡ Ok x → IsRead Bytes before (word_at i words)
read-bytes i words before x e = (some-ok causes.Number (frame_bytes (word_at i words)) x e, refl)

-- What is known of a line whose words were read, line by line.

reads-open : (words : List (List ℕ)) (act : Act) → length words ≤ 6 → open_act words ≡ Ok act → AreRead (PortName ∷ any_number ∷ any_number ∷ any_number ∷ []) 1 words
reads-open words act few e =
    let name = then-ok (port_at 2 words) _ act e in
    let both = then-ok (two_at 3 words) _ act name.2 in
    let rings = two-ok 3 words both.0 both.1 in
    let extra = then-ok (extra_at words) _ act both.2 in (
      λ _. read-port 2 words (word_at 1 words) name.0 name.1,
      (
        λ _. read-number 0 4294967295 3 words (word_at 2 words) rings.0 rings.2,
        (
          λ _. read-number 0 4294967295 4 words (word_at 3 words) rings.1 rings.3,
          (
            λ there. read-number 0 4294967295 5 words (word_at 4 words) extra.0 (given there extra.0 extra.1),
            tt,
          ),
        ),
      ),
    )
  where
    given : 5 < length words → (x : ℕ) → extra_at words ≡ Ok x → any_at 5 words ≡ Ok x
    given there x e = sym (cond-true (length words == 6) (any_at 5 words) (Ok 0) (eq-eqb (length words) 6 (omega (arith, few, there)))) ∙ e

reads-put : (words : List (List ℕ)) (act : Act) → put_act words ≡ Ok act
    → AreRead (PortName ∷ frame_count ∷ Address ∷ Address ∷ Number 0 buffer_bytes ∷ Byte ∷ []) 1 words
reads-put words act e =
    let name = then-ok (port_at 2 words) _ act e in
    let count = then-ok (number_at 0 most_counts 3 words) _ act name.2 in
    let to = then-ok (address_at 4 words) _ act count.2 in
    let from = then-ok (address_at 5 words) _ act to.2 in
    let len = then-ok (number_at 0 buffer_bytes 6 words) _ act from.2 in
    let fill = then-ok (byte_at_place 7 words) _ act len.2 in (
      λ _. read-port 2 words (word_at 1 words) name.0 name.1,
      (
        λ _. read-number 0 most_counts 3 words (word_at 2 words) count.0 count.1,
        (
          λ _. read-address 4 words (word_at 3 words) to.0 to.1,
          (
            λ _. read-address 5 words (word_at 4 words) from.0 from.1,
            (
              λ _. read-number 0 buffer_bytes 6 words (word_at 5 words) len.0 len.1,
              (
                λ _. read-byte 7 words (word_at 6 words) fill.0 fill.1,
                tt,
              ),
            ),
          ),
        ),
      ),
    )

reads-hex : (words : List (List ℕ)) (act : Act) → hex_act words ≡ Ok act → AreRead (PortName ∷ Bytes ∷ []) 1 words
reads-hex words act e =
    let name = then-ok (port_at 2 words) _ act e in
    let bytes = then-ok (frame_at 3 words) _ act name.2 in (
      λ _. read-port 2 words (word_at 1 words) name.0 name.1,
      (
        λ _. read-bytes 3 words (word_at 2 words) bytes.0 bytes.1,
        tt,
      ),
    )

reads-play : (words : List (List ℕ)) (act : Act) → play_act words ≡ Ok act → AreRead (PortName ∷ File ∷ Number 1 most_batch ∷ []) 1 words
reads-play words act e =
    let name = then-ok (port_at 2 words) _ act e in
    let file = then-ok (text_at 3 words) _ act name.2 in
    let batch = then-ok (number_at 1 most_batch 4 words) _ act file.2 in (
      λ _. read-port 2 words (word_at 1 words) name.0 name.1,
      (
        λ _. (refl, refl),
        (
          λ _. read-number 1 most_batch 4 words (word_at 3 words) batch.0 batch.1,
          tt,
        ),
      ),
    )

reads-fwd : (words : List (List ℕ)) (act : Act) → fwd_act words ≡ Ok act → AreRead (PortName ∷ PortName ∷ frame_count ∷ []) 1 words
reads-fwd words act e =
    let from = then-ok (port_at 2 words) _ act e in
    let to = then-ok (port_at 3 words) _ act from.2 in
    let count = then-ok (number_at 0 most_counts 4 words) _ act to.2 in (
      λ _. read-port 2 words (word_at 1 words) from.0 from.1,
      (
        λ _. read-port 3 words (word_at 2 words) to.0 to.1,
        (
          λ _. read-number 0 most_counts 4 words (word_at 3 words) count.0 count.1,
          tt,
        ),
      ),
    )

reads-poke : (words : List (List ℕ)) (act : Act) → poke_act words ≡ Ok act → AreRead (PortName ∷ Side ∷ any_number ∷ Field ∷ Value ∷ []) 1 words
reads-poke words act e =
    let name = then-ok (port_at 2 words) _ act e in
    let slot = then-ok (any_at 4 words) _ act name.2 in
    let value = then-ok (number_at 0 (greatest_of (word_at 5 words)) 6 words) _ act slot.2 in (
      λ _. read-port 2 words (word_at 1 words) name.0 name.1,
      (
        λ _. (refl, refl),
        (
          λ _. read-number 0 4294967295 4 words (word_at 3 words) slot.0 slot.1,
          (
            λ _. (refl, refl),
            (
              λ _. read-value 6 words (word_at 5 words) value.0 value.1,
              tt,
            ),
          ),
        ),
      ),
    )

reads-move : (words : List (List ℕ)) (act : Act) → move_act words ≡ Ok act → AreRead (PortName ∷ Side ∷ any_number ∷ any_number ∷ []) 1 words
reads-move words act e =
    let name = then-ok (port_at 2 words) _ act e in
    let both = then-ok (two_at 4 words) _ act name.2 in
    let places = two-ok 4 words both.0 both.1 in (
      λ _. read-port 2 words (word_at 1 words) name.0 name.1,
      (
        λ _. (refl, refl),
        (
          λ _. read-number 0 4294967295 4 words (word_at 3 words) places.0 places.2,
          (
            λ _. read-number 0 4294967295 5 words (word_at 4 words) places.1 places.3,
            tt,
          ),
        ),
      ),
    )

reads-swap : (words : List (List ℕ)) (act : Act) → swap_act words ≡ Ok act
    → AreRead (PortName ∷ Side ∷ any_number ∷ PortName ∷ Side ∷ any_number ∷ Quiet ∷ []) 1 words
reads-swap words act e =
    let name = then-ok (port_at 2 words) _ act e in
    let slot = then-ok (any_at 4 words) _ act name.2 in
    let other = then-ok (port_at 5 words) _ act slot.2 in
    let next = then-ok (any_at 7 words) _ act other.2 in (
      λ _. read-port 2 words (word_at 1 words) name.0 name.1,
      (
        λ _. (refl, refl),
        (
          λ _. read-number 0 4294967295 4 words (word_at 3 words) slot.0 slot.1,
          (
            λ _. read-port 5 words (word_at 4 words) other.0 other.1,
            (
              λ _. (refl, refl),
              (
                λ _. read-number 0 4294967295 7 words (word_at 6 words) next.0 next.1,
                (
                  λ _. (refl, refl),
                  tt,
                ),
              ),
            ),
          ),
        ),
      ),
    )

reads-extra : (words : List (List ℕ)) (act : Act) → extra_act words ≡ Ok act → AreRead (PortName ∷ any_number ∷ any_number ∷ []) 1 words
reads-extra words act e =
    let name = then-ok (port_at 2 words) _ act e in
    let both = then-ok (two_at 3 words) _ act name.2 in
    let places = two-ok 3 words both.0 both.1 in (
      λ _. read-port 2 words (word_at 1 words) name.0 name.1,
      (
        λ _. read-number 0 4294967295 3 words (word_at 2 words) places.0 places.2,
        (
          λ _. read-number 0 4294967295 4 words (word_at 3 words) places.1 places.3,
          tt,
        ),
      ),
    )

reads-watch : (words : List (List ℕ)) (act : Act) → watch_act words ≡ Ok act → AreRead (PortName ∷ PortName ∷ Sides ∷ []) 1 words
reads-watch words act e =
    let monitor = then-ok (port_at 2 words) _ act e in
    let target = then-ok (port_at 3 words) _ act monitor.2 in (
      λ _. read-port 2 words (word_at 1 words) monitor.0 monitor.1,
      (
        λ _. read-port 3 words (word_at 2 words) target.0 target.1,
        (
          λ _. (refl, refl),
          tt,
        ),
      ),
    )

reads-save : (words : List (List ℕ)) (act : Act) → save_act words ≡ Ok act → AreRead (PortName ∷ File ∷ []) 1 words
reads-save words act e =
    let name = then-ok (port_at 2 words) _ act e in
    (λ _. read-port 2 words (word_at 1 words) name.0 name.1, (λ _. (refl, refl), tt))

reads-named : (verb : Verb) (words : List (List ℕ)) (act : Act) → named_act verb words ≡ Ok act → AreRead (PortName ∷ []) 1 words
reads-named verb words act e =
    let name = then-ok (port_at 2 words) _ act e in
    (λ _. read-port 2 words (word_at 1 words) name.0 name.1, tt)

reads-rx : (words : List (List ℕ)) (act : Act) → named_act verbs.Rx words ≡ Ok act → AreRead (PortName ∷ Keep ∷ []) 1 words
reads-rx words act e =
    let name = then-ok (port_at 2 words) _ act e in
    (λ _. read-port 2 words (word_at 1 words) name.0 name.1, (λ _. (refl, refl), tt))

-- a line of a user
deed : (verb : Verb) (words : List (List ℕ)) (said : Statement) (places : List Place) → ((act : Act) → act_of verb words ≡ Ok act → AreRead places 1 words)
    → does_act verb words ≡ Ok said → AreRead (UserName ∷ places) 0 words
deed verb words said places behind e =
    let user = then-ok (user_at words) _ said e in
    let act = then-ok (act_of verb words) _ said user.2 in
    (λ _. read-user words (word_at 0 words) user.0 user.1, behind act.0 act.1)

reads : (verb : Verb) (words : List (List ℕ)) (said : Statement) → length words ≤ length (form_of verb).places + 1 → statement_of verb words ≡ Ok said
    → AreRead (form_of verb).places 0 words
reads verbs.Pool words said few e =
    let size = then-ok (number_at 1 most_pool 1 words) _ said e in
    (λ _. read-number 1 most_pool 1 words (word_at 0 words) size.0 size.1, tt)
reads verbs.User words said few e =
    let name = then-ok (user_at words) _ said e in
    (λ _. read-user words (word_at 0 words) name.0 name.1, tt)
reads verbs.Open words said few e = deed verbs.Open words said (PortName ∷ any_number ∷ any_number ∷ any_number ∷ []) (λ act is. reads-open words act few is) e
reads verbs.Put words said few e = deed verbs.Put words said (PortName ∷ frame_count ∷ Address ∷ Address ∷ Number 0 buffer_bytes ∷ Byte ∷ []) (λ act is. reads-put words act is) e
reads verbs.Hex words said few e = deed verbs.Hex words said (PortName ∷ Bytes ∷ []) (λ act is. reads-hex words act is) e
reads verbs.Play words said few e = deed verbs.Play words said (PortName ∷ File ∷ Number 1 most_batch ∷ []) (λ act is. reads-play words act is) e
reads verbs.Tx words said few e = deed verbs.Tx words said (PortName ∷ []) (λ act is. reads-named verbs.Tx words act is) e
reads verbs.Rx words said few e = deed verbs.Rx words said (PortName ∷ Keep ∷ []) (λ act is. reads-rx words act is) e
reads verbs.Fwd words said few e = deed verbs.Fwd words said (PortName ∷ PortName ∷ frame_count ∷ []) (λ act is. reads-fwd words act is) e
reads verbs.Poke words said few e = deed verbs.Poke words said (PortName ∷ Side ∷ any_number ∷ Field ∷ Value ∷ []) (λ act is. reads-poke words act is) e
reads verbs.Move words said few e = deed verbs.Move words said (PortName ∷ Side ∷ any_number ∷ any_number ∷ []) (λ act is. reads-move words act is) e
reads verbs.Swap words said few e = deed verbs.Swap words said (PortName ∷ Side ∷ any_number ∷ PortName ∷ Side ∷ any_number ∷ Quiet ∷ []) (λ act is. reads-swap words act is) e
reads verbs.Extra words said few e = deed verbs.Extra words said (PortName ∷ any_number ∷ any_number ∷ []) (λ act is. reads-extra words act is) e
reads verbs.Watch words said few e = deed verbs.Watch words said (PortName ∷ PortName ∷ Sides ∷ []) (λ act is. reads-watch words act is) e
reads verbs.Stat words said few e = deed verbs.Stat words said (PortName ∷ []) (λ act is. reads-named verbs.Stat words act is) e
reads verbs.Save words said few e = deed verbs.Save words said (PortName ∷ File ∷ []) (λ act is. reads-save words act is) e
reads verbs.Close words said few e = deed verbs.Close words said (PortName ∷ []) (λ act is. reads-named verbs.Close words act is) e
reads verbs.Par words said few e = tt
reads verbs.End words said few e = tt

by-parts : (word few many number name : Bool) → word ≡ false → few ≡ false → many ≡ false → number ≡ false → name ≡ false
    → cond word (Some causes.Word) (cond (few || many) (Some causes.Count) (cond number (Some causes.Number) (cond name (Some causes.Name) None))) ≡ None
by-parts word few many number name a b c d e =
    cond-false word _ _ a ∙ cond-false (few || many) _ _ (or_from few many b c) ∙ cond-false number _ _ d ∙ cond-false name _ _ e

no-cause : (verb : Verb) (words : List (List ℕ)) (said : Statement) → has_form verb words ≡ true → statement_of verb words ≡ Ok said → cause_of_words verb words ≡ None
no-cause verb [] said form e = absurd cc
no-cause verb (first ∷ others) said form e =
    let row : Form = form_of verb in
    let parts = and_parts (nat_le row.least (length others) && nat_le (length others) (length row.places)) (not (any_out causes.Word row.places first others)) form in
    let counts = and_parts (nat_le row.least (length others)) (nat_le (length others) (length row.places)) parts.0 in
    let least = leb-true row.least (length others) counts.0 in
    let most = leb-true (length others) (length row.places) counts.1 in
    let none = none-out row.places 0 (first ∷ others) others first refl (reads verb (first ∷ others) said (omega (arith, most)) e) in
    by-parts (any_out causes.Word row.places first others) (nat_lt (length others) row.least) (nat_lt (length row.places) (length others)) (any_out causes.Number row.places first others)
    (any_out causes.Name row.places first others) (not-true (any_out causes.Word row.places first others) parts.1) (le-ltb (length others) row.least least)
    (le-ltb (length row.places) (length others) most) none.0 none.1

-- what a line of this form says that was read
pub read_in_form : (verb : Verb) (words : List (List ℕ)) (said : Statement) → has_form verb words ≡ true → statement_of verb words ≡ Ok said
    → said_unless (cause_of_words verb words) (statement_of verb words) ≡ Ok said
read_in_form verb words said form e = ap (λ (cause : Option LineCause). said_unless cause (statement_of verb words)) (no-cause verb words said form e) ∙ e

-- and one that was not
pub blamed : (found : Option LineCause) (said : Result Statement LineCause) (cause : LineCause) → said ≡ Err cause → said_unless found said ≡ Err (unwrap_or found cause)
blamed None said cause e = e
blamed (Some other) said cause e = refl

pub ruleset read_lines = (read_in_form, blamed)
