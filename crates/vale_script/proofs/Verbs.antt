-- The first word of each form is that of no other.
use Rattle.std.proofs.Common.{◌≡◌, ◌∙◌, ℕ, List, true, bytes_eq, Some, refl, sym, ap}
use Rattle.std.proofs.lemmas.Slice.Eq.{bytes_eq-Decides}
use Rattle.vale_script.specs.declared.forms.Verb.{Verb}
use Rattle.vale_script.specs.declared.forms.Verb.TheVariants.{Pool, User, Open, Put, Hex, Play, Tx, Rx, Fwd, Poke, Move, Swap, Extra, Watch, Stat, Save, Close, Par, End}
use Rattle.vale_script.specs.Forms.{form_of, verb_of}

own-word : (verb : Verb) → verb_of (form_of verb).word ≡ Some verb
unfolding verb_of
own-word Pool = refl
own-word User = refl
own-word Open = refl
own-word Put = refl
own-word Hex = refl
own-word Play = refl
own-word Tx = refl
own-word Rx = refl
own-word Fwd = refl
own-word Poke = refl
own-word Move = refl
own-word Swap = refl
own-word Extra = refl
own-word Watch = refl
own-word Stat = refl
own-word Save = refl
own-word Close = refl
own-word Par = refl
own-word End = refl

pub verb_by_word : (verb : Verb) (word : List ℕ) → bytes_eq (form_of verb).word word ≡ true → verb_of word ≡ Some verb
verb_by_word verb word same = ap verb_of (sym ((bytes_eq-Decides (form_of verb).word word).0 same)) ∙ own-word verb

pub ruleset verbs_by_word = (verb_by_word)
