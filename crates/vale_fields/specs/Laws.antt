-- Laws of fields.
use Rattle.std.specs.Prelude.{ℕ, ◌≡◌, ◌∷◌, ◌++◌, List, Some, IfSome}
use Rattle.vale_entry.specs.declared.entry.Entry.{Entry}
use Rattle.vale_entry.specs.Transcript.{ask_words, reply_words, IsPrintable}
use Rattle.vale_fields.specs.Rows.{entry_of}
use Rattle.vale_fields.specs.Widths.{FitsFields, Is32}

-- the words of an entry in a text of this version
abbrev pub words_with : ℕ → List ℕ → Entry → List (List ℕ)
words_with version first entry = first ∷ ask_words version entry.session.0 entry.ask ++ reply_words entry.reply

-- an entry is read from its words in a text of any version, whatever their first one
abbrev pub WordsAreRead : Type 0
WordsAreRead = (version number : ℕ) (first : List ℕ) (entry : Entry) → IsPrintable number entry → FitsFields entry → entry_of number (words_with version first entry) ≡ Some entry

-- what is read fits its fields
abbrev pub WhatIsReadFits : Type 0
WhatIsReadFits = (number : ℕ) (words : List (List ℕ)) → Is32 number → IfSome (entry_of number words) FitsFields
