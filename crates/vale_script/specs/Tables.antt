-- Tables by words, seen as functions.
use Rattle.std.specs.Prelude.{ℕ, List, Option, String, if◌then◌else◌, bytes_eq}
use Rattle.std.specs.declared.alloc.Global.{Global}
use Rattle.std.specs.HashMap.{HashMap, get_by_text}

abbrev pub seen : {X S : Type 0} → HashMap (String Global) X S → List ℕ → Option X
seen table = λ word. get_by_text table word

-- a function that is another one's but at one word
abbrev pub updated : {X : Type 0} → (List ℕ → Option X) → List ℕ → Option X → List ℕ → Option X
updated f word value = λ other. if bytes_eq word other then value else f other
