-- What was given to a port is what it read and what it has not read, whatever entry comes.
use Rattle.std.proofs.Common.{ℕ, ◌+◌, ◌<◌, ◌≤◌, ◌≡◌, Bool, true, false, List, [], ◌∷◌, ◌++◌, length, refl, sym, ◌∙◌, ap, subst, arith, append-nil, append_assoc}
use Rattle.std.specs.List.{AllByRecursion as Each}
use Rattle.nm_types.specs.Frames.{Frame}

-- whether the port is there, and its line's frames; `left` are those that its Finish found unread
pub record Queue (id count : ℕ) (there : Bool) (queued given read : List Frame)
    (unread : List ℕ) : Type 0 where
  pub left : List Frame
  pub parts : given ≡ read ++ (left ++ queued)
  pub counted : Each (λ (n : ℕ). length left ≡ n) unread
  pub once : length unread ≤ 1
  pub none : unread ≡ [] → left ≡ []
  pub alive : there ≡ true → unread ≡ []
  pub future : count < id → unread ≡ []

pub queue-still :
    (id count : ℕ) (there later : Bool) (queued now given read : List Frame) (unread : List ℕ)
    → (later ≡ true → unread ≡ []) → now ≡ queued
    → Queue id count there queued given read unread
    → Queue id (count + 1) later now (given ++ []) (read ++ []) (unread ++ [])
queue-still id count there later queued now given read unread alive same q =
    rw (append-nil given, append-nil read, append-nil unread, same) (record {
      left = q.left;
      future = λ above. q.future (omega (arith, above));
      parts = q.parts;
      alive = alive;
      counted = q.counted;
      once = q.once;
      none = q.none;
    })

pub queue-grants :
    (id count : ℕ) (there later : Bool) (queued now given read frames : List Frame)
    (unread : List ℕ)
    → later ≡ there → now ≡ queued ++ frames
    → Queue id count there queued given read unread
    → Queue id (count + 1) later now (given ++ frames) (read ++ []) (unread ++ [])
queue-grants id count there later queued now given read frames unread same more q =
    rw (append-nil read, append-nil unread, more) (record {
      left = q.left;
      parts =
          ap (λ (xs : List Frame). xs ++ frames) q.parts
          ∙
          (append_assoc read (q.left ++ queued) frames
          ∙ ap (λ (xs : List Frame). read ++ xs) (append_assoc q.left queued frames));
      counted = q.counted;
      once = q.once;
      none = q.none;
      alive = λ here. q.alive (sym same ∙ here);
      future = λ above. q.future (omega (arith, above));
    })

pub queue-syncs :
    (id count : ℕ) (there later : Bool) (queued now given read frames : List Frame)
    (unread : List ℕ)
    → there ≡ true → frames ++ now ≡ queued
    → Queue id count there queued given read unread
    → Queue id (count + 1) later now (given ++ []) (read ++ frames) (unread ++ [])
queue-syncs id count there later queued now given read frames unread here fewer q =
    let empty : q.left ≡ [] = q.none (q.alive here) in
    let all : given ≡ read ++ queued =
    q.parts ∙ ap (λ (xs : List Frame). read ++ (xs ++ queued)) empty in
    rw (append-nil given, append-nil unread) (record {
      left = [];
      parts =
          all
          ∙ (ap (λ (xs : List Frame). read ++ xs) (sym fewer) ∙ sym (append_assoc read frames now));
      counted = subst (λ (ns : List ℕ). Each (λ (n : ℕ). 0 ≡ n) ns) (sym (q.alive here)) tt;
      once = q.once;
      none = λ e. refl;
      alive = λ e. q.alive here;
      future = λ above. q.alive here;
    })

pub queue-finishes :
    (id count : ℕ) (there : Bool) (queued given read : List Frame) (unread : List ℕ) → there ≡ true
    → id ≤ count
    → Queue id count there queued given read unread
    → Queue id (count + 1) false [] (given ++ []) (read ++ []) (unread ++ length queued ∷ [])
queue-finishes id count there queued given read unread here below q =
    let none : unread ≡ [] = q.alive here in
    let empty : q.left ≡ [] = q.none none in
    rw (append-nil given, append-nil read, none) (record {
      left = queued;
      parts =
          q.parts ∙ ap (λ (xs : List Frame). read ++ xs)
          (ap (λ (xs : List Frame). xs ++ queued) empty ∙ sym (append-nil queued));
      counted = (refl, tt);
      once = omega arith;
      none = λ e. absurd cc;
      alive = λ e. absurd cc;
      future = λ above. absurd (omega (arith, above, below));
    })
