-- Each step keeps the rule of the table.
use Rattle.std.proofs.Common.{◌≡◌, ◌≢◌, ℕ, zero, suc, ◌+◌, ◌-◌, ◌%◌, ◌^◌, ◌<◌, ◌≤◌, ◌⊎◌, ◌==◌, Bool, true, false, List, [], ◌∷◌, ◌++◌, map, length, get_or, set, slice_get, Option, Some, None, MatchOption, refl, sym, ap, ◌∙◌, subst, inl, inr, ⊎_elim, arith, length-set, length-append, get_or-set_other, get_or-set_same, lit<}
use mathlib.Core.Logic.{dite}
use mathlib.Core.List.{IsPrefix, map-append}
use mathlib.Core.Option.{none, some, some-injective, some-ne-none}
use mathlib.Core.Option as maybe
use native.Mathlib.Decide.{ℕ_discrete}
use lib.ListN.{get_elem?, length-map}
use lib.Seq.{set-get_or, map-set}
use prog.Atomic.{either}
use Rattle.atomic_table.specs.Table.{State, Step, step, Act, keeps, takes, gives, stepped, homes_after, carried_after, rest, Valid, Allows, Splits, Joins, opening}
use Rattle.atomic_table.proofs.Lists.{at_set, set_here, set_else, set_again, at_map, exchanged}
use Rattle.std.proofs.lemmas.Option.{slice_get_within}
use Rattle.nm_turn.specs.declared.view.Share.{Share}
use Rattle.nm_turn.specs.declared.view.Known.{Known}
use Rattle.nm_turn.specs.declared.view.TurnStage.{TurnStage}
use Rattle.nm_turn.specs.declared.view.TurnStage.TheVariants.{Outside, Inside, Out, Joining}
use Rattle.nm_turn.specs.declared.view.PassView.{PassView}
use Rattle.nm_turn.specs.Numbered.{numbered, owned, merged, Stands, IsPicked}
use Rattle.nm_turn.specs.Shares.{IsWhole, AddUp, nothing, half, both_parts}
use Rattle.nm_turn.specs.Passes.{NoRootPast, AreTogether, AreWithin, Knows, HasAll, listed, at_stage, first_view, spent_view, committed_view, released_view, kept_view, forked_view, joining_view, new_since}
use Rattle.nm_turn.specs.Rule.{Each, part_of, IsHolderAt, HoldsAt, Learns, TurnRule}
use Rattle.nm_turn.specs.Plays.{Hand, in_hand, AreKnown, IsGiven, takes_turn, awaits, takes_value, commits, puts_value, releases, learns}
use Rattle.nm_turn.proofs.Shares.{AddUp-same, AddUp-fork, AddUp-join, IsWhole-alone, both_parts-live}
use Rattle.nm_turn.proofs.Numbered.{owned-push_mine, owned-push_other, owned-none, Stands-append, Stands-owned, owned-Stands, owned-all, Stands-merged, Stands-left, Stands-right, merged-Stands_left, merged-Stands_right, owned-picked, renamed, owned-renamed_both, owned-renamed_gone, owned-renamed_other, renamed-below}
use Rattle.nm_turn.proofs.Prefixes.{prefix_self, prefix_push, prefix_whole, prefix_length, get_joined, longer-begins, no_root-later, no_root-whole, no_root-push, numbered-Stands, new_since-more}

module _ {V : Type 0} where
  pub at_within : (l : List V) (j : ℕ) (v : V) → get_elem? l j ≡ some v → j < length l
  at_within [] j v e = absurd (some-ne-none v (sym e))
  at_within (x ∷ l) zero v e = omega arith
  at_within (x ∷ l) (suc j) v e = let t = at_within l j v e in omega arith

  pub at_there : (l : List V) (j : ℕ) → j < length l → (v : V) × (get_elem? l j ≡ some v)
  at_there [] j h = absurd (omega arith)
  at_there (x ∷ l) zero h = (x, refl)
  at_there (x ∷ l) (suc j) h = at_there l j (omega arith)

  at_push : (l : List V) (a b : V) (j : ℕ) → get_elem? (l ++ a ∷ []) j ≡ some b → (get_elem? l j ≡ some b) ⊎ ((j ≡ length l) × (a ≡ b))
  at_push [] a b zero e = inr (refl, some-injective a b e)
  at_push [] a b (suc j) e = absurd (some-ne-none b (sym e))
  at_push (x ∷ xs) a b zero e = inl e
  at_push (x ∷ xs) a b (suc j) e = ⊎_elim (λ (t : get_elem? xs j ≡ some b). inl t) (λ (t : (j ≡ length xs) × (a ≡ b)). inr (ap suc t.0, t.1)) (at_push xs a b j e)

  each_set : (P Q : ℕ → V → Type 0) (vs : List V) (id : ℕ) (w : V) → Each P vs → Q id w → ((j : ℕ) (v : V) → j ≢ id → get_elem? vs j ≡ some v → P j v → Q j v) → Each Q (set vs id w)
  each_set P Q vs id w all mine others j v at = ⊎_elim (λ (t : (j ≡ id) × (w ≡ v)). subst (λ (x : ℕ × V). Q x.0 x.1) (λ i. (sym t.0 i, t.1 i)) mine) (λ (t : (j ≢ id) × (get_elem? vs j ≡ some v)). others j v t.0 t.1 (all j v t.1)) (at_set vs id j w v at)

  each_push : (P : ℕ → V → Type 0) (vs : List V) (w : V) → Each P vs → P (length vs) w → Each P (vs ++ w ∷ [])
  each_push P vs w all mine j v at = ⊎_elim (λ (t : get_elem? vs j ≡ some v). all j v t) (λ (t : (j ≡ length vs) × (w ≡ v)). subst (λ (x : ℕ × V). P x.0 x.1) (λ i. (sym t.0 i, t.1 i)) mine) (at_push vs w v j at)

not_none : {A : Type 0} (holder : Option ℕ) (j : ℕ) → holder ≡ None → holder ≡ Some j → A
not_none holder j e f = absurd (let g : None ≡ Some j = sym e ∙ f in cc g)

not_two : {A : Type 0} (holder : Option ℕ) (i j : ℕ) → j ≢ i → holder ≡ Some i → holder ≡ Some j → A
not_two holder i j ne e f = absurd (let g : Some i ≡ Some j = sym e ∙ f in let h : i ≡ j = cc g in ne (sym h))

-- a held turn, among more views
held_among : (h : Option ℕ) (P Q : Type 0) (m n : ℕ) → m ≤ n → MatchOption h P (λ j. Q × (j < m)) → MatchOption h P (λ j. Q × (j < n))
held_among None P Q m n le t = t
held_among (Some j) P Q m n le t = let lt = t.1 in (t.0, omega arith)

not_held : (h : Option ℕ) (P Q : Type 0) (n : ℕ) → MatchOption h P (λ j. Q × (j < n)) → ¬ (h ≡ Some n)
not_held None P Q n t e = cc e
not_held (Some j) P Q n t e = let lt = t.1 in let same : j ≡ n = cc e in omega arith

module _ {V : Type 0} where
  each_set_two : (P Q : ℕ → V → Type 0) (vs : List V) (id other : ℕ) (w x : V) → Each P vs → Q id w → Q other x → ((j : ℕ) (v : V) → j ≢ id → j ≢ other → P j v → Q j v) → Each Q (set (set vs id w) other x)
  each_set_two P Q vs id other w x all one two others j v at = ⊎_elim (λ (t : (j ≡ other) × (x ≡ v)). subst (λ (y : ℕ × V). Q y.0 y.1) (λ i. (sym t.0 i, t.1 i)) two)
      (λ (t : (j ≢ other) × (get_elem? (set vs id w) j ≡ some v)). ⊎_elim (λ (u : (j ≡ id) × (w ≡ v)). subst (λ (y : ℕ × V). Q y.0 y.1) (λ i. (sym u.0 i, u.1 i)) one)
      (λ (u : (j ≢ id) × (get_elem? vs j ≡ some v)). others j v u.0 t.0 (all j v u.1)) (at_set vs id j w v t.1)) (at_set (set vs id w) other j x v at)

  each_one : (P : ℕ → V → Type 0) (w : V) → P 0 w → Each P (w ∷ [])
  each_one P w p zero v at = subst (P 0) (some-injective w v at) p
  each_one P w p (suc j) v at = absurd (some-ne-none v (sym at))

module _ {E : Type 0} where
  -- what one view knows of the turn
  abbrev pub At : Option ℕ → Bool → List E → ℕ → TurnStage E → Type 0
  At holder out history j stage = IsHolderAt holder j stage × HoldsAt out history stage

  -- the others, where the turn is taken, kept or given up
  others_take : (holder : Option ℕ) (out : Bool) (history : List E) (id j : ℕ) (stage : TurnStage E) → holder ≡ None → j ≢ id → At holder out history j stage → At (Some id) out history j stage
  others_take holder out history id j Outside e ne a = ((λ h. let i : id ≡ j = cc h in ne (sym i)), tt)
  others_take holder out history id j (Inside h) e ne a = not_none holder j e a.0
  others_take holder out history id j (Out h) e ne a = not_none holder j e a.0
  others_take holder out history id j (Joining k l) e ne a = ((λ h. let i : id ≡ j = cc h in ne (sym i)), tt)

  others_keep : (holder : Option ℕ) (out out' : Bool) (history history' : List E) (id j : ℕ) (stage : TurnStage E) → holder ≡ Some id → j ≢ id → At holder out history j stage → At holder out' history' j stage
  others_keep holder out out' history history' id j Outside e ne a = (a.0, tt)
  others_keep holder out out' history history' id j (Inside h) e ne a = not_two holder id j ne e a.0
  others_keep holder out out' history history' id j (Out h) e ne a = not_two holder id j ne e a.0
  others_keep holder out out' history history' id j (Joining k l) e ne a = (a.0, tt)

  others_release : (holder : Option ℕ) (out out' : Bool) (history : List E) (id j : ℕ) (stage : TurnStage E) → holder ≡ Some id → j ≢ id → At holder out history j stage → At None out' history j stage
  others_release holder out out' history id j Outside e ne a = ((λ h. cc h), tt)
  others_release holder out out' history id j (Inside h) e ne a = not_two holder id j ne e a.0
  others_release holder out out' history id j (Out h) e ne a = not_two holder id j ne e a.0
  others_release holder out out' history id j (Joining k l) e ne a = ((λ h. cc h), tt)

module _ {B E F : Type 0} (entries : B → List E) (fixed_of : B → F) (root : E → ℕ → ℕ) (same : F) where
  abbrev V : Type 0
  V = PassView E F

  abbrev S : Type 0
  S = State (Option B) V

  abbrev H : Type 0
  H = Hand B E F

  abbrev Rule : S → Type 0
  Rule = TurnRule entries fixed_of root same

  -- a pass that was not joined into another
  abbrev pub Live : V → Type 0
  Live v = (v.fixed ≡ Some same) × (0 < v.part.share)

  -- a step of one view that leaves the history, its part and its entries
  moved : (s : S) (r : Rule s) (id : ℕ) (v : V) (seen' : List E) (stage' : TurnStage E) (words' : List ℕ) (homes' : List (maybe.Option (Option B))) (holder' : Option ℕ) (out' : Bool)
      → get_elem? s.views id ≡ some v → Live v → length words' ≡ 3
      → MatchOption holder' (get_or words' 0 0 ≡ 0) (λ j. (get_or words' 0 0 ≡ 1) × (j < length s.views)) → get_or words' 1 0 ≡ get_or s.words 1 0
      → ((b : B) → get_elem? homes' 0 ≡ some (some (Some b)) → (entries b ≡ r.history) × (fixed_of b ≡ same))
      → (holder' ≡ None → out' ≡ false) → (out' ≡ false → (b : B) × (get_elem? homes' 0 ≡ some (some (Some b)))) → (out' ≡ true → get_elem? homes' 0 ≡ some none)
      → At holder' out' r.history id stage' → ((j : ℕ) (u : TurnStage E) → j ≢ id → At r.holder r.out r.history j u → At holder' out' r.history j u)
      → IsPrefix seen' r.history → length v.seen ≤ length seen' → Learns root r.history seen' v.mine stage'
      → Rule record { words = words'; homes = homes'; views = set s.views id (record v { seen = seen'; stage = stage' }) }
  moved s r id v seen' stage' words' homes' holder' out' at live wide held count home free there gone turn others pre le learn =
      let w : V = record v { seen = seen'; stage = stage' } in
      let longs = length-set s.views id w in
      let own = r.owned_once.2 id v at in record {
        history = r.history;
        holder = holder';
        out = out';
        owners = r.owners;
        three_words = wide;
        one_holder = (
          subst (λ (n : ℕ). MatchOption holder' (get_or words' 0 0 ≡ 0) (λ j. (get_or words' 0 0 ≡ 1) × (j < n))) (sym longs) held,
          each_set (λ j u. IsHolderAt r.holder j u.stage) (λ j u. IsHolderAt holder' j u.stage) s.views id w r.one_holder.1 turn.0
              (λ j u ne there' old. (others j u.stage ne (old, r.holder_only.3 j u there')).0),
        );
        counted = count ∙ r.counted;
        stands_for = λ b h. (home b h).0;
        holder_only = (
          free,
          there,
          gone,
          each_set (λ j u. HoldsAt r.out r.history u.stage) (λ j u. HoldsAt out' r.history u.stage) s.views id w r.holder_only.3 turn.1
              (λ j u ne there' old. (others j u.stage ne (r.one_holder.1 j u there', old)).1),
        );
        seen_prefix = each_set (λ j u. IsPrefix u.seen r.history) (λ j u. IsPrefix u.seen r.history) s.views id w r.seen_prefix pre (λ j u ne there' old. old);
        owned_once = (
          r.owned_once.0,
          (λ i o e. subst (λ (n : ℕ). o < n) (sym longs) (r.owned_once.1 i o e)),
          each_set (λ j u. (u.mine ≡ owned j 1 r.owners r.history) × AreWithin (length u.seen) u.mine) (λ j u. (u.mine ≡ owned j 1 r.owners r.history) × AreWithin (length u.seen) u.mine) s.views id w r.owned_once.2
              (own.0, (λ n st. let t = own.1 n st in omega arith)) (λ j u ne there' old. old),
        );
        mine_seen = each_set (λ j u. NoRootPast root u.seen u.mine r.history × AreTogether root u.mine r.history × Learns root r.history u.seen u.mine u.stage) (λ j u. NoRootPast root u.seen u.mine r.history × AreTogether root u.mine r.history × Learns root r.history u.seen u.mine u.stage) s.views id w r.mine_seen
            (no_root-later root v.seen seen' r.history v.mine le (r.mine_seen id v at).0, (r.mine_seen id v at).1, learn) (λ j u ne there' old. old);
        fixed = λ b h. (home b h).1;
        shares = subst AddUp (sym (map-set part_of s.views id w)) (AddUp-same (map part_of s.views) id v.part (at_map part_of s.views id v at) r.shares);
        spent = each_set (λ j u. (u ≡ spent_view) ⊎ ((u.fixed ≡ Some same) × (0 < u.part.share))) (λ j u. (u ≡ spent_view) ⊎ ((u.fixed ≡ Some same) × (0 < u.part.share))) s.views id w r.spent (inr live) (λ j u ne there' old. old);
      }

  -- the holder of the turn
  holds_turn : (s : S) (r : Rule s) (id : ℕ) (v : V) (stage : TurnStage E) → get_elem? s.views id ≡ some v → v.stage ≡ stage → At r.holder r.out r.history id stage
  holds_turn s r id v stage at is = subst (λ (st : TurnStage E). At r.holder r.out r.history id st) is (r.one_holder.1 id v at, r.holder_only.3 id v at)

  -- the word of a turn that is held
  held_word : (s : S) (r : Rule s) (id : ℕ) → r.holder ≡ Some id → (get_or s.words 0 0 ≡ 1) × (id < length s.views)
  held_word s r id e = subst (λ (h : Option ℕ). MatchOption h (get_or s.words 0 0 ≡ 0) (λ j. (get_or s.words 0 0 ≡ 1) × (j < length s.views))) e r.one_holder.0

  -- a turn whose word is 0 is free
  free_turn : (s : S) (r : Rule s) → get_or s.words 0 0 ≡ 0 → r.holder ≡ None
  free_turn s r e = elim_holder r.holder refl
    where
      elim_holder : (h : Option ℕ) → r.holder ≡ h → r.holder ≡ None
      elim_holder None is = is
      elim_holder (Some j) is = let t = (held_word s r j is).0 in absurd (omega arith)

  value_there : (s : S) (r : Rule s) (b : B) → get_elem? s.homes 0 ≡ some (some (Some b)) → (entries b ≡ r.history) × (fixed_of b ≡ same)
  value_there s r b h = (r.stands_for b h, r.fixed b h)

  -- the same table, after a load
  loaded : (s : S) (k : ℕ) (homes' : List (maybe.Option (Option B))) (views' : List V) → Rule record { words = s.words; homes = homes'; views = views' }
      → Rule record { words = set s.words k (get_or s.words k 0); homes = homes'; views = views' }
  loaded s k homes' views' r = subst (λ (ws : List ℕ). Rule record { words = ws; homes = homes'; views = views' }) (sym (set-get_or s.words k 0)) r

  pub takes_turn_keeps : (slots id : ℕ) (me : H) → me.0.stage ≡ Outside → Live me.0
      → Allows Rule slots id me 0 (λ n. either (n == 0) 1 n) (takes_turn (step slots 0 0 1 none) me)
  takes_turn_keeps slots id me is live s r sized at small =
      let F : ℕ → Type 0 = λ n. (w : V) × (a : Act (Option B)) × Valid s.homes me.1 a × Rule (stepped s 0 n id me.1 w a) × takes_turn (step slots 0 0 1 none) me (get_or s.words 0 0) (w, carried_after me.1 a) in
      exchanged (get_or s.words 0 0) 0 1 F
      (λ zero_found.
      let none' = free_turn s r zero_found in
      let w : V = at_stage (Inside r.history) me.0 in
      let here : 0 < length s.words = let t = r.three_words in omega arith in
      let out : r.out ≡ false = r.holder_only.0 none' in (
        w,
        keeps,
        tt,
        moved s r id me.0 me.0.seen (Inside r.history) (set s.words 0 1) s.homes (Some id) r.out at live (length-set s.words 0 1 ∙ r.three_words)
            (get_or-set_same s.words 0 1 0 here, at_within s.views id me.0 at) (get_or-set_other s.words 0 1 1 0 (λ e. omega arith)) (value_there s r) (λ e. out) r.holder_only.1 r.holder_only.2
            (refl, (out, refl)) (λ j u ne a. others_take r.holder r.out r.history id j u none' ne a) (r.seen_prefix id me.0 at) (omega arith) tt,
        ((λ _. (r.history, refl)), (λ ne. absurd (ne zero_found))),
      ))
      (λ busy. (
        me.0,
        keeps,
        tt,
        loaded s 0 s.homes (set s.views id me.0) (subst (λ (vs : List V). Rule record { words = s.words; homes = s.homes; views = vs }) (sym (set_again s.views id me.0 at)) r),
        ((λ e. absurd (busy e)), (λ _. refl)),
      ))

  -- word 2 may be any number
  waiting : (s : S) (r : Rule s) (n : ℕ) → Rule record { words = set s.words 2 n; homes = s.homes; views = s.views }
  waiting s r n =
      let first : get_or (set s.words 2 n) 0 0 ≡ get_or s.words 0 0 = get_or-set_other s.words 2 0 n 0 (λ e. omega arith) in record {
        history = r.history;
        holder = r.holder;
        out = r.out;
        owners = r.owners;
        three_words = length-set s.words 2 n ∙ r.three_words;
        one_holder = (
          subst (λ (m : ℕ). MatchOption r.holder (m ≡ 0) (λ j. (m ≡ 1) × (j < length s.views))) (sym first) r.one_holder.0,
          r.one_holder.1,
        );
        counted = get_or-set_other s.words 2 1 n 0 (λ e. omega arith) ∙ r.counted;
        stands_for = r.stands_for;
        holder_only = r.holder_only;
        seen_prefix = r.seen_prefix;
        owned_once = r.owned_once;
        mine_seen = r.mine_seen;
        fixed = r.fixed;
        shares = r.shares;
        spent = r.spent;
      }

  awaits_by : (slots id : ℕ) (f : ℕ → ℕ) (st : Step (Option B)) (me : H) → Allows Rule slots id me 2 f (awaits st me)
  awaits_by slots id f st me s r sized at small = (
    me.0,
    keeps,
    tt,
    waiting record { words = s.words; homes = s.homes; views = set s.views id me.0 }
        (subst (λ (vs : List V). Rule record { words = s.words; homes = s.homes; views = vs }) (sym (set_again s.views id me.0 at)) r) (f (get_or s.words 2 0)),
    refl,
  )

  pub awaits_keeps : (slots id : ℕ) (me : H) → Allows Rule slots id me 2 (λ n. (n + 1) % 2 ^ 64) (awaits (step slots 2 1 0 none) me)
  awaits_keeps slots id me = awaits_by slots id (λ n. (n + 1) % 2 ^ 64) (step slots 2 1 0 none) me

  pub awaited_keeps : (slots id : ℕ) (me : H) → Allows Rule slots id me 2 (λ n. (n + (2 ^ 64 - 1)) % 2 ^ 64) (awaits (step slots 2 1 0 none) me)
  awaited_keeps slots id me = awaits_by slots id (λ n. (n + (2 ^ 64 - 1)) % 2 ^ 64) (step slots 2 1 0 none) me

  -- the entries that are kept with their owners, where one view has the whole
  pub whole_has_all : (s : S) (r : Rule s) (id : ℕ) (v : V) → get_elem? s.views id ≡ some v → IsWhole v.part → HasAll r.history v.seen v.mine
  whole_has_all s r id v at whole =
      let own = r.owned_once.2 id v at in
      let os : List ℕ = r.owners in
      let parts : List Share = map part_of s.views in
      let alone : (i o : ℕ) → slice_get os i ≡ Some o → o ≡ id = λ i o e. dite (ℕ_discrete o id) (λ q. q) (λ ne.
      let other = at_there s.views o (r.owned_once.1 i o e) in
      let u : V = other.0 in
      let none' : u.part.share ≡ 0 = IsWhole-alone parts id o v.part u.part r.shares (at_map part_of s.views id v at) (at_map part_of s.views o u other.1) ne whole in
      let empty : u.mine ≡ [] = ⊎_elim (λ (q : u ≡ spent_view). ap (λ (x : V). x.mine) q) (λ (q : (u.fixed ≡ Some same) × (0 < u.part.share)). let lt = q.1 in absurd (omega arith)) (r.spent o u other.1) in
      let stands : Stands (1 + i) (owned o 1 os r.history) = owned-Stands o 1 i os r.history r.owned_once.0 e in
      absurd (subst (Stands (1 + i)) (sym (r.owned_once.2 o u other.1).0 ∙ empty) stands)) in
      let all : v.mine ≡ numbered 1 r.history = own.0 ∙ owned-all id 1 os r.history r.owned_once.0 alone in
      let long : length r.history ≤ length v.seen = dite (ℕ_discrete (length r.history) 0) (λ z. omega arith) (λ nz.
      let k : 1 + (length r.history - 1) ≡ length r.history = omega arith in
      own.1 (length r.history) (subst (Stands (length r.history)) (sym all) (subst (λ (n : ℕ). Stands n (numbered 1 r.history)) k (numbered-Stands 1 (length r.history - 1) r.history (omega arith))))) in
      record { all_seen = prefix_whole v.seen r.history (r.seen_prefix id v at) long; all_mine = all }

  -- what the rule says of what a pass knows
  knows_of : (s : S) (r : Rule s) (id : ℕ) (v : V) → get_elem? s.views id ≡ some v → Knows root r.history v.seen v.mine
  knows_of s r id v at = record {
    begins = r.seen_prefix id v at;
    no_root = (r.mine_seen id v at).0;
    together = (r.mine_seen id v at).1;
    stands =
        let own = r.owned_once.2 id v at in
        subst (λ (l : List (ℕ × E)). IsPicked l (numbered 1 v.seen)) (sym own.0) (owned-picked id 1 r.owners v.seen r.history (r.seen_prefix id v at) (λ k st. let t = own.1 k (subst (Stands k) (sym own.0) st) in omega arith));
  }

  given_of : (s : S) (r : Rule s) (id : ℕ) (v : V) (b : B) (h : List E) → get_elem? s.views id ≡ some v → Live v → v.stage ≡ Inside h → get_elem? s.homes 0 ≡ some (some (Some b)) → IsGiven entries fixed_of root v b
  given_of s r id v b h at live is there =
      let turn = holds_turn s r id v (Inside h) at is in
      let e : entries b ≡ r.history = r.stands_for b there in record {
        is_listed = e ∙ (sym turn.1.1 ∙ sym (ap listed is));
        is_fixed = live.0 ∙ ap Some (sym (r.fixed b there));
        knows = subst (λ (l : List E). Knows root l v.seen v.mine) (sym e) (knows_of s r id v at);
        has_all = λ whole. subst (λ (l : List E). HasAll l v.seen v.mine) (sym e) (whole_has_all s r id v at whole);
      }

  pub takes_value_keeps : (slots id : ℕ) (me : H) (h : List E) → slots ≡ 1 → me.0.stage ≡ Inside h → Live me.0
      → Allows Rule slots id me 0 (λ n. n) (takes_value entries fixed_of root (step slots 0 0 0 none) me)
  takes_value_keeps slots id me h one is live s r sized at small =
      let turn = holds_turn s r id me.0 (Inside h) at is in
      let home = r.holder_only.1 turn.1.0 in
      let b : B = home.0 in
      let word = held_word s r id turn.0 in
      let here : 0 < length s.homes = let z = sized ∙ one in omega arith in
      let gone = set_here s.homes 0 none here in
      let l : listed me.0.stage ≡ r.history = ap listed is ∙ turn.1.1 in (
        at_stage (Out (listed me.0.stage)) me.0,
        takes 0 (Some b),
        home.1,
        loaded s 0 (set s.homes 0 none) (set s.views id (at_stage (Out (listed me.0.stage)) me.0))
            (moved s r id me.0 me.0.seen (Out (listed me.0.stage)) s.words (set s.homes 0 none) r.holder true at live r.three_words r.one_holder.0 refl
            (λ c q. absurd (some-ne-none (Some c) (sym (some-injective none (some (Some c)) (sym gone ∙ q)))))
            (λ e. not_none r.holder id e turn.0) (λ e. absurd (cc e)) (λ e. gone) (turn.0, (refl, l))
            (λ j u ne a. others_keep r.holder r.out true r.history r.history id j u turn.0 ne a) (r.seen_prefix id me.0 at) (omega arith) tt),
        (b, refl, given_of s r id me.0 b h at live is home.1),
      )

  pub puts_value_keeps : (slots id : ℕ) (me : H) (h : List E) (b : B) → slots ≡ 1 → me.0.stage ≡ Out h → me.1 ≡ (0, Some b) ∷ [] → entries b ≡ h → fixed_of b ≡ same → Live me.0
      → Allows Rule slots id me 0 (λ n. n) (puts_value root (step slots 0 0 0 none) me)
  puts_value_keeps slots id me h b one is has now fix live s r sized at small =
      let turn = holds_turn s r id me.0 (Out h) at is in
      let here : 0 < length s.homes = let z = sized ∙ one in omega arith in
      let l : listed me.0.stage ≡ r.history = ap listed is ∙ turn.1.1 in
      let homes' : List (maybe.Option (Option B)) = homes_after s.homes me.1 gives in
      let back : get_elem? homes' 0 ≡ some (some (Some b)) = ap (λ (c : List (ℕ × Option B)). get_elem? (homes_after s.homes c gives) 0) has ∙ set_here s.homes 0 (some (Some b)) here in
      let w : V = at_stage (Inside (listed me.0.stage)) me.0 in (
        w,
        gives,
        tt,
        loaded s 0 homes' (set s.views id w)
            (moved s r id me.0 me.0.seen (Inside (listed me.0.stage)) s.words homes' r.holder false at live r.three_words r.one_holder.0 refl
            (λ c q. let e : b ≡ c = cc (some-injective (some (Some b)) (some (Some c)) (sym back ∙ q)) in subst (λ (x : B). (entries x ≡ r.history) × (fixed_of x ≡ same)) e (now ∙ turn.1.1, fix))
            (λ e. refl) (λ e. (b, back)) (λ e. absurd (cc e)) (turn.0, (refl, l))
            (λ j u ne a. others_keep r.holder r.out false r.history r.history id j u turn.0 ne a) (r.seen_prefix id me.0 at) (omega arith) tt),
        (ap (λ (c : List (ℕ × Option B)). (w, rest c)) has, subst (λ (k : List E). Knows root k me.0.seen me.0.mine) (sym l) (knows_of s r id me.0 at)),
      )

  pub releases_keeps : (slots id : ℕ) (me : H) (h : List E) → me.0.stage ≡ Inside h → Live me.0
      → Allows Rule slots id me 0 (λ _. 0) (λ _. releases (step slots 0 0 0 none) me 0)
  releases_keeps slots id me h is live s r sized at small =
      let turn = holds_turn s r id me.0 (Inside h) at is in
      let l : listed me.0.stage ≡ r.history = ap listed is ∙ turn.1.1 in
      let here : 0 < length s.words = let t = r.three_words in omega arith in
      let le = prefix_length me.0.seen r.history (r.seen_prefix id me.0 at) in
      let same_length : length (listed me.0.stage) ≡ length r.history = ap length l in (
        released_view me.0,
        keeps,
        tt,
        moved s r id me.0 (listed me.0.stage) Outside (set s.words 0 0) s.homes None r.out at live (length-set s.words 0 0 ∙ r.three_words) (get_or-set_same s.words 0 0 0 here) (get_or-set_other s.words 0 1 0 0 (λ e. omega arith))
            (value_there s r) (λ e. turn.1.0) r.holder_only.1 r.holder_only.2 ((λ e. cc e), tt) (λ j u ne a. others_release r.holder r.out r.out r.history id j u turn.0 ne a)
            (subst (λ (k : List E). IsPrefix k r.history) (sym l) (prefix_self r.history)) (omega arith) tt,
        refl,
      )

  -- an entry whose root is new, or stands among the holder's own, has no root among those of another
  rootless : (s : S) (r : Rule s) (id j : ℕ) (v u : V) (e : E) → get_elem? s.views id ≡ some v → get_elem? s.views j ≡ some u → j ≢ id
      → (root e (length r.history + 1) ≡ length r.history + 1) ⊎ Stands (root e (length r.history + 1)) v.mine → ¬ Stands (root e (length r.history + 1)) u.mine
  rootless s r id j v u e at there ne rooted stands =
      let n : ℕ = root e (length r.history + 1) in
      let os : List ℕ = r.owners in
      let theirs = Stands-owned n j 1 os r.history (subst (Stands n) (r.owned_once.2 j u there).0 stands) in
      ⊎_elim (λ (q : n ≡ length r.history + 1). let lt = theirs.1 in omega arith)
      (λ (q : Stands n v.mine).
      let ours = Stands-owned n id 1 os r.history (subst (Stands n) (r.owned_once.2 id v at).0 q) in
      let two : Some id ≡ Some j = sym ours.2 ∙ theirs.2 in
      let one : id ≡ j = cc two in ne (sym one)) rooted

  -- the root of the last entry
  last_root : (history : List E) (mine : List (ℕ × E)) (e x : E) (at : ℕ) → length history ≤ at → slice_get (e ∷ []) (at - length history) ≡ Some x → Stands (root x (at + 1)) mine → Stands (root e (length history + 1)) mine
  last_root history mine e x at le h st =
      let lt = slice_get_within (e ∷ []) (at - length history) x h in
      let here : at - length history ≡ 0 = omega arith in
      let same_entry : e ≡ x = cc (ap (slice_get (e ∷ [])) (sym here) ∙ h) in
      let number : length history ≡ at = omega arith in
      subst (λ (t : E × ℕ). Stands (root t.0 (t.1 + 1)) mine) (λ i. (sym same_entry i, sym number i)) st

  together_push : (history : List E) (mine : List (ℕ × E)) (e : E) → ¬ Stands (root e (length history + 1)) mine → AreTogether root mine history → AreTogether root mine (history ++ e ∷ [])
  together_push history mine e not old at x h st = ⊎_elim (λ (a : slice_get history at ≡ Some x). old at x a st)
      (λ (b : (length history ≤ at) × (slice_get (e ∷ []) (at - length history) ≡ Some x)). absurd (not (last_root history mine e x at b.0 b.1 st)))
      (get_joined history (e ∷ []) at x h)

  knows_push : (history : List E) (seen : List E) (mine : List (ℕ × E)) (e : E) → ¬ Stands (root e (length history + 1)) mine → Knows root history seen mine → Knows root (history ++ e ∷ []) seen mine
  knows_push history seen mine e not k = record { begins = prefix_push seen history e k.begins; no_root = no_root-push root seen history mine e not k.no_root; together = together_push history mine e not k.together; stands = k.stands }

  learns_push : (history seen : List E) (mine : List (ℕ × E)) (stage : TurnStage E) (e : E) → ¬ Stands (root e (length history + 1)) mine → Learns root history seen mine stage → Learns root (history ++ e ∷ []) seen mine stage
  learns_push history seen mine Outside e not k = tt
  learns_push history seen mine (Inside h) e not k = tt
  learns_push history seen mine (Out h) e not k = tt
  learns_push history seen mine (Joining a b) e not k =
      let n : ℕ = root e (length history + 1) in (
        knows_push history a.seen a.mine e (λ st. not (subst (Stands n) (sym k.2) (merged-Stands_left n a.mine b.mine st))) k.0,
        knows_push history b.seen b.mine e (λ st. not (subst (Stands n) (sym k.2) (merged-Stands_right n a.mine b.mine st))) k.1,
        k.2,
      )

  together_own : (history : List E) (mine : List (ℕ × E)) (e : E) → ((x : E) (n : ℕ) → root x n ≤ n) → AreTogether root mine history → AreTogether root (mine ++ (1 + length history, e) ∷ []) (history ++ e ∷ [])
  together_own history mine e early old at x h st =
      let last : List (ℕ × E) = (1 + length history, e) ∷ [] in
      ⊎_elim (λ (a : slice_get history at ≡ Some x). ⊎_elim (λ (b : Stands (root x (at + 1)) mine). Stands-left (at + 1) mine last (old at x a b))
      (λ (b : Stands (root x (at + 1)) last). ⊎_elim (λ (q : root x (at + 1) ≡ 1 + length history). let lt = slice_get_within history at x a in let le = early x (at + 1) in absurd (omega arith)) (λ (z : ⊥). absurd z) b)
      (Stands-append (root x (at + 1)) mine last st))
      (λ (b : (length history ≤ at) × (slice_get (e ∷ []) (at - length history) ≡ Some x)).
      let lt = slice_get_within (e ∷ []) (at - length history) x b.1 in
      let ge = b.0 in
      let number : at + 1 ≡ 1 + length history = omega arith in Stands-right (at + 1) mine last (inl number))
      (get_joined history (e ∷ []) at x h)

  -- the holder commits an entry
  committed : (s : S) (r : Rule s) (id : ℕ) (v : V) (e : E) (words' : List ℕ) → ((x : E) (n : ℕ) → root x n ≤ n) → get_elem? s.views id ≡ some v → Live v → v.stage ≡ Out r.history
      → (root e (length r.history + 1) ≡ length r.history + 1) ⊎ Stands (root e (length r.history + 1)) v.mine
      → length words' ≡ 3 → get_or words' 0 0 ≡ get_or s.words 0 0 → get_or words' 1 0 ≡ length r.history + 1
      → Rule record { words = words'; homes = s.homes; views = set s.views id (record v { seen = r.history ++ e ∷ []; mine = v.mine ++ (1 + length r.history, e) ∷ []; stage = Out (r.history ++ e ∷ []) }) }
  committed s r id v e words' early at live is rooted wide first count =
      let new : List E = r.history ++ e ∷ [] in
      let w : V = record v { seen = new; mine = v.mine ++ (1 + length r.history, e) ∷ []; stage = Out new } in
      let longs = length-set s.views id w in
      let turn = holds_turn s r id v (Out r.history) at is in
      let own = r.owned_once.2 id v at in
      let more : length new ≡ length r.history + 1 = length-append r.history (e ∷ []) in
      let le = prefix_length v.seen r.history (r.seen_prefix id v at) in
      let away : (b : B) → get_elem? s.homes 0 ≡ some (some (Some b)) → ⊥ = λ b h. some-ne-none (Some b) (sym (some-injective none (some (Some b)) (sym (r.holder_only.2 turn.1.0) ∙ h))) in record {
        history = new;
        holder = r.holder;
        out = r.out;
        owners = r.owners ++ id ∷ [];
        three_words = wide;
        one_holder = (
          subst (λ (n : ℕ × ℕ). MatchOption r.holder (n.0 ≡ 0) (λ j. (n.0 ≡ 1) × (j < n.1))) (λ i. (sym first i, sym longs i)) r.one_holder.0,
          each_set (λ j u. IsHolderAt r.holder j u.stage) (λ j u. IsHolderAt r.holder j u.stage) s.views id w r.one_holder.1 turn.0 (λ j u ne there old. old),
        );
        counted = count ∙ sym more;
        stands_for = λ b h. absurd (away b h);
        holder_only = (
          r.holder_only.0,
          r.holder_only.1,
          r.holder_only.2,
          each_set (λ j u. HoldsAt r.out r.history u.stage) (λ j u. HoldsAt r.out new u.stage) s.views id w r.holder_only.3 (turn.1.0, refl)
              (λ j u ne there old. (others_keep r.holder r.out r.out r.history new id j u.stage turn.0 ne (r.one_holder.1 j u there, old)).1),
        );
        seen_prefix = each_set (λ j u. IsPrefix u.seen r.history) (λ j u. IsPrefix u.seen new) s.views id w r.seen_prefix (prefix_self new) (λ j u ne there old. prefix_push u.seen r.history e old);
        owned_once = (
          (let a = length-append r.owners (id ∷ []) in let b = r.owned_once.0 in omega arith),
          (λ i o h. subst (λ (n : ℕ). o < n) (sym longs) (⊎_elim (λ (q : slice_get r.owners i ≡ Some o). r.owned_once.1 i o q)
              (λ (q : (length r.owners ≤ i) × (slice_get (id ∷ []) (i - length r.owners) ≡ Some o)).
              let lt = slice_get_within (id ∷ []) (i - length r.owners) o q.1 in
              let z : i - length r.owners ≡ 0 = omega arith in
              let same_id : id ≡ o = cc (ap (slice_get (id ∷ [])) (sym z) ∙ q.1) in
              subst (λ (n : ℕ). n < length s.views) same_id (at_within s.views id v at))
              (get_joined r.owners (id ∷ []) i o h))),
          each_set (λ j u. (u.mine ≡ owned j 1 r.owners r.history) × AreWithin (length u.seen) u.mine) (λ j u. (u.mine ≡ owned j 1 (r.owners ++ id ∷ []) new) × AreWithin (length u.seen) u.mine) s.views id w r.owned_once.2 (
            ap (λ (l : List (ℕ × E)). l ++ (1 + length r.history, e) ∷ []) own.0 ∙ sym (owned-push_mine id 1 r.owners r.history e r.owned_once.0),
            (λ n st. ⊎_elim (λ (q : Stands n v.mine). let t = own.1 n q in omega arith) (λ (q : Stands n ((1 + length r.history, e) ∷ [])). ⊎_elim (λ (z : n ≡ 1 + length r.history). omega arith) (λ (z : ⊥). absurd z) q)
                (Stands-append n v.mine ((1 + length r.history, e) ∷ []) st)),
          )
              (λ j u ne there old. (old.0 ∙ sym (owned-push_other j 1 r.owners r.history id e r.owned_once.0 (λ q. ne (sym q))), old.1)),
        );
        mine_seen = each_set (λ j u. NoRootPast root u.seen u.mine r.history × AreTogether root u.mine r.history × Learns root r.history u.seen u.mine u.stage) (λ j u. NoRootPast root u.seen u.mine new × AreTogether root u.mine new × Learns root new u.seen u.mine u.stage) s.views id w r.mine_seen
            (no_root-whole root new w.mine, together_own r.history v.mine e early (r.mine_seen id v at).1, tt)
            (λ j u ne there old. let not = rootless s r id j v u e at there ne rooted in (no_root-push root u.seen r.history u.mine e not old.0, together_push r.history u.mine e not old.1, learns_push r.history u.seen u.mine u.stage e not old.2));
        fixed = λ b h. absurd (away b h);
        shares = subst AddUp (sym (map-set part_of s.views id w)) (AddUp-same (map part_of s.views) id v.part (at_map part_of s.views id v at) r.shares);
        spent = each_set (λ j u. (u ≡ spent_view) ⊎ ((u.fixed ≡ Some same) × (0 < u.part.share))) (λ j u. (u ≡ spent_view) ⊎ ((u.fixed ≡ Some same) × (0 < u.part.share))) s.views id w r.spent (inr live) (λ j u ne there old. old);
      }

  pub commits_keeps : (slots id : ℕ) (me : H) (h : List E) (b : B) (e : E) → ((x : E) (n : ℕ) → root x n ≤ n) → me.0.stage ≡ Out h → me.1 ≡ (0, Some b) ∷ [] → entries b ≡ h ++ e ∷ []
      → (root e (length h + 1) ≡ length h + 1) ⊎ Stands (root e (length h + 1)) me.0.mine → length (entries b) < 2 ^ 32 → Live me.0
      → Allows Rule slots id me 1 (λ n. (n + 1) % 2 ^ 64) (commits entries root (step slots 1 1 0 none) me)
  commits_keeps slots id me h b e early is has now rooted few live s r sized at small =
      let turn = holds_turn s r id me.0 (Out h) at is in
      let v : V = me.0 in
      let l : listed v.stage ≡ r.history = ap listed is ∙ turn.1.1 in
      let new : List E = r.history ++ e ∷ [] in
      let n : ℕ = get_or s.words 1 0 in
      let counts : n ≡ length r.history = r.counted in
      let same_length : length h ≡ length r.history = ap length turn.1.1 in
      let sum : length (entries b) ≡ length h + 1 = ap length now ∙ length-append h (e ∷ []) in
      let here : 1 < length s.words = let t = r.three_words in omega arith in
      let one : (n + 1) % 2 ^ 64 ≡ length r.history + 1 = omega arith in
      let is_new : in_hand entries me.1 ≡ new = ap (in_hand entries) has ∙ (now ∙ ap (λ (k : List E). k ++ e ∷ []) turn.1.1) in
      let w : V = committed_view (in_hand entries me.1) v in
      let w' : V = record v { seen = new; mine = v.mine ++ (1 + length r.history, e) ∷ []; stage = Out new } in
      let added : new_since (listed v.stage) new ≡ (1 + length r.history, e) ∷ [] = ap (λ (k : List E). new_since k new) l ∙ new_since-more r.history (e ∷ []) in
      let same_view : w' ≡ w = sym (ap (λ (k : List E). committed_view k v) is_new ∙ ap (λ (m : List (ℕ × E)). record v { seen = new; mine = v.mine ++ m; stage = Out new }) added) in
      let rooted' = subst (λ (k : List E). (root e (length k + 1) ≡ length k + 1) ⊎ Stands (root e (length k + 1)) v.mine) turn.1.1 rooted in (
        w,
        keeps,
        tt,
        subst (λ (x : V). Rule record { words = set s.words 1 ((n + 1) % 2 ^ 64); homes = s.homes; views = set s.views id x }) same_view
            (committed s r id v e (set s.words 1 ((n + 1) % 2 ^ 64)) early at live (is ∙ ap (λ (k : List E). Out k) turn.1.1) rooted' (length-set s.words 1 ((n + 1) % 2 ^ 64) ∙ r.three_words)
            (get_or-set_other s.words 1 0 ((n + 1) % 2 ^ 64) 0 (λ q. omega arith)) (get_or-set_same s.words 1 ((n + 1) % 2 ^ 64) 0 here ∙ one)),
        (refl, subst (λ (k : List E). Knows root k v.seen v.mine) (sym l) (knows_of s r id v at)),
      )

  pub splits_keeps : (id : ℕ) (v : V) → Live v → Splits Rule id v (kept_view v) (forked_view v)
  splits_keeps id v live s r at =
      let w : V = kept_view v in
      let x : V = forked_view v in
      let vs : List V = set s.views id w in
      let n : ℕ = length s.views in
      let longs : length vs ≡ n = length-set s.views id w in
      let more : length (vs ++ x ∷ []) ≡ n + 1 = length-append vs (x ∷ []) ∙ ap (λ (k : ℕ). k + 1) longs in
      let own = r.owned_once.2 id v at in
      let seen = r.mine_seen id v at in
      let both : (P : ℕ → V → Type 0) → Each P s.views → P id w → P n x → Each P (vs ++ x ∷ []) = λ P all one two.
      each_push P vs x (each_set P P s.views id w all one (λ j u ne there old. old)) (subst (λ (k : ℕ). P k x) (sym longs) two) in record {
        history = r.history;
        holder = r.holder;
        out = r.out;
        owners = r.owners;
        three_words = r.three_words;
        one_holder = (
          held_among r.holder (get_or s.words 0 0 ≡ 0) (get_or s.words 0 0 ≡ 1) n (length (vs ++ x ∷ [])) (omega arith) r.one_holder.0,
          both (λ j u. IsHolderAt r.holder j u.stage) r.one_holder.1 (r.one_holder.1 id v at) (not_held r.holder (get_or s.words 0 0 ≡ 0) (get_or s.words 0 0 ≡ 1) n r.one_holder.0),
        );
        counted = r.counted;
        stands_for = r.stands_for;
        holder_only = (r.holder_only.0, r.holder_only.1, r.holder_only.2, both (λ j u. HoldsAt r.out r.history u.stage) r.holder_only.3 (r.holder_only.3 id v at) tt);
        seen_prefix = both (λ j u. IsPrefix u.seen r.history) r.seen_prefix (r.seen_prefix id v at) (r.seen_prefix id v at);
        owned_once = (
          r.owned_once.0,
          (λ i o e. let lt = r.owned_once.1 i o e in omega arith),
          both (λ j u. (u.mine ≡ owned j 1 r.owners r.history) × AreWithin (length u.seen) u.mine) r.owned_once.2 own (sym (owned-none n 1 r.owners r.history r.owned_once.1), (λ k st. absurd st)),
        );
        mine_seen = both (λ j u. NoRootPast root u.seen u.mine r.history × AreTogether root u.mine r.history × Learns root r.history u.seen u.mine u.stage) r.mine_seen seen ((λ k e le h st. st), (λ k e h st. absurd st), tt);
        fixed = r.fixed;
        shares = subst AddUp (sym (map-append part_of vs (x ∷ []) ∙ ap (λ (l : List Share). l ++ half v.part ∷ []) (map-set part_of s.views id w))) (AddUp-fork (map part_of s.views) id v.part (at_map part_of s.views id v at) r.shares);
        spent = both (λ j u. (u ≡ spent_view) ⊎ ((u.fixed ≡ Some same) × (0 < u.part.share))) r.spent (inr live) (inr live);
      }

  pub joins_keeps : (id : ℕ) (v : V) (other : ℕ) (w : V) → v.stage ≡ Outside → w.stage ≡ Outside → Live v → Joins Rule id v other w (joining_view v w) spent_view
  joins_keeps id v other w outside outside' live s r at apart there =
      let x : V = joining_view v w in
      let vs : List V = set (set s.views id x) other spent_view in
      let n : ℕ = length s.views in
      let at' : get_elem? s.views other ≡ some w = sym (set_else s.views id other x apart) ∙ there in
      let longs : length vs ≡ n = length-set (set s.views id x) other spent_view ∙ length-set s.views id x in
      let ne : id ≢ other = λ e. apart (sym e) in
      let os : List ℕ = map (renamed id other) r.owners in
      let one = r.owned_once.2 id v at in
      let two = r.owned_once.2 other w at' in
      let begins = longer-begins v.seen w.seen r.history (r.seen_prefix id v at) (r.seen_prefix other w at') in
      let le = prefix_length v.seen x.seen begins.0 in
      let le' = prefix_length w.seen x.seen begins.1 in
      let not = subst (λ (st : TurnStage E). IsHolderAt r.holder id st) outside (r.one_holder.1 id v at) in
      let not' = subst (λ (st : TurnStage E). IsHolderAt r.holder other st) outside' (r.one_holder.1 other w at') in
      let same_word = λ (P : ℕ → Type 0) (p : P n). subst P (sym longs) p in
      let both : (P : ℕ → V → Type 0) → Each P s.views → P id x → P other spent_view → Each P vs = λ P all a b. each_set_two P P s.views id other x spent_view all a b (λ j u ni no old. old) in record {
        history = r.history;
        holder = r.holder;
        out = r.out;
        owners = os;
        three_words = r.three_words;
        one_holder = (
          held_among r.holder (get_or s.words 0 0 ≡ 0) (get_or s.words 0 0 ≡ 1) n (length vs) (omega arith) r.one_holder.0,
          both (λ j u. IsHolderAt r.holder j u.stage) r.one_holder.1 not not',
        );
        counted = r.counted;
        stands_for = r.stands_for;
        holder_only = (r.holder_only.0, r.holder_only.1, r.holder_only.2, both (λ j u. HoldsAt r.out r.history u.stage) r.holder_only.3 tt tt);
        seen_prefix = both (λ j u. IsPrefix u.seen r.history) r.seen_prefix begins.2 (r.history, refl);
        owned_once = (
          length-map r.owners (renamed id other) ∙ r.owned_once.0,
          (λ i o e. subst (λ (k : ℕ). o < k) (sym longs) (renamed-below id other n r.owners (at_within s.views id v at) r.owned_once.1 i o e)),
          each_set_two (λ j u. (u.mine ≡ owned j 1 r.owners r.history) × AreWithin (length u.seen) u.mine) (λ j u. (u.mine ≡ owned j 1 os r.history) × AreWithin (length u.seen) u.mine) s.views id other x spent_view r.owned_once.2 (
            (λ i. merged (one.0 i) (two.0 i)) ∙ owned-renamed_both id other 1 r.owners r.history ne,
            (λ k st. ⊎_elim (λ (q : Stands k v.mine). let t = one.1 k q in omega arith) (λ (q : Stands k w.mine). let t = two.1 k q in omega arith) (Stands-merged k v.mine w.mine st)),
          )
              (sym (owned-renamed_gone id other 1 r.owners r.history ne), (λ k st. absurd st))
              (λ j u ni no old. (old.0 ∙ sym (owned-renamed_other id other j 1 r.owners r.history ni no), old.1)),
        );
        mine_seen = both (λ j u. NoRootPast root u.seen u.mine r.history × AreTogether root u.mine r.history × Learns root r.history u.seen u.mine u.stage) r.mine_seen (
          (λ k e lk h st. ⊎_elim (λ (q : Stands (root e (k + 1)) v.mine). (r.mine_seen id v at).0 k e (omega arith) h q) (λ (q : Stands (root e (k + 1)) w.mine). (r.mine_seen other w at').0 k e (omega arith) h q)
              (Stands-merged (root e (k + 1)) v.mine w.mine st)),
          (λ k e h st. ⊎_elim (λ (q : Stands (root e (k + 1)) v.mine). merged-Stands_left (k + 1) v.mine w.mine ((r.mine_seen id v at).1 k e h q)) (λ (q : Stands (root e (k + 1)) w.mine). merged-Stands_right (k + 1) v.mine w.mine ((r.mine_seen other w at').1 k e h q))
              (Stands-merged (root e (k + 1)) v.mine w.mine st)),
          (knows_of s r id v at, knows_of s r other w at', refl),
        )
            ((λ k e lk h st. st), (λ k e h st. absurd st), tt);
        fixed = r.fixed;
        shares =
            let ps : List Share = map part_of s.views in
            let q : Share = both_parts v.part w.part in
            let e : map part_of vs ≡ set (set ps id q) other nothing = map-set part_of (set s.views id x) other spent_view ∙ ap (λ (l : List Share). set l other nothing) (map-set part_of s.views id x) in
            let before = at_map part_of s.views other w at' in
            subst AddUp (sym e) (AddUp-join ps id other v.part w.part (at_map part_of s.views id v at) (set_else ps id other q apart ∙ before) apart before r.shares);
        spent = both (λ j u. (u ≡ spent_view) ⊎ ((u.fixed ≡ Some same) × (0 < u.part.share))) r.spent (inr (live.0, both_parts-live v.part w.part live.1)) (inl refl);
      }

  pub learns_keeps : (slots id : ℕ) (me : H) (k l : Known E) → me.0.stage ≡ Joining k l → Live me.0
      → Allows Rule slots id me 0 (λ n. n) (learns root (step slots 0 0 0 none) me)
  learns_keeps slots id me k l is live s r sized at small =
      let turn = holds_turn s r id me.0 (Joining k l) at is in
      let told = subst (λ (st : TurnStage E). Learns root r.history me.0.seen me.0.mine st) is (r.mine_seen id me.0 at).2 in (
        at_stage Outside me.0,
        keeps,
        tt,
        loaded s 0 s.homes (set s.views id (at_stage Outside me.0))
            (moved s r id me.0 me.0.seen Outside s.words s.homes r.holder r.out at live r.three_words r.one_holder.0 refl (value_there s r) r.holder_only.0 r.holder_only.1 r.holder_only.2 (turn.0, tt) (λ j u ne a. a)
            (r.seen_prefix id me.0 at) (omega arith) tt),
        (refl, (r.history, subst (λ (st : TurnStage E). AreKnown root r.history st) (sym is) (told.0, told.1), whole_has_all s r id me.0 at)),
      )

  pub opens_keeps : (b : B) → entries b ≡ [] → fixed_of b ≡ same → Rule (opening (0 ∷ 0 ∷ 0 ∷ []) (Some b ∷ []) (first_view same))
  opens_keeps b empty is_same =
      let v : V = first_view same in
      let only : (c : B) → get_elem? (some (Some b) ∷ []) 0 ≡ some (some (Some c)) → b ≡ c = λ c h. let e : some (Some b) ≡ some (Some c) = some-injective (some (Some b)) (some (Some c)) h in cc e in record {
        history = [];
        holder = None;
        out = false;
        owners = [];
        three_words = refl;
        one_holder = (refl, each_one (λ j u. IsHolderAt None j u.stage) v (λ e. cc e));
        counted = refl;
        stands_for = λ c h. subst (λ (x : B). entries x ≡ []) (only c h) empty;
        holder_only = ((λ e. refl), (λ e. (b, refl)), (λ e. absurd (cc e)), each_one (λ j u. HoldsAt false [] u.stage) v tt);
        seen_prefix = each_one (λ j u. IsPrefix u.seen []) v ([], refl);
        owned_once = (refl, (λ i o e. absurd (cc e)), each_one (λ j u. (u.mine ≡ owned j 1 [] []) × AreWithin (length u.seen) u.mine) v (refl, (λ k st. absurd st)));
        mine_seen = each_one (λ j u. NoRootPast root u.seen u.mine [] × AreTogether root u.mine [] × Learns root [] u.seen u.mine u.stage) v ((λ k e le h st. st), (λ k e h st. absurd st), tt);
        fixed = λ c h. subst (λ (x : B). fixed_of x ≡ same) (only c h) is_same;
        shares = refl;
        spent = each_one (λ j u. (u ≡ spent_view) ⊎ ((u.fixed ≡ Some same) × (0 < u.part.share))) v (inr (refl, lit< tt));
      }

  -- what lies in the place of the value, where a pass has the turn
  pub has_value : (s : S) (r : Rule s) (id : ℕ) (v : V) (h : List E) → get_elem? s.views id ≡ some v → Live v → v.stage ≡ Inside h → (b : B) × (get_elem? s.homes 0 ≡ some (some (Some b))) × IsGiven entries fixed_of root v b
  has_value s r id v h at live is =
      let turn = holds_turn s r id v (Inside h) at is in
      let home = r.holder_only.1 turn.1.0 in (home.0, home.1, given_of s r id v home.0 h at live is home.1)
