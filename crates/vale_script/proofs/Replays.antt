-- What drafts have in common that the same statements led to.
use Rattle.std.proofs.Common.{ℕ, ◌+◌, ◌≡◌, Bool, true, false, cond, ◌||◌, nat_le, List, [], ◌∷◌, ◌++◌, length, Option, Some, None, is_some, refl, sym, ap, subst, ◌∙◌}
use Rattle.nm_types.specs.declared.fault.LineCause.{LineCause}
use Rattle.nm_types.specs.declared.fault.LineCause.TheVariants.{Order, Twice}
use Rattle.vale_script.specs.declared.draft.FileUse.{FileUse}
use Rattle.vale_script.specs.declared.draft.FileUse.TheVariants.{Played, Saved}
use Rattle.vale_script.specs.declared.script.Act.{Act}
use Rattle.vale_script.specs.declared.script.Act.TheVariants as acts
use Rattle.vale_script.specs.declared.script.Line.{Line}
use Rattle.vale_script.specs.Keeps.{AreAlike, IsReplayedBy}
use Rattle.vale_script.specs.Replay.{replayed, MeetNoCause}
use Rattle.vale_script.specs.Rules.{Draft, Opened, nothing_said, port_key, user_cause, act_cause, cause_of, with_port, with_played, with_saved, with_act, with_line, block_with, with_user, after}
use Rattle.vale_script.specs.Statements.{Statement, Nothing, Pool, NewUser, Begin, End, Does}
use Rattle.vale_script.specs.Tables.{updated}

replayed-append : (d : Draft) (xs ys : List Statement) → replayed d (xs ++ ys) ≡ replayed (replayed d xs) ys
replayed-append d [] ys = refl
replayed-append d (x ∷ xs) ys = replayed-append (after d 0 x) xs ys

meet-push : (d : Draft) (xs : List Statement) (s : Statement) → MeetNoCause d xs → cause_of (replayed d xs) s ≡ None → MeetNoCause d (xs ++ s ∷ [])
meet-push d [] s all here = (here, tt)
meet-push d (x ∷ xs) s all here = (all.0, meet-push (after d 0 x) xs s all.1 here)

-- a script's units say nothing of the pool, nor do they hold silent lines
abbrev pub IsUnits : Statement → Type 0
IsUnits Nothing = ⊥
IsUnits (Pool size) = ⊥
IsUnits said = Unit {0}

-- Alike drafts find the same causes.

abbrev user_cause_by : List ℕ → Bool → (List ℕ → Option ℕ) → List (List ℕ) → Option LineCause
user_cause_by name block numbers users = cond block (Some Order) (cond (is_some (numbers name) || nat_le 64 (length users)) (Some Twice) None)

user-cause-alike : (d e : Draft) (name : List ℕ) → AreAlike d e → user_cause d name ≡ user_cause e name
user-cause-alike d e name a =
    ap (λ (b : Bool). user_cause_by name b d.numbers d.users) a.block
    ∙ ap (λ (n : List ℕ → Option ℕ). user_cause_by name (is_some e.block) n d.users) a.numbers
    ∙ ap (λ (u : List (List ℕ)). user_cause_by name (is_some e.block) e.numbers u) a.users

abbrev tables : Draft → (List ℕ → Option ℕ) → (List ℕ → Option Bool) → (List ℕ → Option FileUse) → Draft
tables d n p f = record d { numbers = n; ports = p; files = f }

act-cause-by : (d e : Draft) (user : List ℕ) (act : Act) (n : List ℕ → Option ℕ) (p : List ℕ → Option Bool) (f : List ℕ → Option FileUse) → act_cause (tables d n p f) user act ≡ act_cause (tables e n p f) user act
act-cause-by d e user acts.Enter n p f = refl
act-cause-by d e user act n p f = refl

act-cause-alike : (d e : Draft) (user : List ℕ) (act : Act) → AreAlike d e → act_cause d user act ≡ act_cause e user act
act-cause-alike d e user act a =
    ap (λ (n : List ℕ → Option ℕ). act_cause (tables d n d.ports d.files) user act) a.numbers
    ∙ ap (λ (p : List ℕ → Option Bool). act_cause (tables d e.numbers p d.files) user act) a.ports
    ∙ ap (λ (f : List ℕ → Option FileUse). act_cause (tables d e.numbers e.ports f) user act) a.files
    ∙ act-cause-by d e user act e.numbers e.ports e.files

begin-cause : (b c : Bool) → b ≡ c → cond b (Some Order) None ≡ cond c (Some Order) None
begin-cause b c e = ap (λ (x : Bool). cond x (Some Order) None) e

end-cause : (b c : Bool) → b ≡ c → cond b None (Some Order) ≡ cond c None (Some Order)
end-cause b c e = ap (λ (x : Bool). cond x None (Some Order)) e

cause-alike : (d e : Draft) (s : Statement) → IsUnits s → AreAlike d e → cause_of d s ≡ cause_of e s
cause-alike d e Nothing is a = absurd is
cause-alike d e (Pool size) is a = absurd is
cause-alike d e (NewUser name) is a = user-cause-alike d e name a
cause-alike d e Begin is a = begin-cause (is_some d.block) (is_some e.block) a.block
cause-alike d e End is a = end-cause (is_some d.block) (is_some e.block) a.block
cause-alike d e (Does user act) is a = act-cause-alike d e user act a

-- They stay alike.

port-alike : (d e : Draft) (user name : List ℕ) (port : Option Bool) → AreAlike d e → AreAlike (with_port d user name port) (with_port e user name port)
port-alike d e user name port a = record {
  users = a.users;
  numbers = a.numbers;
  ports = ap (λ (p : List ℕ → Option Bool). updated p (port_key user name) port) a.ports;
  files = a.files;
  played = a.played;
  block = a.block;
}

saved-alike : (d e : Draft) (user name file : List ℕ) → AreAlike d e → AreAlike (with_saved d user name file) (with_saved e user name file)
saved-alike d e user name file a = record {
  users = a.users;
  numbers = a.numbers;
  ports = ap (λ (p : List ℕ → Option Bool). updated p (port_key user name) (Some true)) a.ports;
  files = ap (λ (f : List ℕ → Option FileUse). updated f file (Some Saved)) a.files;
  played = a.played;
  block = a.block;
}

abbrev played_by : List ℕ → (List ℕ → Option FileUse) → List (List ℕ) → List (List ℕ)
played_by file files played = cond (is_some (files file)) played (played ++ file ∷ [])

played-alike : (d e : Draft) (file : List ℕ) → AreAlike d e → AreAlike (with_played d file) (with_played e file)
played-alike d e file a = record {
  users = a.users;
  numbers = a.numbers;
  ports = a.ports;
  files = ap (λ (f : List ℕ → Option FileUse). updated f file (Some Played)) a.files;
  played = ap (λ (f : List ℕ → Option FileUse). played_by file f d.played) a.files ∙ ap (λ (p : List (List ℕ)). played_by file e.files p) a.played;
  block = a.block;
}

act-alike : (d e : Draft) (user : List ℕ) (act : Act) → AreAlike d e → AreAlike (with_act d user act) (with_act e user act)
act-alike d e user (acts.Open name tx rx extra) a = port-alike d e user name (Some false) a
act-alike d e user (acts.Close name) a = port-alike d e user name None a
act-alike d e user (acts.Play name file batch) a = played-alike d e file a
act-alike d e user (acts.Save name file) a = saved-alike d e user name file a
act-alike d e user act a = a

some-with : (block : Option Opened) (line : Line) → is_some (block_with block line) ≡ is_some block
some-with None line = refl
some-with (Some block) line = refl

line-alike : (d e : Draft) (line other : Line) → AreAlike d e → AreAlike (with_line d line) (with_line e other)
line-alike d e line other a = record {
  users = a.users;
  numbers = a.numbers;
  ports = a.ports;
  files = a.files;
  played = a.played;
  block = some-with d.block line ∙ a.block ∙ sym (some-with e.block other);
}

user-alike : (d e : Draft) (at : ℕ) (name : List ℕ) → AreAlike d e → AreAlike (with_user d at name) (with_user e 0 name)
user-alike d e at name a = record {
  users = ap (λ (u : List (List ℕ)). u ++ name ∷ []) a.users;
  numbers = ap (λ (n : List ℕ → Option ℕ). updated n name (Some (length d.users + 1))) a.numbers
      ∙ ap (λ (u : List (List ℕ)). updated e.numbers name (Some (length u + 1))) a.users;
  ports = a.ports;
  files = a.files;
  played = a.played;
  block = a.block;
}

after-alike : (d e : Draft) (at : ℕ) (s : Statement) → IsUnits s → AreAlike d e → AreAlike (after d at s) (after e 0 s)
after-alike d e at Nothing is a = absurd is
after-alike d e at (Pool size) is a = absurd is
after-alike d e at (NewUser name) is a = user-alike d e at name a
after-alike d e at Begin is a = record { users = a.users; numbers = a.numbers; ports = a.ports; files = a.files; played = a.played; block = refl }
after-alike d e at End is a = record { users = a.users; numbers = a.numbers; ports = a.ports; files = a.files; played = a.played; block = refl }
after-alike d e at (Does user act) is a = line-alike (with_act d user act) (with_act e user act) _ _ (act-alike d e user act a)

-- a statement that is not bad, behind those so far
pub replay_more : (d : Draft) (at : ℕ) (xs : List Statement) (s : Statement) → IsUnits s → IsReplayedBy d xs → cause_of d s ≡ None → IsReplayedBy (after d at s) (xs ++ s ∷ [])
replay_more d at xs s is r none =
    let e : Draft = replayed nothing_said xs in
    record {
      causes = meet-push nothing_said xs s r.causes (sym (cause-alike d e s is r.alike) ∙ none);
      alike = subst (λ (x : Draft). AreAlike (after d at s) x) (sym (replayed-append nothing_said xs (s ∷ []))) (after-alike d e at s is r.alike);
    }
