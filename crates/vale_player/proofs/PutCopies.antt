-- Copies of one frame that a line puts, where there is room for them and where there is no ring.
use Rattle.std.proofs.Common.{ℕ, zero, suc, ◌+◌, ◌-◌, ◌≤◌, ◌≡◌, Bool, true, false, cond, List, [], ◌∷◌, ◌++◌, replicate, Option, Some, None, option_map, refl, sym, ◌∙◌, ap, subst, arith, append_assoc, length}
use Rattle.std.specs.Prelude.{◌==◌, filter, option_and_then}
use Rattle.std.specs.Option.{option_map_or}
use Rattle.nm_types.specs.declared.id.PortId.{PortId}
use Rattle.nm_types.specs.declared.id.Side.TheVariants.{Tx}
use Rattle.nm_types.specs.OwnPorts.{OwnRing, OwnPort, OwnState, port_with_name, ring_on}
use Rattle.nm_types.specs.OwnEdits.{has_slots, has_room, with_frame, with_parts}
use Rattle.nm_types.specs.Parts.{parts_of, slots_of_bytes}
use Rattle.vale_own.specs.Side.{IsSound}
use Rattle.nm_user.specs.Sessions.{SessionState, IsThere}
use Rattle.nm_own.specs.Copies.{with_copies, FindRoom, AreCopies}
use Rattle.nm_user.proofs.Written.{there-edited}
use Rattle.nm_user.proofs.CopiesPut.{copies-keep}
use Rattle.vale_replay.specs.Edits.{change_found}
use Rattle.vale_replay.specs.Tasks.{Task, PutFrame, SendFrames, fits_to_play, played_before_sync, played}
use Rattle.vale_replay.proofs.TurnSides.{by-id}
use Rattle.vale_player.specs.Players.{PlayerState, Does, DoesLine, machine_of}
use Rattle.vale_player.specs.Users.{HasCome}
use Rattle.vale_player.specs.Syncing.{id_with_ring, sender_named, with_put, Leads}
use Rattle.vale_player.proofs.Changes.{id-of}
use Rattle.vale_player.proofs.Doing.{does-line}
use Rattle.vale_player.proofs.Leading.{Sender, sender-found, room-by, room-needs, ringless-needs, puts, put-acted, passes-send, leads-self, leads-does}
use Rattle.vale_player.proofs.SenderNames.{frame-names, copies-names}

pub named-id : (own : OwnState) (name : List ℕ) (port : PortId) → Sender own name port → option_map id-of (port_with_name own name) ≡ Some port
named-id own name port f = ap (option_map id-of) f.of.named ∙ ap (λ (id : PortId). Some id) f.of.id_is

-- ---- a frame that is put at the port of its name

-- what is known of the user asked is known of it as it stands
pub named-before : (inside now : PlayerState) (name : List ℕ) (port : PortId) → inside ≡ now → sender_named now.session.own name ≡ Some port → sender_named inside.session.own name ≡ Some port
named-before inside now name port same named = ap (λ (p : PlayerState). sender_named p.session.own name) same ∙ named

pub put-at : (p : PlayerState) (t : SessionState) (name bytes : List ℕ) (port : PortId) → IsSound p.session.own → sender_named p.session.own name ≡ Some port
    → t ≡ record p.session { own = with_frame port.0 bytes p.session.own } → record p { session = t } ≡ with_put name bytes p
put-at p t name bytes port sound named made =
    put-acted p t name bytes port (named-id p.session.own name port (sender-found p.session.own name port sound named)) made

pub put-named : (p : PlayerState) (name bytes : List ℕ) (port : PortId) → IsSound p.session.own → sender_named p.session.own name ≡ Some port → sender_named (with_put name bytes p).session.own name ≡ Some port
put-named p name bytes port sound named =
    ap (λ (x : PlayerState). sender_named x.session.own name) (sym (put-at p (record p.session { own = with_frame port.0 bytes p.session.own }) name bytes port sound named refl))
    ∙ (frame-names port.0 bytes p.session.own name ∙ named)

-- ---- copies that find room

module _ (p : PlayerState) (name bytes : List ℕ) (port : PortId) (here : IsThere None p.session) (named : sender_named p.session.own name ≡ Some port) where
  abbrev task : Task
  task = PutFrame name bytes

  -- the user behind so many of them
  abbrev pub behind_copies : ℕ → PlayerState
  behind_copies count = record p { session = record p.session { own = with_copies count port.0 bytes p.session.own } }

  pub copies-there : (count : ℕ) → IsThere None (behind_copies count).session
  copies-there count = there-edited (with_copies count port.0 bytes) (copies-keep count port.0 bytes) here

  pub copies-named : (count : ℕ) → sender_named (behind_copies count).session.own name ≡ Some port
  copies-named count = copies-names count port.0 bytes p.session.own name ∙ named

  one-put : (count : ℕ) → has_room (with_copies count port.0 bytes p.session.own) port.0 (length bytes) ≡ true → Does (behind_copies count) (behind_copies (suc count)) (task ∷ [])
  one-put count room =
      let q = behind_copies count in
      let sound = (copies-there count).side.sound in
      let at = sender-found q.session.own name port sound (copies-named count) in
      subst (λ (x : PlayerState). Does q x (task ∷ [])) (sym (put-at q (behind_copies (suc count)).session name bytes port sound (copies-named count) refl))
      (puts q q name bytes (room-needs q name bytes sound (room-by q.session.own name port at.of bytes ∙ room)))

  copies-lead : (count more : ℕ) → FindRoom count port.0 bytes p.session.own → Leads p (behind_copies count) (replicate (count + more) task) (replicate more task)
  copies-lead zero more room =
      let all : more ≡ 0 + more = omega arith in
      subst (λ (n : ℕ). Leads p p (replicate n task) (replicate more task)) all (leads-self p (replicate more task))
  copies-lead (suc count) more room =
      let whole : List Task = replicate (count + suc more) task in
      let next : count + suc more ≡ suc count + more = omega arith in
      let leads : Leads p (behind_copies (suc count)) whole (replicate more task) =
      leads-does p (behind_copies count) (behind_copies (suc count)) whole task (replicate more task) (copies-lead count (suc more) room.0) (one-put count room.1) in
      subst (λ (n : ℕ). Leads p (behind_copies (suc count)) (replicate n task) (replicate more task)) next leads

  pub copies-done : (count : ℕ) → FindRoom count port.0 bytes p.session.own → Does p (behind_copies count) (replicate count task)
  copies-done count room =
      let all : count + 0 ≡ count = omega arith in
      subst (λ (n : ℕ). Does p (behind_copies count) (replicate n task)) all (copies-lead count 0 room)

pub some-copies : (wanted count id : ℕ) (bytes : List ℕ) (s : OwnState) → AreCopies wanted count id bytes s → has_room s id (length bytes) ≡ true → 1 ≤ wanted → 1 ≤ count
some-copies wanted zero id bytes s copies room some = absurd (let full = copies.full (omega (arith, some)) in let bad : true ≡ false = sym room ∙ full in cc)
some-copies wanted (suc count) id bytes s copies room some = omega arith

-- ---- so the line goes on

pub leads-through : (p q r : PlayerState) (whole : List Task) (first : Task) (more : List Task) → Leads p q whole (first ∷ more) → Leads q r (first ∷ []) (first ∷ []) → Leads p r whole (first ∷ more)
leads-through p q r whole put more leads stays rest began first come = stays (more ++ rest) began first (leads rest began first come)

pub leads-tasks : (p q r : PlayerState) (whole tasks more : List Task) → Leads p q whole (tasks ++ more) → Does q r tasks → Leads p r whole more
leads-tasks p q r whole tasks more leads does rest began first come =
    does (more ++ rest) began first
    (subst (λ (all : List Task). HasCome began first q.session (machine_of q all)) (append_assoc tasks more rest) (leads rest began first come))

replicate-parts : (one other : ℕ) (x : Task) → replicate (one + other) x ≡ replicate one x ++ replicate other x
replicate-parts zero other x =
    let none : zero + other ≡ other = omega arith in
    ap (λ (n : ℕ). replicate n x) none
replicate-parts (suc one) other x =
    let next : suc one + other ≡ suc (one + other) = omega arith in
    ap (λ (n : ℕ). replicate n x) next ∙ ap (λ (xs : List Task). x ∷ xs) (replicate-parts one other x)

pub left-parts : (task : Task) (left count : ℕ) → count ≤ left → replicate left task ≡ replicate count task ++ replicate (left - count) task
left-parts task left count most =
    let whole : left ≡ count + (left - count) = omega (arith, most) in
    ap (λ (n : ℕ). replicate n task) whole ∙ replicate-parts count (left - count) task

-- ---- a name that has no transmit ring

module _ (p : PlayerState) (name : List ℕ) (sound : IsSound p.session.own) (none : sender_named p.session.own name ≡ None) where
  no-ring : (q : OwnPort) (tx : Option OwnRing) → option_map (λ (r : OwnRing). q.id) tx ≡ None → tx ≡ None
  no-ring q None e = refl
  no-ring q (Some r) e = absurd cc

  put-nowhere : (bytes : List ℕ) → p ≡ with_put name bytes p
  put-nowhere bytes = ap (λ (o : OwnState). record p { session = record p.session { own = o } }) (sym (by (port_with_name p.session.own name) refl none))
    where
      own : OwnState
      own = p.session.own

      by : (found : Option OwnPort) → port_with_name own name ≡ found → option_and_then id_with_ring found ≡ None → change_found (λ (id : ℕ). with_frame id bytes) own found ≡ own
      by None named e = refl
      by (Some q) named e =
          ap (λ (o : Option OwnRing). cond (option_map_or (has_slots (slots_of_bytes bytes)) o false) (with_parts q.id.0 (parts_of bytes) own) own)
          (ap (option_and_then (ring_on Tx)) (by-id own name q sound named) ∙ no-ring q q.tx e)

  passes-put : (bytes : List ℕ) → Does p p (PutFrame name bytes ∷ [])
  passes-put bytes = subst (λ (x : PlayerState). Does p x (PutFrame name bytes ∷ [])) (sym (put-nowhere bytes)) (puts p p name bytes (ringless-needs p name bytes none))

  passes-more : (task : Task) (tasks : List Task) → Does p p (task ∷ []) → Does p p tasks → Does p p (task ∷ tasks)
  passes-more put tasks one others rest began first come = others rest began first (one (tasks ++ rest) began first come)

  passes-none : Does p p []
  passes-none rest began first come = come

  pub passes-copies : (bytes : List ℕ) (count : ℕ) → Does p p (replicate count (PutFrame name bytes))
  passes-copies bytes zero = passes-none
  passes-copies bytes (suc count) = passes-more (PutFrame name bytes) (replicate count (PutFrame name bytes)) (passes-put bytes) (passes-copies bytes count)

  passes-last : (b : Bool) → Does p p (cond b [] (SendFrames name ∷ []))
  passes-last true = passes-none
  passes-last false = passes-send p name none

  passes-frames : (batch left : ℕ) (frames : List (List ℕ)) → Does p p (played_before_sync name batch left frames)
  passes-frames batch left [] = passes-last (left == batch)
  passes-frames batch left (bytes ∷ frames) = by (left == 1) (passes-frames batch batch frames) (passes-frames batch (left - 1) frames)
    where
      one : List Task
      one = played_before_sync name batch batch frames

      other : List Task
      other = played_before_sync name batch (left - 1) frames

      by : (b : Bool) → Does p p one → Does p p other → Does p p (cond b (PutFrame name bytes ∷ SendFrames name ∷ one) (PutFrame name bytes ∷ other))
      by true first second = passes-more (PutFrame name bytes) (SendFrames name ∷ one) (passes-put bytes) (passes-more (SendFrames name) one (passes-send p name none) first)
      by false first second = passes-more (PutFrame name bytes) other (passes-put bytes) second

  pub passes-played : (batch : ℕ) (frames : List (List ℕ)) → DoesLine p p (played name batch frames)
  passes-played batch frames = does-line p p (played name batch frames) (passes-frames batch batch (filter (fits_to_play name) frames))
