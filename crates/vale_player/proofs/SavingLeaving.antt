-- A session that closes its ports and leaves saves nothing more.
use Rattle.std.proofs.Common.{ℕ, zero, suc, ◌≤◌, ◌≡◌, ◌==◌, Bool, true, false, not, ◌&&◌, List, [], ◌∷◌, ◌++◌, length, slice_get, Option, Some, None, option_map, refl, sym, ◌∙◌, ap, subst, arith, append-nil, append_assoc}
use Rattle.std.specs.Prelude.{if◌then◌else◌}
use Rattle.std.specs.List.{list_any}
use Rattle.std.specs.Option.{option_map_or}
use Rattle.std.proofs.lemmas.Bool.{and_parts, or_parts, not-true, eq-eqb}
use mathlib.Core.List.{IsPrefix}
use Rattle.nm_types.specs.OwnPorts.{OwnPort}
use Rattle.nm_turn.specs.Numbered.{Stands}
use Rattle.nm_turn.proofs.Numbered.{Stands-left}
use Rattle.nm_turn.proofs.Prefixes.{prefix_self, prefix_trans, prefix_length}
use Rattle.nm_types.specs.declared.id.SessionId.{SessionId}
use Rattle.vale_entry.specs.declared.entry.Ask.TheVariants.{Shut, Leave}
use Rattle.vale_entry.specs.declared.entry.Entry.{Entry}
use Rattle.vale_entry.specs.declared.entry.Reply.{Reply}
use Rattle.vale_entry.specs.declared.entry.Reply.TheVariants.{Made, Unread}
use Rattle.vale_entry.specs.World.{Port, is_session, is_settled}
use Rattle.vale_entry.specs.Closing.{is_port_of, can_leave}
use Rattle.vale_entry.specs.Delivered.{port_at}
use Rattle.vale_entry.specs.Legal.{Standing, standing_of, world_of, step, session_and_reply, leave_step, IsLegal}
use Rattle.vale_entry.specs.OwnCalls.{finish_call}
use Rattle.vale_own.proofs.OwnKept.{legal-split}
use Rattle.vale_fabric.specs.declared.kept.Fixed.{Fixed}
use Rattle.vale_fabric.specs.Fabrics.{Makes, earlier, entry_by}
use Rattle.nm_user.specs.declared.leaving.Detached.{Detached}
use Rattle.nm_user.specs.Sessions.{SessionState}
use Rattle.nm_user.specs.Leaving.{IsDetached, AreDetached}
use Rattle.nm_user.specs.PortReads.{reads_at, IsPortOf, ReadsNot}
use Rattle.nm_user.proofs.Later.{between}
use Rattle.nm_user.proofs.SavingHistory.{port-past, told-stays}
use Rattle.nm_user.proofs.SavingSights.{AddsNoRead, adds-one, sight-stays}
use Rattle.vale_replay.specs.Saved.{saved_in, saved_frames}
use Rattle.vale_player.specs.Saving.{DetachSavesNothing, LeavingSavesNothing, HasGone, GoneSaveNothing, LeftPortsAreGone}
use Rattle.vale_player.proofs.SavingFrames.{silent}

entry-is : (x y : ℕ × Entry) → Some x ≡ Some y → x.1 ≡ y.1
entry-is x y is = ap (λ (o : Option (ℕ × Entry)). option_map_or (λ (z : ℕ × Entry). z.1) o x.1) is

adds-detach : {s t : SessionState} {closed : ℕ} {detached : Detached} (id : ℕ) (d : IsDetached s t closed detached)
    → AddsNoRead id 0 ((d.shut, entry_by s.id (Shut d.at.port.id) Made) ∷ (d.finish, entry_by s.id (finish_call s.own d.at.port) (Unread detached.unread)) ∷ [])
adds-detach {s} {t} {closed} {detached} id d zero n e here other =
    subst (λ (x : Entry). reads_at id x.ask ≡ false) (entry-is (d.shut, entry_by s.id (Shut d.at.port.id) Made) (n, e) here) refl
adds-detach {s} {t} {closed} {detached} id d (suc zero) n e here other =
    subst (λ (x : Entry). reads_at id x.ask ≡ false) (entry-is (d.finish, entry_by s.id (finish_call s.own d.at.port) (Unread detached.unread)) (n, e) here) refl
adds-detach {s} {t} {closed} {detached} id d (suc (suc k)) n e here other = absurd cc

-- a session whose pass speaks for it, and whose port this is, or was
record Sees (pool id : ℕ) (s : SessionState) : Type 0 where
  come : s.id ≤ length s.knows.seen
  speaks : Stands s.id s.knows.mine
  port : IsPortOf pool s.knows.seen s.id id

legal-first : (pool : ℕ) (h g : List Entry) → IsPrefix h g → IsLegal pool g → IsLegal pool h
legal-first pool h g begins legal = (legal-split pool h begins.0 (subst (IsLegal pool) (sym begins.1) legal)).0

one-closed : {s t : SessionState} {closed : ℕ} {detached : Detached} (pool id : ℕ) → Sees pool id s → IsDetached s t closed detached → IsLegal pool t.knows.seen → saved_frames pool t.knows.seen id ≡ saved_frames pool s.knows.seen id
one-closed {s} {t} pool id k d legal = sight-stays (saved_in id) pool id (silent id) s t.knows _ k.come k.speaks legal d.told k.port (adds-detach id d)

sees-next : {s t : SessionState} {closed : ℕ} {detached : Detached} (pool id : ℕ) → Sees pool id s → IsDetached s t closed detached → Sees pool id t
sees-next {s} {t} pool id k d =
    let long = prefix_length s.knows.seen t.knows.seen d.told.begins in
    let low = k.come in
    let same = d.id_is in
    record {
      come = omega (arith, long, low, same);
      speaks = subst (λ (n : ℕ). Stands n t.knows.mine) (sym same) (subst (Stands s.id) (sym d.told.mine) (Stands-left s.id s.knows.mine _ k.speaks));
      port = subst (λ (n : ℕ). IsPortOf pool t.knows.seen n id) (sym same) (subst (λ (h : List Entry). IsPortOf pool h s.id id) d.told.begins.1 (port-past pool s.knows.seen d.told.begins.0 s.id id k.port));
    }

begins-closed : (ports : List OwnPort) (s t : SessionState) → AreDetached s ports t → IsPrefix s.knows.seen t.knows.seen
begins-closed [] s t same = subst (λ (x : SessionState). IsPrefix s.knows.seen x.knows.seen) (sym same) (prefix_self s.knows.seen)
begins-closed (p ∷ ports) s t all =
    let between = all.0 in
    prefix_trans s.knows.seen between.knows.seen t.knows.seen all.1.1.0.told.begins (begins-closed ports between t all.1.1.1)

-- all ports that are closed
record Closed (pool id : ℕ) (s t : SessionState) : Type 0 where
  saved : saved_frames pool t.knows.seen id ≡ saved_frames pool s.knows.seen id
  sees : Sees pool id t
  same : t.id ≡ s.id

closed : (pool id : ℕ) (ports : List OwnPort) (s t : SessionState) → Sees pool id s → AreDetached s ports t → IsLegal pool t.knows.seen → Closed pool id s t
closed pool id [] s t k same legal = subst (Closed pool id s) (sym same) (record { saved = refl; sees = k; same = refl })
closed pool id (p ∷ ports) s t k all legal =
    let between = all.0 in
    let d = all.1.1.0 in
    let before = legal-first pool between.knows.seen t.knows.seen (begins-closed ports between t all.1.1.1) legal in
    let rest = closed pool id ports between t (sees-next pool id k d) all.1.1.1 legal in
    record { saved = rest.saved ∙ one-closed pool id k d before; sees = rest.sees; same = rest.same ∙ d.id_is }

pub detach-saves-nothing : DetachSavesNothing
detach-saves-nothing at detached s t id there after k d =
    let legal : IsLegal s.fixed.pool t.knows.seen = subst (λ (fixed : Fixed). IsLegal fixed.pool t.knows.seen) d.fixed after.legal in
    ap (λ (fixed : Fixed). saved_frames fixed.pool t.knows.seen id) d.fixed ∙ one-closed s.fixed.pool id (record { come = there.come; speaks = there.speaks; port = k }) d legal

fixed-closed : (ports : List OwnPort) (s t : SessionState) → AreDetached s ports t → t.fixed ≡ s.fixed
fixed-closed [] s t same = ap (λ (x : SessionState). x.fixed) same
fixed-closed (p ∷ ports) s t all = fixed-closed ports all.0 t all.1.1.1 ∙ all.1.1.0.fixed

pub leaving-saves-nothing : LeavingSavesNothing
leaving-saves-nothing s w id there k left = by (fixed-closed s.own.ports s left.last left.detached)
  where
    by : left.last.fixed ≡ s.fixed → saved_frames s.fixed.pool w.seen id ≡ saved_frames s.fixed.pool s.knows.seen id
    by fixed =
        let pool = s.fixed.pool in
        let m = left.left.makes in
        let legal : IsLegal pool w.seen = subst (λ (f : Fixed). IsLegal f.pool w.seen) fixed m.legal in
        let before = legal-first pool left.last.knows.seen w.seen m.told.begins legal in
        let c = closed pool id s.own.ports s left.last (record { come = there.come; speaks = there.speaks; port = k }) left.detached before in
        sight-stays (saved_in id) pool id (silent id) left.last w _ c.sees.come c.sees.speaks legal m.told c.sees.port (adds-one id (length w.seen) m.session (Leave (record { 0 = s.id })) m.reply refl)
        ∙ c.saved

-- ---- a port that has gone

pub gone-owner : (pool : ℕ) (history : List Entry) (id : ℕ) → HasGone pool history id → (n : ℕ) → IsPortOf pool history n id
gone-owner pool history id g n = record { given = g.given; owner = λ p found. absurd (let bad : None ≡ Some p = sym g.none ∙ found in cc) }

pub owned-gone : (pool : ℕ) (history : List Entry) (id : ℕ) → ((n : ℕ) → IsPortOf pool history n id) → HasGone pool history id
owned-gone pool history id k = record { given = (k 0).given; none = by (port_at (world_of pool history).ports id) refl }
  where
    by : (found : Option Port) → port_at (world_of pool history).ports id ≡ found → port_at (world_of pool history).ports id ≡ None
    by None e = e
    by (Some p) e = absurd (let zeroth = (k 0).owner p e in let first = (k 1).owner p e in omega (arith, zeroth, first))

entry-one : (e f : Entry) → Some e ≡ Some f → e ≡ f
entry-one e f is = cc

gone-stays : (pool id : ℕ) (past more : List Entry) → IsLegal pool (past ++ more) → ((n : ℕ) → IsPortOf pool past n id) → saved_frames pool (past ++ more) id ≡ saved_frames pool past id
gone-stays pool id past [] legal k = ap (λ (h : List Entry). saved_frames pool h id) (append-nil past)
gone-stays pool id past (e ∷ es) legal k =
    let whole : past ++ e ∷ es ≡ (past ++ e ∷ []) ++ es = sym (append_assoc past (e ∷ []) es) in
    let longer = subst (IsLegal pool) whole legal in
    let other = suc e.session.0 in
    let one : saved_frames pool (past ++ e ∷ []) id ≡ saved_frames pool past id =
    told-stays (saved_in id) pool id (silent id) past (e ∷ []) other (legal-split pool (past ++ e ∷ []) es longer).0 (k other) only in
    let rest = gone-stays pool id (past ++ e ∷ []) es longer (λ n. port-past pool past (e ∷ []) n id (k n)) in
    ap (λ (h : List Entry). saved_frames pool h id) whole ∙ (rest ∙ one)
  where
    only : (j : ℕ) (f : Entry) → slice_get (e ∷ []) j ≡ Some f → ReadsNot (suc e.session.0) id f
    only zero f at mine = absurd (let is : e ≡ f = entry-one e f at in let same = ap (λ (x : Entry). x.session.0) is in omega (arith, same, mine))
    only (suc j) f at mine = absurd cc

pub gone-save-nothing : GoneSaveNothing
gone-save-nothing pool past more id legal g = gone-stays pool id past more legal (gone-owner pool past id g)

-- the ports of a session that leaves
none-of-session : (session : ℕ) (ports : List Port) (id : ℕ) → list_any (is_port_of session) ports ≡ false → ((p : Port) → port_at ports id ≡ Some p → p.session ≡ session) → port_at ports id ≡ None
none-of-session session [] id none owner = refl
none-of-session session (p ∷ ports) id none owner = by (p.id == id) refl (λ other. none-of-session session ports id parts.1 (λ q found. owner q (rw other found)))
  where
    parts : (p.session == session) ≡ false × list_any (is_port_of session) ports ≡ false
    parts = or_parts (p.session == session) (list_any (is_port_of session) ports) none

    by : (b : Bool) → (p.id == id) ≡ b → ((p.id == id) ≡ false → port_at ports id ≡ None) → port_at (p ∷ ports) id ≡ None
    by true here rest = absurd (let mine = owner p (rw here refl) in let yes = eq-eqb p.session session mine in let bad : true ≡ false = sym yes ∙ parts.0 in cc)
    by false other rest = rw other (rest other)

left-world : (now : Standing) (session : SessionId) (by : ℕ) (reply : Reply) → option_map session_and_reply (step now (Leave session)) ≡ Some (by, reply) → list_any (is_port_of session.0) now.world.ports ≡ false
left-world now session by reply e = on (can_leave now.world session.0) refl e
  where
    on : (b : Bool) → can_leave now.world session.0 ≡ b → option_map session_and_reply (if b then Some (leave_step now session.0) else None) ≡ Some (by, reply) → list_any (is_port_of session.0) now.world.ports ≡ false
    on true can is =
        let rest = (and_parts (is_session now.world session.0) (not (list_any (is_port_of session.0) now.world.ports) && is_settled now.world session.0) can).1 in
        not-true (list_any (is_port_of session.0) now.world.ports) (and_parts (not (list_any (is_port_of session.0) now.world.ports)) (is_settled now.world session.0) rest).0
    on false can is = absurd cc

pub left-ports-are-gone : LeftPortsAreGone
left-ports-are-gone s w id there k left = owned-gone pool w.seen id (λ n. subst (λ (h : List Entry). IsPortOf pool h n id) (sym m.seen) (port-past pool (earlier w.seen) (entry ∷ []) n id (gone-owner pool (earlier w.seen) id before n)))
  where
    pool : ℕ
    pool = s.fixed.pool

    m : Makes left.last.fixed left.last.knows w (Leave (record { 0 = s.id }))
    m = left.left.makes

    entry : Entry
    entry = entry_by m.session (Leave (record { 0 = s.id })) m.reply

    fixed : left.last.fixed ≡ s.fixed
    fixed = fixed-closed s.own.ports s left.last left.detached

    legal : IsLegal pool left.last.knows.seen
    legal = legal-first pool left.last.knows.seen w.seen m.told.begins (subst (λ (f : Fixed). IsLegal f.pool w.seen) fixed m.legal)

    c : Closed pool id s left.last
    c = closed pool id s.own.ports s left.last (record { come = there.come; speaks = there.speaks; port = k }) left.detached legal

    mine : IsPortOf pool (earlier w.seen) s.id id
    mine =
        let b = between left.last.id m c.sees.come c.sees.speaks in
        subst (λ (n : ℕ). IsPortOf pool (earlier w.seen) n id) c.same
        (subst (λ (h : List Entry). IsPortOf pool h left.last.id id) (sym b.is) (port-past pool left.last.knows.seen b.more left.last.id id c.sees.port))

    before : HasGone pool (earlier w.seen) id
    before =
        let now = standing_of pool (earlier w.seen) in
        let steps : option_map session_and_reply (step now (Leave (record { 0 = s.id }))) ≡ Some (m.session, m.reply) =
        subst (λ (f : Fixed). option_map session_and_reply (step (standing_of f.pool (earlier w.seen)) (Leave (record { 0 = s.id }))) ≡ Some (m.session, m.reply)) fixed m.steps in
        record { given = mine.given; none = none-of-session s.id now.world.ports id (left-world now (record { 0 = s.id }) m.session m.reply steps) mine.owner }
