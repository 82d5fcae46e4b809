use Rattle.std.proofs.Common.{◌≡◌, List, ℕ, ◌∙◌, ap, true}
use Rattle.nm_types.specs.Names.{is_pipe_name}
use Rattle.nm_types.proofs.PeerNames.{IsNameIn, some_bytes, peer-size, peer-padded, peer-text, peer-is_name, peer-is_pipe}
use Rattle.nm_types.proofs.name.Name.peer.Goals as goal
use Rattle.nm_types.specs.declared.name.Name.TheInside.{Inside}

name_in : (n : Inside) (text : List ℕ) → Rattle.nm_types.specs.contracts.name.Name.the_invariant n → Rattle.nm_types.specs.contracts.name.Name.the_view n ≡ text → is_pipe_name text ≡ true → IsNameIn n.bytes n.len
name_in n text inv view pipe = record { size = inv.0; within = inv.1; padded = inv.2; pipe = ap is_pipe_name view ∙ pipe }

pub overflow_sub-last : goal.overflow_sub-last
overflow_sub-last c = some_bytes c.self.inside.bytes c.self.inside.len (name_in c.self.inside c.args.self.now c.self.invariant c.self.view_is c.requires)

pub invariant_of-result : goal.invariant_of-result
invariant_of-result c =
    let is = name_in c.self.inside c.args.self.now c.self.invariant c.self.view_is c.requires in
    let text = peer-text c.self.inside.bytes c.self.inside.len is in
    rw c.peer_byte.ensures (peer-size c.self.inside.bytes c.self.inside.len is, is.within, peer-padded c.self.inside.bytes c.self.inside.len is, rw text (peer-is_name _ is.pipe))

pub returns-clause-peer : goal.returns-clause-peer
returns-clause-peer c =
    let is = name_in c.self.inside c.args.self.now c.self.invariant c.self.view_is c.requires in
    rw (c.peer_byte.ensures, ← c.self.view_is) (peer-text c.self.inside.bytes c.self.inside.len is)

pub returns-clause-pipe : goal.returns-clause-pipe
returns-clause-pipe c =
    let is = name_in c.self.inside c.args.self.now c.self.invariant c.self.view_is c.requires in
    rw (c.peer_byte.ensures, peer-text c.self.inside.bytes c.self.inside.len is) (peer-is_pipe _ is.pipe)
