-- What a put tells.
use Rattle.std.proofs.Common.{◌≡◌, List, Result, Ok, Err, IfErr, sym, subst}
use Rattle.nm_types.specs.declared.id.PortId.{PortId}
use Rattle.nm_types.specs.declared.fault.StepFault.TheVariants as steps
use Rattle.vale_entry.specs.declared.entry.Ask.TheVariants.{Put}
use Rattle.vale_entry.specs.declared.entry.Item.{Item}
use Rattle.vale_book.specs.declared.fault.PutFault.{PutFault}
use Rattle.vale_book.specs.declared.fault.PutFault.TheVariants.{PeerGone, RecordFull, NoMemory}
use Rattle.vale_steps.specs.declared.putting.Put.{Put as Given}
use Rattle.vale_book.specs.PutFaults.{IfMade, IfNotMade, IsPutRefusal}
use Rattle.vale_book.specs.Recorded.{Recorded, IsRefusal, HasRoom, after_ask, refused_by}
use Rattle.vale_fabric.specs.declared.kept.Fixed.{Fixed}
use Rattle.vale_fabric.specs.Fabrics.{Knowing}
use Rattle.vale_fabric.specs.Puts.{PutsNot, is_put_said}
use Rattle.vale_fabric.specs.Steps.{IsTaken, IsPutBack, is_made}
use Rattle.vale_fabric.proofs.Acting.{ActsIf, acted}
use Rattle.vale_book.proofs.Said.{Steps, said-by}
use Rattle.vale_fabric.proofs.Making.{answered, refused}
use Rattle.vale_book.proofs.PutsTold.{gone-said}

pub puts-act : (old new : Recorded) {port : PortId} {items : List Item} (r : Result Given PutFault) → Steps old (Put port items) → IfMade r (new ≡ after_ask old (Put port items))
    → IfMade r (HasRoom old (Put port items)) → IfNotMade r (new ≡ old) → ActsIf (is_made is_put_said r) old new (Put port items)
puts-act old new (Ok put) steps grown room same = record { steps = steps; grown = grown; room = room }
puts-act old new (Err PeerGone) steps grown room same = record { steps = steps; grown = grown; room = room }
puts-act old new (Err (RecordFull what used want)) steps grown room same = same
puts-act old new (Err NoMemory) steps grown room same = same

no-memory : (b : Recorded) (port : PortId) (items : List Item) → Steps b (Put port items) → IsRefusal b (Put port items) steps.NoMemory
no-memory b port items s = subst (refused_by b (Put port items) steps.NoMemory) (sym s.is) tt

pub puts-not : {fixed : Fixed} {v entered w : Knowing} {old new : Recorded} {port : PortId} {items : List Item} (r : Result Given PutFault) → IsTaken fixed v entered old → Steps old (Put port items)
    → ActsIf (is_made is_put_said r) old new (Put port items) → IsPutBack entered w new → IfErr r (IsPutRefusal old port items) → IfErr r (PutsNot fixed v w port items)
puts-not (Ok put) taken steps acts back refusal = tt
puts-not (Err PeerGone) taken steps acts back gone = answered (acted taken back acts) (said-by steps (gone-said steps gone))
puts-not (Err (RecordFull what used want)) taken steps same back full = refused taken same full back
puts-not {fixed} {v} {entered} {w} {old} {new} {port} {items} (Err NoMemory) taken steps same back full = refused taken same (no-memory old port items steps) back
