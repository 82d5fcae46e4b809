-- What is held for a port stands at the port's place, after every legal history.
use Rattle.std.proofs.Common.{ℕ, ◌≡◌, List, map, take, flat_map, Some, slice_get}
use Rattle.vale_entry.specs.declared.entry.Entry.{Entry}
use Rattle.vale_entry.specs.Holdings.{PortBuffers, delivered_buffers, buffers_of_port, buffers_at_port}
use Rattle.vale_entry.specs.Legal.{world_of, holdings_of, IsLegal}
use Rattle.vale_entry.specs.Laws.{Rise, id_of_held}
use Rattle.vale_entry.proofs.Numbered.{world-numbered}
use Rattle.vale_entry.proofs.Places.{delivered_buffers-place, buffers_of_port-place}
use Rattle.vale_entry.proofs.Agreeing.{agree-ids}
use Rattle.vale_entry.proofs.HistoryLaws.{history-stands}

pub helds-rise :
    (pool : ℕ) (h : List Entry) → IsLegal pool h
    → Rise 0 (map id_of_held (holdings_of pool h).ports) (world_of pool h).entry_count
helds-rise pool h legal =
    rw
    (agree-ids (world_of pool h).ports (holdings_of pool h).ports
    (history-stands pool h legal).held.ports_agree) (world-numbered pool h).ports_rise

pub buffers_of_port-world :
    (pool : ℕ) (h : List Entry) (i : ℕ) (held : PortBuffers) → IsLegal pool h
    → slice_get (holdings_of pool h).ports i ≡ Some held
    → buffers_of_port held.port (holdings_of pool h).ports ≡ buffers_at_port held
buffers_of_port-world pool h i held legal e =
    buffers_of_port-place (holdings_of pool h).ports (world_of pool h).entry_count i held
    (helds-rise pool h legal) e

pub delivered_buffers-world :
    (pool : ℕ) (h : List Entry) (lots i : ℕ) (held : PortBuffers) → IsLegal pool h
    → slice_get (holdings_of pool h).ports i ≡ Some held
    → delivered_buffers held.port lots (holdings_of pool h).ports
    ≡ flat_map (λ list. list) (take lots held.lots)
delivered_buffers-world pool h lots i held legal e =
    delivered_buffers-place lots (holdings_of pool h).ports (world_of pool h).entry_count i held
    (helds-rise pool h legal) e
