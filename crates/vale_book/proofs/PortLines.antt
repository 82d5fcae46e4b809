-- Whose buffers a port has once some come back and what is ready goes.
use Rattle.std.proofs.Common.{ℕ, zero, suc, Bool, true, false, cond, ◌≡◌, ◌==◌, List, [], ◌∷◌, ◌++◌, slice_get, Some, sym, subst, take, drop, length}
use Rattle.std.specs.Prelude.{take_while}
use Rattle.std.specs.List.{AllByRecursion as Each, prefix_len}
use Rattle.std.proofs.lemmas.List.{map-append}
use Rattle.nm_types.specs.declared.id.LeaseId.{LeaseId}
use Rattle.nm_types.proofs.Lists.{each-front, each-back}
use Rattle.nm_region.specs.Buffers.{Buffer}
use Rattle.vale_line.specs.declared.got.Got.{Got}
use Rattle.vale_line.specs.Gots.{buffers_of, buffer_of}
use Rattle.vale_line.specs.Lines.{HeldLot, is_done, gots_of, held_gots, ready_gots, behind_done, given_by_sync, put_lot}
use Rattle.vale_entry.proofs.Each.{each-append, each-drop, each-take}
use Rattle.vale_entry.proofs.ListLaws.{each-at}
use Rattle.vale_port.specs.Laws.{with_line, line_after_put}
use Rattle.vale_port.specs.Ports.{PortState}
use Rattle.nm_region.specs.Regions.{AreOf}
use Rattle.vale_book.specs.BookView.{HasBuffersOf}

-- the buffers of each lot
abbrev pub IsLotOf : ℕ → HeldLot → Type 0
IsLotOf region lot = AreOf region (buffers_of (gots_of lot))

pub lots-of : (region : ℕ) (lots : List HeldLot) → AreOf region (buffers_of (held_gots lots)) → Each (IsLotOf region) lots
lots-of region [] all = tt
lots-of region (lot ∷ lots) all =
    let both = subst (AreOf region) (map-append buffer_of (gots_of lot) (held_gots lots)) all in (
      each-front (λ (b : Buffer). b.region ≡ region) (buffers_of (gots_of lot)) (buffers_of (held_gots lots)) both,
      lots-of region lots (each-back (λ (b : Buffer). b.region ≡ region) (buffers_of (gots_of lot)) (buffers_of (held_gots lots)) both),
    )

pub of-lots : (region : ℕ) (lots : List HeldLot) → Each (IsLotOf region) lots → AreOf region (buffers_of (held_gots lots))
of-lots region [] all = tt
of-lots region (lot ∷ lots) all =
    subst (AreOf region) (sym (map-append buffer_of (gots_of lot) (held_gots lots)))
    (each-append (λ (b : Buffer). b.region ≡ region) (buffers_of (gots_of lot)) (buffers_of (held_gots lots)) all.0 (of-lots region lots all.1))

pub held-of : (region : ℕ) (p : PortState) → HasBuffersOf region p → AreOf region (buffers_of (held_gots p.line.lots))
held-of region p all = each-back (λ (b : Buffer). b.region ≡ region) p.line.idle (buffers_of (held_gots p.line.lots)) all

pub of-synced : (region : ℕ) (back : List Buffer) (p : PortState) → AreOf region back → HasBuffersOf region p → HasBuffersOf region (with_line (given_by_sync back p.line) p)
of-synced region back p of all =
    let idle = each-front (λ (b : Buffer). b.region ≡ region) p.line.idle (buffers_of (held_gots p.line.lots)) all in
    each-append (λ (b : Buffer). b.region ≡ region) (p.line.idle ++ back) (buffers_of (held_gots (behind_done p.line.lots)))
    (each-append (λ (b : Buffer). b.region ≡ region) p.line.idle back idle of)
    (of-lots region (behind_done p.line.lots) (each-drop (IsLotOf region) (prefix_len is_done p.line.lots) p.line.lots (lots-of region p.line.lots (held-of region p all))))

pub of-given : (region : ℕ) (ps : List PortState) (place : ℕ) (p : PortState) → slice_get ps place ≡ Some p → Each (HasBuffersOf region) ps → AreOf region (buffers_of (ready_gots p.line.lots))
of-given region ps place p here all =
    of-lots region (take_while is_done p.line.lots) (each-take (IsLotOf region) (prefix_len is_done p.line.lots) p.line.lots (lots-of region p.line.lots (held-of region p (each-at (HasBuffersOf region) ps place p all here))))

pub of-first : (region n : ℕ) (gots : List Got) → AreOf region (buffers_of gots) → AreOf region (buffers_of (take n gots))
of-first region zero gots of = tt
of-first region (suc n) [] of = tt
of-first region (suc n) (got ∷ gots) of = (of.0, of-first region n gots of.1)

pub of-put : (region : ℕ) (id : LeaseId) (gots : List Got) (p : PortState) → AreOf region (buffers_of gots) → HasBuffersOf region p → HasBuffersOf region (with_line (line_after_put id gots p.line) p)
of-put region id gots p of all = by-some (length gots == 0)
  where
    idle : List Buffer
    idle = drop (length gots) p.line.idle

    rest : AreOf region idle
    rest = each-drop (λ (b : Buffer). b.region ≡ region) (length gots) p.line.idle (each-front (λ (b : Buffer). b.region ≡ region) p.line.idle (buffers_of (held_gots p.line.lots)) all)

    lots : Each (IsLotOf region) p.line.lots
    lots = lots-of region p.line.lots (held-of region p all)

    by-some : (b : Bool) → HasBuffersOf region (with_line (cond b (record p.line { idle = idle }) (record p.line { idle = idle; lots = p.line.lots ++ put_lot id gots ∷ [] })) p)
    by-some true = each-append (λ (b : Buffer). b.region ≡ region) idle (buffers_of (held_gots p.line.lots)) rest (held-of region p all)
    by-some false =
        each-append (λ (b : Buffer). b.region ≡ region) idle (buffers_of (held_gots (p.line.lots ++ put_lot id gots ∷ []))) rest
        (of-lots region (p.line.lots ++ put_lot id gots ∷ []) (each-append (IsLotOf region) p.line.lots (put_lot id gots ∷ []) lots (of, tt)))
