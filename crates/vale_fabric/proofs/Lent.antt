-- A book that is lent out of its box, and what is known of its record when it comes back.
use Rattle.std.proofs.Common.{◌≡◌, ◌<◌, ◌^◌, ap, sym, subst, length, arith}
use Rattle.vale_entry.specs.declared.entry.Ask.{Ask}
use Rattle.vale_book.specs.Recorded.{Recorded, after_ask, HasRoom}
use Rattle.vale_book.specs.LegalRecords.{IsLegalRecord}
use Rattle.vale_own.proofs.Rooms.{within-had}
use Rattle.vale_book.proofs.LegalRecords.{legal-after, legal-still}
use Rattle.vale_fabric.specs.declared.kept.Fixed.{Fixed}
use Rattle.vale_fabric.specs.Fabrics.{Knowing}
use Rattle.vale_fabric.specs.Roots.{fixed_of}
use Rattle.vale_fabric.specs.Steps.{IsTaken}
use Rattle.vale_book.proofs.Said.{Steps}

-- what is known of the book in the box is known of the book that is lent
pub as-lent : {fixed : Fixed} {v entered : Knowing} {boxed lent : Recorded} → lent ≡ boxed → IsTaken fixed v entered boxed → IsTaken fixed v entered lent
as-lent {fixed} {v} {entered} same taken = subst (IsTaken fixed v entered) (sym same) taken

legal-taken : {fixed : Fixed} {v entered : Knowing} {b : Recorded} → IsTaken fixed v entered b → IsLegalRecord b
legal-taken taken = record { legal = taken.legal; roomy = taken.roomy }

-- its record has the entry of an ask more, or is as it was
pub legal-made : {fixed : Fixed} {v entered : Knowing} {before after : Recorded} {ask : Ask} → IsTaken fixed v entered before
    → Steps before ask → after ≡ after_ask before ask → HasRoom before ask → IsLegalRecord after
legal-made {fixed} {v} {entered} {before} {after} {ask} taken steps grown room = legal-after before after ask (legal-taken taken) grown room

pub legal-same : {fixed : Fixed} {v entered : Knowing} {before after : Recorded} → IsTaken fixed v entered before → after ≡ before → IsLegalRecord after
legal-same taken same = legal-still (legal-taken taken) same

-- the number of each entry has 32 bits
pub few-entries : (b : Recorded) (fixed : Fixed) → fixed_of b ≡ fixed → fixed.limits.entries < 2 ^ 32 → IsLegalRecord b → length b.entries < 2 ^ 32
few-entries b fixed same few is =
    let within = (within-had b is.legal is.roomy).0 in
    let limit : b.limits.entries ≡ fixed.limits.entries = ap (λ (f : Fixed). f.limits.entries) same in
    omega (arith, within, limit, few)
