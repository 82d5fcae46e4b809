-- What a user does on its rings between its calls leaves its desk one of its book.
use Rattle.std.proofs.Common.{ℕ, ◌≡◌, Option, Some, option_map, sym, ap, subst, ◌∙◌}
use Rattle.nm_types.specs.OwnPorts.{OwnState}
use Rattle.nm_port.specs.Regions.{SideState, AllOf}
use Rattle.vale_own.specs.Own.{own_of}
use Rattle.vale_own.specs.Recorded.{Recorded, standing}
use Rattle.vale_own.specs.SideEdits.{KeepsSides}
use Rattle.nm_desk.specs.declared.desk.Desk.TheInside.{Inside}
use Rattle.nm_desk.specs.Desks.{DeskState, IsDeskOf, number_of, side_in, side_of, desk_of, desk_seen}

-- a desk with an own side that is there
pub lent : (i : Inside) (d : DeskState) (was : SideState) → desk_seen i ≡ d → i.own ≡ Some was → d ≡ desk_of i.id.0 (option_map number_of i.shut) was
lent i d was seen had = sym seen ∙ ap (λ (o : Option SideState). desk_of i.id.0 (option_map number_of i.shut) (side_in o)) had

desk-edited : (edit : OwnState → OwnState) → KeepsSides edit → (b : Recorded) (d : DeskState) → IsDeskOf b d → IsDeskOf b (record d { own = edit d.own })
desk-edited edit keeps b d is = record {
  side = record { legal = is.side.legal; of = keeps b.pool d.id d.shut (own_of d.id (standing b)) d.own is.side.of };
  region = is.region;
}

-- the desk with what an edit made of that side
pub desk-lent : (edit : OwnState → OwnState) → KeepsSides edit → (i : Inside) (d : DeskState) (was new : SideState) → desk_seen i ≡ d → i.own ≡ Some was → new ≡ record was { own = edit was.own }
    → (b : Recorded) → IsDeskOf b d → IsDeskOf b (desk_seen (record i { own = Some new }))
desk-lent edit keeps i d was new seen had made b is =
    subst (λ (s : SideState). IsDeskOf b (desk_of i.id.0 (option_map number_of i.shut) s)) (sym made)
    (desk-edited edit keeps b (desk_of i.id.0 (option_map number_of i.shut) was) (subst (IsDeskOf b) (lent i d was seen had) is))

-- what its call makes of it
pub after-lent : (i : Inside) (d : DeskState) (was new : SideState) (edit : OwnState → OwnState) → desk_seen i ≡ d → i.own ≡ Some was → new.own ≡ edit was.own
    → desk_of i.id.0 (option_map number_of i.shut) new ≡ record (desk_of i.id.0 (option_map number_of i.shut) new) { id = d.id; shut = d.shut; own = edit d.own }
after-lent i d was new edit seen had made =
    let after : DeskState = desk_of i.id.0 (option_map number_of i.shut) new in
    subst (λ (x : DeskState). after ≡ record after { id = x.id; shut = x.shut; own = edit x.own }) (sym (lent i d was seen had)) (ap (λ (o : OwnState). record after { own = o }) made)

pub region-lent : (region : ℕ) (i : Inside) (d : DeskState) (was : SideState) → desk_seen i ≡ d → i.own ≡ Some was → AllOf region (side_of d) → AllOf region was
region-lent region i d was seen had all = subst (λ (x : DeskState). AllOf region (side_of x)) (lent i d was seen had) all
