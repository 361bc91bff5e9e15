use Rattle.std.proofs.Common.{◌≡◌, ◌++◌, List, OnOk, Some, sym, subst, arith}
use Rattle.leaf_image.specs.declared.leaf.Place.{Place}
use Rattle.struct_leaves.proofs.PlaceLaws.{places_none, places_struct, places_unknown}
use Rattle.struct_leaves.proofs.places.+places.Goals as goal

pub push_places-returns-then-level-eq0-clause-places : goal.push_places-returns-then-level-eq0-clause-places
push_places-returns-then-level-eq0-clause-places t c =
    places_none c.args.structs.now c.args.level c.args.input.now c.args.path.now c.args.ty.now c.args.places.now (omega (arith, c.if-level-eq0.true))

pub push_places-returns-in_default-members_of-clause-places : goal.push_places-returns-in_default-members_of-clause-places
push_places-returns-in_default-members_of-clause-places t c =
    places_unknown c.args.structs.now c.args.level c.args.input.now c.args.path.now c.args.ty.now c.in-Struct.name c.args.places.now (omega (arith, c.if-level-eq0.false)) c.in-Struct.is
    c.in_default-members_of.ensures

pub push_places-returns-clause-places : goal.push_places-returns-clause-places
push_places-returns-clause-places t c =
    subst (λ (ps : List Place). OnOk c.push_members.result (c.push_members.new.places ≡ c.args.places.now ++ ps))
    (sym (places_struct c.args.structs.now c.args.level c.args.input.now c.args.path.now c.args.ty.now c.in-Struct.name (Some c.in-Some.members.now) (omega (arith, c.if-level-eq0.false)) c.in-Struct.is c.in-Some.ensures))
    c.push_members.ensures.places
