use Rattle.std.proofs.Common.{sym, ap, ◌∙◌}
use Rattle.std.specs.Ordering.{nat_cmp}
use Rattle.std.specs.BTreeMap.{get}
use Rattle.wdl_names.specs.Marks.{first_place}
use Rattle.wdl_names.proofs.PlaceLemmas.{Stands, place_found, place_stale, place_unknown}
use Rattle.wdl_names.proofs.places.Places.place.Goals as goal

pub returns-then-stands-clause-place : goal.returns-then-stands-clause-place
returns-then-stands-clause-place c =
    place_found (get nat_cmp c.self.inside.firsts) c.self.inside.numbers c.args.number c.in-Some.place.now c.self.invariant (sym c.in-Some.ensures.value)
    (sym (c.if-stands.ensures ∙ ap (λ ns. Stands ns c.in-Some.place.now c.args.number) c.as_slice.ensures))
    ∙ ap (first_place c.args.number) c.self.view_is

pub returns-else-stands-clause-place : goal.returns-else-stands-clause-place
returns-else-stands-clause-place c =
    c.len-else-stands.ensures
    ∙ place_stale (get nat_cmp c.self.inside.firsts) c.self.inside.numbers c.args.number c.in-Some.place.now c.self.invariant (sym c.in-Some.ensures.value)
    (sym (c.if-stands.ensures ∙ ap (λ ns. Stands ns c.in-Some.place.now c.args.number) c.as_slice.ensures))
    ∙ ap (first_place c.args.number) c.self.view_is

pub returns-in_default-clause-place : goal.returns-in_default-clause-place
returns-in_default-clause-place c =
    c.len.ensures
    ∙ place_unknown (get nat_cmp c.self.inside.firsts) c.self.inside.numbers c.args.number c.self.invariant (sym c.in_default.ensures.value)
    ∙ ap (first_place c.args.number) c.self.view_is
