use Rattle.std.proofs.Common.{sym, ◌∙◌, subst}
use Rattle.wdl_value.specs.declared.value.Value.{Value}
use Rattle.wdl_value.specs.Outcome.{Outcome}
use Rattle.wdl_stdlib.specs.Gives.{Gives}
use Rattle.wdl_task.proofs.LandedLists.{list_is_landed, map_is_landed}
use Rattle.wdl_task.proofs.landing.+landed.Goals as goal

pub landed-returns-in-List-Array : goal.landed-returns-in-List-Array
landed-returns-in-List-Array t c =
    let s = c.args.shore.now in
    subst (λ (o : Outcome Value). Gives o c.list_landed.result)
    (list_is_landed s.structs.now s.dir.now s.answer.now c.args.value.now c.args.t.now c.in-List-Array.item c.get.result.now c.in-List-Array.some-1 c.in-List-Array.items c.as_slice.result.now
    c.in-List-Array.is-0 (sym c.bare_type.ensures ∙ c.in-List-Array.is-1) c.as_slice.ensures c.get.ensures) c.list_landed.ensures

pub landed-returns-in-Map-Map : goal.landed-returns-in-Map-Map
landed-returns-in-Map-Map t c =
    let s = c.args.shore.now in
    subst (λ (o : Outcome Value). Gives o c.map_landed.result)
    (map_is_landed s.structs.now s.dir.now s.answer.now c.args.value.now c.args.t.now c.in-Map-Map.key c.in-Map-Map.value c.get-in-Map-Map.result.now c.get-in-Map-Map-2.result.now c.in-Map-Map.rows c.as_slice-in-Map-Map.result.now
    c.in-Map-Map.is-0 (sym c.bare_type.ensures ∙ c.in-Map-Map.is-1) c.as_slice-in-Map-Map.ensures c.get-in-Map-Map.ensures c.get-in-Map-Map-2.ensures) c.map_landed.ensures
