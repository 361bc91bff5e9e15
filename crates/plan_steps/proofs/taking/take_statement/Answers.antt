use Rattle.plan_steps.specs.Doing.{state}
use Rattle.plan_steps.proofs.Standing.{AgreesAt, same_bases, same_line, same_place_in, same_statement, stand_as, taken_done, taken_within}
use Rattle.plan_steps.proofs.taking.take_statement.Goals as goal

pub do_statement-requires-clause-can : goal.do_statement-requires-clause-can
do_statement-requires-clause-can g c =
    let h = c.requires.can in
    let agrees : AgreesAt c.args.ground.now.checked.now c.args.ground.now.layout.now (state c.args.growth.now c.args.asking.now) c.in_ok-spot.spot.bases c.in_ok-spot.spot.place c.index-as_slice-number.result c.index-statements-number.result c.args.instance c.args.number = (λ q b f l x at.
    let body = c.layout_of-body.ensures q b at.of_instance.there at.of_instance.body_there in (
      same_bases c.as_slice-3.result.now c.args.growth.now.entered.instances c.args.instance q c.in_ok-spot.spot c.as_slice-3.ensures c.in_ok-spot.ensures at.of_instance.there,
      same_place_in c.as_slice-3.result.now c.args.growth.now.entered.instances c.args.instance q c.in_ok-spot.spot c.as_slice-3.ensures c.in_ok-spot.ensures at.of_instance.there,
      same_line c.layout_of-body.result.now b c.as_slice.result.now c.args.number c.index-as_slice-number.result l body c.as_slice.ensures at.line c.index-as_slice-number.is,
      same_statement c.args.ground.now.checked.now.flows c.layout_of-body.result.now b f c.as_slice-2.result.now c.body_of-statements.result.now c.args.number c.index-statements-number.result x body c.as_slice-2.ensures c.body_of-statements.ensures at.of_instance.flow_there at.statement c.index-statements-number.is,
    )) in
    let e = agrees h.instance h.body h.flow h.line h.statement h.here in
    stand_as c.args.ground.now.checked.now c.args.ground.now.layout.now (state c.args.growth.now c.args.asking.now) c.in_ok-spot.spot.bases h.instance.bases c.in_ok-spot.spot.place h.instance.place c.index-as_slice-number.result h.line c.index-statements-number.result h.statement
    e.0 e.1 e.2 e.3 h.stand

pub returns-clause-done : goal.returns-clause-done
returns-clause-done g c =
    taken_done c.args.ground.now.checked.now c.args.ground.now.layout.now (state c.args.growth.now c.args.asking.now) c.in_ok-spot.spot.bases c.in_ok-spot.spot.place c.index-as_slice-number.result c.index-statements-number.result c.args.step c.args.instance c.args.number
    (λ q b f l x at.
    let body = c.layout_of-body.ensures q b at.of_instance.there at.of_instance.body_there in (
      same_bases c.as_slice-3.result.now c.args.growth.now.entered.instances c.args.instance q c.in_ok-spot.spot c.as_slice-3.ensures c.in_ok-spot.ensures at.of_instance.there,
      same_place_in c.as_slice-3.result.now c.args.growth.now.entered.instances c.args.instance q c.in_ok-spot.spot c.as_slice-3.ensures c.in_ok-spot.ensures at.of_instance.there,
      same_line c.layout_of-body.result.now b c.as_slice.result.now c.args.number c.index-as_slice-number.result l body c.as_slice.ensures at.line c.index-as_slice-number.is,
      same_statement c.args.ground.now.checked.now.flows c.layout_of-body.result.now b f c.as_slice-2.result.now c.body_of-statements.result.now c.args.number c.index-statements-number.result x body c.as_slice-2.ensures c.body_of-statements.ensures at.of_instance.flow_there at.statement c.index-statements-number.is,
    ))
    c.args.ground.now.site.now (state c.do_statement.new.growth c.do_statement.new.asking) c.do_statement.result c.do_statement.ensures.done

pub returns-clause-steps : goal.returns-clause-steps
returns-clause-steps g c =
    taken_within c.args.ground.now.checked.now c.args.ground.now.layout.now (state c.args.growth.now c.args.asking.now) c.in_ok-spot.spot.bases c.in_ok-spot.spot.place c.index-as_slice-number.result c.index-statements-number.result c.args.step c.args.instance c.args.number
    (λ q b f l x at.
    let body = c.layout_of-body.ensures q b at.of_instance.there at.of_instance.body_there in (
      same_bases c.as_slice-3.result.now c.args.growth.now.entered.instances c.args.instance q c.in_ok-spot.spot c.as_slice-3.ensures c.in_ok-spot.ensures at.of_instance.there,
      same_place_in c.as_slice-3.result.now c.args.growth.now.entered.instances c.args.instance q c.in_ok-spot.spot c.as_slice-3.ensures c.in_ok-spot.ensures at.of_instance.there,
      same_line c.layout_of-body.result.now b c.as_slice.result.now c.args.number c.index-as_slice-number.result l body c.as_slice.ensures at.line c.index-as_slice-number.is,
      same_statement c.args.ground.now.checked.now.flows c.layout_of-body.result.now b f c.as_slice-2.result.now c.body_of-statements.result.now c.args.number c.index-statements-number.result x body c.as_slice-2.ensures c.body_of-statements.ensures at.of_instance.flow_there at.statement c.index-statements-number.is,
    ))
    c.args.steps.now c.do_statement.new.steps c.do_statement.ensures.steps
