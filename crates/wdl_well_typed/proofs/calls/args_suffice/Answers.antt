use Rattle.wdl_typed.specs.Bodies.{all_given, arg_names}
use Rattle.wdl_well_typed.proofs.DistinctLemmas.{names_go, names_stop}
use Rattle.wdl_well_typed.proofs.calls.args_suffice.Goals as goal

pub returns-then-not-branch : goal.returns-then-not-branch
returns-then-not-branch c =
    names_stop c.empty-given.result (arg_names c.args.args.now) c.in_ok-add_all.field-0 (all_given c.args.inputs.now (arg_names c.args.args.now))
    c.empty-given.ensures c.in_ok-add_all.ensures.fresh c.if-not-branch.true

pub returns : goal.returns
returns c =
    names_go c.empty-given.result c.add_all.new.names (arg_names c.args.args.now) c.in_ok-add_all.field-0 c.all_given.result (all_given c.args.inputs.now)
    c.empty-given.ensures c.in_ok-add_all.ensures.fresh c.if-not-branch.false (c.in_ok-add_all.ensures.names c.if-not-branch.false) c.all_given.ensures
