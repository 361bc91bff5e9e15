use Rattle.wdl_check_types.specs.Written.{written}
use Rattle.wdl_check_types.proofs.OutcomeLaws.{then_ok}
use Rattle.wdl_check_decls.specs.Declarations.{input_as}
use Rattle.wdl_check_decls.specs.Expressions.{world}
use Rattle.wdl_check_decls.proofs.input.check_input.Goals as goal

pub returns : goal.returns
returns c =
    let w = world c.args.seeing.now in
    then_ok (written w.locals c.args.input.now.ty) (input_as w c.args.names.now c.args.input.now) c.in_ok-ty.ty c.with_default.result
    c.in_ok-ty.ensures c.with_default.ensures
