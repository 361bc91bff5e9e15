use Rattle.wdl_check_types.specs.Written.{written}
use Rattle.wdl_check_types.proofs.OutcomeLaws.{then_ok}
use Rattle.wdl_check_decls.specs.Declarations.{decl_as}
use Rattle.wdl_check_decls.specs.Expressions.{world}
use Rattle.wdl_check_decls.proofs.declaration.check_declaration.Goals as goal

pub returns : goal.returns
returns c =
    let w = world c.args.seeing.now in
    then_ok (written w.locals c.args.declaration.now.ty) (decl_as c.args.standing w c.args.names.now c.args.declaration.now) c.in_ok-ty.ty c.declared.result
    c.in_ok-ty.ensures c.declared.ensures
