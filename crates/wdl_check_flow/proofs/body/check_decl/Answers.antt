use Rattle.std.proofs.Common.{◌≡◌, Some, ap, subst}
use Rattle.wdl_check_decls.specs.declared.standing.Standing.TheVariants.{Body}
use Rattle.wdl_check_decls.specs.Declarations.{decl_typed}
use Rattle.wdl_check_decls.specs.Expressions.{World, world}
use Rattle.wdl_check_flow.specs.Given.{seen_of}
use Rattle.wdl_check_flow.specs.Targets.{place_of}
use Rattle.wdl_check_flow.proofs.StateLaws.{decl_states}
use Rattle.wdl_check_flow.proofs.body.check_decl.Goals as goal

pub returns : goal.returns
returns c =
    let got = c.get.ensures in
    let boxed = c.in_ok-decl-2.ensures in
    let opened = c.into_inner.ensures in
    let same : c.get.result.now ≡ c.in_ok-decl.decl = cc in
    let made : c.into_inner.result ≡ c.in_ok-decl.decl = cc in
    decl_states (place_of c.args.context.now) (seen_of c.args.visible.now) c.args.declaration.now c.in_ok-decl.decl c.get.result.now c.into_inner.result (seen_of c.enter_decl.new.self)
    (subst (λ (w : World). (decl_typed Body w c.args.visible.now.names c.args.declaration.now).typed ≡ Some c.in_ok-decl.decl) (ap world c.with_calls-seeing.ensures) c.in_ok-decl.ensures)
    same c.in_ok-enter_decl.ensures made
