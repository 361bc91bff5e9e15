use Rattle.std.proofs.Common.{option_map, sym, ap, ◌∙◌}
use Rattle.std.specs.Option.{option_copied}
use Rattle.wdl_check_rules.specs.Locals.{stands_for}
use Rattle.wdl_bundle.specs.StructSections.{declared_of}
use Rattle.wdl_bundle.proofs.FindLaws.{declared_found, no_declared}
use Rattle.wdl_bundle.proofs.structs.declared_for.Goals as goal

pub returns-in_err-root : goal.returns-in_err-root
returns-in_err-root c =
    ap (λ o. option_map declared_of (option_copied o)) c.from_residual.ensures
    ∙ no_declared (stands_for c.args.own.now) c.args.declared.now c.args.name.now (sym c.in_err-root.ensures)

pub returns : goal.returns
returns c =
    ap (option_map declared_of) c.find.ensures
    ∙ declared_found (stands_for c.args.own.now) c.args.declared.now c.args.name.now c.in_ok-root.root.now (sym c.in_ok-root.ensures)
