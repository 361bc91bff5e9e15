use Rattle.std.proofs.Common.{◌≡◌, Option, IfOk, ap, subst, sym, ◌∙◌}
use Rattle.wdl_value.specs.declared.ty.Ty.{Ty}
use Rattle.wdl_typed.specs.Declarations.{or_type}
use Rattle.wdl_typing.specs.Types.{context_of, write_type}
use Rattle.wdl_typing.proofs.PlainTypes.{in_place}
use Rattle.wdl_typing.proofs.typing.type_in_place.Goals as goal

pub returns-in-Some : goal.returns-in-Some
returns-in-Some c =
    ap (λ o. or_type o (write_type (context_of c.args.seen.now) c.args.e.now c.args.placeholder)) (sym c.in-Some.is ∙ c.in_ok-t.ensures)
    ∙ sym (in_place (context_of c.args.seen.now) c.args.e.now c.args.placeholder)

pub returns-in-None : goal.returns-in-None
returns-in-None c =
    subst (λ (r : Option Ty). IfOk c.write_type.result (λ t. t ≡ r))
    (ap (λ o. or_type o (write_type (context_of c.args.seen.now) c.args.e.now c.args.placeholder)) (sym c.in-None.is ∙ c.in_ok-t.ensures)
    ∙ sym (in_place (context_of c.args.seen.now) c.args.e.now c.args.placeholder))
    c.write_type.ensures
