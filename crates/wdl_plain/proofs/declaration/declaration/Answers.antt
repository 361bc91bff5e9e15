use Rattle.std.proofs.Common.{Ok, Err, sym, ◌∙◌}
use Rattle.std.proofs.lemmas.Result.{IfOk-weaker}
use Rattle.wdl_plain.specs.Views.{sight_of}
use Rattle.wdl_plain.proofs.Declared.{declared_is, declared_missing}
use Rattle.wdl_plain.proofs.declaration.declaration.Goals as goal

pub returns-then-not-known : goal.returns-then-not-known
returns-then-not-known g c =
    IfOk-weaker c.named.result _ _ (λ f h. h ∙ sym (declared_missing (sight_of c.args.sight.now) c.args.name.now c.args.e.now (sym c.in_ok-known.ensures ∙ c.if-not-known.true))) c.named.ensures

pub returns-in-Ok : goal.returns-in-Ok
returns-in-Ok g c =
    IfOk-weaker c.named-in-Ok.result _ _
    (λ f h. h ∙ sym (declared_is (sight_of c.args.sight.now) c.args.name.now c.args.e.now (Ok c.in-Ok.value) (sym c.in_ok-known.ensures ∙ c.if-not-known.false) c.in-Ok.ensures)) c.named-in-Ok.ensures

pub returns-in-Err-Code : goal.returns-in-Err-Code
returns-in-Err-Code g c =
    IfOk-weaker c.failed_declaration.result _ _
    (λ f h. h ∙ sym (declared_is (sight_of c.args.sight.now) c.args.name.now c.args.e.now (Err c.in-Err-Code.code) (sym c.in_ok-known.ensures ∙ c.if-not-known.false)
    (c.in-Err-Code.ensures c.in-Err-Code.code c.in-Err-Code.field-0-is))) c.failed_declaration.ensures
