use Rattle.std.proofs.Common.{◌≡◌, subst}
use Rattle.wdl_typed.specs.Evaluation.{Met, Setting, value_met, wrong}
use Rattle.wdl_eval.specs.Laws.{IsSound}
use Rattle.wdl_eval.specs.Nodes.{setting_of}
use Rattle.wdl_eval.proofs.Sound.{values_are_sound}
use Rattle.wdl_eval.proofs.evaluation.value_at.Goals as goal

-- No well-typed expression meets a value of a wrong kind.
pub unreachable-requires : goal.unreachable-requires
unreachable-requires g c =
    let s : Setting = setting_of c.args.setting.now in
    let e = c.args.e.now in
    let r = c.requires.ready in
    let is = c.in-Err-Wrong.field-0-is in
    let met : value_met s e ≡ wrong = rw is at (c.in-Err-Wrong.ensures (λ h. cc)) in
    subst (λ (o : Met _). IsSound r.context.structs r.ty o) met (values_are_sound r.context r.placeholder s e r.ty r.typed r.fitting)
