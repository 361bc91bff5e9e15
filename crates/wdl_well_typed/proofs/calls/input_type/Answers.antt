use Rattle.std.proofs.Common.{option_map, ap, sym, ◌∙◌}
use Rattle.wdl_typed.specs.declared.task.TInput.{TInput}
use Rattle.wdl_well_typed.proofs.InputLemmas.{input_type-find}
use Rattle.wdl_well_typed.proofs.calls.input_type.Goals as goal

pub returns-in-Some : goal.returns-in-Some
returns-in-Some c = ap (option_map (λ (i : TInput). i.ty)) c.in-Some.ensures ∙ sym (input_type-find c.args.inputs.now c.args.name.now)

pub returns-in-None : goal.returns-in-None
returns-in-None c = ap (option_map (λ (i : TInput). i.ty)) c.in-None.ensures ∙ sym (input_type-find c.args.inputs.now c.args.name.now)
