use Rattle.std.proofs.Common.{◌≡◌, Some, true, false, option_map, string_bytes, sym, ap, ◌∙◌, ◌||◌}
use Rattle.wdl_json.specs.Inputs.{bad, printed, is_comment, is_known}
use Rattle.wdl_json.proofs.NameSets.{known_next, unknown_here}
use Rattle.wdl_json.proofs.unknown.unknown_fault.Goals as goal

pub returns-then-not-is_known : goal.returns-then-not-is_known
returns-then-not-is_known c =
    let name = string_bytes c.in-Some.name.now in
    let other : is_known c.args.flow.now c.args.inputs.now name ≡ false =
    sym (c.is_known.ensures ∙ ap (λ b. is_comment c.as_str.result.now || b) (c.in_ok-names.ensures c.as_str.result.now)
    ∙ ap (is_known c.args.flow.now c.args.inputs.now) c.as_str.ensures.value) ∙ c.if-not-is_known.true in
    let found = unknown_here c.args.flow.now c.args.inputs.now c.in-Some.name.now c.in-Some.field-0-1.now c.loop-name.name-iterator c.next.new.self c.in-Some.ensures.steps other in
    ap Some (c.in_ok-fault_of.ensures ∙ ap (λ n. bad 403 (printed n)) c.as_str-then-not-is_known.ensures.value)
    ∙ ap (option_map (λ n. bad 403 (printed n))) (found ∙ c.loop-name.invariant)

pub loop-name-preserved : goal.loop-name-preserved
loop-name-preserved c =
    let known : is_known c.args.flow.now c.args.inputs.now (string_bytes c.in-Some.name.now) ≡ true =
    sym (c.is_known.ensures ∙ ap (λ b. is_comment c.as_str.result.now || b) (c.in_ok-names.ensures c.as_str.result.now)
    ∙ ap (is_known c.args.flow.now c.args.inputs.now) c.as_str.ensures.value) ∙ c.if-not-is_known.false in
    known_next c.args.flow.now c.args.inputs.now c.in-Some.name.now c.in-Some.field-0-1.now c.loop-name.name-iterator c.next.new.self c.in-Some.ensures.steps known
    ∙ c.loop-name.invariant
