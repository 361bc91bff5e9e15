use Rattle.std.proofs.Common.{◌≡◌, ◌++◌, drop, option_map}
use Rattle.wdl_check_rules.specs.Rules.{plain_text}
use Rattle.wdl_check_rules.proofs.string.plain_text.Given as goal

abbrev pub invariant-loop-part : goal.invariant-loop-part
invariant-loop-part l = option_map (λ t. l.text ++ t) (plain_text (drop l.part-index l.parts)) ≡ plain_text l.parts
