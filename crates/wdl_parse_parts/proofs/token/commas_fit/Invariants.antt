use Rattle.std.proofs.Common.{◌≡◌, false, drop}
use Rattle.wdl_parse_parts.specs.Grammar.{commas_behind}
use Rattle.wdl_parse_parts.proofs.token.commas_fit.Given as goal

abbrev pub invariant-loop-item : goal.invariant-loop-item
invariant-loop-item g l = commas_behind l.is_bare (drop l.item-index l.items) ≡ commas_behind false l.items
