use Rattle.std.proofs.Common.{◌≡◌, ◌++◌, drop, map}
use Rattle.wdl_value.specs.declared.value.Value.TheVariants as v
use Rattle.wdl_stdlib.proofs.pieces.strings.Given as goal

abbrev pub invariant-loop-text : goal.invariant-loop-text
invariant-loop-text l = l.values ++ map v.Str (drop l.text-index l.texts) ≡ map v.Str l.texts
