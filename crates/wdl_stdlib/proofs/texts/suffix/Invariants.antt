use Rattle.std.proofs.Common.{◌≡◌, ◌++◌, drop, map}
use Rattle.wdl_value.specs.declared.value.Value.TheVariants as v
use Rattle.wdl_value.specs.ValueText.{text_of}
use Rattle.wdl_stdlib.proofs.texts.suffix.Given as goal

abbrev pub invariant-loop-item : goal.invariant-loop-item
invariant-loop-item l = l.texts.items ++ map (λ item. v.Str (text_of item ++ text_of l.after)) (drop l.item-index l.items) ≡ map (λ item. v.Str (text_of item ++ text_of l.after)) l.items
