use Rattle.std.proofs.Common.{◌≡◌, ◌++◌, drop}
use Rattle.std.specs.List.{flat_map, join_by}
use Rattle.wdl_value.specs.ValueText.{text_of}
use Rattle.wdl_stdlib.proofs.texts.separated.Given as goal

abbrev pub invariant-loop-item : goal.invariant-loop-item
invariant-loop-item l = l.text ++ flat_map (λ y. l.between ++ text_of y) (drop l.item-index l.rest) ≡ join_by text_of l.between l.items
