-- Inputs in which nothing is replaced.
use Rattle.std.proofs.Common.{◌≡◌, List, [], ◌∷◌, Option, Some, None, map, option_map, refl, ap, ◌∙◌}
use Rattle.wdl_typed.specs.declared.expr.TExpr.{TExpr}
use Rattle.wdl_typed.specs.declared.task.TInput.{TInput}
use Rattle.wdl_swaps.specs.Swaps.{swapped, swapped_input}
use Rattle.struct_leaves.proofs.Unswapped.{swapped_nothing}

some_kept : (o : Option TExpr) → option_map (swapped []) o ≡ o
some_kept None = refl
some_kept (Some a) = ap Some (swapped_nothing a)

input_kept : (i : TInput) → swapped_input [] i ≡ i
input_kept i = ap (λ (v : Option TExpr). record { name = i.name; ty = i.ty; value = v; span = i.span }) (some_kept i.value)

pub inputs_kept : (is : List TInput) → map (swapped_input []) is ≡ is
inputs_kept [] = refl
inputs_kept (i ∷ is) = ap (λ (j : TInput). j ∷ map (swapped_input []) is) (input_kept i) ∙ ap (λ (js : List TInput). i ∷ js) (inputs_kept is)
