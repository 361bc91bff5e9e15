-- The lowest rule of a task and of a workflow, by that of their parts.
use Rattle.std.proofs.Common.{◌≡◌, ℕ, List, ◌++◌, Option, ap, sym, ◌∙◌}
use Rattle.wdl_value.specs.Fits.{Structs}
use Rattle.wdl_typed.specs.declared.flow.FlowDef.{FlowDef}
use Rattle.wdl_typed.specs.declared.scope.Bound.{Bound}
use Rattle.wdl_typed.specs.declared.task.TaskDef.{TaskDef}
use Rattle.wdl_typed.specs.Bodies.{Library}
use Rattle.wdl_typed.specs.Declarations.{inputs_bound}
use Rattle.cwl_image.specs.declared.broken.Broken.{Broken}
use Rattle.cwl_image.specs.Subset.{declared_by, each_broken, flow_broken, input_broken, run_broken, task_broken, task_scope, walk_body}
use Rattle.cwl_rules.specs.declared.declaration.Role.TheVariants as role
use Rattle.cwl_subset.specs.declared.walk.Walked.{Walked as Kept}
use Rattle.cwl_rules.specs.Lowest.{lower, lowest}
use Rattle.cwl_rules.specs.Roles.{decl_broken}
use Rattle.cwl_subset.specs.Walks.{flow_outputs_broken, summed}
use Rattle.cwl_rules.proofs.LowestLemmas.{lowest_append}

lowest_three : (a b c : List Broken) → lowest (a ++ b ++ c) ≡ lower (lower (lowest a) (lowest b)) (lowest c)
lowest_three a b c = lowest_append (a ++ b) c ∙ ap (λ o. lower o (lowest c)) (lowest_append a b)

lowest_four : (a b c d : List Broken) → lowest (a ++ b ++ c ++ d) ≡ lower (lower (lower (lowest a) (lowest b)) (lowest c)) (lowest d)
lowest_four a b c d = lowest_append (a ++ b ++ c) d ∙ ap (λ o. lower o (lowest d)) (lowest_three a b c)

pub task_lowest : (structs : Structs) (t : TaskDef) (names : List Bound) (first second third last : Option Broken) → names ≡ task_scope t
    → first ≡ lowest (each_broken (input_broken structs names) t.inputs)
    → second ≡ lowest (each_broken (decl_broken role.Private structs names) t.privates)
    → third ≡ lowest (run_broken structs names t)
    → last ≡ lowest (each_broken (decl_broken role.TaskOutput structs names) t.outputs)
    → lower (lower (lower first second) third) last ≡ lowest (task_broken structs t)
task_lowest structs t names first second third last seen one two three four =
    ap (λ o. lower (lower (lower o second) third) last) one
    ∙ ap (λ o. lower (lower (lower (lowest (each_broken (input_broken structs names) t.inputs)) o) third) last) two
    ∙ ap (λ o. lower (lower (lower (lowest (each_broken (input_broken structs names) t.inputs)) (lowest (each_broken (decl_broken role.Private structs names) t.privates))) o) last) three
    ∙ ap (λ o. lower (lower (lower (lowest (each_broken (input_broken structs names) t.inputs)) (lowest (each_broken (decl_broken role.Private structs names) t.privates))) (lowest (run_broken structs names t))) o) four
    ∙ sym (lowest_four (each_broken (input_broken structs names) t.inputs) (each_broken (decl_broken role.Private structs names) t.privates) (run_broken structs names t) (each_broken (decl_broken role.TaskOutput structs names) t.outputs))
    ∙ ap (λ ns. lowest (each_broken (input_broken structs ns) t.inputs ++ each_broken (decl_broken role.Private structs ns) t.privates ++ run_broken structs ns t ++ each_broken (decl_broken role.TaskOutput structs ns) t.outputs)) seen

pub flow_lowest : (lib : Library) (f : FlowDef) (declared : List (List ℕ)) (names : List Bound) (walked : Kept) (first last : Option Broken) → names ≡ inputs_bound f.inputs → declared ≡ declared_by f.body
    → walked ≡ summed (walk_body lib declared f.body names)
    → first ≡ lowest (each_broken (input_broken lib.structs names) f.inputs)
    → last ≡ lowest (flow_outputs_broken lib.structs (names ++ walked.given) f.outputs)
    → lower (lower first walked.broken) last ≡ lowest (flow_broken lib f)
flow_lowest lib f declared names walked first last seen among walk one two =
    let w = walk_body lib declared f.body names in
    ap (λ o. lower (lower o walked.broken) last) one
    ∙ ap (λ o. lower (lower (lowest (each_broken (input_broken lib.structs names) f.inputs)) walked.broken) o) two
    ∙ ap (λ (k : Kept). lower (lower (lowest (each_broken (input_broken lib.structs names) f.inputs)) k.broken) (lowest (flow_outputs_broken lib.structs (names ++ k.given) f.outputs))) walk
    ∙ sym (lowest_three (each_broken (input_broken lib.structs names) f.inputs) w.broken (flow_outputs_broken lib.structs (names ++ w.given) f.outputs))
    ∙ ap (λ ns. lowest (each_broken (input_broken lib.structs ns) f.inputs ++ (walk_body lib declared f.body ns).broken ++ flow_outputs_broken lib.structs (ns ++ (walk_body lib declared f.body ns).given) f.outputs)) seen
    ∙ ap (λ ws. lowest (each_broken (input_broken lib.structs (inputs_bound f.inputs)) f.inputs ++ (walk_body lib ws f.body (inputs_bound f.inputs)).broken ++ flow_outputs_broken lib.structs (inputs_bound f.inputs ++ (walk_body lib ws f.body (inputs_bound f.inputs)).given) f.outputs)) among
