-- The tables of the workflows hold the lowest rules that are broken in what each reaches.
use Rattle.std.proofs.Common.{◌≡◌, ℕ, zero, suc, List, [], ◌∷◌, Option, Some, None, option_map, map, ap, sym, ◌∙◌, subst, refl}
use Rattle.std.specs.List.{slice_get}
use Rattle.std.proofs.lemmas.Option.{slice_get-map}
use Rattle.wdl_typed.specs.declared.flow.FlowDef.{FlowDef}
use Rattle.wdl_typed.specs.declared.flow.Statement.{Statement, Statement-F, fold-Statement, fold-roll-Statement, ind-Statement, map-Statement, roll-Statement}
use Rattle.wdl_typed.specs.declared.flow.Statement.TheOpen as layer
use Rattle.wdl_typed.specs.declared.flow.Target.{Target}
use Rattle.wdl_typed.specs.declared.flow.Target.TheVariants as target
use Rattle.wdl_typed.specs.declared.task.TaskDef.{TaskDef}
use Rattle.wdl_typed.specs.Bodies.{Library}
use Rattle.cwl_image.specs.declared.broken.Broken.{Broken}
use Rattle.cwl_image.specs.Subset as subset
use Rattle.cwl_image.specs.Subset.{all_broken, called_broken, flow_at, flow_broken, reached, target_broken, task_at, task_broken}
use Rattle.cwl_rules.specs.Lowest.{lower, lowest}
use Rattle.cwl_subset.specs.Refusals.{lowest_in}
use Rattle.cwl_subset.specs.Tables.{Table, all_lower, called_by, called_entry, called_step, entry, first_table, next_table, own_table, table_at, target_entry, task_table}
use Rattle.cwl_rules.proofs.LowestLemmas.{lowest_append}

-- ---- what statements call

module _ (e : Target → Option Broken) (t : Target → List Broken) (same : (x : Target) → e x ≡ lowest (t x)) where
  abbrev broken_by : Statement → List Broken
  broken_by = fold-Statement (List Broken) (subset.called_step t)

  abbrev Same : Statement → Type 0
  Same st = called_by e st ≡ lowest (broken_by st)

  abbrev Known : Type 0
  Known = (st : Statement) × Same st

  abbrev plain : Statement-F Known → Statement-F Statement
  plain = map-Statement Known Statement (λ (k : Known). k.0)

  abbrev firsts : List Known → List Statement
  firsts = map (λ (k : Known). k.0)

  body_same : (ks : List Known) → all_lower (map (called_by e) (firsts ks)) ≡ lowest (all_broken (map broken_by (firsts ks)))
  body_same [] = refl
  body_same (k ∷ ks) =
      ap (λ b. lower b (all_lower (map (called_by e) (firsts ks)))) k.1
      ∙ ap (lower (lowest (broken_by k.0))) (body_same ks)
      ∙ sym (lowest_append (broken_by k.0) (all_broken (map broken_by (firsts ks))))

  layer_same : (y : Statement-F Known) → called_step e (map-Statement Statement (Option Broken) (called_by e) (plain y))
      ≡ lowest (subset.called_step t (map-Statement Statement (List Broken) broken_by (plain y)))
  layer_same (layer.Decl d) = refl
  layer_same (layer.Call c) = same c.target
  layer_same (layer.Scatter s) = body_same s.body
  layer_same (layer.If i) = body_same i.body

  statement_same : (st : Statement) → Same st
  statement_same = ind-Statement Same (λ x y is. subst (λ (z : Statement-F Statement). Same (roll-Statement z)) is (
      fold-roll-Statement (Option Broken) (called_step e) (plain y)
      ∙ layer_same y
      ∙ sym (ap lowest (fold-roll-Statement (List Broken) (subset.called_step t) (plain y)))))

  called_same : (ss : List Statement) → called_entry e ss ≡ lowest (called_broken t ss)
  called_same [] = refl
  called_same (st ∷ ss) =
      ap (λ b. lower b (called_entry e ss)) (statement_same st)
      ∙ ap (lower (lowest (broken_by st))) (called_same ss)
      ∙ sym (lowest_append (broken_by st) (called_broken t ss))

-- ---- tables

abbrev row : Library → (Target → Option Broken) → FlowDef → Option Broken
row lib e f = lower (lowest (flow_broken lib f)) (called_entry e f.body)

rows : (lib : Library) (e : Target → Option Broken) (flows : List FlowDef) → next_table e flows (own_table lib flows) ≡ map (row lib e) flows
rows lib e [] = refl
rows lib e (f ∷ fs) = ap (λ (t : Table). row lib e f ∷ t) (rows lib e fs)

task_entry : (lib : Library) (k : ℕ) → entry (slice_get (task_table lib.structs lib.tasks) k) ≡ lowest (task_at lib.structs (slice_get lib.tasks k))
task_entry lib k =
    ap entry (slice_get-map (λ (t : TaskDef). lowest (task_broken lib.structs t)) lib.tasks k) ∙ by_task (slice_get lib.tasks k)
  where
    by_task : (o : Option TaskDef) → entry (option_map (λ t. lowest (task_broken lib.structs t)) o) ≡ lowest (task_at lib.structs o)
    by_task None = refl
    by_task (Some t) = refl

target_same : (lib : Library) (table : Table) (flows : ℕ → List Broken) → ((k : ℕ) → entry (slice_get table k) ≡ lowest (flows k))
    → (x : Target) → target_entry (task_table lib.structs lib.tasks) table x ≡ lowest (target_broken lib flows x)
target_same lib table flows same (target.Task k) = task_entry lib k
target_same lib table flows same (target.Flow k) = same k

flow_entry : (lib : Library) (e : Target → Option Broken) (flows : ℕ → List Broken) → ((x : Target) → e x ≡ lowest (target_broken lib flows x))
    → (k : ℕ) → entry (slice_get (next_table e lib.flows (own_table lib lib.flows)) k) ≡ lowest (flow_at lib flows (slice_get lib.flows k))
flow_entry lib e flows same k =
    ap (λ (t : Table). entry (slice_get t k)) (rows lib e lib.flows)
    ∙ ap entry (slice_get-map (row lib e) lib.flows k)
    ∙ by_flow (slice_get lib.flows k)
  where
    by_flow : (o : Option FlowDef) → entry (option_map (row lib e) o) ≡ lowest (flow_at lib flows o)
    by_flow None = refl
    by_flow (Some f) =
        ap (lower (lowest (flow_broken lib f))) (called_same e (target_broken lib flows) same f.body)
        ∙ sym (lowest_append (flow_broken lib f) (called_broken (target_broken lib flows) f.body))

first_entry : (flows : List FlowDef) (k : ℕ) → entry (slice_get (first_table flows) k) ≡ None
first_entry flows k = ap entry (slice_get-map (λ (f : FlowDef). None) flows k) ∙ by_flow (slice_get flows k)
  where
    by_flow : (o : Option FlowDef) → entry (option_map (λ f. None) o) ≡ None
    by_flow None = refl
    by_flow (Some f) = refl

table_reaches : (lib : Library) (depth k : ℕ)
    → entry (slice_get (table_at lib.flows (own_table lib lib.flows) (task_table lib.structs lib.tasks) depth) k) ≡ lowest (reached lib depth k)
unfolding table_at reached
table_reaches lib zero k = first_entry lib.flows k
table_reaches lib (suc depth) k =
    flow_entry lib (target_entry (task_table lib.structs lib.tasks) (table_at lib.flows (own_table lib lib.flows) (task_table lib.structs lib.tasks) depth)) (reached lib depth)
    (target_same lib (table_at lib.flows (own_table lib lib.flows) (task_table lib.structs lib.tasks) depth) (reached lib depth) (λ j. table_reaches lib depth j))
    k

-- what main reaches, by the last table
pub main_reaches : (lib : Library) (main : Option ℕ) (m : ℕ) (own tasks table : Table) (b : Option Broken) → main ≡ Some m → own ≡ own_table lib lib.flows → tasks ≡ task_table lib.structs lib.tasks
    → table ≡ table_at lib.flows own tasks 25 → b ≡ entry (slice_get table m) → b ≡ lowest_in lib main
main_reaches lib main m own tasks table b is own_is tasks_are table_is b_is =
    b_is
    ∙ ap (λ t. entry (slice_get t m)) table_is
    ∙ ap (λ o. entry (slice_get (table_at lib.flows o tasks 25) m)) own_is
    ∙ ap (λ ts. entry (slice_get (table_at lib.flows (own_table lib lib.flows) ts 25) m)) tasks_are
    ∙ table_reaches lib 25 m
    ∙ sym (ap (lowest_in lib) is)
