-- The tasks of two forms that stand for each other: the ones that both call at the same place in the order of their calls.
use Rattle.std.specs.Prelude.{ℕ, Bool, true, false, ◌==◌, List, [], ◌∷◌, ◌++◌, Option, Some, None, length, map, replicate, slice_get, slice_set}
use Rattle.wdl_typed.specs.declared.flow.Statement.{Statement, Statement-F, fold-Statement}
use Rattle.wdl_typed.specs.declared.flow.Statement.TheOpen as layer
use Rattle.wdl_typed.specs.declared.flow.Target.{Target}
use Rattle.wdl_typed.specs.declared.flow.Target.TheVariants as target
use Rattle.wdl_typed.specs.declared.task.TaskDef.{TaskDef}
use Rattle.wdl_same.specs.Lists.{alike}
use Rattle.wdl_same.specs.Tasks.{same_task}

-- ---- calls

abbrev pub target_numbers : Target → List ℕ
target_numbers (target.Task k) = k ∷ []
target_numbers (target.Flow k) = []

abbrev pub append_all : List (List ℕ) → List ℕ
append_all [] = []
append_all (ns ∷ more) = ns ++ append_all more

abbrev pub called_step : Statement-F (List ℕ) → List ℕ
called_step (layer.Decl d) = []
called_step (layer.Call c) = target_numbers c.target
called_step (layer.Scatter s) = append_all s.body
called_step (layer.If i) = append_all i.body

-- the numbers of the tasks that a statement and the bodies in it call, one for each call, in their order
abbrev pub called : Statement → List ℕ
called = fold-Statement (List ℕ) called_step

abbrev pub all_called : List Statement → List ℕ
all_called ss = append_all (map called ss)

-- ---- partners

abbrev pub paired_at : List (Option ℕ) → ℕ → ℕ → Option (Option ℕ) → List (Option ℕ)
paired_at partners k j None = partners
paired_at partners k j (Some None) = slice_set partners k (Some j)
paired_at partners k j (Some (Some i)) = partners

-- the second as the partner of the first, where that has none
abbrev pub paired : List (Option ℕ) → ℕ → ℕ → List (Option ℕ)
paired partners k j = paired_at partners k j (slice_get partners k)

abbrev pub all_paired : List (Option ℕ) → List ℕ → List ℕ → List (Option ℕ)
all_paired partners [] js = partners
all_paired partners (k ∷ ks) [] = partners
all_paired partners (k ∷ ks) (j ∷ js) = all_paired (paired partners k j) ks js

-- The partner of each task, by its number: what the other form calls where this one calls the task first.
unfoldable pub partners_of : List TaskDef → List ℕ → List ℕ → List (Option ℕ)
partners_of tasks = all_paired (replicate (length tasks) None)

abbrev pub is_number : Option (Option ℕ) → ℕ → Bool
is_number None j = false
is_number (Some None) j = false
is_number (Some (Some i)) j = i == j

abbrev pub is_partner : List (Option ℕ) → ℕ → ℕ → Bool
is_partner partners k = is_number (slice_get partners k)

-- ---- tasks

abbrev pub same_called : Option TaskDef → Option TaskDef → Bool
same_called None o = false
same_called (Some t) None = false
same_called (Some t) (Some u) = same_task t u

abbrev pub same_partner : List TaskDef → TaskDef → Option ℕ → Bool
same_partner others t None = true
same_partner others t (Some j) = same_called (Some t) (slice_get others j)

-- Each task that has a partner is the same as that.
abbrev pub same_partners : List TaskDef → List TaskDef → List (Option ℕ) → Bool
same_partners others = alike (same_partner others)
