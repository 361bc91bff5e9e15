-- The names of tasks in a bundle.
use Rattle.std.specs.Prelude.{ℕ, zero, suc, ◌+◌, ◌==◌, Bool, true, false, List, [], ◌∷◌, ◌++◌, Option, Some, None, codes, length, map, option_and_then, slice_get, if◌then◌else◌}
use Rattle.std.specs.Fmt.{decimal}
use Rattle.wdl_typed.specs.Lists.{has_name}
use Rattle.wdl_ast.specs.declared.workflow.CallTarget.{CallTarget}
use Rattle.wdl_bundle.specs.declared.reach.Callee.{Callee}
use Rattle.wdl_bundle.specs.declared.reach.Callee.TheVariants as callee
use Rattle.wdl_bundle.specs.Called.{Offer, Reach, Task, callee_of}

abbrev pub Name : Type 0
Name = List ℕ

-- `task_D_K`
unfoldable pub task_name : ℕ → ℕ → Name
task_name doc number = codes "task_" ++ (decimal doc ++ (codes "_" ++ decimal number))

-- `task_D_K_n`
unfoldable pub numbered : ℕ → ℕ → ℕ → Name
numbered doc number n = codes "task_" ++ (decimal doc ++ (codes "_" ++ (decimal number ++ (codes "_" ++ decimal n))))

-- the first free name with a number, from n on; so many are tried. As many as there are taken names always suffice, where
-- `task_D_K` is one of those
abbrev pub free_from : ℕ → List Name → ℕ → ℕ → ℕ → Name
free_from zero taken doc number n = task_name doc number
free_from (suc left) taken doc number n =
    if has_name (numbered doc number n) taken then free_from left taken doc number (n + 1) else numbered doc number n

abbrev pub free_name : List Name → ℕ → ℕ → Name
free_name taken doc number =
    if has_name (task_name doc number) taken then free_from (length taken) taken doc number 0 else task_name doc number

-- a task of document 0 keeps its name
abbrev pub new_name : List Name → Task → Name
new_name taken t = if t.doc == 0 then t.section.name.name else free_name taken t.doc t.number

-- only a task that is called has one
abbrev pub given : List Name → Task → Bool → Option Name
given taken t false = None
given taken t true = Some (new_name taken t)

abbrev pub with_name : List Name → Option Name → List Name
with_name taken None = taken
with_name taken (Some name) = taken ++ name ∷ []

-- the names of tasks that stand from this place on, where these names are taken
abbrev pub names_from : (ℕ → Bool) → List Name → ℕ → List Task → List (Option Name)
names_from is_called taken at [] = []
names_from is_called taken at (t ∷ ts) = given taken t (is_called at) ∷ names_from is_called (with_name taken (given taken t (is_called at))) (at + 1) ts

-- the names that a document gives
abbrev pub own_names : List Offer → List Name
own_names offers = map (λ (o : Offer). o.name) offers

-- ---- the names of calls

abbrev pub name_at : List (Option Name) → ℕ → Option Name
name_at names at = option_and_then (λ (n : Option Name). n) (slice_get names at)

abbrev pub name_of_callee : List (Option Name) → Option Callee → Option Name
name_of_callee names (Some (callee.Task at)) = name_at names at
name_of_callee names o = None

-- the name in the bundle of the task that a call names
abbrev pub name_of : Reach → List (Option Name) → CallTarget → Option Name
name_of r names t = name_of_callee names (callee_of r t)
