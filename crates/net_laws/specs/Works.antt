-- What a growing net comes to: its work (requests, their statuses of success, faults, waits and counts), leaf by leaf, and how many expressions its taken steps evaluated.
use Rattle.std.proofs.Common.{inl, inr}
use Rattle.std.specs.Prelude.{ℕ, ◌+◌, ◌&&◌, List, [], ◌∷◌, ◌++◌, length, map, codes, if◌then◌else◌}
use Rattle.std.specs.List.{list_all}
use Rattle.wdl_base.specs.declared.fault.Fault.{Fault}
use Rattle.wdl_base.specs.declared.place.Segment.TheVariants as segment
use Rattle.wdl_value.specs.Tables.{Row}
use Rattle.wdl_typed.specs.declared.expr.TExpr.{TExpr}
use Rattle.wdl_typed.specs.declared.flow.TCall.{TCall}
use Rattle.wdl_typed.specs.Bodies.{Library}
use Rattle.wdl_typed.specs.Flow.{args_known, args_met, env_of, fault_at, has_ended}
use Rattle.flow_laws.specs.Laws.{run_with}
use Rattle.net_laws.specs.Net.{Mark, Scope, Slot, Work, both_works, ended_in, known_in, no_work}
use Rattle.net_laws.specs.Cost.{CalleeCost, TaskCost, called_cost, flow_cost, met_cost}
use Rattle.net_laws.specs.Planned.{counted}
use Rattle.net_laws.specs.Growing.{Declared, Form, Growing, Rule, State, absent_input, default_input, each_scatter, failed_if, failed_scatter, false_if, flow_whole, given_input, item_next, left_call, left_decl, left_if, left_scatter, next, no_input, no_item, no_output, none_left, output_next, run_call, told_call, told_decl, true_if}

abbrev pub faulty : Fault → Work
faulty f = record { jobs = []; codes = []; faults = f ∷ []; waits = []; count = 0 }

module _ (lib : Library) (site : List ℕ) (table : List Row) (desc : ℕ → Rule → Type 0) (st : State) where
  abbrev pub told_work : (name : List ℕ) (e : TExpr) (s : Scope) (c : ℕ) → Declared lib site table desc st name e s c → Work
  told_work name e s c (t, n, inl p) = no_work
  told_work name e s c (t, n, inr p) = p.work

  abbrev pub work_of : {depth : ℕ} {f : Form} → Growing lib site table desc st depth f → Work
  work_of (none_left depth s) = no_work
  work_of (next depth x xs s g h d ds p q) = both_works (work_of p) (work_of q)
  work_of (left_decl depth x s c t left n k) = no_work
  work_of (left_call depth x s g d t left n is ends k) = no_work
  work_of (left_scatter depth x s g d t left n outside k) = no_work
  work_of (left_if depth x s g d t left n outside k) = no_work
  work_of (told_decl depth x s c t w taken n set own follows) = w
  work_of (told_call depth x s g d t w taken n set is ends own plain follows) = w
  work_of (run_call depth x s g h d t ds taken n set k is f found args met names ends distinct p copied ended) = work_of p
  work_of (failed_scatter depth x s g d t c taken n set e outside k) = faulty (fault_at (s.place ++ segment.Scatter x.number ∷ []) x.item c)
  work_of (each_scatter depth x s g d t y qs taken n set e outside p names calls ended) = work_of p
  work_of (failed_if depth x s g d t c taken n set e outside k) = faulty (fault_at (s.place ++ segment.If x.number ∷ []) (codes "if") c)
  work_of (false_if depth x s g d t y taken n set e off outside own same done) = no_work
  work_of (true_if depth x s g h d t ds y taken n set e on outside p names calls ended) = counted (length x.body) (work_of p)
  work_of (no_item depth xs s k item i) = no_work
  work_of (item_next depth xs s k item i cell y ys g ds qs is p q) = both_works (counted (length xs) (work_of p)) (work_of q)
  work_of (no_input depth given s) = no_work
  work_of (given_input depth given i is s h c y e found p) = both_works no_work (work_of p)
  work_of (absent_input depth given i is s h c e lacking found p) = both_works no_work (work_of p)
  work_of (default_input depth given i is s h c e lacking some d p) = both_works (told_work i.name e s c d) (work_of p)
  work_of (no_output depth s) = no_work
  work_of (output_next depth x xs s h c d p) = both_works (told_work x.name x.value s c d) (work_of p)
  work_of (flow_whole depth f given place i b o ds p q r) = both_works (work_of p) (both_works (counted (length f.body) (work_of q)) (both_works (work_of r) no_work))

  -- ---- expressions

  abbrev pub told_count : (name : List ℕ) (e : TExpr) (s : Scope) (c : ℕ) → Declared lib site table desc st name e s c → ℕ
  told_count name e s c (t, n, inl p) = 0
  told_count name e s c (t, n, inr p) = 1

  -- the arguments, and what the task evaluates, once the call's needs are there
  abbrev pub call_count : TaskCost → CalleeCost → Scope → TCall → List Slot → List Mark → ℕ
  call_count task price s x ns ms =
      if args_known (map (known_in st.cells) ns) x.args && list_all (has_ended (map (ended_in st.cells) ms)) x.after
      then length x.args + met_cost (called_cost lib task price (s.place ++ segment.Call x.name ∷ []) x.target) (args_met (env_of (map (known_in st.cells) ns)) x.args) else 0

  abbrev pub asked_count : TaskCost → ℕ → Scope → TCall → List Slot → List Mark → ℕ
  asked_count task depth s x ns ms = call_count task (flow_cost (run_with lib site table) task depth) s x ns ms

  -- what the taken steps evaluate: a step whose expression was evaluated counts once
  abbrev pub evaluated : TaskCost → {depth : ℕ} {f : Form} → Growing lib site table desc st depth f → ℕ
  evaluated task (none_left depth s) = 0
  evaluated task (next depth x xs s g h d ds p q) = evaluated task p + evaluated task q
  evaluated task (left_decl depth x s c t left n k) = 0
  evaluated task (left_call depth x s g d t left n is ends k) = 0
  evaluated task (left_scatter depth x s g d t left n outside k) = 0
  evaluated task (left_if depth x s g d t left n outside k) = 0
  evaluated task (told_decl depth x s c t w taken n set own follows) = 1
  evaluated task (told_call depth x s g d t w taken n set is ends own plain follows) = asked_count task depth s x n.slots n.marks
  evaluated task (run_call depth x s g h d t ds taken n set k is f found args met names ends distinct p copied ended) = length x.args + evaluated task p
  evaluated task (failed_scatter depth x s g d t c taken n set e outside k) = 1
  evaluated task (each_scatter depth x s g d t y qs taken n set e outside p names calls ended) = 1 + evaluated task p
  evaluated task (failed_if depth x s g d t c taken n set e outside k) = 1
  evaluated task (false_if depth x s g d t y taken n set e off outside own same done) = 1
  evaluated task (true_if depth x s g h d t ds y taken n set e on outside p names calls ended) = 1 + evaluated task p
  evaluated task (no_item depth xs s k item i) = 0
  evaluated task (item_next depth xs s k item i cell y ys g ds qs is p q) = evaluated task p + evaluated task q
  evaluated task (no_input depth given s) = 0
  evaluated task (given_input depth given i is s h c y e found p) = evaluated task p
  evaluated task (absent_input depth given i is s h c e lacking found p) = evaluated task p
  evaluated task (default_input depth given i is s h c e lacking some d p) = told_count i.name e s c d + evaluated task p
  evaluated task (no_output depth s) = 0
  evaluated task (output_next depth x xs s h c d p) = told_count x.name x.value s c d + evaluated task p
  evaluated task (flow_whole depth f given place i b o ds p q r) = evaluated task p + (evaluated task q + evaluated task r)
