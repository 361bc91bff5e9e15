-- Over its needs a call gives what it gives over any other list of needs.
use Rattle.std.proofs.Common.{◌≡◌, ◌⊎◌, inl, inr, ℕ, ◌+◌, Bool, true, cond, List, [], ◌∷◌, ◌++◌, length, map, Some, Err, slice_get, ap, sym, ◌∙◌}
use Rattle.std.specs.List.{list_all}
use Rattle.wdl_base.specs.declared.place.Segment.{Segment}
use Rattle.wdl_base.specs.declared.place.Segment.TheVariants as segment
use Rattle.wdl_value.specs.declared.env.Bind.{Bind}
use Rattle.wdl_value.specs.Tables.{Row}
use Rattle.wdl_typed.specs.declared.flow.TCall.{TCall}
use Rattle.wdl_typed.specs.declared.flow.Target.TheVariants as target
use Rattle.wdl_typed.specs.declared.task.TaskDef.{TaskDef}
use Rattle.wdl_typed.specs.Bodies.{Library}
use Rattle.wdl_typed.specs.Flow.{Known, args_known, args_met, call_of, env_of, flow, has_ended}
use Rattle.wdl_typed.specs.Requests.{Failing, Tried}
use Rattle.flow_laws.specs.Laws.{run_with}
use Rattle.value_net.specs.Nets.{value_at}
use Rattle.net_laws.specs.Cost.{TaskCost, called_cost, flow_cost, met_cost}
use Rattle.net_laws.specs.Growing.{CallNeeded, IsPlain, are_set}
use Rattle.net_laws.specs.Net.{Given, Scope, Slot, Mark, Work, ended_in, known_in}
use Rattle.net_laws.specs.Planned.{ArgsMet, CallNeeds, call_names}
use Rattle.net_laws.specs.Rules.{Follows, arg_keys}
use Rattle.net_laws.specs.Works.{asked_count}
use Rattle.net_laws.proofs.Calls.{price_same}
use Rattle.net_laws.proofs.Leaves.{call_ready}
use Rattle.net_laws.proofs.Local.{args_known_same, args_met_same, call_same}
use Rattle.net_laws.proofs.Lookups.{agree, all_ended_needed}
use Rattle.net_laws.proofs.Shown.{shows_call}
use Rattle.plan_moves.specs.Laws.{TellsCall, asked_cost}
use Rattle.plan_moves.specs.Sheets.{Sheet, needs_in, rules_of, state_of}

module _ (v : Sheet) (x : TCall) (s : Scope) (slots : List Slot) (marks : List Mark) (needs : CallNeeds s x slots marks) (t : ℕ) (owners : List ℕ) (n : CallNeeded (state_of v owners) t s x) where
  abbrev here : List Known
  here = map (known_in (value_at v.values)) s.names

  abbrev own : List Known
  own = map (known_in (value_at v.values)) n.slots

  abbrev other : List Known
  other = map (known_in (value_at v.values)) slots

  known_on : args_known own x.args ≡ args_known other x.args
  known_on =
      sym (args_known_same here own x.args (agree (value_at v.values) s.names n.slots n.distinct n.needs.names.resolved (arg_keys x.args) n.needs.names.all))
      ∙ args_known_same here other x.args (agree (value_at v.values) s.names slots n.distinct needs.names.resolved (arg_keys x.args) needs.names.all)

  ended_on : list_all (has_ended (map (ended_in (value_at v.values)) n.marks)) x.after ≡ list_all (has_ended (map (ended_in (value_at v.values)) marks)) x.after
  ended_on = sym (all_ended_needed (value_at v.values) s.calls n.marks n.needs.calls x.after n.needs.after) ∙ all_ended_needed (value_at v.values) s.calls marks needs.calls x.after needs.after

  pub args_on : args_met (env_of own) x.args ≡ args_met (env_of other) x.args
  args_on =
      sym (args_met_same here own x.args (agree (value_at v.values) s.names n.slots n.distinct n.needs.names.resolved (arg_keys x.args) n.needs.names.all))
      ∙ args_met_same here other x.args (agree (value_at v.values) s.names slots n.distinct needs.names.resolved (arg_keys x.args) needs.names.all)

  pub met_on : (args : List Bind) → ArgsMet (value_at v.values) x slots marks args → ArgsMet (value_at v.values) x n.slots n.marks args
  met_on args m = record { known = known_on ∙ m.known; ended = ended_on ∙ m.ended; met = args_on ∙ m.met }

module _ (lib : Library) (site : List ℕ) (rows : List Row) (v : Sheet) (x : TCall) (s : Scope) (g : Given) (w : Work) (h : TellsCall lib site rows v x s g w) (t : ℕ) (owners : List ℕ) (n : CallNeeded (state_of v owners) t s x) where
  pub follows_on : (depth : ℕ) → Follows (value_at v.values) s.place n.slots n.marks (call_of (run_with lib site rows) (flow (run_with lib site rows) depth) (call_names lib x) x) g w
  follows_on depth =
      sym (call_same lib site rows (flow (run_with lib site rows) depth) (call_names lib x) x s.place (map (known_in (value_at v.values)) s.names) (map (known_in (value_at v.values)) n.slots)
      (map (ended_in (value_at v.values)) s.calls) (map (ended_in (value_at v.values)) n.marks) (agree (value_at v.values) s.names n.slots n.distinct n.needs.names.resolved (arg_keys x.args) n.needs.names.all)
      (all_ended_needed (value_at v.values) s.calls n.marks n.needs.calls x.after n.needs.after))
      ∙ shows_call (value_at v.values) s n.distinct lib site rows (flow (run_with lib site rows) depth) (call_names lib x) x h.slots h.marks h.needs.names h.needs.calls h.needs.after g w (h.follows depth)

  pub plain_on : IsPlain lib site rows (rules_of v) (state_of v owners) x n.slots
  plain_on = go h.plain
    where
      go : ((k : ℕ) × (y : TaskDef) × (x.target ≡ target.Task k) × (slice_get lib.tasks k ≡ Some y)) ⊎ ((e : Failing) × (args_met (env_of (map (known_in (value_at v.values)) h.slots)) x.args ≡ Err e))
          → IsPlain lib site rows (rules_of v) (state_of v owners) x n.slots
      go (inl p) = inl p
      go (inr p) = inr (p.0, args_on v x s h.slots h.marks h.needs t owners n ∙ p.1)

  -- What it evaluates does not depend on the lists, nor on other workflows.
  pub cost_on : (task : TaskCost) (depth : ℕ) → are_set (state_of v owners) (needs_in (slice_get v.steps t)) ≡ true
      → asked_count lib site rows (rules_of v) (state_of v owners) task depth s x n.slots n.marks ≡ asked_cost lib task v x s h.slots
  cost_on task depth set =
      ap (λ (b : Bool). cond b (length x.args + met_cost (called_cost lib task (flow_cost (run_with lib site rows) task depth) place x.target) (args_met (env_of (map (known_in (value_at v.values)) n.slots)) x.args)) 0)
      (call_ready (state_of v owners) t s x n set)
      ∙ ap (λ (c : ℕ). length x.args + c)
      (price_same lib task (flow_cost (run_with lib site rows) task depth) (λ k given place. 0) place x (args_met (env_of (map (known_in (value_at v.values)) n.slots)) x.args) plain_on)
      ∙ ap (λ (o : Tried (List Bind)). length x.args + met_cost (called_cost lib task (λ k given place. 0) place x.target) o) (args_on v x s h.slots h.marks h.needs t owners n)
    where
      place : List Segment
      place = s.place ++ segment.Call x.name ∷ []
