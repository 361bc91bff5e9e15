-- What statements cost in the flow, by what their steps need.
use Rattle.std.proofs.Common.{◌≡◌, ◌≤◌, ℕ, ◌+◌, Bool, true, false, cond, ◌&&◌, List, [], ◌∷◌, ◌++◌, map, length, Option, arith, sym, ap, ◌∙◌, subst, refl}
use Rattle.std.specs.List.{list_all}
use Rattle.std.proofs.lemmas.Bool.{and_parts}
use Rattle.wdl_base.specs.declared.place.Segment.{Segment}
use Rattle.wdl_base.specs.declared.place.Segment.TheVariants as segment
use Rattle.wdl_value.specs.declared.env.Bind.{Bind}
use Rattle.wdl_value.specs.declared.value.Value.{Value}
use Rattle.wdl_value.specs.Outcome.{Outcome}
use Rattle.wdl_value.specs.Parts.{bool_in, items_in}
use Rattle.wdl_value.specs.Tables.{Row}
use Rattle.wdl_typed.specs.declared.expr.TExpr.{TExpr}
use Rattle.wdl_typed.specs.declared.expr.TField.{TField}
use Rattle.wdl_typed.specs.declared.flow.Statement.{Statement, Statement-F, fold-Statement, fold_out-Statement, fold-roll-Statement, ind-Statement, map-Statement, out-Statement, roll-Statement}
use Rattle.wdl_typed.specs.declared.flow.Statement.TheOpen as layer
use Rattle.wdl_typed.specs.declared.flow.Statement.TheVariants as stmt
use Rattle.wdl_typed.specs.declared.flow.TCall.{TCall}
use Rattle.wdl_typed.specs.declared.flow.TIf.{TIf}
use Rattle.wdl_typed.specs.declared.flow.TScatter.{TScatter}
use Rattle.wdl_typed.specs.Bodies.{Library}
use Rattle.wdl_typed.specs.Flow.{Callee, Ended, Known, Part, Run, Sight, all_known, args_known, args_met, env_of, has_ended, run_of_part, seeing, statement_step}
use Rattle.wdl_typed.specs.Journal.{keys_distinct}
use Rattle.wdl_typed.specs.Requests.{Tried}
use Rattle.wdl_typed.specs.Scope.{names_of}
use Rattle.flow_laws.specs.Laws.{run_with}
use Rattle.net_laws.specs.Net.{Cells, Given, Mark, Scope, Slot, Work, beyond, ended_in, flowing_of, known_in, sight_of, slot_keys}
use Rattle.net_laws.specs.Rules.{Needs, arg_keys, head}
use Rattle.net_laws.specs.Cost.{CalleeCost, Cost, Priced, TaskCost, args_cost, called_cost, chosen_cost, cost_in_turn, cost_step, items_cost, met_cost, one_if, part_of as priced_part, priced_step, run_of, value_cost}
use Rattle.net_laws.specs.Planned.{CallNeeds, part_of}
use Rattle.net_laws.proofs.Lookups.{agree, all_ended_needed}
use Rattle.net_laws.proofs.Local.{args_known_same, args_met_same}
use Rattle.net_laws.proofs.Shown.{head_same, on_head, sight_beyond}

module _ (cells : Cells) (lib : Library) (site : List ℕ) (table : List Row) (callee : Callee) (task : TaskCost) (price : CalleeCost) where
  abbrev pub here : Run
  here = run_with lib site table

  abbrev pub part : Statement → Part
  part = part_of here callee

  abbrev pub priced : Statement → Priced
  priced = fold-Statement Priced (priced_step here task callee price)

  -- ---- the priced statement is the statement

  abbrev pub Holds : Statement → Type 0
  Holds st = priced_part (priced st) ≡ part st

  abbrev Both : Type 0
  Both = (st : Statement) × Holds st

  abbrev plain : Statement-F Both → Statement-F Statement
  plain = map-Statement Both Statement (λ (k : Both). k.0)

  abbrev firsts : List Both → List Statement
  firsts = map (λ (k : Both). k.0)

  parts_same : (ks : List Both) → map priced_part (map priced (firsts ks)) ≡ map part (firsts ks)
  parts_same [] = refl
  parts_same (k ∷ ks) = ap (λ (p : Part). p ∷ map priced_part (map priced (firsts ks))) k.1 ∙ ap (λ (ps : List Part). part k.0 ∷ ps) (parts_same ks)

  layer_same : (y : Statement-F Both) → map-Statement Priced Part priced_part (map-Statement Statement Priced priced (plain y)) ≡ map-Statement Statement Part part (plain y)
  layer_same (layer.Decl d) = refl
  layer_same (layer.Call c) = refl
  layer_same (layer.Scatter b) = ap (λ (ps : List Part). layer.Scatter (record { number = b.number; item = b.item; over = b.over; body = ps; span = b.span })) (parts_same b.body)
  layer_same (layer.If b) = ap (λ (ps : List Part). layer.If (record { number = b.number; cond = b.cond; body = ps; span = b.span })) (parts_same b.body)

  pub same_part : (st : Statement) → Holds st
  same_part = ind-Statement Holds (λ x y is. subst (λ (z : Statement-F Statement). Holds (roll-Statement z)) is
      (ap priced_part (fold-roll-Statement Priced (priced_step here task callee price) (plain y))
      ∙ ap (statement_step here callee) (layer_same y)
      ∙ sym (fold-roll-Statement Part (statement_step here callee) (plain y))))

  pub price_is : (st : Statement) (y : Statement-F Statement) → out-Statement st ≡ y → (s : Sight) → (priced st).cost s ≡ cost_step lib task price (map-Statement Statement Priced priced y) s
  price_is st y e s =
      ap (λ (p : Priced). p.cost s) (fold_out-Statement Priced (priced_step here task callee price) st)
      ∙ ap (λ (z : Statement-F Statement). cost_step lib task price (map-Statement Statement Priced priced z) s) e

  -- ---- what the steps evaluate

  abbrev pub call_test : TCall → List Known → List Ended → Bool
  call_test c ks cs = args_known ks c.args && list_all (has_ended cs) c.after

  abbrev pub inner_cost : TCall → List Segment → List Known → ℕ
  inner_cost c place ks = met_cost (called_cost lib task price place c.target) (args_met (env_of ks) c.args)

  -- the arguments, and what the task or the workflow evaluates, once the call's needs are there
  abbrev pub call_spent : Scope → TCall → List Slot → List Mark → ℕ
  call_spent s c ns ms =
      cond (call_test c (map (known_in cells) ns) (map (ended_in cells) ms)) (length c.args + inner_cost c (s.place ++ segment.Call c.name ∷ []) (map (known_in cells) ns)) 0

  abbrev pub bodies : List Statement → Cost
  bodies ss = cost_in_turn (map priced ss)

  -- ---- calls

  counted_args : (s : Sight) (as_ : List (TField TExpr)) → args_known s.names as_ ≡ true → args_cost as_ s ≡ length as_
  counted_args s [] h = refl
  counted_args s (a ∷ as_) h =
      let p = and_parts (all_known s.names a.value) (args_known s.names as_) h in
      let rest : args_cost as_ s ≡ length as_ = counted_args s as_ p.1 in
      ap (λ b. one_if b + args_cost as_ s) p.0 ∙ omega (arith, rest)

  pub guarded : (b : Bool) (a n m : ℕ) → (b ≡ true → a ≡ n) → cond b (n + m) 0 ≤ a + cond b m 0
  guarded true a n m h = let e : a ≡ n = h refl in omega (arith, e)
  guarded false a n m h = omega arith

  pub call_within : (c : TCall) (s : Scope) (ns : List Slot) (ms : List Mark) → keys_distinct (slot_keys s.names) ≡ true → CallNeeds s c ns ms
      → call_spent s c ns ms ≤ (priced (stmt.Call c)).cost (sight_of cells s)
  call_within c s ns ms distinct needs =
      subst (λ n. call_spent s c ns ms ≤ n) (sym (price_is (stmt.Call c) (layer.Call c) (stmt.outs-Call c) (sight_of cells s)))
      (subst (λ (b : Bool). cond b (length c.args + inner_cost c place ls) 0 ≤ args_cost c.args (sight_of cells s) + cond (call_test c ks cs) (inner_cost c place ks) 0) tests
      (subst (λ (m : ℕ). cond (call_test c ks cs) (length c.args + m) 0 ≤ args_cost c.args (sight_of cells s) + cond (call_test c ks cs) (inner_cost c place ks) 0) inners
      (guarded (call_test c ks cs) (args_cost c.args (sight_of cells s)) (length c.args) (inner_cost c place ks)
      (λ t. counted_args (sight_of cells s) c.args (and_parts (args_known ks c.args) (list_all (has_ended cs) c.after) t).0))))
    where
      ks : List Known
      ks = map (known_in cells) s.names

      ls : List Known
      ls = map (known_in cells) ns

      cs : List Ended
      cs = map (ended_in cells) s.calls

      place : List Segment
      place = s.place ++ segment.Call c.name ∷ []

      tests : call_test c ks cs ≡ call_test c ls (map (ended_in cells) ms)
      tests =
          ap (λ b. b && list_all (has_ended cs) c.after) (args_known_same ks ls c.args (agree cells s.names ns distinct needs.names.resolved (arg_keys c.args) needs.names.all))
          ∙ ap (λ b. args_known ls c.args && b) (all_ended_needed cells s.calls ms needs.calls c.after needs.after)

      inners : inner_cost c place ks ≡ inner_cost c place ls
      inners = ap (λ (r : Tried (List Bind)). met_cost (called_cost lib task price place c.target) r) (args_met_same ks ls c.args (agree cells s.names ns distinct needs.names.resolved (arg_keys c.args) needs.names.all))

  -- ---- blocks

  pub scatter_price : (b : TScatter Statement) (s : Scope) (ns : List Slot) → keys_distinct (slot_keys s.names) ≡ true → Needs s (names_of b.over) ns
      → (priced (stmt.Scatter b)).cost (sight_of cells s) ≡ on_head cells (λ (r : Outcome Value). 1 + value_cost (λ x. items_cost (bodies b.body) (sight_of cells s) b.number b.item 0 (items_in x)) r) 0 (head cells ns b.over)
  scatter_price b s ns distinct needs =
      price_is (stmt.Scatter b) (layer.Scatter b) (stmt.outs-Scatter b) (sight_of cells s)
      ∙ head_same cells (λ (r : Outcome Value). 1 + value_cost (λ x. items_cost (bodies b.body) (sight_of cells s) b.number b.item 0 (items_in x)) r) 0 s distinct b.over ns needs

  pub if_price : (b : TIf Statement) (s : Scope) (ns : List Slot) → keys_distinct (slot_keys s.names) ≡ true → Needs s (names_of b.cond) ns
      → (priced (stmt.If b)).cost (sight_of cells s) ≡ on_head cells (λ (r : Outcome Value). 1 + value_cost (λ x. chosen_cost (bodies b.body) (sight_of cells s) b.number (bool_in x)) r) 0 (head cells ns b.cond)
  if_price b s ns distinct needs =
      price_is (stmt.If b) (layer.If b) (stmt.outs-If b) (sight_of cells s)
      ∙ head_same cells (λ (r : Outcome Value). 1 + value_cost (λ x. chosen_cost (bodies b.body) (sight_of cells s) b.number (bool_in x)) r) 0 s distinct b.cond ns needs

  pub at_head : (F : Outcome Value → ℕ) (n : ℕ) (o p : Option (Outcome Value)) (total : ℕ) → total ≡ on_head cells F 0 o → o ≡ p → n ≤ on_head cells F 0 p → n ≤ total
  at_head F n o p total e is h = subst (λ m. n ≤ m) (sym (e ∙ ap (on_head cells F 0) is)) h

  pub next_sight : (st : Statement) (s : Scope) (g : Given) (w : Work) → run_of_part (part st) (sight_of cells s) ≡ flowing_of cells g w
      → seeing (sight_of cells s) (run_of (priced st) (sight_of cells s)) ≡ sight_of cells (beyond s g)
  next_sight st s g w p =
      ap (seeing (sight_of cells s)) (ap (λ (q : Part). q.run (sight_of cells s)) (same_part st) ∙ p) ∙ sym (sight_beyond cells s g w)

  pub sums : (a b c d : ℕ) → a ≤ c → b ≤ d → a + b ≤ c + d
  sums a b c d h j = omega (arith, h, j)

  pub more : (a b : ℕ) → a ≤ b → 1 + a ≤ 1 + b
  more a b h = omega (arith, h)
