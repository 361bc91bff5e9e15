-- Where at most n blocks and calls stand on one path, flows are the same at every depth above n: by induction on n.
use Rattle.std.proofs.Common.{◌≡◌, ℕ, zero, suc, ◌≤◌, Bool, true, ◌&&◌, if◌then◌else◌, List, [], ◌∷◌, map, Option, Some, None, Ok, Err, slice_get, arith, sym, ap, ◌∙◌, refl}
use Rattle.std.specs.List.{list_all}
use Rattle.std.proofs.lemmas.Bool.{and_parts}
use Rattle.wdl_base.specs.declared.place.Segment.{Segment}
use Rattle.wdl_value.specs.declared.env.Bind.{Bind}
use Rattle.wdl_typed.specs.declared.flow.FlowDef.{FlowDef}
use Rattle.wdl_typed.specs.declared.flow.Statement.{Statement, Statement-F, fold-Statement, fold_out-Statement, map-Statement, out-Statement}
use Rattle.wdl_typed.specs.declared.flow.Statement.TheOpen as layer
use Rattle.wdl_typed.specs.declared.flow.TCall.{TCall}
use Rattle.wdl_typed.specs.declared.flow.Target.{Target}
use Rattle.wdl_typed.specs.declared.flow.Target.TheVariants as target
use Rattle.wdl_typed.specs.Bodies.{Library, body_gives, body_nests, flow_nests, is_decl, is_numbered, items_differ, nests, nests_at, signature, target_nests}
use Rattle.wdl_typed.specs.Declarations.{inputs_typed}
use Rattle.wdl_typed.specs.Flow.{Callee, Flowing, Names, Part, Run, Sight, args_known, args_met, beginning, body_names, body_run, call_of, call_place, called, env_of, flow, flow_at, flow_called, flow_ended, flow_run, has_ended, if_run, in_turn, inputs, missing, outputs, part, scatter_run, signature_keys, statement_step, with_args}
use Rattle.wdl_typed.specs.Kept.{flow_names, flow_typed, inputs_seen, is_checked, outputs_typed}
use Rattle.wdl_typed.specs.Lists.{are_distinct}
use Rattle.wdl_typed.specs.Requests.{Tried}
use Rattle.flow_laws.specs.Laws.{run_with}
use Rattle.flow_laws.proofs.Checked.{kept}
use Rattle.depth_laws.specs.Laws.{DepthsAgree, WholeIsDeepest}
use Rattle.wdl_base.proofs.Options.{all_at}

module _ (r : Run) where
  -- what a statement gives, where workflows that it calls are taken to a depth
  abbrev parts : ℕ → Statement → Part
  parts d = fold-Statement Part (statement_step r (flow r d))

  abbrev nesting : ℕ → List Statement → Bool
  nesting = body_nests r.library.flows

  -- From depth n on statements with so many blocks and calls on a path are the same.
  abbrev OneSame : ℕ → Type 0
  OneSame n = (d e : ℕ) → n ≤ d → n ≤ e → (s : Statement) → nests r.library.flows n (out-Statement s) ≡ true → parts d s ≡ parts e s

  all_same : (n : ℕ) → OneSame n → (d e : ℕ) → n ≤ d → n ≤ e → (ss : List Statement) → nesting n ss ≡ true → map (parts d) ss ≡ map (parts e) ss
  all_same n one d e below under [] h = refl
  all_same n one d e below under (s ∷ ss) h =
      let p = and_parts (nests r.library.flows n (out-Statement s)) (nesting n ss) h in
      ap (λ (x : Part). x ∷ map (parts d) ss) (one d e below under s p.0) ∙ ap (λ (xs : List Part). parts e s ∷ xs) (all_same n one d e below under ss p.1)

  -- ---- workflows

  run_same : (n : ℕ) → OneSame n → (d e : ℕ) → n ≤ d → n ≤ e → (f : FlowDef) (given : List Bind) (place : List Segment) → nesting n f.body ≡ true
      → flow_run r (flow r d) f given (beginning place) ≡ flow_run r (flow r e) f given (beginning place)
  run_same n one d e below under f given place h =
      ap (λ (ps : List Part). in_turn (inputs given f.inputs ∷ body_run ps ∷ outputs f.outputs ∷ []) (beginning place)) (all_same n one d e below under f.body h)

  at_same : (n : ℕ) → OneSame n → (d e : ℕ) → n ≤ d → n ≤ e → (o : Option FlowDef) (given : List Bind) (place : List Segment)
      → ((f : FlowDef) → o ≡ Some f → nesting n f.body ≡ true) → flow_at r (flow r d) o given place ≡ flow_at r (flow r e) o given place
  at_same n one d e below under None given place h = refl
  at_same n one d e below under (Some f) given place h = run_same n one d e below under f given place (h f refl)

  -- ---- calls

  flow_called_same : (f g : Callee) (n : Names) (place : List Segment) (call : List ℕ) (args : List Bind) (k : ℕ) (o : Option FlowDef) → f k args place ≡ g k args place
      → flow_called f n place call args k o ≡ flow_called g n place call args k o
  flow_called_same f g n place call args k None h = refl
  flow_called_same f g n place call args k (Some w) h = ap (flow_ended call w.outputs) h

  called_same : (n : ℕ) → OneSame n → (d e : ℕ) → n ≤ d → n ≤ e → (m : Names) (place : List Segment) (c : TCall) (args : List Bind) (t : Target)
      → target_nests (nesting n) r.library.flows t ≡ true → called r (flow r (suc d)) m place c args t ≡ called r (flow r (suc e)) m place c args t
  called_same n one d e below under m place c args (target.Task k) h = refl
  called_same n one d e below under m place c args (target.Flow k) h =
      flow_called_same (flow r (suc d)) (flow r (suc e)) m place c.name args k (slice_get r.library.flows k)
      (at_same n one d e below under (slice_get r.library.flows k) args place (body_of (slice_get r.library.flows k) h))
    where
      body_of : (o : Option FlowDef) → flow_nests (nesting n) o ≡ true → (f : FlowDef) → o ≡ Some f → nesting n f.body ≡ true
      body_of None i f g = cc
      body_of (Some w) i f g = let same : w ≡ f = cc in ap (λ (x : FlowDef). nesting n x.body) (sym same) ∙ i

  args_same : (n : ℕ) → OneSame n → (d e : ℕ) → n ≤ d → n ≤ e → (m : Names) (place : List Segment) (c : TCall) (args : Tried (List Bind))
      → target_nests (nesting n) r.library.flows c.target ≡ true → with_args r (flow r (suc d)) m place c args ≡ with_args r (flow r (suc e)) m place c args
  args_same n one d e below under m place c (Ok args) h = called_same n one d e below under m place c args c.target h
  args_same n one d e below under m place c (Err x) h = refl

  call_same : (n : ℕ) → OneSame n → (d e : ℕ) → n ≤ d → n ≤ e → (m : Names) (c : TCall) → target_nests (nesting n) r.library.flows c.target ≡ true
      → (s : Sight) → call_of r (flow r (suc d)) m c s ≡ call_of r (flow r (suc e)) m c s
  call_same n one d e below under m c h s =
      ap (λ (x : Flowing). if args_known s.names c.args && list_all (has_ended s.calls) c.after then x else missing m)
      (args_same n one d e below under m (call_place s c.name) c (args_met (env_of s.names) c.args) h)

  -- ---- statements

  layer_same : (n : ℕ) → OneSame n → (d e : ℕ) → n ≤ d → n ≤ e → (y : Statement-F Statement) → nests_at (nesting n) r.library.flows y ≡ true
      → statement_step r (flow r (suc d)) (map-Statement Statement Part (parts (suc d)) y) ≡ statement_step r (flow r (suc e)) (map-Statement Statement Part (parts (suc e)) y)
  layer_same n one d e below under (layer.Decl x) h = refl
  layer_same n one d e below under (layer.Call c) h =
      let m : Names = record { keys = signature_keys c.name (signature r.library c.target); calls = c.name ∷ [] } in
      ap (part m) (λ i s. call_same n one d e below under m c h s i)
  layer_same n one d e below under (layer.Scatter x) h =
      ap (λ (ps : List Part). part (body_names ps) (scatter_run (body_names ps) (body_run ps) x.number x.item x.over))
      (all_same n one (suc d) (suc e) (omega (arith, below)) (omega (arith, under)) x.body h)
  layer_same n one d e below under (layer.If x) h =
      ap (λ (ps : List Part). part (body_names ps) (if_run (body_names ps) (body_run ps) x.number x.cond))
      (all_same n one (suc d) (suc e) (omega (arith, below)) (omega (arith, under)) x.body h)

  decl_same : (d e : ℕ) (y : Statement-F Statement) → is_decl y ≡ true
      → statement_step r (flow r d) (map-Statement Statement Part (parts d) y) ≡ statement_step r (flow r e) (map-Statement Statement Part (parts e) y)
  decl_same d e (layer.Decl x) h = refl
  decl_same d e (layer.Call c) h = cc
  decl_same d e (layer.Scatter x) h = cc
  decl_same d e (layer.If x) h = cc

  one_same : (n : ℕ) → OneSame n
  unfolding nests
  one_same zero d e below under s h =
      fold_out-Statement Part (statement_step r (flow r d)) s
      ∙ decl_same d e (out-Statement s) h
      ∙ sym (fold_out-Statement Part (statement_step r (flow r e)) s)
  one_same (suc n) zero e below under s h = absurd (omega (arith, below))
  one_same (suc n) (suc d) zero below under s h = absurd (omega (arith, under))
  one_same (suc n) (suc d) (suc e) below under s h =
      fold_out-Statement Part (statement_step r (flow r (suc d))) s
      ∙ layer_same n (one_same n) d e (omega (arith, below)) (omega (arith, under)) (out-Statement s) h
      ∙ sym (fold_out-Statement Part (statement_step r (flow r (suc e))) s)

  pub flow_same : (n m d : ℕ) → n ≤ m → n ≤ d → (k : ℕ) (given : List Bind) (place : List Segment)
      → ((f : FlowDef) → slice_get r.library.flows k ≡ Some f → nesting n f.body ≡ true) → flow r (suc m) k given place ≡ flow r (suc d) k given place
  flow_same n m d below under k given place h = at_same n (one_same n) m d below under (slice_get r.library.flows k) given place h

-- ---- checked forms

body_kept : (lib : Library) (f : FlowDef) → flow_typed lib f ≡ true → body_nests lib.flows 24 f.body ≡ true
body_kept lib f h =
    let names = are_distinct (flow_names f) && items_differ f.body (flow_names f) && is_numbered f.body in
    let a = and_parts (names && body_nests lib.flows 24 f.body && inputs_typed lib.structs [] f.inputs) (outputs_typed lib.structs f (body_gives lib f.body (inputs_seen f))) h in
    let b = and_parts (names && body_nests lib.flows 24 f.body) (inputs_typed lib.structs [] f.inputs) a.0 in
    (and_parts names (body_nests lib.flows 24 f.body) b.0).1

bodies_kept : (lib : Library) (main : Option ℕ) → is_checked lib main ≡ true → (k : ℕ) (f : FlowDef) → slice_get lib.flows k ≡ Some f → body_nests lib.flows 24 f.body ≡ true
bodies_kept lib main h k f e = body_kept lib f (all_at (flow_typed lib) lib.flows k f (kept lib main h).flows e)

pub depths_agree : DepthsAgree
depths_agree lib main h site table zero n k given place a b = absurd (omega (arith, a))
depths_agree lib main h site table (suc m) zero k given place a b = absurd (omega (arith, b))
depths_agree lib main h site table (suc m) (suc n) k given place a b =
    flow_same (run_with lib site table) 24 m n (omega (arith, a)) (omega (arith, b)) k given place (bodies_kept lib main h k)

pub whole_is_deepest : WholeIsDeepest
whole_is_deepest lib main h site table n k given a = depths_agree lib main h site table 25 n k given [] (omega arith) a
