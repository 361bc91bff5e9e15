-- Calls stand no deeper than their body nests, and what they call nests less.
use Rattle.std.proofs.Common.{◌≡◌, ℕ, zero, suc, ◌<◌, true, List, [], ◌∷◌, Some, slice_get, arith, sym, ap, ◌∙◌, subst}
use Rattle.std.proofs.lemmas.Bool.{and_parts}
use Rattle.wdl_typed.specs.declared.flow.FlowDef.{FlowDef}
use Rattle.wdl_typed.specs.declared.flow.Statement.{Statement, Statement-F, fold_out-Statement, map-Statement, out-Statement}
use Rattle.wdl_typed.specs.declared.flow.Statement.TheOpen as layer
use Rattle.wdl_typed.specs.declared.flow.TCall.{TCall}
use Rattle.wdl_typed.specs.declared.flow.Target.TheVariants as target
use Rattle.wdl_typed.specs.Bodies.{body_nests, flow_nests, is_decl, nests, nests_at, target_nests}
use Rattle.leaf_image.specs.Inside.{Each, calls_in, calls_of, calls_step}
use Rattle.leaf_image.proofs.Eaches.{each_both, each_by}

module _ (flows : List FlowDef) where
  abbrev pub Nests : ℕ → TCall → Type 0
  Nests m c = (k : ℕ) (g : FlowDef) → c.target ≡ target.Flow k → slice_get flows k ≡ Some g → (p : ℕ) × (p < m) × (body_nests flows p g.body ≡ true)

  abbrev OneNests : ℕ → Type 0
  OneNests m = (st : Statement) → nests flows m (out-Statement st) ≡ true → Each (Nests m) (calls_of st)

  deeper : (m : ℕ) (c : TCall) → Nests m c → Nests (suc m) c
  deeper m c h k g t e = let q = h k g t e in (q.0, omega (arith, q.1), q.2)

  all_nest : (m : ℕ) → OneNests m → (ss : List Statement) → body_nests flows m ss ≡ true → Each (Nests m) (calls_in ss)
  all_nest m one [] h = tt
  all_nest m one (s ∷ ss) h =
      let p = and_parts (nests flows m (out-Statement s)) (body_nests flows m ss) h in
      each_both (Nests m) (calls_of s) (calls_in ss) (one s p.0) (all_nest m one ss p.1)

  call_nests : (m : ℕ) (c : TCall) → target_nests (body_nests flows m) flows c.target ≡ true → Nests (suc m) c
  call_nests m c h k g t e =
      let there : flow_nests (body_nests flows m) (slice_get flows k) ≡ true = ap (target_nests (body_nests flows m) flows) (sym t) ∙ h in
      (m, omega arith, ap (flow_nests (body_nests flows m)) (sym e) ∙ there)

  decl_nests : (m : ℕ) (y : Statement-F Statement) → is_decl y ≡ true → Each (Nests m) (calls_step (map-Statement Statement (List TCall) calls_of y))
  decl_nests m (layer.Decl d) h = tt
  decl_nests m (layer.Call c) h = absurd (cc)
  decl_nests m (layer.Scatter s) h = absurd (cc)
  decl_nests m (layer.If i) h = absurd (cc)

  layer_nests : (m : ℕ) → OneNests m → (y : Statement-F Statement) → nests_at (body_nests flows m) flows y ≡ true → Each (Nests (suc m)) (calls_step (map-Statement Statement (List TCall) calls_of y))
  layer_nests m one (layer.Decl d) h = tt
  layer_nests m one (layer.Call c) h = (call_nests m c h, tt)
  layer_nests m one (layer.Scatter s) h = each_by (Nests m) (Nests (suc m)) (deeper m) (calls_in s.body) (all_nest m one s.body h)
  layer_nests m one (layer.If i) h = each_by (Nests m) (Nests (suc m)) (deeper m) (calls_in i.body) (all_nest m one i.body h)

  one_nests : (m : ℕ) → OneNests m
  unfolding nests
  one_nests zero st h = subst (Each (Nests zero)) (sym (fold_out-Statement (List TCall) calls_step st)) (decl_nests zero (out-Statement st) h)
  one_nests (suc m) st h = subst (Each (Nests (suc m))) (sym (fold_out-Statement (List TCall) calls_step st)) (layer_nests m (one_nests m) (out-Statement st) h)

  pub calls_nest : (m : ℕ) (ss : List Statement) → body_nests flows m ss ≡ true → Each (Nests m) (calls_in ss)
  calls_nest m = all_nest m (one_nests m)
