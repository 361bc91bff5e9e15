-- What a form can call, its parts can; and the flow of a checked form can call all that stands on its paths.
use Rattle.std.proofs.Common.{◌≡◌, ◌≤◌, ◌&&◌, ℕ, zero, suc, true, List, [], ◌∷◌, Some, slice_get, arith, ap, refl, subst, sym, ◌∙◌}
use Rattle.std.proofs.lemmas.Bool.{and_parts, false≢true}
use Rattle.wdl_base.specs.declared.place.Segment.{Segment}
use Rattle.wdl_value.specs.declared.env.Bind.{Bind}
use Rattle.wdl_value.specs.declared.value.Value.{Value}
use Rattle.wdl_typed.specs.declared.flow.FlowDef.{FlowDef}
use Rattle.wdl_typed.specs.declared.flow.Statement.{Statement, out-Statement}
use Rattle.wdl_typed.specs.declared.flow.Statement.TheOpen as layer
use Rattle.wdl_typed.specs.declared.flow.Statement.TheVariants as stmt
use Rattle.wdl_typed.specs.declared.flow.TCall.{TCall}
use Rattle.wdl_typed.specs.declared.flow.Target.TheVariants as target
use Rattle.wdl_typed.specs.declared.flow.TIf.{TIf}
use Rattle.wdl_typed.specs.declared.flow.TScatter.{TScatter}
use Rattle.wdl_typed.specs.declared.task.TDecl.{TDecl}
use Rattle.wdl_typed.specs.declared.task.TInput.{TInput}
use Rattle.wdl_typed.specs.Bodies.{Library, body_gives, body_nests, flow_nests, is_numbered, items_differ, nests, target_nests}
use Rattle.wdl_typed.specs.Declarations.{inputs_typed}
use Rattle.wdl_typed.specs.Kept.{flow_names, flow_typed, inputs_seen, outputs_typed}
use Rattle.wdl_typed.specs.Lists.{are_distinct}
use Rattle.flow_laws.proofs.Checked.{kept}
use Rattle.net_laws.specs.Growing.{Form, Item, all, each, one, takes, tells, whole}
use Rattle.net_laws.specs.Net.{Given, Scope}
use Rattle.net_laws.specs.Roots.{IsCallable, IsRoot}
use Rattle.wdl_base.proofs.Options.{all_at}

module _ (lib : Library) where
  -- ---- one block or call less on each path within

  scatter_within : (n : ℕ) (x : TScatter Statement) → nests lib.flows n (layer.Scatter x) ≡ true → (m : ℕ) × (m ≤ n) × (body_nests lib.flows m x.body ≡ true)
  unfolding nests
  scatter_within zero x h = absurd (false≢true h)
  scatter_within (suc n) x h = (n, omega arith, h)

  if_within : (n : ℕ) (x : TIf Statement) → nests lib.flows n (layer.If x) ≡ true → (m : ℕ) × (m ≤ n) × (body_nests lib.flows m x.body ≡ true)
  unfolding nests
  if_within zero x h = absurd (false≢true h)
  if_within (suc n) x h = (n, omega arith, h)

  call_within : (n : ℕ) (x : TCall) (k : ℕ) (f : FlowDef) → x.target ≡ target.Flow k → slice_get lib.flows k ≡ Some f → nests lib.flows n (layer.Call x) ≡ true
      → (m : ℕ) × (suc m ≡ n) × (body_nests lib.flows m f.body ≡ true)
  unfolding nests
  call_within zero x k f is found h = absurd (false≢true h)
  call_within (suc n) x k f is found h = (
    n,
    refl,
    sym (ap (flow_nests (body_nests lib.flows n)) found) ∙ sym (ap (target_nests (body_nests lib.flows n) lib.flows) is) ∙ h,
  )

  -- ---- parts

  pub callable_first : {depth : ℕ} {x : Statement} {xs : List Statement} {s : Scope} {g h : Given} {d : ℕ} {es : List ℕ} → IsCallable lib depth (all (x ∷ xs) s h es) → IsCallable lib depth (one x s g d)
  callable_first {x = x} {xs = xs} c =
      record { most = c.most; within = c.within; nests = (and_parts (nests lib.flows c.most (out-Statement x)) (body_nests lib.flows c.most xs) c.nests).0 }

  pub callable_rest : {depth : ℕ} {x : Statement} {xs : List Statement} {s t : Scope} {g h : Given} {ds es : List ℕ} → IsCallable lib depth (all (x ∷ xs) s h es) → IsCallable lib depth (all xs t g ds)
  callable_rest {x = x} {xs = xs} c =
      record { most = c.most; within = c.within; nests = (and_parts (nests lib.flows c.most (out-Statement x)) (body_nests lib.flows c.most xs) c.nests).1 }

  pub callable_items : {depth : ℕ} {x : TScatter Statement} {s t : Scope} {g : Given} {d k : ℕ} {item : List ℕ} {i : ℕ} {ys : List Value} {qs : List Item} → IsCallable lib depth (one (stmt.Scatter x) s g d)
      → IsCallable lib depth (each x.body t k item i ys qs)
  callable_items {x = x} c =
      let m = scatter_within c.most x (ap (nests lib.flows c.most) (sym (stmt.outs-Scatter x)) ∙ c.nests) in
      let l = c.within in
      let i_ = m.1 in
      record { most = m.0; within = omega (arith, l, i_); nests = m.2 }

  pub callable_item : {depth : ℕ} {xs : List Statement} {s t : Scope} {k : ℕ} {item : List ℕ} {i : ℕ} {ys : List Value} {qs : List Item} {g : Given} {ds : List ℕ} → IsCallable lib depth (each xs s k item i ys qs)
      → IsCallable lib depth (all xs t g ds)
  callable_item c = record { most = c.most; within = c.within; nests = c.nests }

  pub callable_later : {depth : ℕ} {xs : List Statement} {s t : Scope} {k l : ℕ} {item other : List ℕ} {i j : ℕ} {ys zs : List Value} {qs rs : List Item} → IsCallable lib depth (each xs s k item i ys qs)
      → IsCallable lib depth (each xs t l other j zs rs)
  callable_later c = record { most = c.most; within = c.within; nests = c.nests }

  pub callable_body : {depth : ℕ} {x : TIf Statement} {s t : Scope} {g h : Given} {d : ℕ} {ds : List ℕ} → IsCallable lib depth (one (stmt.If x) s g d) → IsCallable lib depth (all x.body t h ds)
  callable_body {x = x} c =
      let m = if_within c.most x (ap (nests lib.flows c.most) (sym (stmt.outs-If x)) ∙ c.nests) in
      let l = c.within in
      let i_ = m.1 in
      record { most = m.0; within = omega (arith, l, i_); nests = m.2 }

  pub callable_called : {depth : ℕ} {x : TCall} {s : Scope} {g h : Given} {d : ℕ} {ds : List ℕ} {k : ℕ} {f : FlowDef} {args : List Bind} {place : List Segment} → x.target ≡ target.Flow k → slice_get lib.flows k ≡ Some f
      → IsCallable lib (suc depth) (one (stmt.Call x) s g d) → IsCallable lib depth (whole f args place h ds)
  callable_called {x = x} {k = k} {f = f} is found c =
      let m = call_within c.most x k f is found (ap (nests lib.flows c.most) (sym (stmt.outs-Call x)) ∙ c.nests) in
      let l = c.within in
      let e = m.1 in
      record { most = m.0; within = omega (arith, l, e); nests = m.2 }

  pub callable_whole : {depth : ℕ} {f : FlowDef} {given : List Bind} {place : List Segment} {g h : Given} {s : Scope} {ds es : List ℕ} → IsCallable lib depth (whole f given place g ds) → IsCallable lib depth (all f.body s h es)
  callable_whole c = record { most = c.most; within = c.within; nests = c.nests }

  pub callable_inputs : {depth : ℕ} {given : List Bind} {is : List TInput} {s : Scope} {g : Given} → IsCallable lib depth (takes given is s g)
  callable_inputs = record { most = 0; within = omega arith; nests = refl }

  pub callable_outputs : {depth : ℕ} {ds : List TDecl} {s : Scope} {g : Given} → IsCallable lib depth (tells ds s g)
  callable_outputs = record { most = 0; within = omega arith; nests = refl }

  -- A call of a workflow does not stand at depth 0.
  pub called_deeper : (depth : ℕ) (x : TCall) (s : Scope) (g : Given) (d k : ℕ) (f : FlowDef) → x.target ≡ target.Flow k → slice_get lib.flows k ≡ Some f → IsCallable lib depth (one (stmt.Call x) s g d)
      → (m : ℕ) × (suc m ≡ depth)
  called_deeper zero x s g d k f is found c =
      let m = call_within c.most x k f is found (ap (nests lib.flows c.most) (sym (stmt.outs-Call x)) ∙ c.nests) in
      let l = c.within in
      let e = m.1 in
      absurd (omega (arith, l, e))
  called_deeper (suc depth) x s g d k f is found c = (depth, refl)

  -- ---- checked forms

  pub body_kept : (f : FlowDef) → flow_typed lib f ≡ true → body_nests lib.flows 24 f.body ≡ true
  body_kept f h =
      let names = are_distinct (flow_names f) && items_differ f.body (flow_names f) && is_numbered f.body in
      let a = and_parts (names && body_nests lib.flows 24 f.body && inputs_typed lib.structs [] f.inputs) (outputs_typed lib.structs f (body_gives lib f.body (inputs_seen f))) h in
      let b = and_parts (names && body_nests lib.flows 24 f.body) (inputs_typed lib.structs [] f.inputs) a.0 in
      (and_parts names (body_nests lib.flows 24 f.body) b.0).1

  pub root_callable : (depth : ℕ) (f : Form) → IsRoot lib depth f → IsCallable lib depth f
  root_callable depth f r =
      subst (IsCallable lib depth) (sym r.is) (record {
        most = 24;
        within = r.deep;
        nests = body_kept r.flow (all_at (flow_typed lib) lib.flows r.number r.flow (kept lib r.main r.checked).flows r.found);
      })
