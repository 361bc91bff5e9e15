-- What tells calls apart, and keeps lists of cells.
use Rattle.std.proofs.Common.{◌≡◌, ℕ, Bool, true, false, cond, ◌&&◌, ◌⊎◌, inl, inr, List, [], ◌∷◌, ◌++◌, map, Option, Some, None, option_and_then, Ok, Err, slice_get, sym, ap, ◌∙◌, refl}
use Rattle.std.specs.List.{list_all}
use Rattle.std.proofs.lemmas.Bool.{false≢true}
use Rattle.wdl_base.specs.declared.place.Segment.{Segment}
use Rattle.wdl_base.specs.declared.place.Segment.TheVariants as segment
use Rattle.wdl_value.specs.declared.env.Bind.{Bind}
use Rattle.wdl_value.specs.declared.value.Value.{Value}
use Rattle.wdl_typed.specs.declared.flow.Statement.{Statement, Statement-F, out-Statement}
use Rattle.wdl_typed.specs.declared.flow.Statement.TheOpen as layer
use Rattle.wdl_typed.specs.declared.flow.Statement.TheVariants as stmt
use Rattle.wdl_typed.specs.declared.flow.TCall.{TCall}
use Rattle.wdl_typed.specs.declared.flow.Target.{Target}
use Rattle.wdl_typed.specs.declared.flow.Target.TheVariants as target
use Rattle.wdl_typed.specs.declared.task.TaskDef.{TaskDef}
use Rattle.wdl_typed.specs.Bodies.{Library}
use Rattle.wdl_typed.specs.Flow.{Callee, Flowing, Run, Sight, all_values, args_known, args_met, call_of, called, env_of, has_ended, missing, with_args}
use Rattle.wdl_typed.specs.KnownTypes.{is_some}
use Rattle.wdl_typed.specs.Requests.{Failing, Tried}
use Rattle.net_laws.specs.Cost.{CalleeCost, TaskCost, called_cost, met_cost}
use Rattle.net_laws.specs.Net.{Cells, Given, Scope}
use Rattle.net_laws.specs.Planned.{call_names}
use Rattle.net_laws.specs.Growing.{Rule, copies, declares, does, ends, gathers}

-- A call of a task, or one with an argument that failed, gives the same whatever workflows give.
pub plain_same : (r : Run) (callee other : Callee) (x : TCall) (y : Sight)
    → ((k : ℕ) × (t : TaskDef) × (x.target ≡ target.Task k) × (slice_get r.library.tasks k ≡ Some t)) ⊎ ((e : Failing) × (args_met (env_of y.names) x.args ≡ Err e))
    → call_of r callee (call_names r.library x) x y ≡ call_of r other (call_names r.library x) x y
plain_same r callee other x y plain =
    ap (λ (f : Flowing). cond (args_known y.names x.args && list_all (has_ended y.calls) x.after) f (missing (call_names r.library x))) (by_args (args_met (env_of y.names) x.args) plain)
  where
    place : List Segment
    place = y.place ++ segment.Call x.name ∷ []

    apart : {A B : Type 0} {a : A} {b : B} → Ok a ≡ Err b → ⊥
    apart e = cc

    by_args : (o : Tried (List Bind)) → ((k : ℕ) × (t : TaskDef) × (x.target ≡ target.Task k) × (slice_get r.library.tasks k ≡ Some t)) ⊎ ((e : Failing) × (o ≡ Err e))
        → with_args r callee (call_names r.library x) (y.place ++ segment.Call x.name ∷ []) x o ≡ with_args r other (call_names r.library x) (y.place ++ segment.Call x.name ∷ []) x o
    by_args (Err e) h = refl
    by_args (Ok args) (inl h) =
        ap (λ (g : Target). called r callee (call_names r.library x) (y.place ++ segment.Call x.name ∷ []) x args g) h.2
        ∙ sym (ap (λ (g : Target). called r other (call_names r.library x) (y.place ++ segment.Call x.name ∷ []) x args g) h.2)
    by_args (Ok args) (inr h) = let e : Ok args ≡ Err h.0 = h.1 in absurd (apart e)

-- What such a call costs does not depend on other workflows.
pub price_same : (lib : Library) (task : TaskCost) (price other : CalleeCost) (place : List Segment) (x : TCall) (o : Tried (List Bind))
    → ((k : ℕ) × (t : TaskDef) × (x.target ≡ target.Task k) × (slice_get lib.tasks k ≡ Some t)) ⊎ ((e : Failing) × (o ≡ Err e))
    → met_cost (called_cost lib task price place x.target) o ≡ met_cost (called_cost lib task other place x.target) o
price_same lib task price other place x (Err e) h = refl
price_same lib task price other place x (Ok args) (inl h) =
    ap (λ (g : Target). called_cost lib task price place g args) h.2 ∙ sym (ap (λ (g : Target). called_cost lib task other place g args) h.2)
price_same lib task price other place x (Ok args) (inr h) = absurd (not_both h.1)
  where
    not_both : {A B : Type 0} {a : A} {b : B} → Ok a ≡ Err b → ⊥
    not_both e = cc

-- Cells whose values make a list are set.
pub listed : (cells other : Cells) → ((c : ℕ) → is_some (cells c) ≡ true → other c ≡ cells c) → (cs : List ℕ) (xs : List Value) → all_values (map cells cs) ≡ Some xs → map other cs ≡ map cells cs
listed cells other same [] xs h = refl
listed cells other same (c ∷ cs) xs h = go (cells c) refl h (listed cells other same cs)
  where
    none : {A : Type 0} {a : A} {B : Type 0} → None ≡ Some a → B
    none e = absurd (let f : ⊥ = cc in f)

    rest_is : (o : Option (List Value)) (x : Value) → option_and_then (λ (ys : List Value). Some (x ∷ ys)) o ≡ Some xs → (ys : List Value) × (o ≡ Some ys)
    rest_is None x e = none e
    rest_is (Some ys) x e = (ys, refl)

    go : (o : Option Value) → cells c ≡ o → option_and_then (λ (x : Value). option_and_then (λ (ys : List Value). Some (x ∷ ys)) (all_values (map cells cs))) o ≡ Some xs
        → ((ys : List Value) → all_values (map cells cs) ≡ Some ys → map other cs ≡ map cells cs) → other c ∷ map other cs ≡ cells c ∷ map cells cs
    go None is e rest = none e
    go (Some x) is e rest =
        let r = rest_is (all_values (map cells cs)) x e in
        ap (λ (o : Option Value). o ∷ map other cs) (same c (ap is_some is)) ∙ ap (λ (os : List (Option Value)). cells c ∷ os) (rest r.0 r.1)

-- whether a rule is a call's
abbrev pub call_layer : Statement-F Statement → Bool
call_layer (layer.Decl x) = false
call_layer (layer.Call x) = true
call_layer (layer.Scatter x) = false
call_layer (layer.If x) = false

abbrev pub is_call : Rule → Bool
is_call (does x s g d) = call_layer (out-Statement x)
is_call (declares name e s c) = false
is_call (gathers parts c) = false
is_call (ends parts c) = false
is_call (copies from c) = false

-- A rule that is no call's is none.
pub no_call : (r : Rule) → is_call r ≡ false → (x : TCall) (s : Scope) (g : Given) (d : ℕ) → r ≡ does (stmt.Call x) s g d → ⊥
no_call r h x s g d e = false≢true (sym h ∙ ap is_call e ∙ ap call_layer (stmt.outs-Call x))
