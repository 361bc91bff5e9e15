-- A workflow gives the same for lists in which the same is found for each of its inputs.
use Rattle.std.proofs.Common.{◌≡◌, ℕ, zero, suc, ◌⊎◌, inl, inr, List, [], ◌∷◌, Option, Some, Contains, slice_get, sym, ap, ◌∙◌, subst, refl}
use Rattle.wdl_base.specs.declared.place.Segment.{Segment}
use Rattle.wdl_value.specs.declared.env.Bind.{Bind}
use Rattle.wdl_value.specs.declared.value.Value.{Value}
use Rattle.wdl_typed.specs.declared.flow.FlowDef.{FlowDef}
use Rattle.wdl_typed.specs.declared.task.TInput.{TInput}
use Rattle.wdl_typed.specs.Declarations.{plain_key}
use Rattle.wdl_typed.specs.Flow.{Callee, Flowing, Run, Sight, beginning, flow, flow_at, flow_run, in_turn, input_of, inputs, outputs, seeing, statements, together}
use Rattle.wdl_typed.specs.Scope.{lookup}
use Rattle.cwl_model.proofs.Rounds.{first_is, first_or_later, later_is, none_is}
use Rattle.leaf_image.specs.Inside.{Each}

-- ---- elements

pub each_at : {A : Type 0} (P : A → Type 0) (xs : List A) (x : A) → Contains xs x → Each P xs → P x
each_at P [] x c h = absurd (none_is x c)
each_at P (y ∷ xs) x c h = by_case (first_or_later y xs x c) (λ d. each_at P xs x d h.1)
  where
    by_case : (y ≡ x) ⊎ Contains xs x → (Contains xs x → P x) → P x
    by_case (inl e) rest = subst P e h.0
    by_case (inr d) rest = rest d

-- ---- inputs

abbrev pub SameFor : List Bind → List Bind → TInput → Type 0
SameFor given now i = lookup given (plain_key i.name) ≡ lookup now (plain_key i.name)

inputs_same : (given now : List Bind) (is : List TInput) → ((i : TInput) → Contains is i → SameFor given now i) → (s : Sight) → inputs given is s ≡ inputs now is s
inputs_same given now [] same s = refl
inputs_same given now (i ∷ is) same s =
    let a : Flowing = input_of s i (lookup now (plain_key i.name)) in
    ap (λ (o : Option Value). together (input_of s i o) (inputs given is (seeing s (input_of s i o)))) (same i (first_is i is))
    ∙ ap (together a) (inputs_same given now is (λ j c. same j (later_is i is j c)) (seeing s a))

run_same : (r : Run) (callee : Callee) (f : FlowDef) (given now : List Bind) → ((i : TInput) → Contains f.inputs i → SameFor given now i) → (s : Sight) → flow_run r callee f given s ≡ flow_run r callee f now s
run_same r callee f given now same s =
    ap (λ (x : Flowing). together x (in_turn (statements r callee f.body ∷ outputs f.outputs ∷ []) (seeing s x))) (inputs_same given now f.inputs same s)

-- at each depth
pub flow_same : (r : Run) (k : ℕ) (f : FlowDef) (given now : List Bind) → slice_get r.library.flows k ≡ Some f → ((i : TInput) → Contains f.inputs i → SameFor given now i)
    → (depth : ℕ) (place : List Segment) → flow r depth k given place ≡ flow r depth k now place
flow_same r k f given now there same zero place = refl
flow_same r k f given now there same (suc depth) place =
    ap (λ (o : Option FlowDef). flow_at r (flow r depth) o given place) there ∙ run_same r (flow r depth) f given now same (beginning place)
    ∙ sym (ap (λ (o : Option FlowDef). flow_at r (flow r depth) o now place) there)
