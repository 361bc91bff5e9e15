-- A kept task is prepared step by step.
use Rattle.std.proofs.Common.{◌≡◌, ℕ, List, [], Ok, sym, ap, ◌∙◌, subst}
use Rattle.wdl_base.specs.declared.answer.Answer.{Answer}
use Rattle.wdl_base.specs.declared.body.Laid.{Laid}
use Rattle.wdl_value.specs.declared.env.Bind.{Bind}
use Rattle.wdl_value.specs.Fits.{Structs}
use Rattle.wdl_typed.specs.declared.task.TDecl.{TDecl}
use Rattle.wdl_typed.specs.declared.task.TInput.{TInput}
use Rattle.wdl_typed.specs.declared.task.TaskDef.{TaskDef}
use Rattle.wdl_typed.specs.Requests.{Prepared, Tried, asked_with, asks, tried, with_inputs, with_privates}
use Rattle.wdl_task.specs.declared.request.Prepared.{Prepared as Made}
use Rattle.wdl_task.specs.Readiness.{AreInputsReady, AreNamesReady, AreOutputsReady, ArePrivatesReady, IsTold, Kept}
use Rattle.wdl_task.specs.Views.{asked_of}
use Rattle.wdl_task.proofs.TaskLaws.{attributes_ready, inputs_ready, outputs_ready, privates_ready}

-- what is asked once the inputs and the private declarations are taken
asks_with : (t : TaskDef) (given env : List Bind) (p : Prepared) → with_inputs t.inputs given ≡ Ok env → with_privates t.privates (record { env = env; files = [] }) ≡ Ok p
    → asked_with t p ≡ asks t given
asks_with t given env p h k = sym (
    ap (λ (o : Tried (List Bind)). tried o (λ e. tried (with_privates t.privates (record { env = e; files = [] })) (asked_with t))) h
    ∙ ap (λ (o : Tried Prepared). tried o (asked_with t)) k)

abbrev pub start : List Bind → List Laid → Prepared
start env files = record { env = env; files = files }

module _ (t : TaskDef) (given : List Bind) (kept : Kept t given) (is : List TInput) (begin : List Bind) (same_inputs : is ≡ t.inputs) (same_given : begin ≡ given) where
  pub kept_inputs : AreInputsReady is begin
  kept_inputs =
      subst (λ (js : List TInput). AreInputsReady js begin) (sym same_inputs)
      (subst (λ (e : List Bind). AreInputsReady t.inputs e) (sym same_given) (inputs_ready kept.structs t given kept.typed kept.fit).0)

  module _ (env : List Bind) (made : with_inputs is begin ≡ Ok env) (ds : List TDecl) (files : List Laid) (same_privates : ds ≡ t.privates) (none : files ≡ []) where
    inputs_made : with_inputs t.inputs given ≡ Ok env
    inputs_made = ap (λ js. with_inputs js given) (sym same_inputs) ∙ ap (with_inputs is) (sym same_given) ∙ made

    pub kept_privates : ArePrivatesReady ds (start env files)
    kept_privates =
        subst (λ (es : List TDecl). ArePrivatesReady es (start env files)) (sym same_privates)
        (subst (λ (fs : List Laid). ArePrivatesReady t.privates (start env fs)) (sym none) (privates_ready kept.structs t given kept.typed kept.fit env inputs_made).0)

    module _ (p : Prepared) (taken : with_privates ds (start env files) ≡ Ok p) where
      privates_made : with_privates t.privates (start env []) ≡ Ok p
      privates_made = ap (λ es. with_privates es (start env [])) (sym same_privates) ∙ ap (λ fs. with_privates ds (start env fs)) (sym none) ∙ taken

      pub kept_names : AreNamesReady t p
      kept_names = attributes_ready kept.structs t given kept.typed kept.fit env p inputs_made privates_made

      pub kept_asks : asked_with t p ≡ asks t given
      kept_asks = asks_with t given env p inputs_made privates_made

-- What was prepared lets its outputs be told.
pub told_outputs : (structs ss : Structs) (t : TaskDef) (p : Made) → IsTold structs t p → (dir : List ℕ) (answer : Answer) (ds : List TDecl) (env : List Bind) → ss ≡ structs → ds ≡ t.outputs → env ≡ p.env
    → AreOutputsReady ss dir answer ds env
told_outputs structs ss t p told dir answer ds env same_structs same_outputs same_env =
    subst (λ (s : Structs). AreOutputsReady s dir answer ds env) (sym same_structs)
    (subst (λ (es : List TDecl). AreOutputsReady structs dir answer es env) (sym same_outputs)
    (subst (λ (e : List Bind). AreOutputsReady structs dir answer t.outputs e) (sym same_env)
    (outputs_ready structs t told.given told.typed told.fit (asked_of p) told.asked dir answer).0))
