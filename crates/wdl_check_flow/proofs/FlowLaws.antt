-- What code answers for a workflow, from what it answers for its parts.
use Rattle.std.proofs.Common.{◌≡◌, List, ◌++◌, Some, Ok, Err, refl}
use Rattle.wdl_value.specs.declared.ty.Member.{Member}
use Rattle.wdl_ast.specs.declared.workflow.Workflow.{Workflow}
use Rattle.wdl_typed.specs.declared.task.TDecl.{TDecl}
use Rattle.wdl_typed.specs.declared.task.TInput.{TInput}
use Rattle.wdl_typed.specs.Declarations.{inputs_bound}
use Rattle.wdl_check_rules.specs.declared.fault.CheckFault.{CheckFault}
use Rattle.wdl_check_types.specs.Outcome.{Answers, done, then_}
use Rattle.wdl_check_types.proofs.OutcomeLaws.{then_err, then_ok}
use Rattle.wdl_check_decls.specs.declared.standing.Standing.TheVariants.{Body}
use Rattle.wdl_check_decls.specs.Declarations.{decls_typed, inputs_typed}
use Rattle.wdl_check_decls.specs.Expressions.{World}
use Rattle.wdl_check_flow.specs.Bodies.{Typed_body, statements_typed}
use Rattle.wdl_check_flow.specs.Flows.{head, head_typed, inputs_seen, rest_typed, results_typed, shape_typed}
use Rattle.wdl_check_flow.specs.Sections.{inputs_of, outputs_of, statements_of}
use Rattle.wdl_check_flow.specs.Targets.{Place, world_at}

pub results_refused : (w : World) (f : Workflow) (u : Unit {0}) (is : List TInput) (e : CheckFault)
    → (shape_typed (inputs_of f.elements) (statements_of f.elements) (outputs_of f.elements)).typed ≡ Some u
    → (inputs_typed w (inputs_of f.elements)).typed ≡ Some is → Answers (results_typed w (outputs_of f.elements)) (Err e) → Answers (head_typed w f) (Err e)
results_refused w f u is e g h k =
    then_ok (shape_typed (inputs_of f.elements) (statements_of f.elements) (outputs_of f.elements))
    (λ _. then_ (inputs_typed w (inputs_of f.elements)) (λ is. then_ (results_typed w (outputs_of f.elements)) (λ os. done (head is os)))) u (Err e) g
    (then_ok (inputs_typed w (inputs_of f.elements)) (λ is. then_ (results_typed w (outputs_of f.elements)) (λ os. done (head is os))) is (Err e) h
    (then_err (results_typed w (outputs_of f.elements)) (λ (os : List Member). done (head is os)) e k))

module _ (p : Place) (is : List TInput) (f : Workflow) (b : Typed_body) (typed : (statements_typed p (statements_of f.elements) (inputs_seen is)).typed ≡ Some b) where
  pub outputs_refused : (e : CheckFault) → Answers (decls_typed Body (world_at p b.given) (inputs_bound is ++ b.given.names) (outputs_of f.elements)) (Err e)
      → Answers (rest_typed p is f) (Err e)
  outputs_refused e h =
      then_ok (statements_typed p (statements_of f.elements) (inputs_seen is))
      (λ (b : Typed_body). then_ (decls_typed Body (world_at p b.given) (inputs_bound is ++ b.given.names) (outputs_of f.elements)) (λ os. done (record { body = b.statements; outputs = os }))) b (Err e) typed
      (then_err (decls_typed Body (world_at p b.given) (inputs_bound is ++ b.given.names) (outputs_of f.elements)) (λ os. done (record { body = b.statements; outputs = os })) e h)

  pub flow_done : (os : List TDecl) → (decls_typed Body (world_at p b.given) (inputs_bound is ++ b.given.names) (outputs_of f.elements)).typed ≡ Some os
      → (rest_typed p is f).typed ≡ Some (record { body = b.statements; outputs = os })
  flow_done os h =
      then_ok (statements_typed p (statements_of f.elements) (inputs_seen is))
      (λ (b : Typed_body). then_ (decls_typed Body (world_at p b.given) (inputs_bound is ++ b.given.names) (outputs_of f.elements)) (λ os. done (record { body = b.statements; outputs = os }))) b (Ok (record { body = b.statements; outputs = os })) typed
      (then_ok (decls_typed Body (world_at p b.given) (inputs_bound is ++ b.given.names) (outputs_of f.elements)) (λ os. done (record { body = b.statements; outputs = os })) os (Ok (record { body = b.statements; outputs = os })) h refl)
