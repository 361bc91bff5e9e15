-- A workflow that is typed is well typed over the library, and what calls see of it is what it has.
use Rattle.std.proofs.Common.{◌≡◌, ℕ, List, [], ◌∷◌, ◌++◌, Some, map, refl, sym, ap, ◌∙◌, subst}
use Rattle.std.proofs.lemmas.List.{map-append}
use Rattle.std.proofs.lemmas.Option.{same_Some}
use Rattle.wdl_value.specs.declared.ty.Member.{Member}
use Rattle.wdl_value.specs.declared.ty.Ty.{Ty}
use Rattle.wdl_ast.specs.declared.section.Declaration.{Declaration}
use Rattle.wdl_ast.specs.declared.workflow.Workflow.{Workflow}
use Rattle.wdl_typed.specs.declared.scope.Bound.{Bound}
use Rattle.wdl_typed.specs.declared.task.TDecl.{TDecl}
use Rattle.wdl_typed.specs.declared.task.TInput.{TInput}
use Rattle.wdl_typed.specs.Bodies.{Seen}
use Rattle.wdl_typed.specs.Declarations as well
use Rattle.wdl_typed.specs.Declarations.{in_body, inputs_bound}
use Rattle.wdl_typed.specs.Kept.{outputs_typed}
use Rattle.wdl_typed.specs.Order.{picked}
use Rattle.wdl_check_types.specs.Outcome.{done, then_}
use Rattle.wdl_check_types.specs.Places.{declaration_span}
use Rattle.wdl_check_types.specs.Written.{written}
use Rattle.wdl_check_order.specs.Needs.{declaration_needing}
use Rattle.wdl_check_order.specs.Ordered.{ordered}
use Rattle.wdl_check_decls.specs.declared.standing.Standing.TheVariants.{Body}
use Rattle.wdl_check_decls.specs.Declarations.{decl_typed, declared, decls_behind, decls_typed, inputs_typed, value_typed}
use Rattle.wdl_check_decls.specs.Expressions.{World, with_calls}
use Rattle.wdl_check_decls.specs.Laws.{CastTypes, DeclTypes, DeclsTypes, ExprTypes, InputsTypes}
use Rattle.wdl_check_flow.specs.declared.flow.FlowHead.{FlowHead}
use Rattle.wdl_check_flow.specs.declared.flow.FlowRest.{FlowRest}
use Rattle.wdl_check_flow.specs.Bodies.{Typed_body, statements_typed}
use Rattle.wdl_check_flow.specs.Flows.{head, head_typed, inputs_seen, rest_typed, result_typed, results_behind, results_typed, shape_typed}
use Rattle.wdl_check_flow.specs.Laws.{FlowsTyped, HeadsFit, flow_of, member_of}
use Rattle.wdl_check_flow.specs.Sections.{inputs_of, outputs_of, statements_of}
use Rattle.wdl_check_flow.specs.Targets.{Place, world_at}
use Rattle.wdl_check_flow.proofs.BodyGives.{body_well}
use Rattle.wdl_check_decls.proofs.WellTyped.{then_some}

-- ---- what was typed of a head and of the rest

pub record Headed (w : World) (f : Workflow) (h : FlowHead) : Type 0 where
  pub shape : (shape_typed (inputs_of f.elements) (statements_of f.elements) (outputs_of f.elements)).typed ≡ Some tt
  pub inputs : (inputs_typed w (inputs_of f.elements)).typed ≡ Some h.inputs
  pub outputs : (results_typed w (outputs_of f.elements)).typed ≡ Some h.outputs

pub headed : (w : World) (f : Workflow) (h : FlowHead) → (head_typed w f).typed ≡ Some h → Headed w f h
headed w f h e =
    let q = then_some (shape_typed (inputs_of f.elements) (statements_of f.elements) (outputs_of f.elements)) (λ _. then_ (inputs_typed w (inputs_of f.elements)) (λ is. then_ (results_typed w (outputs_of f.elements)) (λ os. done (head is os)))) h e in
    let r = then_some (inputs_typed w (inputs_of f.elements)) (λ is. then_ (results_typed w (outputs_of f.elements)) (λ os. done (head is os))) h q.2 in
    let s = then_some (results_typed w (outputs_of f.elements)) (λ os. done (head r.0 os)) h r.2 in
    subst (Headed w f) (same_Some (head r.0 s.0) h s.2) (record { shape = q.1; inputs = r.1; outputs = s.1 })

pub record Rested (p : Place) (inputs : List TInput) (f : Workflow) (r : FlowRest) : Type 0 where
  pub given : Seen
  pub body : (statements_typed p (statements_of f.elements) (inputs_seen inputs)).typed ≡ Some (record { statements = r.body; given = given })
  pub outputs : (decls_typed Body (world_at p given) (inputs_bound inputs ++ given.names) (outputs_of f.elements)).typed ≡ Some r.outputs

pub rested : (p : Place) (inputs : List TInput) (f : Workflow) (r : FlowRest) → (rest_typed p inputs f).typed ≡ Some r → Rested p inputs f r
rested p inputs f r e =
    let q = then_some (statements_typed p (statements_of f.elements) (inputs_seen inputs)) (λ (b : Typed_body). then_ (decls_typed Body (world_at p b.given) (inputs_bound inputs ++ b.given.names) (outputs_of f.elements)) (λ os. done (record { body = b.statements; outputs = os }))) r e in
    let s = then_some (decls_typed Body (world_at p q.0.given) (inputs_bound inputs ++ q.0.given.names) (outputs_of f.elements)) (λ os. done (record { body = q.0.statements; outputs = os })) r q.2 in
    subst (Rested p inputs f) (same_Some (record { body = q.0.statements; outputs = s.0 }) r s.2) (record { given = q.0.given; body = q.1; outputs = s.1 })

-- ---- outputs as calls see them

same_results : (w : World) (calls : List (List ℕ)) (names : List Bound) (ds : List Declaration) (befores : List TDecl) (before : List Member) (ts : List TDecl) (ms : List Member)
    → map member_of befores ≡ before → (decls_behind Body (with_calls w calls) names befores ds).typed ≡ Some ts → (results_behind w before ds).typed ≡ Some ms → map member_of ts ≡ ms
same_results w calls names [] befores before ts ms is d r = ap (map member_of) (sym (same_Some befores ts d)) ∙ is ∙ same_Some before ms r
same_results w calls names (x ∷ ds) befores before ts ms is d r =
    let seen = names ++ well.decls_bound befores in
    let q = then_some (decl_typed Body (with_calls w calls) seen x) (λ t. decls_behind Body (with_calls w calls) names (befores ++ t ∷ []) ds) ts d in
    let u = then_some (written w.locals x.ty) (λ t. then_ (value_typed Body (with_calls w calls) seen x.value t) (λ e. done (declared x t e))) q.0 q.1 in
    let v = then_some (value_typed Body (with_calls w calls) seen x.value u.0) (λ e. done (declared x u.0 e)) q.0 u.2 in
    let s = then_some (result_typed w x) (λ m. results_behind w (before ++ m ∷ []) ds) ms r in
    let t = then_some (written w.locals x.ty) (λ t. done (record { name = x.name.name; ty = t })) s.0 s.1 in
    let same : member_of q.0 ≡ s.0 =
    ap member_of (sym (same_Some (declared x u.0 v.0) q.0 v.2))
    ∙ ap (λ (z : Ty). record { name = x.name.name; ty = z }) (same_Some u.0 t.0 (sym u.1 ∙ t.1))
    ∙ same_Some (record { name = x.name.name; ty = t.0 }) s.0 t.2 in
    same_results w calls names ds (befores ++ q.0 ∷ []) (before ++ s.0 ∷ []) ts ms
    (map-append member_of befores (q.0 ∷ []) ∙ ap (λ (zs : List Member). zs ++ member_of q.0 ∷ []) is ∙ ap (λ (z : Member). before ++ z ∷ []) same) q.2 s.2

outputs_fit : (w : World) (calls : List (List ℕ)) (names : List Bound) (ds : List Declaration) (ts : List TDecl) (ms : List Member)
    → (decls_typed Body (with_calls w calls) names ds).typed ≡ Some ts → (results_typed w ds).typed ≡ Some ms → map member_of ts ≡ ms
outputs_fit w calls names ds ts ms d r =
    let o = ordered (map declaration_needing ds) (map declaration_span ds) in
    let q = then_some o (λ ps. decls_behind Body (with_calls w calls) names [] (picked ds ps)) ts d in
    let s = then_some o (λ ps. results_behind w [] (picked ds ps)) ms r in
    same_results w calls names (picked ds q.0) [] [] ts ms refl q.2
    (subst (λ (ps : List ℕ). (results_behind w [] (picked ds ps)).typed ≡ Some ms) (same_Some s.0 q.0 (sym s.1 ∙ q.1)) s.2)

pub heads_fit : HeadsFit
heads_fit p f h r e g =
    let q = headed p.world f h e in
    let s = rested p h.inputs f r g in
    outputs_fit p.world s.given.calls (inputs_bound h.inputs ++ s.given.names) (outputs_of f.elements) r.outputs h.outputs s.outputs q.outputs

-- ---- lists

pub flow_well : ExprTypes → CastTypes → DeclTypes → InputsTypes → DeclsTypes → FlowsTyped
flow_well exprs casts decl inputs decls lib p f h r name span of e g =
    let q = headed p.world f h e in
    let s = rested p h.inputs f r g in (
      ap (λ structs. well.inputs_typed structs [] h.inputs) (sym of.structs) ∙ inputs p.world (inputs_of f.elements) h.inputs of.known q.inputs,
      ap (outputs_typed lib.structs (flow_of name span h r)) (body_well exprs casts decl lib p of (statements_of f.elements) (inputs_seen h.inputs) (record { statements = r.body; given = s.given }) s.body)
          ∙ ap (λ structs. well.decls_typed (in_body structs) structs (inputs_bound h.inputs ++ s.given.names) r.outputs) (sym of.structs)
          ∙ decls Body (world_at p s.given) (inputs_bound h.inputs ++ s.given.names) (outputs_of f.elements) r.outputs of.known s.outputs,
    )
