-- A call that is typed is well typed over the library.
use Rattle.std.proofs.Common.{◌≡◌, ℕ, Bool, true, false, not, ◌&&◌, List, [], ◌∷◌, ◌++◌, Option, Some, None, map, option_map, option_and_then, if◌then◌else◌, refl, sym, ap, ◌∙◌, subst}
use Rattle.std.specs.Prelude.{cond}
use Rattle.std.specs.Str.{bytes_eq}
use Rattle.std.proofs.lemmas.Bool.{and_from, and_parts}
use Rattle.std.proofs.lemmas.Option.{same_Some}
use Rattle.wdl_base.specs.declared.span.Span.{Span}
use Rattle.wdl_value.specs.declared.ty.Ty.{Ty}
use Rattle.wdl_value.specs.Fits.{Structs}
use Rattle.wdl_value.proofs.SameTypeLemmas.{same_type-refl}
use Rattle.wdl_ast.specs.declared.leaf.ListItem.{ListItem}
use Rattle.wdl_ast.specs.declared.workflow.After.{After}
use Rattle.wdl_ast.specs.declared.workflow.Argument.{Argument}
use Rattle.wdl_ast.specs.declared.workflow.Call.{Call}
use Rattle.wdl_names.proofs.FreshLemmas.{fresh-append, fresh-distinct}
use Rattle.wdl_typed.specs.declared.expr.TExpr.{TExpr}
use Rattle.wdl_typed.specs.declared.expr.TField.{TField}
use Rattle.wdl_typed.specs.declared.flow.TCall.{TCall}
use Rattle.wdl_typed.specs.declared.flow.Target.{Target}
use Rattle.wdl_typed.specs.declared.scope.Bound.{Bound}
use Rattle.wdl_typed.specs.declared.task.TDecl.{TDecl}
use Rattle.wdl_typed.specs.declared.task.TInput.{TInput}
use Rattle.wdl_typed.specs.Bodies as well
use Rattle.wdl_typed.specs.Bodies.{Library, Seen, Signature, all_given, all_seen, arg_names, arg_typed, args_typed, call_by, gives, input_type, signature}
use Rattle.wdl_typed.specs.Declarations.{in_body}
use Rattle.wdl_typed.specs.Lists.{are_distinct, has_name}
use Rattle.wdl_typed.specs.Typing.{is_type}
use Rattle.wdl_check_types.specs.Outcome.{done, or_refused, refused, then_}
use Rattle.wdl_check_types.specs.Places.{call_span}
use Rattle.wdl_check_order.specs.Needs.{after_names, call_arguments}
use Rattle.wdl_check_decls.specs.Expressions.{expr_as}
use Rattle.wdl_check_decls.specs.Laws.{CastTypes}
use Rattle.wdl_check_flow.specs.Calls.{Stated, after_typed, after_unless, argument_typed, arguments_behind, call_to, call_typed, call_with, field, first_unseen, input_named, next_argument, required_given, stated_call, target_span, value_of}
use Rattle.wdl_check_flow.specs.Given.{call_gives, output_bound}
use Rattle.wdl_check_flow.specs.Laws.{IsOf, member_of}
use Rattle.wdl_check_flow.specs.Targets.{Offer, Place, target_of, world_at}
use Rattle.wdl_check_flow.proofs.CallLaws.{names_pushed}
use Rattle.wdl_check_flow.proofs.Gives.{gives_call}
use Rattle.wdl_check_decls.proofs.WellTyped.{then_some, refused_some}

-- ---- lists of arguments

args_pushed : (structs : Structs) (names : List Bound) (inputs : List TInput) (as_ : List (TField TExpr)) (a : TField TExpr) → args_typed structs names inputs as_ ≡ true
    → arg_typed (input_type inputs a.name) (in_body structs names a.value) ≡ true → args_typed structs names inputs (as_ ++ a ∷ []) ≡ true
args_pushed structs names inputs [] a h is = and_from _ _ is refl
args_pushed structs names inputs (x ∷ as_) a h is =
    let q = and_parts (arg_typed (input_type inputs x.name) (in_body structs names x.value)) (args_typed structs names inputs as_) h in
    and_from _ _ q.0 (args_pushed structs names inputs as_ a q.1 is)

distinct_pushed : (ns : List (List ℕ)) (n : List ℕ) → are_distinct ns ≡ true → has_name n ns ≡ false → are_distinct (ns ++ n ∷ []) ≡ true
distinct_pushed ns n d new =
    sym (fresh-distinct (ns ++ n ∷ [])) ∙ fresh-append [] ns (n ∷ [])
    ∙ and_from _ _ (fresh-distinct ns ∙ d) (ap (λ b. not b && true) new)

input_found : (inputs : List TInput) (name : List ℕ) → input_type inputs name ≡ option_map (λ (i : TInput). i.ty) (input_named inputs name)
input_found [] name = refl
input_found (i ∷ is) name = by_test (bytes_eq i.name name) (input_found is name)
  where
    by_test : (b : Bool) → input_type is name ≡ option_map (λ (i : TInput). i.ty) (input_named is name)
        → (if b then Some i.ty else input_type is name) ≡ option_map (λ (i : TInput). i.ty) (cond b (Some i) (input_named is name))
    by_test true h = refl
    by_test false h = h

seen_all : (calls : List (List ℕ)) (as_ : List After) → first_unseen calls as_ ≡ None → all_seen calls (after_names as_) ≡ true
seen_all calls [] h = refl
seen_all calls (a ∷ as_) h = by_test (λ k. seen_all calls as_ k) (has_name a.name.name calls) refl h
  where
    by_test : (first_unseen calls as_ ≡ None → all_seen calls (after_names as_) ≡ true) → (b : Bool) → has_name a.name.name calls ≡ b → (if b then first_unseen calls as_ else Some a.name.span) ≡ None → (b && all_seen calls (after_names as_)) ≡ true
    by_test rest true e h = rest h
    by_test rest false e h = cc

outputs_bound : (name : List ℕ) (ds : List TDecl) → map (output_bound name) (map member_of ds) ≡ map (well.output_bound name) ds
outputs_bound name [] = refl
outputs_bound name (d ∷ ds) = ap (λ bs. well.output_bound name d ∷ bs) (outputs_bound name ds)

-- ---- the parts of a call

module _ (casts : CastTypes) (p : Place) (seen : Seen) (o : Offer) where
  argument_fits : (a : Argument) (f : TField TExpr) → (argument_typed p seen o a).typed ≡ Some f
      → (f.name ≡ a.name.name) × (arg_typed (input_type o.inputs f.name) (in_body p.world.structs seen.names f.value) ≡ true)
  argument_fits a f h =
      let q = then_some (or_refused 324 a.name.span (input_named o.inputs a.name.name)) (λ (i : TInput). then_ (expr_as (world_at p seen) seen.names false (value_of a.name a.value) i.ty) (λ e. done (field a.name.name e))) f h in
      let r = then_some (expr_as (world_at p seen) seen.names false (value_of a.name a.value) q.0.ty) (λ e. done (field a.name.name e)) f q.2 in
      subst (λ (z : TField TExpr). (z.name ≡ a.name.name) × (arg_typed (input_type o.inputs z.name) (in_body p.world.structs seen.names z.value) ≡ true)) (same_Some (field a.name.name r.0) f r.2) (
        refl,
        ap (λ (t : Option Ty). arg_typed t (in_body p.world.structs seen.names r.0)) (input_found o.inputs a.name.name ∙ ap (option_map (λ (i : TInput). i.ty)) (refused_some 324 a.name.span (input_named o.inputs a.name.name) q.0 q.1))
            ∙ ap (λ (t : Option Ty). is_type t q.0.ty) (casts (world_at p seen) seen.names false (value_of a.name a.value) q.0.ty r.0 r.1)
            ∙ same_type-refl q.0.ty,
      )

  -- an argument that stands behind others is none of these
  next_fits : (given : List (List ℕ)) (a : Argument) (f : TField TExpr) → (next_argument p seen o given a).typed ≡ Some f
      → (has_name f.name given ≡ false) × (arg_typed (input_type o.inputs f.name) (in_body p.world.structs seen.names f.value) ≡ true)
  next_fits given a f h = by_test (has_name a.name.name given) refl h
    where
      by_test : (b : Bool) → has_name a.name.name given ≡ b → (if b then refused 321 a.name.span else argument_typed p seen o a).typed ≡ Some f
          → (has_name f.name given ≡ false) × (arg_typed (input_type o.inputs f.name) (in_body p.world.structs seen.names f.value) ≡ true)
      by_test true e h = cc
      by_test false e h =
          let q = argument_fits a f h in
          (ap (λ n. has_name n given) q.0 ∙ e, q.1)

  abbrev Fine : List (TField TExpr) → Type 0
  Fine as_ = (args_typed p.world.structs seen.names o.inputs as_ ≡ true) × (are_distinct (arg_names as_) ≡ true)

  arguments_fit : (before : List (TField TExpr)) (as_ : List (ListItem Argument)) (all : List (TField TExpr)) → Fine before
      → (arguments_behind p seen o before as_).typed ≡ Some all → Fine all
  arguments_fit before [] all fine h = subst Fine (same_Some before all h) fine
  arguments_fit before (a ∷ as_) all fine h =
      let q = then_some (next_argument p seen o (arg_names before) a.item) (λ f. arguments_behind p seen o (before ++ f ∷ []) as_) all h in
      let r = next_fits (arg_names before) a.item q.0 q.1 in
      arguments_fit (before ++ q.0 ∷ []) as_ all (
        args_pushed p.world.structs seen.names o.inputs before q.0 fine.0 r.1,
        ap are_distinct (names_pushed before q.0) ∙ distinct_pushed (arg_names before) q.0.name fine.1 r.0,
      )
      q.2

  required_fits : (span : Span) (given : List (List ℕ)) (u : Unit {0}) → (required_given span o given).typed ≡ Some u → all_given o.inputs given ≡ true
  required_fits span given u h = by_test (all_given o.inputs given) h
    where
      by_test : (b : Bool) → (if b then done tt else refused 323 span).typed ≡ Some u → b ≡ true
      by_test true h = refl
      by_test false h = cc

  after_fits : (as_ : List After) (ns : List (List ℕ)) → (after_typed seen as_).typed ≡ Some ns → all_seen seen.calls ns ≡ true
  after_fits as_ ns h = by_span (first_unseen seen.calls as_) refl h
    where
      by_span : (s : Option Span) → first_unseen seen.calls as_ ≡ s → (after_unless s as_).typed ≡ Some ns → all_seen seen.calls ns ≡ true
      by_span (Some span) e h = cc
      by_span None e h = subst (λ ns. all_seen seen.calls ns ≡ true) (same_Some (after_names as_) ns h) (seen_all seen.calls as_ e)

  -- the call that was typed, over what the library has
  call_fits : (c : Call) (t : TCall) → (call_to p seen o c).typed ≡ Some t
      → (t.target ≡ o.target) × ((has : Signature) → has.inputs ≡ o.inputs → map member_of has.outputs ≡ o.outputs → call_by p.world.structs t seen has ≡ Some (call_gives t.name o.outputs))
  call_fits c t h =
      let q = then_some (arguments_behind p seen o [] (call_arguments c)) (λ args. then_ (required_given (call_span c) o (arg_names args)) (λ _. then_ (after_typed seen c.after) (λ after. done (call_with c o args after)))) t h in
      let r = then_some (required_given (call_span c) o (arg_names q.0)) (λ _. then_ (after_typed seen c.after) (λ after. done (call_with c o q.0 after))) t q.2 in
      let s = then_some (after_typed seen c.after) (λ after. done (call_with c o q.0 after)) t r.2 in
      let fine = arguments_fit [] (call_arguments c) q.0 (refl, refl) q.1 in
      let given : all_given o.inputs (arg_names q.0) ≡ true = required_fits (call_span c) (arg_names q.0) r.0 r.1 in
      let seen_too : all_seen seen.calls s.0 ≡ true = after_fits c.after s.0 s.1 in
      subst (λ (z : TCall). (z.target ≡ o.target) × ((has : Signature) → has.inputs ≡ o.inputs → map member_of has.outputs ≡ o.outputs → call_by p.world.structs z seen has ≡ Some (call_gives z.name o.outputs)))
      (same_Some (call_with c o q.0 s.0) t s.2)
      (refl, λ has inputs outputs. by_parts (call_with c o q.0 s.0) has inputs outputs fine.0 fine.1 given seen_too)
    where
      by_parts : (t : TCall) (has : Signature) → has.inputs ≡ o.inputs → map member_of has.outputs ≡ o.outputs
          → args_typed p.world.structs seen.names o.inputs t.args ≡ true → are_distinct (arg_names t.args) ≡ true → all_given o.inputs (arg_names t.args) ≡ true → all_seen seen.calls t.after ≡ true
          → call_by p.world.structs t seen has ≡ Some (call_gives t.name o.outputs)
      by_parts t has inputs outputs a b c d =
          ap (λ (test : Bool). if test then Some (well.call_gives t.name has.outputs) else None)
          (and_from _ _ (and_from _ _ (and_from _ _ (ap (λ is. args_typed p.world.structs seen.names is t.args) inputs ∙ a) b) (ap (λ is. all_given is (arg_names t.args)) inputs ∙ c)) d)
          ∙ ap (λ (bs : List Bound). Some (record { names = bs; calls = t.name ∷ [] })) (sym (outputs_bound t.name has.outputs) ∙ ap (map (output_bound t.name)) outputs)

pub call_well : CastTypes → (lib : Library) (p : Place) (seen : Seen) (c : Call) (x : Stated) → IsOf lib p → (call_typed p seen c).typed ≡ Some x
    → gives lib x.statement seen ≡ Some x.given
call_well casts lib p seen c x of h =
    let q = then_some (or_refused 322 (target_span c.target) (target_of p.reach c.target)) (λ (o : Offer). then_ (call_to p seen o c) (λ (t : TCall). done (stated_call o t))) x h in
    let r = then_some (call_to p seen q.0 c) (λ (t : TCall). done (stated_call q.0 t)) x q.2 in
    let off = of.offered c.target q.0 (refused_some 322 (target_span c.target) (target_of p.reach c.target) q.0 q.1) in
    let fits = call_fits casts p seen q.0 c r.0 r.1 in
    subst (λ (z : Stated). gives lib z.statement seen ≡ Some z.given) (same_Some (stated_call q.0 r.0) x r.2)
    (gives_call lib r.0 seen
    ∙ ap (λ (t : Target). option_and_then (call_by lib.structs r.0 seen) (signature lib t)) fits.0
    ∙ ap (option_and_then (call_by lib.structs r.0 seen)) off.found
    ∙ ap (λ (structs : Structs). call_by structs r.0 seen off.has) (sym of.structs)
    ∙ fits.1 off.has off.inputs off.outputs)
