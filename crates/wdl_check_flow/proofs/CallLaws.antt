-- What code answers for a call, from what it answers for its parts.
use Rattle.std.proofs.Common.{◌≡◌, ℕ, ◌+◌, ◌<◌, ◌≤◌, List, [], ◌∷◌, ◌++◌, Some, Ok, Err, length, get_or, drop, refl, sym, ap, subst}
use Rattle.std.proofs.Math.ListN.{drop_of_length-le}
use Rattle.wdl_ast.specs.declared.leaf.ListItem.{ListItem}
use Rattle.wdl_ast.specs.declared.workflow.Argument.{Argument}
use Rattle.wdl_ast.specs.declared.workflow.Call.{Call}
use Rattle.wdl_typed.specs.declared.expr.TExpr.{TExpr}
use Rattle.wdl_typed.specs.declared.expr.TField.{TField}
use Rattle.wdl_typed.specs.declared.flow.TCall.{TCall}
use Rattle.wdl_typed.specs.Bodies.{Seen, arg_names}
use Rattle.wdl_check_rules.specs.declared.fault.CheckFault.{CheckFault}
use Rattle.wdl_check_types.specs.Outcome.{Answers, Outcome, done, or_refused, then_}
use Rattle.wdl_check_types.specs.Places.{call_span}
use Rattle.wdl_check_types.proofs.OutcomeLaws.{then_err, then_ok}
use Rattle.wdl_check_order.specs.Needs.{call_arguments}
use Rattle.wdl_check_decls.proofs.ListLaws.{Leads, leads_done, leads_on}
use Rattle.wdl_check_flow.specs.Calls.{after_typed, arguments_behind, call_to, call_typed, call_with, next_argument, required_given, stated_call, target_span}
use Rattle.wdl_check_flow.specs.Targets.{Offer, Place, target_of}
use Rattle.wdl_check_rules.proofs.MemberLaws.{at_front as drop_item}

pub names_pushed : (as_ : List (TField TExpr)) (a : TField TExpr) → arg_names (as_ ++ a ∷ []) ≡ arg_names as_ ++ a.name ∷ []
names_pushed [] a = refl
names_pushed (x ∷ as_) a = ap (λ ns. x.name ∷ ns) (names_pushed as_ a)

module _ (p : Place) (seen : Seen) (o : Offer) where
  -- ---- arguments, one after the other

  pub arguments_next : (before after : List (TField TExpr)) (as_ : List (ListItem Argument)) (i : ℕ) (a : ListItem Argument) (f : TField TExpr) (whole : Outcome (List (TField TExpr)))
      → i < length as_ → a ≡ get_or as_ i a → (next_argument p seen o (arg_names before) a.item).typed ≡ Some f → after ≡ before ++ f ∷ []
      → Leads (arguments_behind p seen o before (drop i as_)) whole → Leads (arguments_behind p seen o after (drop (i + 1) as_)) whole
  arguments_next before after as_ i a f whole within is e pushed leads =
      subst (λ (fs : List (TField TExpr)). Leads (arguments_behind p seen o fs (drop (i + 1) as_)) whole) (sym pushed)
      (leads_on (next_argument p seen o (arg_names before) a.item) (λ f. arguments_behind p seen o (before ++ f ∷ []) (drop (i + 1) as_)) whole f e
      (subst (λ (rest : List (ListItem Argument)). Leads (arguments_behind p seen o before rest) whole) (drop_item as_ i a within is) leads))

  pub arguments_refused : (before : List (TField TExpr)) (as_ : List (ListItem Argument)) (i : ℕ) (a : ListItem Argument) (e : CheckFault) (whole : Outcome (List (TField TExpr)))
      → i < length as_ → a ≡ get_or as_ i a → Answers (next_argument p seen o (arg_names before) a.item) (Err e)
      → Leads (arguments_behind p seen o before (drop i as_)) whole → Answers whole (Err e)
  arguments_refused before as_ i a e whole within is h leads =
      subst (λ (rest : List (ListItem Argument)). Leads (arguments_behind p seen o before rest) whole) (drop_item as_ i a within is) leads (Err e)
      (then_err (next_argument p seen o (arg_names before) a.item) (λ f. arguments_behind p seen o (before ++ f ∷ []) (drop (i + 1) as_)) e h)

  pub arguments_all : (before : List (TField TExpr)) (as_ : List (ListItem Argument)) (i : ℕ) (whole : Outcome (List (TField TExpr))) → length as_ ≤ i
      → Leads (arguments_behind p seen o before (drop i as_)) whole → whole.typed ≡ Some before
  arguments_all before as_ i whole past leads =
      leads_done before whole (subst (λ (rest : List (ListItem Argument)). Leads (arguments_behind p seen o before rest) whole) (drop_of_length-le as_ past) leads)

  -- ---- the parts of a call

  pub required_refused : (c : Call) (args : List (TField TExpr)) (e : CheckFault) → (arguments_behind p seen o [] (call_arguments c)).typed ≡ Some args
      → Answers (required_given (call_span c) o (arg_names args)) (Err e) → Answers (call_to p seen o c) (Err e)
  required_refused c args e f h =
      then_ok (arguments_behind p seen o [] (call_arguments c)) (λ args. then_ (required_given (call_span c) o (arg_names args)) (λ _. then_ (after_typed seen c.after) (λ after. done (call_with c o args after)))) args (Err e) f
      (then_err (required_given (call_span c) o (arg_names args)) (λ _. then_ (after_typed seen c.after) (λ after. done (call_with c o args after))) e h)

  pub after_refused : (c : Call) (args : List (TField TExpr)) (u : Unit {0}) (e : CheckFault) → (arguments_behind p seen o [] (call_arguments c)).typed ≡ Some args
      → (required_given (call_span c) o (arg_names args)).typed ≡ Some u → Answers (after_typed seen c.after) (Err e) → Answers (call_to p seen o c) (Err e)
  after_refused c args u e f g h =
      then_ok (arguments_behind p seen o [] (call_arguments c)) (λ args. then_ (required_given (call_span c) o (arg_names args)) (λ _. then_ (after_typed seen c.after) (λ after. done (call_with c o args after)))) args (Err e) f
      (then_ok (required_given (call_span c) o (arg_names args)) (λ _. then_ (after_typed seen c.after) (λ after. done (call_with c o args after))) u (Err e) g
      (then_err (after_typed seen c.after) (λ after. done (call_with c o args after)) e h))

  pub call_found : (c : Call) (t : TCall) → target_of p.reach c.target ≡ Some o → (call_to p seen o c).typed ≡ Some t → (call_typed p seen c).typed ≡ Some (stated_call o t)
  call_found c t e h =
      then_ok (or_refused 322 (target_span c.target) (target_of p.reach c.target)) (λ (o : Offer). then_ (call_to p seen o c) (λ (t : TCall). done (stated_call o t))) o (Ok (stated_call o t))
      (ap (λ x. (or_refused 322 (target_span c.target) x).typed) e) (then_ok (call_to p seen o c) (λ (t : TCall). done (stated_call o t)) t (Ok (stated_call o t)) h refl)
