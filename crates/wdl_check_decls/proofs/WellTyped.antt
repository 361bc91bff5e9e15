-- What is typed here is well typed where it stands.
use Rattle.std.proofs.Common.{◌≡◌, ℕ, Bool, true, false, ◌&&◌, List, [], ◌∷◌, ◌++◌, Option, Some, None, option_and_then, option_map, if◌then◌else◌, map, codes, refl, ap, sym, ◌∙◌, subst}
use Rattle.std.proofs.lemmas.Bool.{and_from}
use Rattle.std.proofs.lemmas.List.{append-nil, append_assoc}
use Rattle.std.specs.Str.{bytes_eq}
use Rattle.std.proofs.lemmas.Option.{same_Some}
use Rattle.wdl_base.specs.declared.span.Span.{Span}
use Rattle.wdl_value.specs.declared.operator.Func.{Func}
use Rattle.wdl_value.specs.declared.operator.Func.TheVariants as func
use Rattle.wdl_value.specs.declared.ty.Ty.{Ty}
use Rattle.wdl_value.specs.declared.typing.FuncTyping.{FuncTyping}
use Rattle.wdl_value.specs.Coerces.{coerces}
use Rattle.wdl_value.specs.FunctionTypes.{function_type, writes}
use Rattle.wdl_value.specs.SameType.{same_type}
use Rattle.wdl_value.proofs.SameTypeLemmas.{same_type-true, same_type-refl}
use Rattle.wdl_ast.specs.declared.expr.Expr.{Expr}
use Rattle.wdl_ast.specs.declared.leaf.ListItem.{ListItem}
use Rattle.wdl_ast.specs.declared.section.Assigned.{Assigned}
use Rattle.wdl_ast.specs.declared.section.Declaration.{Declaration}
use Rattle.wdl_ast.specs.declared.section.InputDeclaration.{InputDeclaration}
use Rattle.wdl_typed.specs.declared.expr.TExpr.{TExpr}
use Rattle.wdl_typed.specs.declared.expr.TExpr.TheVariants as te
use Rattle.wdl_typed.specs.declared.scope.Bound.{Bound}
use Rattle.wdl_typed.specs.declared.task.TDecl.{TDecl}
use Rattle.wdl_typed.specs.declared.task.TInput.{TInput}
use Rattle.wdl_typed.specs.Declarations as well
use Rattle.wdl_typed.specs.Declarations.{decls_bound, default_typed, inputs_bound, type_in_place}
use Rattle.wdl_typed.specs.KnownTypes.{is_written}
use Rattle.wdl_typed.specs.Order.{picked}
use Rattle.wdl_typed.specs.Typing.{are_same, is_type, type_of, when}
use Rattle.wdl_check_rules.specs.declared.typed.Typed.{Typed}
use Rattle.wdl_check_rules.specs.Rules.{applied as applied_row, apply_of, cast_args, cast_to, coerced}
use Rattle.wdl_check_rules.specs.Spans.{joined, span_of}
use Rattle.wdl_check_laws.proofs.FunctionLaws.{CoerceAll, called}
use Rattle.wdl_check_laws.proofs.TreeLaws.{cast_has}
use Rattle.wdl_check_laws.proofs.WellTyped.{well_cast, well_typed}
use Rattle.wdl_check_types.specs.Outcome.{Outcome, done, or_refused, then_}
use Rattle.wdl_check_types.specs.Places.{declaration_span, input_span}
use Rattle.wdl_check_types.specs.Written.{written}
use Rattle.wdl_check_types.proofs.KnownLaws.{known}
use Rattle.wdl_check_order.specs.Needs.{declaration_needing, input_needing}
use Rattle.wdl_check_order.specs.Ordered.{ordered}
use Rattle.wdl_check_decls.specs.declared.standing.Standing.{Standing}
use Rattle.wdl_check_decls.specs.declared.standing.Standing.TheVariants.{Private, Output, Body}
use Rattle.wdl_check_decls.specs.Declarations.{decl_as, decl_typed, declared, decls_behind, input, input_as, input_typed, inputs_behind, preset_typed, value_typed}
use Rattle.wdl_check_decls.specs.Expressions.{World, expr_as, expr_typed, scope}
use Rattle.wdl_check_decls.specs.Laws.{CastTypes, DeclTypes, DeclsTypes, ExprTypes, InputsTypes, IsKnown, PlacedTypes, context, is_declared, typing_at}
use Rattle.wdl_check_decls.specs.Writes.{WholeCall, applied, arguments_typed, placed, placed_typed, whole_call, write_among, write_func}
use Rattle.wdl_check_decls.proofs.ListLaws.{decls_after, inputs_after}
use Rattle.wdl_check_decls.proofs.Placed.{cast_placed, plain_placed, write_placed}
use Rattle.wdl_base.proofs.Options.{map_parts}

-- what two parts give, the first has given something
pub then_some : {A B : Type 0} (o : Outcome A) (f : A → Outcome B) (b : B) → (then_ o f).typed ≡ Some b → (a : A) × (o.typed ≡ Some a) × ((f a).typed ≡ Some b)
then_some {A} o f b h = by_first o.typed refl h
  where
    by_first : (t : Option A) → o.typed ≡ t → option_and_then (λ a. (f a).typed) t ≡ Some b → (a : A) × (o.typed ≡ Some a) × ((f a).typed ≡ Some b)
    by_first None e h = cc
    by_first (Some a) e h = (a, e, h)

pub refused_some : {A : Type 0} (code : ℕ) (span : Span) (o : Option A) (a : A) → (or_refused code span o).typed ≡ Some a → o ≡ Some a
refused_some code span None a h = cc
refused_some code span (Some x) a h = h

-- ---- expressions

pub expr_types : ExprTypes
expr_types w names outputs placeholder e x h = well_typed (scope w names outputs placeholder) e placeholder x h

pub cast_types : CastTypes
cast_types w names outputs e t x h = well_cast (scope w names outputs false) e t x h

-- ---- calls of the functions that write files

write_func_writes : (name : List ℕ) (f : Func) → write_func name ≡ Some f → writes f ≡ true
write_func_writes name f h = by_name (bytes_eq name (codes "write_lines")) (bytes_eq name (codes "write_tsv")) (bytes_eq name (codes "write_map")) h
  where
    by_name : (a b c : Bool) → (if a then Some func.WriteLines else (if b then Some func.WriteTsv else (if c then Some func.WriteMap else None))) ≡ Some f → writes f ≡ true
    by_name true b c h = subst (λ (g : Func). writes g ≡ true) (same_Some func.WriteLines f h) refl
    by_name false true c h = subst (λ (g : Func). writes g ≡ true) (same_Some func.WriteTsv f h) refl
    by_name false false true h = subst (λ (g : Func). writes g ≡ true) (same_Some func.WriteMap f h) refl
    by_name false false false h = cc

one_args : (f : Func) (x : Typed) (row : FuncTyping) (w : World) (names : List Bound) (p : Bool) → writes f ≡ true
    → type_of (context w names false) x.expr p ≡ Some x.ty → CoerceAll (x.ty ∷ []) row.args → function_type f row.args ≡ Some row
    → type_in_place (context w names false) (te.Apply f (cast_args row.args (x ∷ []))) p ≡ Some row.result
one_args f x row w names p is h c k = by_args row.args refl c k
  where
    by_args : (ts : List Ty) → row.args ≡ ts → CoerceAll (x.ty ∷ []) ts → function_type f ts ≡ Some row
        → type_in_place (context w names false) (te.Apply f (cast_args ts (x ∷ []))) p ≡ Some row.result
    by_args [] e c k = absurd c
    by_args (t ∷ []) e c k =
        write_placed (context w names false) f (cast_to x t) p t row is (cast_has (scope w names false p) p x t h c.0) k
        (ap (λ (us : List Ty). when (are_same us (t ∷ [])) row.result) e ∙ ap (λ (b : Bool). when b row.result) (and_from _ _ (same_type-refl t) refl))
    by_args (t ∷ u ∷ ts) e c k = absurd c.1

call_types : (w : World) (names : List Bound) (p : Bool) (f : Func) (span : Span) (items : List (ListItem Expr)) (y : Typed) → writes f ≡ true
    → (arguments_typed w names p f span items).typed ≡ Some y → type_in_place (context w names false) y.expr p ≡ Some y.ty
call_types w names p f span [] y is h = cc
call_types w names p f span (a ∷ []) y is h =
    let q = then_some (expr_typed w names false p a.item) (applied f span) y h in
    let x = q.0 in
    let r = map_parts (applied_row f (x ∷ [])) (function_type f (x.ty ∷ [])) y (refused_some 305 span (apply_of f (x ∷ [])) y q.2) in
    let c = called f (x.ty ∷ []) r.0 r.1 in
    subst (λ (z : Typed). type_in_place (context w names false) z.expr p ≡ Some z.ty) r.2
    (one_args f x r.0 w names p is (expr_types w names false p a.item x q.1) c.0 c.1)
call_types w names p f span (a ∷ b ∷ items) y is h = cc

pub placed_types : PlacedTypes
placed_types w names p e x h = by_call (whole_call e) h
  where
    by_func : (c : WholeCall) (o : Option Func) → write_func c.name.name ≡ o
        → (placed w names p e (option_map (λ f. record { func = f; arguments = c.arguments; span = joined c.name.span c.closing }) o)).typed ≡ Some x
        → type_in_place (context w names false) x.expr p ≡ Some x.ty
    by_func c None i h = plain_placed (context w names false) x.expr p x.ty (expr_types w names false p e x h)
    by_func c (Some f) i h = call_types w names p f (joined c.name.span c.closing) c.arguments x (write_func_writes c.name.name f i) h

    by_call : (o : Option WholeCall) → (placed w names p e (write_among o)).typed ≡ Some x → type_in_place (context w names false) x.expr p ≡ Some x.ty
    by_call None h = plain_placed (context w names false) x.expr p x.ty (expr_types w names false p e x h)
    by_call (Some c) h = by_func c (write_func c.name.name) refl h

-- ---- the values of declarations

private_types : (w : World) (names : List Bound) (x : Typed) (t : Ty) (e : TExpr) → type_in_place (context w names false) x.expr false ≡ Some x.ty
    → coerced x t ≡ Some e → type_in_place (context w names false) e false ≡ Some t
private_types w names x t e h is = by_test (coerces x.ty t) refl is
  where
    by_same : (b : Bool) → same_type x.ty t ≡ b → coerces x.ty t ≡ true → (if b then x.expr else te.Cast x.expr t) ≡ e → type_in_place (context w names false) e false ≡ Some t
    by_same true i c k = subst (λ (z : TExpr). type_in_place (context w names false) z false ≡ Some t) k (h ∙ ap Some (same_type-true x.ty t i))
    by_same false i c k = subst (λ (z : TExpr). type_in_place (context w names false) z false ≡ Some t) k (cast_placed (context w names false) x.expr false x.ty t h c)

    by_test : (b : Bool) → coerces x.ty t ≡ b → (if b then Some (cast_to x t) else None) ≡ Some e → type_in_place (context w names false) e false ≡ Some t
    by_test true c k = by_same (same_type x.ty t) refl c (same_Some (cast_to x t) e k)
    by_test false c k = cc

value_types : (standing : Standing) (w : World) (names : List Bound) (e : Expr) (t : Ty) (x : TExpr)
    → (value_typed standing w names e t).typed ≡ Some x → typing_at standing w.structs names x ≡ Some t
value_types Private w names e t x h =
    let q = then_some (placed_typed w names false e) (λ x. or_refused 303 (span_of e) (coerced x t)) x h in
    private_types w names q.0 t x (placed_types w names false e q.0 q.1) (refused_some 303 (span_of e) (coerced q.0 t) x q.2)
value_types Output w names e t x h = cast_types w names true e t x h
value_types Body w names e t x h = cast_types w names false e t x h

pub has_type : (o : Option Ty) (t : Ty) → o ≡ Some t → is_type o t ≡ true
has_type o t h = ap (λ (q : Option Ty). is_type q t) h ∙ same_type-refl t

pub decl_types : DeclTypes
decl_types standing w names d t are h =
    let q = then_some (written w.locals d.ty) (decl_as standing w names d) t h in
    let r = then_some (value_typed standing w names d.value q.0) (λ e. done (declared d q.0 e)) t q.2 in
    subst (λ (z : TDecl). is_declared standing w.structs names z ≡ true) (same_Some (declared d q.0 r.0) t r.2)
    (and_from _ _ (known w.structs w.locals d.ty q.0 are q.1) (has_type _ q.0 (value_types standing w names d.value q.0 r.0 r.1)))

-- ---- lists

-- what is given stands behind what was there, and is well typed where it stands
abbrev Behind : {T : Type 0} → (List T → Bool) → List T → List T → Type 0
Behind {T} fine before all = (more : List T) × (all ≡ before ++ more) × (fine more ≡ true)

nothing_behind : {T : Type 0} (fine : List T → Bool) (before all : List T) → fine [] ≡ true → Some before ≡ Some all → Behind fine before all
nothing_behind {T} fine before all f h = ([], sym (same_Some before all h) ∙ sym (append-nil before), f)

abbrev decls_fine : Standing → World → List Bound → List TDecl → Bool
decls_fine standing w names = well.decls_typed (typing_at standing w.structs) w.structs names

decls_behind_types : (standing : Standing) (w : World) (names : List Bound) → IsKnown w → (before : List TDecl) (ds : List Declaration) (ts : List TDecl)
    → (decls_behind standing w names before ds).typed ≡ Some ts → Behind (decls_fine standing w (names ++ decls_bound before)) before ts
decls_behind_types standing w names are before [] ts h = nothing_behind (decls_fine standing w (names ++ decls_bound before)) before ts refl h
decls_behind_types standing w names are before (d ∷ ds) ts h =
    let q = then_some (decl_typed standing w (names ++ decls_bound before) d) (λ t. decls_behind standing w names (before ++ t ∷ []) ds) ts h in
    let r = decls_behind_types standing w names are (before ++ q.0 ∷ []) ds ts q.2 in (
      q.0 ∷ r.0,
      r.1 ∙ append_assoc before (q.0 ∷ []) r.0,
      and_from _ _ (decl_types standing w (names ++ decls_bound before) d q.0 are q.1)
          (subst (λ (bs : List Bound). decls_fine standing w bs r.0 ≡ true) (decls_after names before q.0) r.2),
    )

pub decls_types : DeclsTypes
decls_types standing w names ds ts are h =
    let q = then_some (ordered (map declaration_needing ds) (map declaration_span ds)) (λ ps. decls_behind standing w names [] (picked ds ps)) ts h in
    let r = decls_behind_types standing w names are [] (picked ds q.0) ts q.2 in
    subst (λ (us : List TDecl). decls_fine standing w names us ≡ true) (sym r.1)
    (subst (λ (bs : List Bound). decls_fine standing w bs r.0 ≡ true) (append-nil names) r.2)

preset_types : (w : World) (names : List Bound) (t : Ty) (o : Option Assigned) (v : Option TExpr)
    → (preset_typed w names t o).typed ≡ Some v → default_typed w.structs names t v ≡ true
preset_types w names t None v h = subst (λ (u : Option TExpr). default_typed w.structs names t u ≡ true) (same_Some None v h) refl
preset_types w names t (Some a) v h =
    let q = then_some (expr_as w names false a.value t) (λ e. done (Some e)) v h in
    subst (λ (u : Option TExpr). default_typed w.structs names t u ≡ true) (same_Some (Some q.0) v q.2)
    (has_type _ t (cast_types w names false a.value t q.0 q.1))

abbrev is_input : World → List Bound → TInput → Bool
is_input w names i = is_written w.structs i.ty && default_typed w.structs names i.ty i.value

input_types : (w : World) (names : List Bound) (i : InputDeclaration) (t : TInput) → IsKnown w → (input_typed w names i).typed ≡ Some t → is_input w names t ≡ true
input_types w names i t are h =
    let q = then_some (written w.locals i.ty) (input_as w names i) t h in
    let r = then_some (preset_typed w names q.0 i.preset) (λ v. done (input i q.0 v)) t q.2 in
    subst (λ (z : TInput). is_input w names z ≡ true) (same_Some (input i q.0 r.0) t r.2)
    (and_from _ _ (known w.structs w.locals i.ty q.0 are q.1) (preset_types w names q.0 i.preset r.0 r.1))

inputs_behind_types : (w : World) → IsKnown w → (before : List TInput) (is : List InputDeclaration) (ts : List TInput)
    → (inputs_behind w before is).typed ≡ Some ts → Behind (well.inputs_typed w.structs (inputs_bound before)) before ts
inputs_behind_types w are before [] ts h = nothing_behind (well.inputs_typed w.structs (inputs_bound before)) before ts refl h
inputs_behind_types w are before (i ∷ is) ts h =
    let q = then_some (input_typed w (inputs_bound before) i) (λ t. inputs_behind w (before ++ t ∷ []) is) ts h in
    let r = inputs_behind_types w are (before ++ q.0 ∷ []) is ts q.2 in (
      q.0 ∷ r.0,
      r.1 ∙ append_assoc before (q.0 ∷ []) r.0,
      and_from _ _ (input_types w (inputs_bound before) i q.0 are q.1)
          (subst (λ (bs : List Bound). well.inputs_typed w.structs bs r.0 ≡ true) (inputs_after before q.0) r.2),
    )

pub inputs_types : InputsTypes
inputs_types w is ts are h =
    let q = then_some (ordered (map input_needing is) (map input_span is)) (λ ps. inputs_behind w [] (picked is ps)) ts h in
    let r = inputs_behind_types w are [] (picked is q.0) ts q.2 in
    subst (λ (us : List TInput). well.inputs_typed w.structs [] us ≡ true) (sym r.1) r.2
