-- Tests of names: of each name of a list, of what typed expressions name, and that none is gone.
use Rattle.std.proofs.Common.{◌≡◌, ℕ, Bool, true, false, not, ◌||◌, List, [], ◌∷◌, ◌++◌, Option, Some, None, sym, ap, ◌∙◌, refl}
use Rattle.std.specs.List.{list_all}
use Rattle.std.specs.Str.{bytes_eq}
use Rattle.std.proofs.lemmas.Bool.{false≢true, and_from, and_parts, or_left, or_right}
use Rattle.std.proofs.lemmas.List.Folds.{list_all-append}
use Rattle.std.proofs.lemmas.Slice.Eq.{bytes_eq-Decides}
use Rattle.wdl_base.specs.declared.name.Key.{Key}
use Rattle.wdl_value.specs.declared.ty.Ty.{Ty}
use Rattle.wdl_typed.specs.declared.expr.TExpr.{TExpr}
use Rattle.wdl_typed.specs.declared.expr.TField.{TField}
use Rattle.wdl_typed.specs.declared.flow.TCall.{TCall}
use Rattle.wdl_typed.specs.declared.scope.Bound.{Bound}
use Rattle.wdl_typed.specs.declared.task.TInput.{TInput}
use Rattle.wdl_typed.specs.Bodies.{Library, arg_typed, args_typed, input_type}
use Rattle.wdl_typed.specs.Declarations.{in_body, input_names, inputs_bound, plain_key}
use Rattle.wdl_typed.specs.Lists.{has_name}
use Rattle.record_laws.proofs.Bound.{some_typed}
use Rattle.record_laws.proofs.Fine.{all_ok, names_ok}
use Rattle.record_laws.proofs.Scopes.{IsCalled, IsTyped}
use Rattle.alias_laws.proofs.Calls.{CleanArgs, CleanCall}
use Rattle.alias_laws.proofs.Hiding.{hidden_by}
use Rattle.alias_laws.proofs.Sights.{Clean}

-- ---- lists of names

pub each_name : (p : List ℕ → Bool) (ns : List (List ℕ)) → ((n : List ℕ) → has_name n ns ≡ true → p n ≡ true) → list_all p ns ≡ true
each_name p [] f = refl
each_name p (n ∷ ns) f =
    and_from (p n) (list_all p ns) (f n (or_left (bytes_eq n n) (has_name n ns) ((bytes_eq-Decides n n).1 refl))) (each_name p ns (λ m h. f m (or_right (bytes_eq n m) (has_name m ns) h)))

pub name_passes : (p : List ℕ → Bool) (ns : List (List ℕ)) (n : List ℕ) → list_all p ns ≡ true → has_name n ns ≡ true → p n ≡ true
name_passes p [] n h j = absurd (false≢true j)
name_passes p (m ∷ ns) n h j =
    let q = and_parts (p m) (list_all p ns) h in
    by_name (bytes_eq m n) refl j q.0 (name_passes p ns n q.1)
  where
    by_name : (b : Bool) → bytes_eq m n ≡ b → (b || has_name n ns) ≡ true → p m ≡ true → (has_name n ns ≡ true → p n ≡ true) → p n ≡ true
    by_name true e j own rest = ap p (sym ((bytes_eq-Decides m n).0 e)) ∙ own
    by_name false e j own rest = rest j

-- ---- what typed expressions name

module _ (bad : List ℕ → Bool) where
  abbrev hidden : Key → Bool
  hidden = hidden_by bad

  abbrev pub ok : Key → Bool
  ok key = not (hidden key)

  -- Inputs of which none is bad.
  pub inputs_ok : (is : List TInput) → list_all (λ (n : List ℕ). not (bad n)) (input_names is) ≡ true → all_ok ok (inputs_bound is)
  inputs_ok [] h = refl
  inputs_ok (i ∷ is) h =
      let p = and_parts (not (bad i.name)) (list_all (λ (n : List ℕ). not (bad n)) (input_names is)) h in
      and_from (ok (plain_key i.name)) (list_all (λ (b : Bound). ok b.key) (inputs_bound is)) p.0 (inputs_ok is p.1)

  pub ok_both : (front more : List Bound) → all_ok ok front → all_ok ok more → all_ok ok (front ++ more)
  ok_both front more h j = list_all-append (λ (b : Bound). ok b.key) front more ∙ and_from (list_all (λ (b : Bound). ok b.key) front) (list_all (λ (b : Bound). ok b.key) more) h j

  module _ (lib : Library) (first : List Bound) (fine : all_ok ok first) where
    scope_ok : (names : List Bound) → (more : List Bound) × (names ≡ first ++ more) × (all_ok ok more) → all_ok ok names
    scope_ok names s = ap (list_all (λ (b : Bound). ok b.key)) s.1 ∙ ok_both first s.0 fine s.2

    -- An expression that is typed where no name is bad names none.
    pub typed_clean : (e : TExpr) → IsTyped lib first bad e → Clean hidden e
    typed_clean e t = names_ok ok lib.structs t.names (scope_ok t.names t.scope) e t.ty t.typed

    args_clean : (names : List Bound) → all_ok ok names → (is : List TInput) (as_ : List (TField TExpr)) → args_typed lib.structs names is as_ ≡ true → CleanArgs hidden as_
    args_clean names h is [] t = tt
    args_clean names h is (a ∷ as_) t =
        let p = and_parts (arg_typed (input_type is a.name) (in_body lib.structs names a.value)) (args_typed lib.structs names is as_) t in
        let u = by_type (input_type is a.name) p.0 in
        (names_ok ok lib.structs names h a.value u.0 u.1, args_clean names h is as_ p.1)
      where
        by_type : (o : Option Ty) → arg_typed o (in_body lib.structs names a.value) ≡ true → (u : Ty) × (in_body lib.structs names a.value ≡ Some u)
        by_type None h = absurd (false≢true h)
        by_type (Some w) h = some_typed (in_body lib.structs names a.value) w h

    pub called_clean : (c : TCall) → IsCalled lib first bad c → CleanCall hidden c
    called_clean c t = args_clean t.names (scope_ok t.names t.scope) t.target.inputs c.args t.args
