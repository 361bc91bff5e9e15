-- What is new where a statement stands, and what is seen behind it.
use Rattle.std.proofs.Common.{◌≡◌, ℕ, true, List, [], ◌∷◌, ◌++◌, Option, Some, None, sym, ap, ◌∙◌, subst, refl}
use Rattle.std.proofs.lemmas.Bool.{false≢true, and_parts}
use Rattle.wdl_base.specs.declared.name.Key.{Key}
use Rattle.wdl_value.specs.declared.ty.Ty.{Ty}
use Rattle.wdl_value.specs.declared.value.Value.{Value}
use Rattle.wdl_typed.specs.declared.flow.Statement.{Statement, Statement-F, fold-roll-Statement, fold-Statement, map-Statement, roll-Statement}
use Rattle.wdl_typed.specs.Bodies.{Differing, Seen, declared, gives, items_step, names_step}
use Rattle.wdl_typed.specs.Flow.{Flowing, Run, Sight, env_of, flow}
use Rattle.wdl_typed.specs.KnownTypes.{is_some}
use Rattle.wdl_typed.specs.Scope.{lookup, type_in}
use Rattle.wdl_names.specs.Fresh.{fresh}
use Rattle.flow_soundness.specs.Readiness.{Agrees, FitsSome, IsLibrary, IsNew, are_among}
use Rattle.flow_soundness.specs.StatementFlow.{statement_flow}
use Rattle.flow_soundness.proofs.Fitting.{agrees_both}
use Rattle.flow_soundness.proofs.FlowSound.{callees_sound}
use Rattle.flow_soundness.proofs.Newness.{given_apart, head_new}
use Rattle.flow_soundness.proofs.Sound.{sound}
use Rattle.alias_laws.proofs.WalkLaws.{declared_one}

-- ---- what a form declares

pub record FormNew (all taken : List (List ℕ)) (y : Statement-F Statement) : Type 0 where
  pub declared_all : are_among all (names_step (map-Statement Statement (List (List ℕ)) declared y))
  pub declared_new : fresh taken (names_step (map-Statement Statement (List (List ℕ)) declared y)) ≡ true
  pub items_new : items_step (map-Statement Statement Differing (fold-Statement Differing items_step) y) all ≡ true

pub form_new : (all taken : List (List ℕ)) (seen : Seen) (y : Statement-F Statement) → IsNew all taken seen (roll-Statement y ∷ []) → FormNew all taken y
form_new all taken seen y n =
    let st : Statement = roll-Statement y in
    let names = declared_one y st refl in
    record {
      declared_all = subst (are_among all) names n.declared_all;
      declared_new = sym (ap (fresh taken) names) ∙ n.declared_new;
      items_new = sym (ap (λ (d : Differing). d all) (fold-roll-Statement Differing items_step y)) ∙ (and_parts (fold-Statement Differing items_step st all) true n.items_new).0;
    }

-- ---- what a statement gives

module _ (r : Run) (kept : IsLibrary r.library) (depth : ℕ) (seen first : Seen) (st : Statement) (more : List Statement) (all taken : List (List ℕ)) (typed : gives r.library st seen ≡ Some first) (new : IsNew all taken seen (st ∷ more)) (s : Sight)
    (agrees : Agrees r.library.structs seen.names s.names) where
  abbrev given : Flowing
  given = statement_flow r depth st s

  first_agrees : Agrees r.library.structs first.names given.names
  first_agrees = sound r (flow r depth) kept (callees_sound r kept depth) st seen first s all taken typed agrees (head_new r.library all taken seen st more new)

  pub agrees_behind : Agrees r.library.structs (seen.names ++ first.names) (s.names ++ given.names)
  agrees_behind = agrees_both r.library.structs seen.names first.names s.names given.names agrees first_agrees (given_apart r.library all taken seen st more first typed new)

  -- what it gives has a type
  pub typed_behind : (key : Key) (x : Value) → lookup (env_of given.names) key ≡ Some x → (t : Ty) × (type_in first.names key ≡ Some t)
  typed_behind key x h = by_type (type_in first.names key) refl
    where
      by_type : (o : Option Ty) → type_in first.names key ≡ o → (t : Ty) × (type_in first.names key ≡ Some t)
      by_type (Some t) e = (t, e)
      by_type None e =
          let none : FitsSome r.library.structs None x = subst (λ (o : Option Ty). FitsSome r.library.structs o x) e (first_agrees key x h) in
          absurd none

  -- and none that is seen before
  pub new_key : (key : Key) → is_some (type_in seen.names key) ≡ true → lookup (env_of given.names) key ≡ None
  new_key key h = by_value (lookup (env_of given.names) key) refl
    where
      by_value : (o : Option Value) → lookup (env_of given.names) key ≡ o → o ≡ None
      by_value None e = refl
      by_value (Some x) e =
          let t = typed_behind key x e in
          absurd (false≢true (sym (ap is_some (given_apart r.library all taken seen st more first typed new key t.0 t.1)) ∙ h))
