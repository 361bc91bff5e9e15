-- What declarations and inputs give keeps the limits of values.
use Rattle.std.proofs.Common.{◌≡◌, ℕ, Bool, true, false, cond, List, [], ◌∷◌, ◌++◌, Option, Some, None, Ok, Err, ◌∙◌, subst, refl}
use Rattle.std.specs.List.{list_all}
use Rattle.std.proofs.lemmas.Bool.{and_from, and_parts}
use Rattle.std.proofs.lemmas.List.Folds.{list_all-append}
use Rattle.wdl_base.specs.declared.name.Key.{Key}
use Rattle.wdl_value.specs.declared.env.Bind.{Bind}
use Rattle.wdl_value.specs.declared.value.Value.{Value}
use Rattle.wdl_value.specs.declared.value.Value.TheVariants as v
use Rattle.wdl_value.specs.Limits.{is_within}
use Rattle.wdl_value.specs.Outcome.{Outcome}
use Rattle.wdl_typed.specs.declared.expr.TExpr.{TExpr}
use Rattle.wdl_typed.specs.declared.task.TInput.{TInput}
use Rattle.wdl_typed.specs.Declarations.{plain_key}
use Rattle.wdl_typed.specs.Evaluation.{value_of}
use Rattle.wdl_typed.specs.Flow.{Known, Sight, all_known, bound_by, declaration, declared_as, default_of, env_of, input_of, inputs, known, named, seeing}
use Rattle.wdl_typed.specs.Requests.{before}
use Rattle.wdl_typed.specs.Scope.{lookup, same_key}
use Rattle.alias_laws.proofs.Within.{all_within, value_within}
use Rattle.cwl_laws.proofs.Starts.{absent_within}

abbrev pub is_small : Option Value → Bool
is_small None = true
is_small (Some x) = is_within x

abbrev pub AllSmall : List Known → Type 0
AllSmall ks = list_all (λ (k : Known). is_small k.value) ks ≡ true

small_both : (ks ls : List Known) → AllSmall ks → AllSmall ls → AllSmall (ks ++ ls)
small_both ks ls h j =
    list_all-append (λ (k : Known). is_small k.value) ks ls ∙ and_from (list_all (λ (k : Known). is_small k.value) ks) (list_all (λ (k : Known). is_small k.value) ls) h j

pub found_small : (ks : List Known) → AllSmall ks → (key : Key) (x : Value) → lookup (env_of ks) key ≡ Some x → is_within x ≡ true
found_small [] h key x e = absurd (cc)
found_small (k ∷ ks) h key x e =
    let p = and_parts (is_small k.value) (list_all (λ (k : Known). is_small k.value) ks) h in
    by_value k.value p.0 (found_small ks p.1 key x) e
  where
    by_key : (y : Value) → is_within y ≡ true → (lookup (env_of ks) key ≡ Some x → is_within x ≡ true) → (b : Bool) → cond b (Some y) (lookup (env_of ks) key) ≡ Some x → is_within x ≡ true
    by_key y own rest true e = let same : y ≡ x = cc in subst (λ (z : Value). is_within z ≡ true) same own
    by_key y own rest false e = rest e

    by_value : (o : Option Value) → is_small o ≡ true → (lookup (env_of ks) key ≡ Some x → is_within x ≡ true) → lookup (bound_by k.key o ++ env_of ks) key ≡ Some x → is_within x ≡ true
    by_value None own rest e = rest e
    by_value (Some y) own rest e = by_key y own rest (same_key k.key key) e

one_small : (name : List ℕ) (o : Option Value) → is_small o ≡ true → AllSmall (known name o ∷ [])
one_small name o h = and_from (is_small o) true h refl

-- ---- declarations

pub declaration_small : (s : Sight) (name : List ℕ) (e : TExpr) → AllSmall (declaration s name e).names
declaration_small s name e = by_known (all_known s.names e)
  where
    by_value : (o : Outcome Value) → value_of (before (env_of s.names)) e ≡ o → AllSmall (declared_as s.place name o).names
    by_value (Ok x) h = one_small name (Some x) (value_within (env_of s.names) e x h)
    by_value (Err c) h = refl

    by_known : (b : Bool) → AllSmall (cond b (declared_as s.place name (value_of (before (env_of s.names)) e)) (named (known name None))).names
    by_known true = by_value (value_of (before (env_of s.names)) e) refl
    by_known false = refl

-- ---- inputs

given_small : (given : List Bind) (key : Key) → all_within given → is_small (lookup given key) ≡ true
given_small [] key h = refl
given_small (b ∷ given) key h =
    let p = and_parts (is_within b.value) (list_all (λ (b : Bind). is_within b.value) given) h in
    by_key (same_key b.key key) p.0 (given_small given key p.1)
  where
    by_key : (t : Bool) → is_within b.value ≡ true → is_small (lookup given key) ≡ true → is_small (cond t (Some b.value) (lookup given key)) ≡ true
    by_key true own rest = own
    by_key false own rest = rest

input_small : (i : TInput) (o : Option Value) → is_small o ≡ true → (s : Sight) → AllSmall (input_of s i o).names
input_small i (Some x) h s = one_small i.name (Some x) h
input_small i None h s = by_default i.value
  where
    by_default : (o : Option TExpr) → AllSmall (default_of s i.name o).names
    by_default None = one_small i.name (Some v.Absent) absent_within
    by_default (Some e) = declaration_small s i.name e

pub inputs_small : (given : List Bind) → all_within given → (is : List TInput) (s : Sight) → AllSmall (inputs given is s).names
inputs_small given h [] s = refl
inputs_small given h (i ∷ is) s =
    let o : Option Value = lookup given (plain_key i.name) in
    small_both (input_of s i o).names (inputs given is (seeing s (input_of s i o))).names (input_small i o (given_small given (plain_key i.name) h) s) (inputs_small given h is (seeing s (input_of s i o)))
