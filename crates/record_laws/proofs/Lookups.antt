-- What is looked up in lists of names that were put together.
use Rattle.std.proofs.Common.{◌≡◌, ℕ, Bool, true, false, cond, ◌&&◌, List, [], ◌∷◌, ◌++◌, append_assoc, Option, Some, None, sym, ap, ◌∙◌, refl}
use Rattle.std.specs.Str.{bytes_eq}
use Rattle.std.proofs.lemmas.Bool.{false≢true}
use Rattle.wdl_base.specs.declared.name.Key.{Key}
use Rattle.wdl_value.specs.declared.env.Bind.{Bind}
use Rattle.wdl_value.specs.declared.value.Value.{Value}
use Rattle.wdl_typed.specs.Declarations.{plain_key}
use Rattle.wdl_typed.specs.Flow.{Known, bound_by, env_of}
use Rattle.wdl_typed.specs.Scope.{lookup, same_key}
use Rattle.leaf_image.specs.Leaves.{or_else}
use Rattle.flow_laws.proofs.Keys.{key_same}

pub binds_append : (xs ys : List Bind) (key : Key) → lookup (xs ++ ys) key ≡ or_else (lookup xs key) (lookup ys key)
binds_append [] ys key = refl
binds_append (b ∷ xs) ys key = by_key (binds_append xs ys key) (same_key b.key key)
  where
    by_key : lookup (xs ++ ys) key ≡ or_else (lookup xs key) (lookup ys key) → (w : Bool) → cond w (Some b.value) (lookup (xs ++ ys) key) ≡ or_else (cond w (Some b.value) (lookup xs key)) (lookup ys key)
    by_key rest true = refl
    by_key rest false = rest

env_append : (ks ls : List Known) → env_of (ks ++ ls) ≡ env_of ks ++ env_of ls
env_append [] ls = refl
env_append (k ∷ ks) ls = ap (λ (bs : List Bind). bound_by k.key k.value ++ bs) (env_append ks ls) ∙ sym (append_assoc (bound_by k.key k.value) (env_of ks) (env_of ls))

pub names_append : (ks ls : List Known) (key : Key) → lookup (env_of (ks ++ ls)) key ≡ or_else (lookup (env_of ks) key) (lookup (env_of ls) key)
names_append ks ls key = ap (λ (bs : List Bind). lookup bs key) (env_append ks ls) ∙ binds_append (env_of ks) (env_of ls) key

-- what is found stays found
pub found_before : (ks ls : List Known) (key : Key) (x : Value) → lookup (env_of ks) key ≡ Some x → lookup (env_of (ks ++ ls)) key ≡ Some x
found_before ks ls key x h = names_append ks ls key ∙ ap (λ (o : Option Value). or_else o (lookup (env_of ls) key)) h

-- keys that a test tells apart
pub keys_apart : (p : Key → Bool) (j k : Key) → p j ≡ true → p k ≡ false → same_key j k ≡ false
keys_apart p j k h i = by_test (same_key j k) refl
  where
    by_test : (b : Bool) → same_key j k ≡ b → b ≡ false
    by_test false e = refl
    by_test true e = absurd (false≢true (sym i ∙ ap p (sym (key_same j k e)) ∙ h))

pub plain_same : (m n : List ℕ) → same_key (plain_key m) (plain_key n) ≡ bytes_eq m n
plain_same m n = and_true (bytes_eq m n)
  where
    and_true : (b : Bool) → (b && true) ≡ b
    and_true true = refl
    and_true false = refl

-- a list of one name
pub one_found : (k : Key) (x : Value) (key : Key) → same_key k key ≡ true → lookup (record { key = k; value = x } ∷ []) key ≡ Some x
one_found k x key h = ap (λ b. cond b (Some x) None) h

pub one_missing : (k : Key) (x : Value) (key : Key) → same_key k key ≡ false → lookup (record { key = k; value = x } ∷ []) key ≡ None
one_missing k x key h = ap (λ b. cond b (Some x) None) h
