-- A look-up finds the first name of a key.
use Rattle.std.proofs.Common.{◌≡◌, Bool, true, false, cond, List, [], ◌∷◌, Option, Some, refl}
use Rattle.std.specs.List.{find}
use Rattle.std.specs.Option.{option_map}
use Rattle.wdl_base.specs.declared.name.Key.{Key}
use Rattle.wdl_value.specs.declared.env.Bind.{Bind}
use Rattle.wdl_value.specs.declared.value.Value.{Value}
use Rattle.wdl_typed.specs.Scope.{lookup, same_key}

by_test : (b : Bind) (o : Option Value) (p : Option Bind) → o ≡ option_map (λ (b : Bind). b.value) p → (t : Bool)
    → cond t (Some b.value) o ≡ option_map (λ (b : Bind). b.value) (cond t (Some b) p)
by_test b o p h true = refl
by_test b o p h false = h

pub lookup-find : (env : List Bind) (key : Key) → lookup env key ≡ option_map (λ (b : Bind). b.value) (find (λ (b : Bind). same_key b.key key) env)
lookup-find [] key = refl
lookup-find (b ∷ env) key = by_test b _ _ (lookup-find env key) (same_key b.key key)
