-- The dependency order of a list of inputs or statements that is least in the order of the text.
use Rattle.std.specs.Prelude.{◌≡◌, ℕ, Bool, true, false, not, ◌&&◌, ◌||◌, ◌==◌, List, [], ◌∷◌, ◌++◌, Option, Some, None, length, map, slice_get, if◌then◌else◌}
use Rattle.std.specs.Cmp.Lexicographic.{slice_cmp}
use Rattle.std.specs.List.{flat_map, list_all, list_any, range_with_len}
use Rattle.std.specs.Ordering.{is_lt, nat_cmp}
use Rattle.wdl_base.specs.declared.name.Key.{Key}
use Rattle.wdl_typed.specs.declared.expr.TExpr.{TExpr}
use Rattle.wdl_typed.specs.declared.expr.TField.{TField}
use Rattle.wdl_typed.specs.declared.flow.Statement.{Statement, Statement-F, fold-Statement}
use Rattle.wdl_typed.specs.declared.flow.Statement.TheOpen as layer
use Rattle.wdl_typed.specs.declared.task.TInput.{TInput}
use Rattle.wdl_typed.specs.Lists.{are_counted, has_name, has_number}
use Rattle.wdl_typed.specs.Scope.{names_of}

-- ---- needs

-- the names that a member of the list gives to the others, and those that it refers to
pub record Needing : Type 0 where
  pub gives : List (List ℕ)
  pub refers : List (List ℕ)

abbrev pub needs : Needing → Needing → Bool
needs m n = list_any (λ name. has_name name n.gives) m.refers

-- `call.output` refers to the call
abbrev pub referred : TExpr → List (List ℕ)
referred e = map (λ (k : Key). k.first) (names_of e)

abbrev pub args_referred : List (TField TExpr) → List (List ℕ)
args_referred [] = []
args_referred (a ∷ as_) = referred a.value ++ args_referred as_

abbrev pub all_given : List Needing → List (List ℕ)
all_given [] = []
all_given (n ∷ ns) = n.gives ++ all_given ns

abbrev pub all_referred : List Needing → List (List ℕ)
all_referred [] = []
all_referred (n ∷ ns) = n.refers ++ all_referred ns

abbrev pub without : List (List ℕ) → List (List ℕ) → List (List ℕ)
without inside [] = []
without inside (name ∷ names) = (if has_name name inside then [] else name ∷ []) ++ without inside names

-- A block needs what its body, its collection or its condition needs from outside.
abbrev pub needing_step : Statement-F Needing → Needing
needing_step (layer.Decl d) = record { gives = d.name ∷ []; refers = referred d.value }
needing_step (layer.Call c) = record { gives = c.name ∷ []; refers = args_referred c.args ++ c.after }
needing_step (layer.Scatter s) =
    record { gives = all_given s.body; refers = referred s.over ++ without (s.item ∷ all_given s.body) (all_referred s.body) }
needing_step (layer.If i) = record { gives = all_given i.body; refers = referred i.cond ++ without (all_given i.body) (all_referred i.body) }

abbrev pub statement_needing : Statement → Needing
statement_needing = fold-Statement Needing needing_step

abbrev pub default_referred : Option TExpr → List (List ℕ)
default_referred None = []
default_referred (Some e) = referred e

-- An input without a default needs nothing.
abbrev pub input_needing : TInput → Needing
input_needing i = record { gives = i.name ∷ []; refers = default_referred i.value }

-- ---- orders, as lists of positions

abbrev pub needs_some : Needing → Option Needing → Bool
needs_some m None = false
needs_some m (Some n) = needs m n

-- Each member that this one needs is at one of these positions.
abbrev pub is_met : List Needing → List ℕ → Option Needing → Bool
is_met all before None = true
is_met all before (Some m) = list_all (λ q. not (needs_some m (slice_get all q)) || has_number q before) (range_with_len 0 (length all))

abbrev pub all_met : List Needing → List ℕ → List ℕ → Bool
all_met all before [] = true
all_met all before (p ∷ ps) = is_met all before (slice_get all p) && all_met all (p ∷ before) ps

-- each position once, each member after those that it needs
abbrev pub is_order : List Needing → List ℕ → Bool
is_order all ps = are_counted ps && (length ps == length all) && all_met all [] ps

-- the dependency order whose list of positions is least, compared from the left
pub record IsLeastOrder (all : List Needing) (ps : List ℕ) : Type 0 where
  pub order : is_order all ps ≡ true
  pub least : (qs : List ℕ) → is_order all qs ≡ true → is_lt (slice_cmp nat_cmp qs ps) ≡ false

abbrev pub option_list : {A : Type 0} → Option A → List A
option_list None = []
option_list (Some a) = a ∷ []

abbrev pub picked : {A : Type 0} → List A → List ℕ → List A
picked xs = flat_map (λ p. option_list (slice_get xs p))

-- the list in its least dependency order
pub record IsOrdered {A : Type 0} (needing : A → Needing) (list result : List A) : Type 0 where
  pub positions : List ℕ
  pub least : IsLeastOrder (map needing list) positions
  pub picks : result ≡ picked list positions

abbrev pub HasNoOrder : {A : Type 0} → (A → Needing) → List A → Type 0
HasNoOrder needing list = (qs : List ℕ) → is_order (map needing list) qs ≡ false
