-- What an expression may refer to, and what it refers to.
use Rattle.std.specs.Prelude.{ℕ, Bool, true, false, ◌&&◌, ◌||◌, List, [], ◌∷◌, ◌++◌, Option, Some, None, if◌then◌else◌}
use Rattle.std.specs.Str.{bytes_eq}
use Rattle.wdl_base.specs.declared.name.Key.{Key}
use Rattle.wdl_value.specs.declared.env.Bind.{Bind}
use Rattle.wdl_value.specs.declared.ty.Ty.{Ty}
use Rattle.wdl_value.specs.declared.value.Value.{Value}
use Rattle.wdl_typed.specs.declared.expr.TExpr.{TExpr, TExpr-F, fold-TExpr}
use Rattle.wdl_typed.specs.declared.expr.TExpr.TheOpen as layer
use Rattle.wdl_typed.specs.declared.expr.TField.{TField}
use Rattle.wdl_typed.specs.declared.expr.TPair.{TPair}
use Rattle.wdl_typed.specs.declared.expr.TPart.{TPart}
use Rattle.wdl_typed.specs.declared.expr.TPart.TheVariants as part
use Rattle.wdl_typed.specs.declared.scope.Bound.{Bound}

abbrev pub same_second : Option (List ℕ) → Option (List ℕ) → Bool
same_second None None = true
same_second (Some s) (Some t) = bytes_eq s t
same_second s t = false

abbrev pub same_key : Key → Key → Bool
same_key j k = bytes_eq j.first k.first && same_second j.second k.second

-- the type of the first name of that key
abbrev pub type_in : List Bound → Key → Option Ty
type_in [] key = None
type_in (b ∷ bs) key = if same_key b.key key then Some b.ty else type_in bs key

-- the value of the first name of that key
abbrev pub lookup : List Bind → Key → Option Value
lookup [] key = None
lookup (b ∷ bs) key = if same_key b.key key then Some b.value else lookup bs key

abbrev pub is_among : Key → List Key → Bool
is_among key [] = false
is_among key (k ∷ ks) = same_key k key || is_among key ks

abbrev pub row_names : List (TPair (List Key)) → List Key
row_names [] = []
row_names (r ∷ rows) = r.key ++ r.value ++ row_names rows

abbrev pub field_names : List (TField (List Key)) → List Key
field_names [] = []
field_names (f ∷ fields) = f.value ++ field_names fields

abbrev pub all_names : List (List Key) → List Key
all_names [] = []
all_names (ks ∷ more) = ks ++ all_names more

abbrev pub part_names : List (TPart (List Key)) → List Key
part_names [] = []
part_names (part.Chars s ∷ parts) = part_names parts
part_names (part.Hole h ∷ parts) = h.expr ++ part_names parts

abbrev pub names_step : TExpr-F (List Key) → List Key
names_step (layer.Lit x) = []
names_step (layer.Get key) = key ∷ []
names_step (layer.Member a name) = a
names_step (layer.At a b) = a ++ b
names_step (layer.Not a) = a
names_step (layer.Neg a) = a
names_step (layer.Binary o a b) = a ++ b
names_step (layer.Choose c a b) = c ++ a ++ b
names_step (layer.ListOf es) = all_names es
names_step (layer.MapOf rows) = row_names rows
names_step (layer.PairOf a b) = a ++ b
names_step (layer.StructOf name fields) = field_names fields
names_step (layer.Apply f es) = all_names es
names_step (layer.Strung parts) = part_names parts
names_step (layer.Cast a t) = a

-- the names of an expression, from left to right
abbrev pub names_of : TExpr → List Key
names_of = fold-TExpr (List Key) names_step
