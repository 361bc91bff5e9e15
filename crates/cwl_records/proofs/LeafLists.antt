-- The leaves of one workflow after another.
use Rattle.std.proofs.Common.{◌≡◌, Bool, List, [], ◌∷◌, ◌++◌, Option, Some, None, option_and_then, option_map, append_assoc, refl, sym, ap, ◌∙◌}
use Rattle.wdl_value.specs.Fits.{Structs}
use Rattle.wdl_typed.specs.declared.flow.FlowDef.{FlowDef}
use Rattle.leaf_image.specs.declared.leaf.Leaf.{Leaf}
use Rattle.leaf_image.specs.Replaced.{leaves_if, leaves_where}

abbrev Leaves : Type 0
Leaves = List (List Leaf)

abbrev pub before : Leaves → Option Leaves → Option Leaves
before ls o = option_map (λ ms. ls ++ ms) o

pub before_all : (o : Option Leaves) → before [] o ≡ o
before_all None = refl
before_all (Some ls) = refl

one_more : (ls : Leaves) (l : List Leaf) (o : Option Leaves) → before (ls ++ l ∷ []) o ≡ before ls (option_map (λ ms. l ∷ ms) o)
one_more ls l None = refl
one_more ls l (Some ms) = ap Some (append_assoc ls (l ∷ []) ms)

-- a workflow with its mark, and those after it
abbrev step : (structs : Structs) (fs : List FlowDef) (bs : List Bool) (o : Option (List Leaf)) → Option Leaves
step structs fs bs o = option_and_then (λ ls. option_map (λ more. ls ∷ more) (leaves_where structs fs bs)) o

-- the next workflow has these leaves
pub goes_on : (structs : Structs) (ls now : Leaves) (f : FlowDef) (fs all : List FlowDef) (b : Bool) (bs marks : List Bool) (l : List Leaf) (whole : Option Leaves)
    → all ≡ f ∷ fs → marks ≡ b ∷ bs → leaves_if b structs f ≡ Some l → now ≡ ls ++ l ∷ []
    → before ls (leaves_where structs all marks) ≡ whole → before now (leaves_where structs fs bs) ≡ whole
goes_on structs ls now f fs all b bs marks l whole split marked found pushed rest =
    ap (λ (x : Leaves). before x (leaves_where structs fs bs)) pushed
    ∙ one_more ls l (leaves_where structs fs bs)
    ∙ sym (ap (λ (o : Option (List Leaf)). before ls (step structs fs bs o)) found)
    ∙ sym (ap (λ (ms : List Bool). before ls (leaves_where structs (f ∷ fs) ms)) marked)
    ∙ sym (ap (λ (xs : List FlowDef). before ls (leaves_where structs xs marks)) split)
    ∙ rest
