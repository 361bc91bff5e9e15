-- Numbers in classes, by lists of parents. A number that is its own parent stands for its class.
use Rattle.std.specs.Prelude.{◌≡◌, ◌↔◌, ℕ, zero, suc, ◌≤◌, List, slice_index_or}

-- a number past the end is its own parent
abbrev pub parent : List ℕ → ℕ → ℕ
parent ps i = slice_index_or ps i i

-- no parent is above its number
abbrev pub IsLow : List ℕ → Type 0
IsLow ps = (i : ℕ) → parent ps i ≤ i

abbrev pub up : ℕ → List ℕ → ℕ → ℕ
up zero ps i = i
up (suc n) ps i = up n ps (parent ps i)

-- what stands for the class of a number: the least of the class
unfoldable pub root : List ℕ → ℕ → ℕ
root ps i = up i ps i

abbrev pub Marks : Type 0
Marks = ℕ → List ℕ

-- the marks of all numbers of one class are equal
abbrev pub Follows : List ℕ → Marks → Type 0
Follows ps g = (i : ℕ) → g (parent ps i) ≡ g i

-- the classes of two numbers are one now, and the other classes stay
abbrev pub IsJoined : List ℕ → List ℕ → ℕ → ℕ → Type 0
IsJoined old new i j = (g : Marks) → Follows new g ↔ (Follows old g × (g i ≡ g j))
