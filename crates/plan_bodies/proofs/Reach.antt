-- Cells that are needed are cells of the net.
use Rattle.std.proofs.Common.{◌≡◌, ◌<◌, ◌≤◌, ℕ, zero, suc, List, [], ◌∷◌, ◌++◌, length, map, get_or, subst, sym, arith}
use Rattle.std.specs.List.{All}
use Rattle.plan_layout.specs.declared.layout.Need.{Need}
use Rattle.plan_layout.specs.Cells.{cell_at}
use Rattle.plan_growth.specs.Entering.{cells_of}
use Rattle.plan_layout.specs.declared.layout.StatementLayout.{StatementLayout}
use Rattle.plan_room.specs.Reached.{AreReached, AreStatementsReached, IsReached, IsStatementReached}

-- what is reached among so many cells is reached among more
pub reached_wide : (m n : ℕ) (bases : List ℕ) (needs : List Need) → m ≤ n → AreReached m bases needs → AreReached n bases needs
reached_wide m n bases needs less h = λ k d inside. widen (get_or needs k d) (h k d inside)
  where
    widen : (x : Need) → IsReached m bases x → IsReached n bases x
    widen x r = record { level = r.level; cell = omega (arith, r.cell, less) }

pub below_both : (count : ℕ) (xs ys : List ℕ) → ((k : ℕ) → k < length xs → get_or xs k 0 < count) → ((k : ℕ) → k < length ys → get_or ys k 0 < count) → (k : ℕ) → k < length (xs ++ ys) → get_or (xs ++ ys) k 0 < count
below_both count [] ys h g k there = g k there
below_both count (x ∷ xs) ys h g zero there = h 0 (omega arith)
below_both count (x ∷ xs) ys h g (suc k) there = below_both count xs ys (λ j b. h (suc j) (omega (arith, b))) g k (omega (arith, there))

map_there : (count : ℕ) (bases : List ℕ) (needs : List Need) → AreReached count bases needs → (k : ℕ) → k < length (map (cell_at bases) needs) → get_or (map (cell_at bases) needs) k 0 < count
map_there count bases [] h k there = absurd (omega (arith, there))
map_there count bases (n ∷ ns) h zero there = (h 0 n (omega arith)).cell
map_there count bases (n ∷ ns) h (suc k) there = map_there count bases ns (λ j d b. h (suc j) d (omega (arith, b))) k (omega (arith, there))

-- the cells that a step needs
pub needs_there : (count : ℕ) (bases : List ℕ) (needs after : List Need) → AreReached count bases needs → AreReached count bases after
    → (k : ℕ) → k < length (cells_of bases needs after) → get_or (cells_of bases needs after) k 0 < count
needs_there count bases needs after h g = below_both count (map (cell_at bases) needs) (map (cell_at bases) after) (map_there count bases needs h) (map_there count bases after g)

pub cells_there : (count : ℕ) (bases : List ℕ) (needs after : List Need) (cells : List ℕ) → cells ≡ cells_of bases needs after → AreReached count bases needs → AreReached count bases after
    → (k : ℕ) → k < length cells → get_or cells k 0 < count
cells_there count bases needs after cells e h g =
    subst (λ (cs : List ℕ). (k : ℕ) → k < length cs → get_or cs k 0 < count) (sym e) (needs_there count bases needs after h g)

-- the statement at a place
pub statement_reached : (m n : ℕ) (bases : List ℕ) (ls : List StatementLayout) (k : ℕ) (l : StatementLayout) → k < length ls → l ≡ get_or ls k l → m ≡ n → AreStatementsReached n bases ls → IsStatementReached m bases l
statement_reached m n bases ls k l inside e same h = subst (λ (x : StatementLayout). IsStatementReached m bases x) (sym e) (subst (λ (i : ℕ). IsStatementReached i bases (get_or ls k l)) (sym same) (h k l inside))

pub statements_moved : (m n : ℕ) (bs cs : List ℕ) (ls ks : List StatementLayout) → m ≡ n → bs ≡ cs → ls ≡ ks → AreStatementsReached n cs ks → AreStatementsReached m bs ls
statements_moved m n bs cs ls ks e f g h =
    subst (λ (i : ℕ). AreStatementsReached i bs ls) (sym e) (subst (λ (xs : List ℕ). AreStatementsReached n xs ls) (sym f) (subst (λ (xs : List StatementLayout). AreStatementsReached n cs xs) (sym g) h))

pub none_reached : (count : ℕ) (bases : List ℕ) → AreReached count bases []
none_reached count bases = λ k d inside. absurd (omega (arith, inside))

pub all_reached_moved : (m n first at : ℕ) (xs ys : List (List Need)) → n ≡ m → at ≡ first → ys ≡ xs → All (AreReached m (first ∷ [])) xs → All (AreReached n (at ∷ [])) ys
all_reached_moved m n first at xs ys e f g h =
    subst (λ (zs : List (List Need)). All (AreReached n (at ∷ [])) zs) (sym g) (subst (λ (b : ℕ). All (AreReached n (b ∷ [])) xs) (sym f) (subst (λ (i : ℕ). All (AreReached i (first ∷ [])) xs) (sym e) h))

pub reached_as : (m n : ℕ) (bases : List ℕ) (needs seen : List Need) → m ≤ n → seen ≡ needs → AreReached m bases needs → AreReached n bases seen
reached_as m n bases needs seen less e h = reached_wide m n bases seen less (subst (λ (xs : List Need). AreReached m bases xs) (sym e) h)
