-- The cells that say what is done are cells of the net.
use Rattle.std.proofs.Common.{◌≡◌, ◌<◌, ◌≤◌, ◌^◌, ℕ, zero, suc, ◌+◌, List, [], ◌∷◌, ◌++◌, length, get_or, ap, sym, subst, ◌∙◌, arith}
use Rattle.std.specs.List.{All}
use Rattle.plan_layout.specs.declared.layout.StatementLayout.{StatementLayout}
use Rattle.wdl_typed.specs.declared.flow.FlowDef.{FlowDef}
use Rattle.plan_layout.specs.declared.layout.BodyLayout.{BodyLayout}
use Rattle.plan_layout.specs.declared.layout.FlowLayout.{FlowLayout}
use Rattle.plan_growth.specs.Entering.{all_dones, cells_from, dones_at, flow_dones}
use Rattle.plan_bodies.specs.Joined.{AreFollowed}
use Rattle.plan_room.specs.Reached.{AreDonesNumbers}
use Rattle.plan_room.specs.Room.{AreDonesWithin, HasFlowRoom}
use Rattle.plan_bodies.proofs.Counts.{one_there}
use Rattle.plan_bodies.proofs.Reach.{below_both}

pub dones_numbers : (first cells count : ℕ) (ls ks : List StatementLayout) → ls ≡ ks → first + cells < count + 1 → count < 2 ^ 64 → AreDonesWithin cells ks → AreDonesNumbers first ls
dones_numbers first cells count ls ks same less few h =
    subst (λ (xs : List StatementLayout). AreDonesNumbers first xs) (sym same) (λ k d inside. let b : (get_or ks k d).done < cells = h k d inside in omega (arith, b, less, few))

dones_below : (first cells count : ℕ) (ls : List StatementLayout) → first + cells < count + 1 → AreDonesWithin cells ls → (k : ℕ) → k < length (dones_at first ls) → get_or (dones_at first ls) k 0 < count
dones_below first cells count [] less h k inside = absurd (omega (arith, inside))
dones_below first cells count (l ∷ ls) less h zero inside = let b : l.done < cells = h 0 l (omega arith) in omega (arith, b, less)
dones_below first cells count (l ∷ ls) less h (suc k) inside = dones_below first cells count ls less (λ j d b. h (suc j) d (omega (arith, b))) k (omega (arith, inside))

pub dones_there : (first cells count : ℕ) (ls ks : List StatementLayout) (dones : List ℕ) → dones ≡ dones_at first ls → ls ≡ ks → first + cells < count + 1 → AreDonesWithin cells ks → (k : ℕ) → k < length dones → get_or dones k 0 < count
dones_there first cells count ls ks dones e same less h =
    subst (λ (ds : List ℕ). (k : ℕ) → k < length ds → get_or ds k 0 < count) (sym (e ∙ ap (dones_at first) same)) (dones_below first cells count ks less h)

pub all_numbers : (count cells : ℕ) (firsts : List ℕ) (ls ks : List StatementLayout) → ls ≡ ks → AreFollowed count firsts cells → count < 2 ^ 64 → AreDonesWithin cells ks → All (λ (first : ℕ). AreDonesNumbers first ls) firsts
all_numbers count cells firsts ls ks same followed few h = λ k d inside. dones_numbers (get_or firsts k d) cells count ls ks same (followed k d inside) few h

all_below : (count cells : ℕ) (firsts : List ℕ) (ls : List StatementLayout) → AreFollowed count firsts cells → AreDonesWithin cells ls → (k : ℕ) → k < length (all_dones ls firsts) → get_or (all_dones ls firsts) k 0 < count
all_below count cells [] ls followed h k inside = absurd (omega (arith, inside))
all_below count cells (f ∷ fs) ls followed h k inside =
    below_both count (dones_at f ls) (all_dones ls fs) (dones_below f cells count ls (followed 0 f (omega arith)) h) (all_below count cells fs ls (λ j d b. followed (suc j) d (omega (arith, b))) h) k inside

pub all_dones_there : (count cells : ℕ) (firsts : List ℕ) (ls ks : List StatementLayout) (dones : List ℕ) → dones ≡ all_dones ls firsts → ls ≡ ks → AreFollowed count firsts cells → AreDonesWithin cells ks
    → (k : ℕ) → k < length dones → get_or dones k 0 < count
all_dones_there count cells firsts ls ks dones e same followed h =
    subst (λ (ds : List ℕ). (k : ℕ) → k < length ds → get_or ds k 0 < count) (sym (e ∙ ap (λ (xs : List StatementLayout). all_dones xs firsts) same)) (all_below count cells firsts ks followed h)

pub followed_less : (m count cells more : ℕ) (firsts : List ℕ) → m ≡ count → more ≤ cells → AreFollowed count firsts cells → AreFollowed m firsts more
followed_less m count cells more firsts same less h = λ k d inside. let b : get_or firsts k d + cells < count + 1 = h k d inside in omega (arith, b, less, same)

cells_below : (first n count : ℕ) → first + n ≤ count → (k : ℕ) → k < length (cells_from first n) → get_or (cells_from first n) k 0 < count
cells_below first zero count less k inside = absurd (omega (arith, inside))
cells_below first (suc n) count less k inside =
    below_both count (cells_from first n) ((first + n) ∷ []) (cells_below first n count (omega (arith, less))) (one_there (first + n) count (omega (arith, less))) k inside

-- the cells that say that all of a workflow is done
pub flow_dones_there : (old count first : ℕ) (f : FlowDef) (layout : FlowLayout) (body : BodyLayout) (dones : List ℕ) → dones ≡ flow_dones f layout body first → first + body.cells ≤ count → HasFlowRoom old f layout body
    → (k : ℕ) → k < length dones → get_or dones k 0 < count
flow_dones_there old count first f layout body dones e less h =
    subst (λ (ds : List ℕ). (k : ℕ) → k < length ds → get_or ds k 0 < count) (sym e)
    (below_both count (cells_from first (length f.inputs)) (dones_at first body.statements ++ cells_from (first + layout.first_output) (length f.outputs))
    (cells_below first (length f.inputs) count (omega (arith, less, h.inputs)))
    (below_both count (dones_at first body.statements) (cells_from (first + layout.first_output) (length f.outputs)) (dones_below first body.cells count body.statements (omega (arith, less)) h.dones)
    (cells_below (first + layout.first_output) (length f.outputs) count (omega (arith, less, h.outputs)))))
