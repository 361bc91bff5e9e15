-- Tables of the depths of workflows, and what stands in them.
use Rattle.std.proofs.Common.{◌≡◌, ℕ, zero, suc, ◌-◌, ◌<◌, ◌≤◌, Bool, false, List, [], ◌∷◌, ◌++◌, Option, Some, None, option_map, length, sym, ap, ◌∙◌, refl, arith, length-append, ⊎_elim}
use Rattle.std.specs.List.{slice_get}
use Rattle.std.proofs.lemmas.Bool.{cases_lt}
use Rattle.std.proofs.lemmas.Option.{slice_get-map}
use Rattle.wdl_typed.specs.declared.flow.FlowDef.{FlowDef}
use Rattle.wdl_typed.specs.declared.flow.Statement.{Statement, Statement-F}
use Rattle.wdl_typed.specs.Bodies.{body_nests, flow_nests, is_decl, nests, nests_at}
use Rattle.wdl_depths.specs.Levels.{holds, nesting_level, nesting_levels}

nests-zero : (flows : List FlowDef) (y : Statement-F Statement) → nests flows zero y ≡ is_decl y
unfolding nests
nests-zero flows y = refl

nests-suc : (flows : List FlowDef) (n : ℕ) (y : Statement-F Statement) → nests flows (suc n) y ≡ nests_at (body_nests flows n) flows y
unfolding nests
nests-suc flows n y = refl

pub nests_none : (flows : List FlowDef) (n : ℕ) (y : Statement-F Statement) → n ≡ 0 → nests flows n y ≡ is_decl y
nests_none flows n y is = ap (λ k. nests flows k y) is ∙ nests-zero flows y

pub nests_next : (flows : List FlowDef) (n : ℕ) (y : Statement-F Statement) → 0 < n → nests flows n y ≡ nests_at (body_nests flows (n - 1)) flows y
nests_next flows n y more =
    let is : n ≡ suc (n - 1) = omega arith in
    ap (λ k. nests flows k y) is ∙ nests-suc flows (n - 1) y

pub levels-none : (flows : List FlowDef) → nesting_levels flows zero ≡ []
unfolding nesting_levels
levels-none flows = refl

pub levels-next : (flows : List FlowDef) (n : ℕ) → nesting_levels flows (suc n) ≡ nesting_levels flows n ++ nesting_level flows n ∷ []
unfolding nesting_levels
levels-next flows n = refl

pub length-nesting_levels : (flows : List FlowDef) (n : ℕ) → length (nesting_levels flows n) ≡ n
length-nesting_levels flows zero = ap length (levels-none flows)
length-nesting_levels flows (suc n) =
    ap length (levels-next flows n) ∙ omega (arith, length-append (nesting_levels flows n) (nesting_level flows n ∷ []), length-nesting_levels flows n)

slice_get-push : {X : Type 0} (xs : List X) (x : X) (k : ℕ) → k < length xs → slice_get (xs ++ x ∷ []) k ≡ slice_get xs k
slice_get-push [] x k h = absurd (omega arith)
slice_get-push (y ∷ ys) x zero h = refl
slice_get-push (y ∷ ys) x (suc k) h = slice_get-push ys x k (omega arith)

slice_get-last : {X : Type 0} (xs : List X) (x : X) → slice_get (xs ++ x ∷ []) (length xs) ≡ Some x
slice_get-last [] x = refl
slice_get-last (y ∷ ys) x = slice_get-last ys x

pub nesting_levels-at : (flows : List FlowDef) (n k : ℕ) → k < n → slice_get (nesting_levels flows n) k ≡ Some (nesting_level flows k)
nesting_levels-at flows zero k h = absurd (omega arith)
nesting_levels-at flows (suc n) k h =
    ap (λ ls. slice_get ls k) (levels-next flows n)
    ∙ ⊎_elim (λ l. slice_get-push (nesting_levels flows n) (nesting_level flows n) k (omega (arith, length-nesting_levels flows n)) ∙ nesting_levels-at flows n k l) last (cases_lt k n)
  where
    last : n ≤ k → slice_get (nesting_levels flows n ++ nesting_level flows n ∷ []) k ≡ Some (nesting_level flows k)
    last l =
        let is : k ≡ n = omega arith in
        let at : k ≡ length (nesting_levels flows n) = omega (arith, length-nesting_levels flows n) in
        ap (slice_get (nesting_levels flows n ++ nesting_level flows n ∷ [])) at
        ∙ slice_get-last (nesting_levels flows n) (nesting_level flows n)
        ∙ ap (λ m. Some (nesting_level flows m)) (sym is)

pub flow_nests-map : (flows : List FlowDef) (level number : ℕ)
    → flow_nests (body_nests flows level) (slice_get flows number) ≡ holds (slice_get (nesting_level flows level) number)
flow_nests-map flows level number = by_item (slice_get flows number) refl
  where
    by_item : (o : Option FlowDef) → slice_get flows number ≡ o → flow_nests (body_nests flows level) o ≡ holds (slice_get (nesting_level flows level) number)
    by_item None is = ap holds (sym (ap (option_map (λ (f : FlowDef). body_nests flows level f.body)) is) ∙ sym (slice_get-map (λ (f : FlowDef). body_nests flows level f.body) flows number))
    by_item (Some f) is = ap holds (sym (ap (option_map (λ (f : FlowDef). body_nests flows level f.body)) is) ∙ sym (slice_get-map (λ (f : FlowDef). body_nests flows level f.body) flows number))

-- the table of a level among the tables
pub level_table : (flows : List FlowDef) (ts slice : List (List Bool)) (v : List FlowDef × ℕ) (level : ℕ) (o : Option (List Bool))
    → o ≡ slice_get slice level → slice ≡ ts → ts ≡ nesting_levels flows (length ts) → (flows, length ts) ≡ v → level < v.1 → o ≡ Some (nesting_level v.0 level)
level_table flows ts slice v level o is within kept view below =
    let long : length ts ≡ v.1 = ap (λ (w : List FlowDef × ℕ). w.1) view in
    is
    ∙ ap (λ xs. slice_get xs level) (within ∙ kept)
    ∙ nesting_levels-at flows (length ts) level (omega arith)
    ∙ ap (λ (w : List FlowDef × ℕ). Some (nesting_level w.0 level)) view

pub flow_from_table : (flows : List FlowDef) (level number : ℕ) (table slice : List Bool) (r : Bool) → Some table ≡ Some (nesting_level flows level) → slice ≡ table
    → r ≡ holds (slice_get slice number) → r ≡ flow_nests (body_nests flows level) (slice_get flows number)
flow_from_table flows level number table slice r found within is =
    let same : table ≡ nesting_level flows level = cc in
    is ∙ ap (λ t. holds (slice_get t number)) (within ∙ same) ∙ sym (flow_nests-map flows level number)

pub no_table : (table : List Bool) (b : Bool) → None ≡ Some table → false ≡ b
no_table table b missing = cc

-- one table more
pub levels_pushed : (flows : List FlowDef) (ts new : List (List Bool)) (table : List Bool) (v : List FlowDef × ℕ)
    → new ≡ ts ++ table ∷ [] → ts ≡ nesting_levels flows (length ts) → table ≡ nesting_level v.0 v.1 → (flows, length ts) ≡ v → new ≡ nesting_levels flows (length new)
levels_pushed flows ts new table v added kept is view =
    let at : table ≡ nesting_level flows (length ts) = is ∙ sym (ap (λ (w : List FlowDef × ℕ). nesting_level w.0 w.1) view) in
    let one : length (ts ++ table ∷ []) ≡ suc (length ts) = omega (arith, length-append ts (table ∷ [])) in
    added
    ∙ ap (λ xs. xs ++ table ∷ []) kept
    ∙ ap (λ t. nesting_levels flows (length ts) ++ t ∷ []) at
    ∙ sym (levels-next flows (length ts))
    ∙ sym (ap (nesting_levels flows) (ap length added ∙ one))
