-- How many cells a net has after a move.
use Rattle.std.proofs.Common.{◌≡◌, ◌<◌, ◌≤◌, ◌^◌, ℕ, zero, suc, ◌+◌, List, [], ◌∷◌, ◌++◌, Option, Some, None, length, get_or, ap, refl, sym, subst, ◌∙◌, arith}
use Rattle.std.specs.Prelude.{replicate}
use Rattle.std.proofs.lemmas.List.Elements.{All-cons, All-nil}
use Rattle.std.proofs.lemmas.List.{get_or-map, length-map, length-append, length-set, length-replicate}
use Rattle.wdl_base.specs.declared.place.Segment.{Segment}
use Rattle.wdl_base.specs.declared.place.Segment.TheVariants as segment
use Rattle.wdl_value.specs.declared.env.Bind.{Bind}
use Rattle.wdl_value.specs.declared.value.Value.{Value}
use Rattle.wdl_value.specs.declared.value.Value.TheVariants as v
use Rattle.wdl_typed.specs.declared.expr.TExpr.{TExpr}
use Rattle.wdl_typed.specs.declared.flow.FlowDef.{FlowDef}
use Rattle.wdl_typed.specs.declared.task.TInput.{TInput}
use Rattle.wdl_typed.specs.Declarations.{plain_key}
use Rattle.wdl_typed.specs.Scope.{lookup}
use Rattle.value_net.specs.declared.net.ValueNet.{ValueNet}
use Rattle.value_net.specs.Nets.{view, with_cells, with_step}
use Rattle.plan_layout.specs.declared.layout.BodyLayout.{BodyLayout}
use Rattle.plan_layout.specs.declared.layout.FlowLayout.{FlowLayout}
use Rattle.plan_layout.specs.declared.layout.Need.{Need}
use Rattle.plan_layout.specs.declared.layout.StatementLayout.{StatementLayout}
use Rattle.plan_growth.specs.declared.rule.Rule.{Rule}
use Rattle.plan_growth.specs.declared.rule.Rule.TheVariants as rule
use Rattle.plan_growth.specs.Entering.{Plot, Sown, beyond_each, cells_of, firsts_of, with_absent, with_copies, with_default, with_ends, with_flow, with_gathers, with_given, with_inputs, with_instance, with_item, with_items, with_outputs, with_statements}
use Rattle.plan_bodies.specs.Joined.{AreFollowed, AreNumbers}

-- A net has fewer cells than there are numbers.
pub cells_few : {V R : Type 0} (n : ValueNet V R) → length (view n).values < 2 ^ 64
unfolding view
cells_few n = omega (arith, n.values.ok.0, n.values.ok.1, n.values.small)

-- ---- joints

pub gathers_keep : (firsts : List ℕ) (inner outer n : ℕ) (net : Sown) → (with_gathers firsts inner outer n net).values ≡ net.values
gathers_keep firsts inner outer zero net = refl
gathers_keep firsts inner outer (suc n) net = gathers_keep firsts inner outer n net

pub ends_keep : (firsts : List ℕ) (inner outer n : ℕ) (net : Sown) → (with_ends firsts inner outer n net).values ≡ net.values
ends_keep firsts inner outer zero net = refl
ends_keep firsts inner outer (suc n) net = ends_keep firsts inner outer n net

pub copies_keep : (inner outer n : ℕ) (net : Sown) → (with_copies inner outer n net).values ≡ net.values
copies_keep inner outer zero net = refl
copies_keep inner outer (suc n) net = copies_keep inner outer n net

pub absent_keep : (first n : ℕ) (net : Sown) → length (with_absent first n net).values ≡ length net.values
absent_keep first zero net = refl
absent_keep first (suc n) net = length-set (with_absent first n net).values (first + n) (Some v.Absent) ∙ absent_keep first n net

pub beyond_there : (count distance more : ℕ) (firsts : List ℕ) → AreFollowed count firsts more → distance < more → (k : ℕ) → k < length (beyond_each firsts distance) → get_or (beyond_each firsts distance) k 0 < count
beyond_there count distance more firsts h less k there =
    let inside : k < length firsts = subst (λ (n : ℕ). k < n) (length-map firsts (λ (x : ℕ). x + distance)) there in
    let e : get_or (beyond_each firsts distance) k 0 ≡ get_or firsts k 0 + distance = get_or-map (λ (x : ℕ). x + distance) firsts k 0 0 inside in
    let b : get_or firsts k 0 + more < count + 1 = h k 0 inside in
    omega (arith, e, b, less)

pub all_there : (m count distance more : ℕ) (firsts cells : List ℕ) → m ≡ count → cells ≡ beyond_each firsts distance → AreFollowed count firsts more → distance < more → (k : ℕ) → k < length cells → get_or cells k 0 < m
all_there m count distance more firsts cells same e h less =
    subst (λ (cs : List ℕ). (k : ℕ) → k < length cs → get_or cs k 0 < m) (sym e)
    (subst (λ (n : ℕ). (k : ℕ) → k < length (beyond_each firsts distance) → get_or (beyond_each firsts distance) k 0 < n) (sym same) (beyond_there count distance more firsts h less))

pub beyond_numbers : (count distance more : ℕ) (firsts : List ℕ) → AreFollowed count firsts more → distance < more → count < 2 ^ 64 → AreNumbers firsts distance
beyond_numbers count distance more firsts h less few = λ k d inside. let b : get_or firsts k d + more < count + 1 = h k d inside in omega (arith, b, less, few)

pub one_there : (x count : ℕ) → x < count → (k : ℕ) → k < length (x ∷ []) → get_or (x ∷ []) k 0 < count
one_there x count h zero there = h
one_there x count h (suc k) there = absurd (omega (arith, there))

-- ---- instances

pub statements_keep : (instance : ℕ) (bases : List ℕ) (k : ℕ) (ls : List StatementLayout) (net : Sown) → (with_statements instance bases k ls net).values ≡ net.values
statements_keep instance bases k [] net = refl
statements_keep instance bases k (l ∷ ls) net = statements_keep instance bases (k + 1) ls (with_step net (rule.Statement instance k) (cells_of bases l.needs l.after))

pub instance_count : (body : ℕ) (outer : List ℕ) (place : List Segment) (layout : BodyLayout) (p : Plot) → length (with_instance body outer place layout p).net.values ≡ length p.net.values + layout.cells
instance_count body outer place layout p =
    ap (λ (xs : List (Option Value)). length xs) (statements_keep (length p.instances) (outer ++ length p.net.values ∷ []) 0 layout.statements (with_cells p.net layout.cells))
    ∙ length-append p.net.values (replicate layout.cells None) ∙ ap (λ n. length p.net.values + n) (length-replicate layout.cells None)

pub item_count : (body : ℕ) (outer : List ℕ) (place : List Segment) (layout : BodyLayout) (item : Value) (p : Plot) → length (with_item body outer place layout item p).net.values ≡ length p.net.values + layout.cells
item_count body outer place layout item p =
    length-set (with_instance body outer place layout p).net.values (length p.net.values) (Some item) ∙ instance_count body outer place layout p

pub items_more : (body : ℕ) (outer : List ℕ) (place : List Segment) (layout : BodyLayout) (i : ℕ) (xs : List Value) (p : Plot) → length p.net.values ≤ length (with_items body outer place layout i xs p).net.values
items_more body outer place layout i [] p = omega arith
items_more body outer place layout i (x ∷ xs) p =
    let mid : Plot = with_item body outer (place ++ segment.Index i ∷ []) layout x p in
    let rest : length mid.net.values ≤ length (with_items body outer place layout (i + 1) xs mid).net.values = items_more body outer place layout (i + 1) xs mid in
    let own : length mid.net.values ≡ length p.net.values + layout.cells = item_count body outer (place ++ segment.Index i ∷ []) layout x p in
    omega (arith, rest, own)

pub cells_more : (net : Sown) (n : ℕ) → length (with_cells net n).values ≡ length net.values + n
cells_more net n = length-append net.values (replicate n None) ∙ ap (λ m. length net.values + m) (length-replicate n None)

-- ---- the same of a net that is such

pub copied_count : (inner outer n : ℕ) (old new : Sown) → new ≡ with_copies inner outer n old → length new.values ≡ length old.values
copied_count inner outer n old new e = ap (λ (v : Sown). length v.values) e ∙ ap (λ (xs : List (Option Value)). length xs) (copies_keep inner outer n old)

pub gathered_count : (firsts : List ℕ) (inner outer n : ℕ) (old new : Sown) → new ≡ with_gathers firsts inner outer n old → length new.values ≡ length old.values
gathered_count firsts inner outer n old new e = ap (λ (v : Sown). length v.values) e ∙ ap (λ (xs : List (Option Value)). length xs) (gathers_keep firsts inner outer n old)

pub ended_count : (firsts : List ℕ) (inner outer n : ℕ) (old new : Sown) → new ≡ with_ends firsts inner outer n old → length new.values ≡ length old.values
ended_count firsts inner outer n old new e = ap (λ (v : Sown). length v.values) e ∙ ap (λ (xs : List (Option Value)). length xs) (ends_keep firsts inner outer n old)

pub absent_count : (first n : ℕ) (old new : Sown) → new ≡ with_absent first n old → length new.values ≡ length old.values
absent_count first n old new e = ap (λ (v : Sown). length v.values) e ∙ absent_keep first n old

pub entered_count : (body : ℕ) (outer : List ℕ) (place : List Segment) (layout : BodyLayout) (old new : Plot) → new ≡ with_instance body outer place layout old → length new.net.values ≡ length old.net.values + layout.cells
entered_count body outer place layout old new e = ap (λ (p : Plot). length p.net.values) e ∙ instance_count body outer place layout old

-- ---- workflows

default_keeps : (r : Rule) (cell first : ℕ) (needs : List Need) (default : Option TExpr) (net : Sown) → length (with_default r cell first needs default net).values ≡ length net.values
default_keeps r cell first needs None net = length-set net.values cell (Some v.Absent)
default_keeps r cell first needs (Some e) net = refl

given_keeps : (r : Rule) (cell first : ℕ) (needs : List Need) (default : Option TExpr) (o : Option Value) (net : Sown) → length (with_given r cell first needs default o net).values ≡ length net.values
given_keeps r cell first needs default None net = default_keeps r cell first needs default net
given_keeps r cell first needs default (Some x) net = length-set net.values cell (Some x)

inputs_keep : (given : List Bind) (instance first k : ℕ) (is : List TInput) (ns : List (List Need)) (net : Sown) → length (with_inputs given instance first k is ns net).values ≡ length net.values
inputs_keep given instance first k [] ns net = refl
inputs_keep given instance first k (i ∷ is) [] net = refl
inputs_keep given instance first k (i ∷ is) (n ∷ ns) net =
    inputs_keep given instance first (k + 1) is ns (with_given (rule.Input instance k) (first + k) first n i.value (lookup given (plain_key i.name)) net)
    ∙ given_keeps (rule.Input instance k) (first + k) first n i.value (lookup given (plain_key i.name)) net

pub inputs_count : (given : List Bind) (instance first k : ℕ) (is : List TInput) (ns : List (List Need)) (old new : Sown) → new ≡ with_inputs given instance first k is ns old → length new.values ≡ length old.values
inputs_count given instance first k is ns old new e = ap (λ (v : Sown). length v.values) e ∙ inputs_keep given instance first k is ns old

outputs_keep : (instance first k : ℕ) (ns : List (List Need)) (net : Sown) → (with_outputs instance first k ns net).values ≡ net.values
outputs_keep instance first k [] net = refl
outputs_keep instance first k (n ∷ ns) net = outputs_keep instance first (k + 1) ns (with_step net (rule.Output instance k) (cells_of (first ∷ []) n []))

pub flow_count : (f : FlowDef) (given : List Bind) (place : List Segment) (layout : FlowLayout) (body : BodyLayout) (old new : Plot) → new ≡ with_flow f given place layout body old → length new.net.values ≡ length old.net.values + body.cells
flow_count f given place layout body old new e =
    ap (λ (p : Plot). length p.net.values) e
    ∙ ap (λ (xs : List (Option Value)). length xs)
    (outputs_keep (length old.instances) (length old.net.values) 0 layout.outputs (with_inputs given (length old.instances) (length old.net.values) 0 f.inputs layout.inputs (with_instance layout.body [] place body old).net))
    ∙ inputs_keep given (length old.instances) (length old.net.values) 0 f.inputs layout.inputs (with_instance layout.body [] place body old).net
    ∙ instance_count layout.body [] place body old

-- ---- the first cells of a scatter's instances

pub firsts_followed : (body : ℕ) (outer : List ℕ) (place : List Segment) (layout : BodyLayout) (i : ℕ) (xs : List Value) (p : Plot)
    → AreFollowed (length (with_items body outer place layout i xs p).net.values) (firsts_of body outer place layout i xs p) layout.cells
firsts_followed body outer place layout i [] p = All-nil (λ (first : ℕ). first + layout.cells < length p.net.values + 1)
firsts_followed body outer place layout i (x ∷ xs) p =
    let mid : Plot = with_item body outer (place ++ segment.Index i ∷ []) layout x p in
    let more : length mid.net.values ≤ length (with_items body outer place layout (i + 1) xs mid).net.values = items_more body outer place layout (i + 1) xs mid in
    let own : length mid.net.values ≡ length p.net.values + layout.cells = item_count body outer (place ++ segment.Index i ∷ []) layout x p in
    All-cons (λ (first : ℕ). first + layout.cells < length (with_items body outer place layout (i + 1) xs mid).net.values + 1) (length p.net.values) (firsts_of body outer place layout (i + 1) xs mid)
    (omega (arith, more, own)) (firsts_followed body outer place layout (i + 1) xs mid)
