-- Joints, declarations, defaults and outputs: a plan goes on growing.
use Rattle.std.proofs.Common.{◌≡◌, ℕ, ◌+◌, ◌-◌, ◌≤◌, true, false, List, [], ◌∷◌, All, map, length, get_or, Option, Some, None, Ok, Err, slice_get, slice_set, arith, sym, ap, ◌∙◌, subst, refl}
use Rattle.std.specs.List.{list_all}
use Rattle.std.proofs.lemmas.Bool.{and_from, and_parts}
use Rattle.std.proofs.lemmas.List.Elements.{All-head}
use Rattle.std.proofs.lemmas.Option.{slice_get_within, same_Some}
use Rattle.wdl_base.specs.declared.place.Segment.{Segment}
use Rattle.wdl_value.specs.declared.value.Value.{Value}
use Rattle.wdl_value.specs.declared.value.Value.TheVariants as kind
use Rattle.wdl_value.specs.Outcome.{Outcome}
use Rattle.wdl_value.specs.Tables.{Row}
use Rattle.wdl_typed.specs.declared.expr.TExpr.{TExpr}
use Rattle.wdl_typed.specs.declared.flow.FlowDef.{FlowDef}
use Rattle.wdl_typed.specs.declared.flow.Statement.{Statement, Statement-F, out-Statement}
use Rattle.wdl_typed.specs.declared.flow.Statement.TheVariants as stmt
use Rattle.wdl_typed.specs.declared.task.TDecl.{TDecl}
use Rattle.wdl_typed.specs.declared.task.TInput.{TInput}
use Rattle.wdl_typed.specs.Bodies.{Library}
use Rattle.wdl_typed.specs.Evaluation.{value_of}
use Rattle.wdl_typed.specs.Flow.{all_values, env_of}
use Rattle.wdl_typed.specs.KnownTypes as known_types
use Rattle.wdl_typed.specs.Requests.{before}
use Rattle.wdl_typed.specs.Scope.{names_of}
use Rattle.step_net.specs.Views.{Wants}
use Rattle.value_net.specs.Nets as values
use Rattle.value_net.specs.Nets.{joined, value_at, view_of, with_taken, with_value}
use Rattle.net_laws.specs.Cost.{TaskCost}
use Rattle.net_laws.specs.Growing as net
use Rattle.net_laws.specs.Growing.{Form, copies, declares, does, ends, gathers, only}
use Rattle.net_laws.specs.Moving.{IsWeight}
use Rattle.net_laws.specs.Net.{Given, Resolved, Scope, Slot, Work, known_in, no_work}
use Rattle.net_laws.specs.Rules.{Needs}
use Rattle.net_laws.proofs.Sets.{slots_set}
use Rattle.plan_moves.specs.Laws.{HasMoved, Joins, Tells}
use Rattle.plan_moves.specs.Sheets.{Sheet}
use Rattle.plan_moves.proofs.Declarations.{declarations, defaults}
use Rattle.plan_moves.proofs.Joints.{joints}
use Rattle.plan_layout.specs.declared.layout.BodyLayout.{BodyLayout}
use Rattle.plan_layout.specs.declared.layout.FlowLayout.{FlowLayout}
use Rattle.plan_layout.specs.declared.layout.Layout.{Layout}
use Rattle.plan_layout.specs.declared.layout.Need.{Need}
use Rattle.plan_layout.specs.declared.layout.StatementLayout.{StatementLayout}
use Rattle.plan_layout.specs.Cells.{cell_at, slots_at}
use Rattle.plan_layout.specs.Laid.{Laid, Stand, given_at, one}
use Rattle.plan_layout.specs.Paths.{body_at}
use Rattle.plan_layout.specs.Sees.{AllSeen, Sees, keys_at}
use Rattle.plan_layout.specs.Spots.{needs_of}
use Rattle.plan_layout.proofs.Needed.{needs_all, needs_resolved}
use Rattle.plan_growth.specs.declared.instance.Instance.{Instance}
use Rattle.plan_growth.specs.declared.rule.Rule.{Rule}
use Rattle.plan_growth.specs.declared.rule.Rule.TheVariants as rule
use Rattle.plan_growth.specs.Begun.{IsFree, base_at, given_by, given_of, scope_at}
use Rattle.plan_growth.specs.Entering.{Sown, cells_of}
use Rattle.plan_growth.specs.Growth.{IsGrowing, sheet_of, AskedCall}
use Rattle.plan_growth.specs.Keeps.{IsAt, IsInputAt, IsOutputAt, last_base, net_told, own_outcome, work_told}
use Rattle.plan_growth.specs.Meaning.{AreThere, Fits, Means, MeansDeclared, MeansStatement, rule_cells}
use Rattle.plan_growth.proofs.Heads.{needs_are, needs_set, same_some, values_kept}
use Rattle.plan_growth.proofs.Inside.{decl_laid}
use Rattle.plan_growth.proofs.Lists.{get_set}
use Rattle.plan_growth.proofs.Moving.{Moves, is_move}
use Rattle.plan_growth.proofs.Setting.{SetsOwn, StepAt, goes_moved, once_at, sets_more, sets_moves, sets_none, step_at, tells_by, told_work}

-- what the meaning of a step tells of these objects
pub record MeansAt (lib : Library) (layout : Layout) (n : ℕ) (q : Instance) (body : BodyLayout) (flow : FlowDef) (l : StatementLayout) (x : Statement) (cells : List ℕ) (m : net.Rule) : Type 0 where
  pub cells_are : cells ≡ cells_of q.bases l.needs l.after
  pub stand : Stand
  pub sees : Sees lib x stand
  pub laid : Laid (Sees lib) lib body.flow flow.body layout.bodies (one x stand l)
  pub depth : length q.bases ≡ length stand.path + 1
  pub names : AreThere q.bases n stand.names
  pub calls : AreThere q.bases n stand.calls
  pub fits : Fits (given_at lib (out-Statement x)) stand
  pub means : m ≡ does x (scope_at q.bases stand q.place) (given_of lib q.bases stand x) (base_at q.bases stand + l.done)

-- The objects are those of the layout, so the meaning is theirs.
pub means_at : (lib : Library) (layout : Layout) (is : List Instance) (n i k : ℕ) (q : Instance) (body : BodyLayout) (flow : FlowDef) (l : StatementLayout) (x : Statement) (cells : List ℕ) (m : net.Rule)
    → IsAt lib layout is i k q body flow l x → MeansStatement lib layout is n i k cells m → MeansAt lib layout n q body flow l x cells m
means_at lib layout is n i k q body flow l x cells m at h =
    let a : h.instance ≡ q = same_Some _ _ (sym h.of_instance.there ∙ at.of_instance.there) in
    let b : h.body ≡ body = same_Some _ _ (sym h.of_instance.body_there ∙ ap (λ (z : Instance). slice_get layout.bodies z.body) a ∙ at.of_instance.body_there) in
    let c : h.flow ≡ flow = same_Some _ _ (sym h.of_instance.flow_there ∙ ap (λ (z : BodyLayout). slice_get lib.flows z.flow) b ∙ at.of_instance.flow_there) in
    let d : h.line ≡ l = same_Some _ _ (sym h.line_there ∙ ap (λ (z : BodyLayout). slice_get z.statements k) b ∙ at.line) in
    let e : h.statement ≡ x =
    same_Some _ _ (sym h.statement_there ∙ ap (λ (z : FlowDef). slice_get (body_at z.body h.body.path) k) c ∙ ap (λ (z : BodyLayout). slice_get (body_at flow.body z.path) k) b ∙ at.statement) in
    subst (λ (z : Instance). MeansAt lib layout n z body flow l x cells m) a
    (subst (λ (z : BodyLayout). MeansAt lib layout n h.instance z flow l x cells m) b
    (subst (λ (z : FlowDef). MeansAt lib layout n h.instance h.body z l x cells m) c
    (subst (λ (z : StatementLayout). MeansAt lib layout n h.instance h.body h.flow z x cells m) d
    (subst (λ (z : Statement). MeansAt lib layout n h.instance h.body h.flow h.line z cells m) e
    (record {
      cells_are = h.cells_are;
      stand = h.stand;
      sees = h.sees;
      laid = h.laid;
      depth = h.depth;
      names = h.names;
      calls = h.calls;
      fits = h.fits;
      means = h.means;
    })))))

pub base_same : (bases : List ℕ) (a : Stand) → length bases ≡ length a.path + 1 → base_at bases a ≡ last_base bases
base_same bases a e = let z : length a.path ≡ length bases - 1 = omega (arith, e) in ap (λ (m : ℕ). get_or bases m 0) z

same_told : (o : Outcome Value) (place : List Segment) (name : List ℕ) → told_work place name o ≡ work_told place name o
same_told (Ok x) place name = refl
same_told (Err c) place name = refl

module _ (lib : Library) (layout : Layout) (site : List ℕ) (rows : List Row) (depth : ℕ) (form : Form) (v : Sown) (is : List Instance) (listed : Work) (asked : List AskedCall) (paid : TaskCost → ℕ)
    (g : IsGrowing lib layout site rows depth form v is listed asked paid) (t : ℕ) (r : Rule) (code : slice_get v.rules t ≡ Some r) (step : Wants) (there : slice_get v.steps t ≡ Some step)
    (fresh : step.is_taken ≡ false) (ready : values.are_set v.values step.needs ≡ true) where
  abbrev rules : List net.Rule
  rules = g.growth.rules

  abbrev owners : List ℕ
  owners = g.growth.owners

  abbrev here : StepAt lib layout site rows depth form v is listed asked paid g t r step
  here = step_at lib layout site rows depth form v is listed asked paid g t r step code there

  abbrev w : Sown
  w = with_taken v t step

  abbrev Sets : List (Option Value) → Type 0
  Sets vs = SetsOwn v rules owners is g.even t step there fresh ready vs

  abbrev After : List (Option Value) → Sown
  After vs = view_of vs v.rules (slice_set v.steps t (record { needs = step.needs; is_taken = true }))

  moves : (vs : List (Option Value)) → Sets vs → Moves t v rules owners is (After vs) rules owners is []
  moves vs h = sets_moves v rules owners is g.even t step there fresh ready vs h

  first_sets : (c : ℕ) (x : Value) → IsFree (sheet_of v rules) owners t c → Sets (slice_set v.values c (Some x))
  first_sets c x free = sets_more v rules owners is g.even t step there fresh ready v.values c x (sets_none v rules owners is g.even t step there fresh ready) free

  cell_now : (c : ℕ) (x : Value) → IsFree (sheet_of v rules) owners t c → value_at (slice_set v.values c (Some x)) c ≡ Some x
  cell_now c x free = ap joined (get_set v.values c (Some x) (slice_get_within v.values c None free.1))

  nothing_more : (weight : Work → ℕ) → IsWeight weight → weight listed ≡ weight listed + weight no_work
  nothing_more weight is_weight = let z = is_weight.nothing in omega (arith, z)

  pays_same : (task : TaskCost) → paid task ≤ paid task + 0
  pays_same task = omega arith

  -- ---- joints

  module _ (m : net.Rule) (rule_is : slice_get rules t ≡ Some m) (c : ℕ) (free : IsFree (sheet_of v rules) owners t c) (x : Value) where
    joint_goes : Joins lib site rows (sheet_of (After (slice_set v.values c (Some x))) rules) owners m → IsGrowing lib layout site rows depth form (with_value w c x) is listed asked paid
    joint_goes joins =
        goes_moved lib layout site rows depth form v is listed asked paid g t (After (slice_set v.values c (Some x))) (moves (slice_set v.values c (Some x)) (first_sets c x free)) no_work 0
        (joints lib site rows t (sheet_of v rules) owners (sheet_of (After (slice_set v.values c (Some x))) rules) owners
        (is_move t v rules owners is (After (slice_set v.values c (Some x))) rules owners is [] (moves (slice_set v.values c (Some x)) (first_sets c x free)) g.even) m rule_is joins depth form g.root g.growth.grown)
        listed nothing_more paid pays_same

  abbrev b_of : ℕ → Value → Sheet
  b_of c x = sheet_of (After (slice_set v.values c (Some x))) rules

  value_kept : (c : ℕ) (x : Value) → IsFree (sheet_of v rules) owners t c → (d : ℕ) → known_types.is_some (value_at v.values d) ≡ true → value_at (slice_set v.values c (Some x)) d ≡ value_at v.values d
  value_kept c x free = values_kept v.values (slice_set v.values c (Some x)) (first_sets c x free).kept

  -- the values of cells that are all set stay
  all_kept : (vs : List (Option Value)) (cs : List ℕ) → values.are_set v.values cs ≡ true → ((d : ℕ) → known_types.is_some (value_at v.values d) ≡ true → value_at vs d ≡ value_at v.values d)
      → map (value_at vs) cs ≡ map (value_at v.values) cs
  all_kept vs [] h kept = refl
  all_kept vs (d ∷ ds) h kept =
      let p = and_parts (values.is_set v.values d) (values.are_set v.values ds) h in
      ap (λ (o : Option Value). o ∷ map (value_at vs) ds) (kept d (sym (same_some (value_at v.values d)) ∙ p.0)) ∙ ap (λ (os : List (Option Value)). value_at v.values d ∷ os) (all_kept vs ds p.1 kept)

  are_kept : (vs : List (Option Value)) (cs : List ℕ) → values.are_set v.values cs ≡ true → ((d : ℕ) → known_types.is_some (value_at v.values d) ≡ true → value_at vs d ≡ value_at v.values d)
      → list_all (λ (d : ℕ). known_types.is_some (value_at vs d)) cs ≡ true
  are_kept vs [] h kept = refl
  are_kept vs (d ∷ ds) h kept =
      let p = and_parts (values.is_set v.values d) (values.are_set v.values ds) h in
      let set = sym (same_some (value_at v.values d)) ∙ p.0 in
      and_from (known_types.is_some (value_at vs d)) (list_all (λ (z : ℕ). known_types.is_some (value_at vs z)) ds) (ap known_types.is_some (kept d set) ∙ set) (are_kept vs ds p.1 kept)

  pub gathers_goes : (c : ℕ) → r ≡ rule.Gathers c → (xs : List Value) → all_values (map (value_at v.values) step.needs) ≡ Some xs → IsGrowing lib layout site rows depth form (with_value w c (kind.List xs)) is listed asked paid
  gathers_goes c e xs is_ =
      let means : here.means ≡ gathers step.needs c = subst (λ (z : Rule). Means lib layout is (length v.values) z step.needs here.means) e here.stands.means in
      let free = All-head (IsFree (sheet_of v rules) owners t) c [] (subst (λ (z : net.Rule). All (IsFree (sheet_of v rules) owners t) (rule_cells z)) means (here.stands.free fresh)) in
      joint_goes (gathers step.needs c) (here.rule ∙ ap (λ (z : net.Rule). Some z) means) c free (kind.List xs)
      (record {
        values = xs;
        set = ap all_values (all_kept (slice_set v.values c (Some (kind.List xs))) step.needs ready (value_kept c (kind.List xs) free)) ∙ is_;
        value = cell_now c (kind.List xs) free;
      })

  pub ends_goes : (c : ℕ) → r ≡ rule.Ends c → IsGrowing lib layout site rows depth form (with_value w c kind.Absent) is listed asked paid
  ends_goes c e =
      let means : here.means ≡ ends step.needs c = subst (λ (z : Rule). Means lib layout is (length v.values) z step.needs here.means) e here.stands.means in
      let free = All-head (IsFree (sheet_of v rules) owners t) c [] (subst (λ (z : net.Rule). All (IsFree (sheet_of v rules) owners t) (rule_cells z)) means (here.stands.free fresh)) in
      joint_goes (ends step.needs c) (here.rule ∙ ap (λ (z : net.Rule). Some z) means) c free kind.Absent
      (record { set = are_kept (slice_set v.values c (Some kind.Absent)) step.needs ready (value_kept c kind.Absent free); ended = ap known_types.is_some (cell_now c kind.Absent free) })

  -- what a step that copies needs is one cell
  pub copies_one : (c : ℕ) → r ≡ rule.Copies c → (from : ℕ) × (step.needs ≡ from ∷ [])
  copies_one c e = let h = subst (λ (z : Rule). Means lib layout is (length v.values) z step.needs here.means) e here.stands.means in (h.0, h.1)

  pub copies_goes : (c : ℕ) → r ≡ rule.Copies c → (from : ℕ) → step.needs ≡ from ∷ [] → (x : Value) → value_at v.values from ≡ Some x → IsGrowing lib layout site rows depth form (with_value w c x) is listed asked paid
  copies_goes c e from needs x is_ =
      let h = subst (λ (z : Rule). Means lib layout is (length v.values) z step.needs here.means) e here.stands.means in
      let same : h.0 ≡ from = first_same h.0 from (sym h.1 ∙ needs) in
      let means : here.means ≡ copies from c = h.2 ∙ ap (λ (z : ℕ). copies z c) same in
      let free = All-head (IsFree (sheet_of v rules) owners t) c [] (subst (λ (z : net.Rule). All (IsFree (sheet_of v rules) owners t) (rule_cells z)) means (here.stands.free fresh)) in
      let stays = value_kept c x free from (ap known_types.is_some is_) in
      joint_goes (copies from c) (here.rule ∙ ap (λ (z : net.Rule). Some z) means) c free x
      (record { set = ap known_types.is_some (stays ∙ is_); same = cell_now c x free ∙ sym is_ ∙ sym stays })
    where
      first_same : (m n : ℕ) → (let xs : List ℕ = m ∷ [] in xs ≡ n ∷ []) → m ≡ n
      first_same m n z = cc

  -- ---- declarations, defaults and outputs

  told_goes : (name : List ℕ) (e : TExpr) (s : Scope) (c : ℕ) (slots : List Slot) → Needs s (names_of e) slots → slots_set (value_at v.values) slots ≡ true → IsFree (sheet_of v rules) owners t c → (o : Outcome Value)
      → value_of (before (env_of (map (known_in (value_at v.values)) slots))) e ≡ o
      → ((vs : List (Option Value)) (h : Sets vs) → Tells (sheet_of (After vs) rules) name e s c (told_work s.place name o)
      → HasMoved lib site rows t (sheet_of v rules) owners (sheet_of (After vs) rules) owners (told_work s.place name o) 1 depth form g.growth.grown)
      → (later : Work) → ((weight : Work → ℕ) → IsWeight weight → weight later ≡ weight listed + weight (told_work s.place name o)) → (later_paid : TaskCost → ℕ) → ((task : TaskCost) → later_paid task ≤ paid task + 1)
      → IsGrowing lib layout site rows depth form (net_told w c o) is later asked later_paid
  told_goes name e s c slots needs set free (Ok y) is_ law later lists later_paid pays =
      let h = first_sets c y free in
      goes_moved lib layout site rows depth form v is listed asked paid g t (After (slice_set v.values c (Some y))) (moves (slice_set v.values c (Some y)) h) no_work 1
      (law (slice_set v.values c (Some y)) h (tells_by v.values (sheet_of (After (slice_set v.values c (Some y))) rules) name e s c slots needs set h.kept (Ok y) is_ (cell_now c y free)))
      later lists later_paid pays
  told_goes name e s c slots needs set free (Err k) is_ law later lists later_paid pays =
      let h = sets_none v rules owners is g.even t step there fresh ready in
      goes_moved lib layout site rows depth form v is listed asked paid g t (After v.values) (moves v.values h) (told_work s.place name (Err k)) 1
      (law v.values h (tells_by v.values (sheet_of (After v.values) rules) name e s c slots needs set h.kept (Err k) is_ (ap joined free.1))) later lists later_paid pays

  abbrev Lists : Work → Work → Type 0
  Lists later added = (weight : Work → ℕ) → IsWeight weight → weight later ≡ weight listed + weight added

  lists_told : (o : Outcome Value) (place : List Segment) (name : List ℕ) (later : Work) → Lists later (work_told place name o) → Lists later (told_work place name o)
  lists_told o place name later h = subst (λ (z : Work). Lists later z) (sym (same_told o place name)) h

  pub decl_goes : (i k : ℕ) → r ≡ rule.Statement i k → (q : Instance) (body : BodyLayout) (flow : FlowDef) (l : StatementLayout) (x : TDecl) → IsAt lib layout is i k q body flow l (stmt.Decl x) → (o : Outcome Value)
      → own_outcome v q.bases l.needs x.value ≡ o → (later : Work) → Lists later (work_told q.place x.name o) → (later_paid : TaskCost → ℕ) → ((task : TaskCost) → later_paid task ≤ paid task + 1)
      → IsGrowing lib layout site rows depth form (net_told w (last_base q.bases + l.first_name) o) is later asked later_paid
  decl_goes i k e q body flow l x at o is_ later lists later_paid pays =
      let h = means_at lib layout is (length v.values) i k q body flow l (stmt.Decl x) step.needs here.means at (subst (λ (z : Rule). Means lib layout is (length v.values) z step.needs here.means) e here.stands.means) in
      let lay = decl_laid lib body.flow flow.body layout.bodies x h.stand l h.laid in
      let c = base_at q.bases h.stand + h.stand.next_name in
      let s = scope_at q.bases h.stand q.place in
      let given_is : given_of lib q.bases h.stand (stmt.Decl x) ≡ only x.name c = ap (λ (y : Statement-F Statement). given_by q.bases h.stand (given_at lib y)) (stmt.outs-Decl x) in
      let done_is : base_at q.bases h.stand + l.done ≡ c = ap (λ (m : ℕ). base_at q.bases h.stand + m) lay.slots.done_is in
      let means : here.means ≡ does (stmt.Decl x) s (only x.name c) c =
      h.means ∙ ap (λ (z : Given). does (stmt.Decl x) s z (base_at q.bases h.stand + l.done)) given_is ∙ ap (does (stmt.Decl x) s (only x.name c)) done_is in
      let rule_is : slice_get rules t ≡ Some (does (stmt.Decl x) s (only x.name c) c) = here.rule ∙ ap (λ (z : net.Rule). Some z) means in
      let free = All-head (IsFree (sheet_of v rules) owners t) c (c ∷ []) (subst (λ (z : net.Rule). All (IsFree (sheet_of v rules) owners t) (rule_cells z)) means (here.stands.free fresh)) in
      let sees = subst (λ (y : Statement-F Statement). AllSeen h.stand.names (keys_at y)) (stmt.outs-Decl x) h.sees.names in
      let set_all = ap (values.are_set v.values) (sym h.cells_are) ∙ ready in
      let needs = needs_are v.values q.bases h.stand q.place x.value l.needs lay.needs.needs sees (map (cell_at q.bases) l.after) set_all in
      let place_is : c ≡ last_base q.bases + l.first_name = (let a = base_same q.bases h.stand h.depth in let b_ = lay.slots.first_name in omega (arith, a, b_)) in
      subst (λ (d : ℕ). IsGrowing lib layout site rows depth form (net_told w d o) is later asked later_paid) place_is
      (told_goes x.name x.value s c (slots_at q.bases l.needs) needs (needs_set v.values q.bases l.needs (map (cell_at q.bases) l.after) set_all) free o is_
      (λ vs sets tells.
      declarations lib site rows t (sheet_of v rules) owners (sheet_of (After vs) rules) owners (is_move t v rules owners is (After vs) rules owners is [] (moves vs sets) g.even) (λ d z. z) x s c (told_work q.place x.name o) rule_is tells depth
      form g.root g.growth.grown (once_at lib layout site rows depth form v is listed asked paid g t (does (stmt.Decl x) s (only x.name c) c) step rule_is refl there fresh))
      later (lists_told o q.place x.name later lists) later_paid pays)

  -- a default or an output, by what its step means
  declared_goes : (q : Instance) (name : List ℕ) (e : TExpr) (needs : List Need) (slot : ℕ) → MeansDeclared q name e needs slot (length v.values) step.needs here.means → (o : Outcome Value) → own_outcome v q.bases needs e ≡ o
      → (later : Work) → Lists later (work_told q.place name o) → (later_paid : TaskCost → ℕ) → ((task : TaskCost) → later_paid task ≤ paid task + 1)
      → IsGrowing lib layout site rows depth form (net_told w (last_base q.bases + slot) o) is later asked later_paid
  declared_goes q name e needs slot h o is_ later lists later_paid pays =
      let c = h.base + slot in
      let s = h.scope in
      let rule_is : slice_get rules t ≡ Some (declares name e s c) = here.rule ∙ ap (λ (z : net.Rule). Some z) h.means in
      let free = All-head (IsFree (sheet_of v rules) owners t) c [] (subst (λ (z : net.Rule). All (IsFree (sheet_of v rules) owners t) (rule_cells z)) h.means (here.stands.free fresh)) in
      let set_all = ap (values.are_set v.values) (sym h.cells_are) ∙ ready in
      let slots = slots_at (h.base ∷ []) needs in
      let needed : Needs s (names_of e) slots =
      subst (λ (ns : List Need). Needs s (names_of e) (slots_at (h.base ∷ []) ns)) (sym h.needs_are)
      (record {
        resolved = subst (λ (names : List Slot). Resolved names (slots_at (h.base ∷ []) (needs_of h.seen (names_of e)))) (sym h.scope_names) (needs_resolved (h.base ∷ []) h.seen (names_of e));
        all = needs_all (h.base ∷ []) h.seen (names_of e) h.all_seen;
      }) in
      let place_is : c ≡ last_base q.bases + slot = (let a = ap last_base h.bases in omega (arith, a)) in
      let outcome = ap (λ (bs : List ℕ). own_outcome v bs needs e) (sym h.bases) ∙ is_ in
      let listed_so : Lists later (told_work s.place name o) = subst (λ (p : List Segment). Lists later (told_work p name o)) (sym h.scope_place) (lists_told o q.place name later lists) in
      subst (λ (d : ℕ). IsGrowing lib layout site rows depth form (net_told w d o) is later asked later_paid) place_is
      (told_goes name e s c slots needed (needs_set v.values (h.base ∷ []) needs [] set_all) free o outcome
      (λ vs sets tells.
      defaults lib site rows t (sheet_of v rules) owners (sheet_of (After vs) rules) owners (is_move t v rules owners is (After vs) rules owners is [] (moves vs sets) g.even) (λ d z. z) name e s c (told_work s.place name o) rule_is tells depth
      form g.root g.growth.grown (once_at lib layout site rows depth form v is listed asked paid g t (declares name e s c) step rule_is refl there fresh))
      later listed_so later_paid pays)

  pub input_goes : (i k : ℕ) → r ≡ rule.Input i k → (q : Instance) (body : BodyLayout) (flow : FlowDef) (fl : FlowLayout) (x : TInput) (e : TExpr) (needs : List Need) → IsInputAt lib layout is i k q body flow fl x e needs → (o : Outcome Value)
      → own_outcome v q.bases needs e ≡ o → (later : Work) → Lists later (work_told q.place x.name o) → (later_paid : TaskCost → ℕ) → ((task : TaskCost) → later_paid task ≤ paid task + 1)
      → IsGrowing lib layout site rows depth form (net_told w (last_base q.bases + k) o) is later asked later_paid
  input_goes i k same q body flow fl x e needs at o is_ later lists later_paid pays =
      let h = subst (λ (z : Rule). Means lib layout is (length v.values) z step.needs here.means) same here.stands.means in
      let a : h.instance ≡ q = same_Some _ _ (sym h.of_instance.there ∙ at.of_instance.there) in
      let b_ : h.body ≡ body = same_Some _ _ (sym h.of_instance.body_there ∙ ap (λ (z : Instance). slice_get layout.bodies z.body) a ∙ at.of_instance.body_there) in
      let c : h.flow ≡ flow = same_Some _ _ (sym h.of_instance.flow_there ∙ ap (λ (z : BodyLayout). slice_get lib.flows z.flow) b_ ∙ at.of_instance.flow_there) in
      let d : h.flow_layout ≡ fl = same_Some _ _ (sym h.layout_there ∙ ap (λ (z : BodyLayout). slice_get layout.flows z.flow) b_ ∙ at.layout_there) in
      let f : h.input ≡ x = same_Some _ _ (sym h.input_there ∙ ap (λ (z : FlowDef). slice_get z.inputs k) c ∙ at.input) in
      let j : h.value ≡ e = same_Some _ _ (sym h.default_is ∙ ap (λ (z : TInput). z.value) f ∙ at.default_is) in
      let n : h.needs ≡ needs = same_Some _ _ (sym h.needs_there ∙ ap (λ (z : FlowLayout). slice_get z.inputs k) d ∙ at.needs_there) in
      declared_goes q x.name e needs k
      (subst (λ (z : Instance). MeansDeclared z x.name e needs k (length v.values) step.needs here.means) a
      (subst (λ (z : TInput). MeansDeclared h.instance z.name e needs k (length v.values) step.needs here.means) f
      (subst (λ (z : TExpr). MeansDeclared h.instance h.input.name z needs k (length v.values) step.needs here.means) j
      (subst (λ (z : List Need). MeansDeclared h.instance h.input.name h.value z k (length v.values) step.needs here.means) n h.declared))))
      o is_ later lists later_paid pays

  pub output_goes : (i k : ℕ) → r ≡ rule.Output i k → (q : Instance) (body : BodyLayout) (flow : FlowDef) (fl : FlowLayout) (x : TDecl) (needs : List Need) → IsOutputAt lib layout is i k q body flow fl x needs → (o : Outcome Value)
      → own_outcome v q.bases needs x.value ≡ o → (later : Work) → Lists later (work_told q.place x.name o) → (later_paid : TaskCost → ℕ) → ((task : TaskCost) → later_paid task ≤ paid task + 1)
      → IsGrowing lib layout site rows depth form (net_told w (last_base q.bases + (fl.first_output + k)) o) is later asked later_paid
  output_goes i k same q body flow fl x needs at o is_ later lists later_paid pays =
      let h = subst (λ (z : Rule). Means lib layout is (length v.values) z step.needs here.means) same here.stands.means in
      let a : h.instance ≡ q = same_Some _ _ (sym h.of_instance.there ∙ at.of_instance.there) in
      let b_ : h.body ≡ body = same_Some _ _ (sym h.of_instance.body_there ∙ ap (λ (z : Instance). slice_get layout.bodies z.body) a ∙ at.of_instance.body_there) in
      let c : h.flow ≡ flow = same_Some _ _ (sym h.of_instance.flow_there ∙ ap (λ (z : BodyLayout). slice_get lib.flows z.flow) b_ ∙ at.of_instance.flow_there) in
      let d : h.flow_layout ≡ fl = same_Some _ _ (sym h.layout_there ∙ ap (λ (z : BodyLayout). slice_get layout.flows z.flow) b_ ∙ at.layout_there) in
      let f : h.output ≡ x = same_Some _ _ (sym h.output_there ∙ ap (λ (z : FlowDef). slice_get z.outputs k) c ∙ at.output) in
      let n : h.needs ≡ needs = same_Some _ _ (sym h.needs_there ∙ ap (λ (z : FlowLayout). slice_get z.outputs k) d ∙ at.needs_there) in
      declared_goes q x.name x.value needs (fl.first_output + k)
      (subst (λ (z : Instance). MeansDeclared z x.name x.value needs (fl.first_output + k) (length v.values) step.needs here.means) a
      (subst (λ (z : TDecl). MeansDeclared h.instance z.name z.value needs (fl.first_output + k) (length v.values) step.needs here.means) f
      (subst (λ (z : List Need). MeansDeclared h.instance h.output.name h.output.value z (fl.first_output + k) (length v.values) step.needs here.means) n
      (subst (λ (z : FlowLayout). MeansDeclared h.instance h.output.name h.output.value h.needs (z.first_output + k) (length v.values) step.needs here.means) d h.declared))))
      o is_ later lists later_paid pays
