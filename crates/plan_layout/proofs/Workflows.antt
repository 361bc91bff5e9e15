-- Workflow by workflow.
use Rattle.std.proofs.Common.{◌≡◌, ℕ, ◌+◌, ◌<◌, ◌≤◌, below_more, List, [], ◌∷◌, ◌++◌, length, Some, sym, ap, ◌∙◌, subst, arith}
use Rattle.std.specs.List.{slice_get}
use Rattle.std.proofs.lemmas.List.{length_push}
use Rattle.std.proofs.lemmas.Option.{same_Some, slice_get_within}
use Rattle.wdl_typed.specs.declared.flow.FlowDef.{FlowDef}
use Rattle.wdl_typed.specs.declared.flow.Statement.{Statement}
use Rattle.wdl_typed.specs.declared.task.TInput.{TInput}
use Rattle.wdl_typed.specs.Bodies.{Library}
use Rattle.plan_layout.specs.declared.layout.BodyLayout.{BodyLayout}
use Rattle.plan_layout.specs.declared.layout.FlowLayout.{FlowLayout}
use Rattle.plan_layout.specs.declared.layout.Need.{Need}
use Rattle.plan_layout.specs.declared.scope.Origin.{Origin}
use Rattle.plan_layout.specs.declared.scope.CellScope.{CellScope}
use Rattle.plan_layout.specs.Laid.{IsLaidAs, IsLaidFlow, IsLayout, Laid, anything, body_seen, input_needs, output_needs, whole, with_inputs}
use Rattle.plan_layout.specs.Paths.{body_at, flow_body}
use Rattle.plan_layout.specs.Steps.{Grows, LaysBody, LaysFlow, lib_of, root_of, scope_behind}
use Rattle.plan_layout.proofs.Laying.{laid_on, there_last, there_more}

-- what is seen behind these inputs, and of a workflow before its statements
abbrev pub behind_inputs : CellScope → List TInput → CellScope
behind_inputs s is = record { names = with_inputs s.names is; calls = s.calls; path = [] }

abbrev pub inputs_scope : FlowDef → CellScope
inputs_scope f = record { names = with_inputs [] f.inputs; calls = []; path = [] }

-- The workflow's own body stands at no numbers.
flow_there : (o : Origin) (f : FlowDef) → slice_get o.checked.now.flows o.flow ≡ Some f → body_at (root_of o) [] ≡ f.body
flow_there o f at = ap flow_body at

pub lays_flow : (o : Origin) (f : FlowDef) (old new : List BodyLayout) (number : ℕ) (inputs outputs : List (List Need)) (first_output : ℕ) → slice_get o.checked.now.flows o.flow ≡ Some f → inputs ≡ input_needs [] f.inputs
    → LaysBody o f.body (with_inputs [] f.inputs) [] [] (length f.inputs) (length f.outputs) old new number → first_output ≡ length (body_seen (lib_of o) f) → outputs ≡ output_needs (body_seen (lib_of o) f) f.outputs
    → LaysFlow o f old new (record { body = number; inputs = inputs; outputs = outputs; first_output = first_output })
lays_flow o f old new number inputs outputs first_output at i b n e =
    record {
      grows = b.grows;
      laid =
          record {
            body = b.body;
            there = b.there;
            inputs = i;
            laid = subst (λ (root : List Statement). Laid anything (lib_of o) o.flow root new (whole f.body (with_inputs [] f.inputs) [] [] (length f.inputs) (length f.outputs) b.body)) (ap flow_body at) (b.laid (flow_there o f at));
            outputs = e;
            first_output = n;
          };
    }

module _ (o : Origin) (f : FlowDef) (s t : CellScope) (before after : ℕ) (start : s ≡ inputs_scope f) (b : before ≡ length f.inputs) (a : after ≡ length f.outputs) where
  body_laid : (old new : List BodyLayout) (number : ℕ) → LaysBody o f.body s.names s.calls s.path before after old new number
      → LaysBody o f.body (with_inputs [] f.inputs) [] [] (length f.inputs) (length f.outputs) old new number
  body_laid old new number h =
      subst (λ n. LaysBody o f.body (with_inputs [] f.inputs) [] [] (length f.inputs) n old new number) a
      (subst (λ n. LaysBody o f.body (with_inputs [] f.inputs) [] [] n after old new number) b
      (subst (λ (x : CellScope). LaysBody o f.body x.names x.calls x.path before after old new number) start h))

  names_seen : t ≡ scope_behind o f.body s before after → t.names ≡ body_seen (lib_of o) f
  names_seen behind =
      ap (λ (x : CellScope). x.names) (behind ∙ ap (λ (x : CellScope). scope_behind o f.body x before after) start)
      ∙ ap (λ n. (scope_behind o f.body (inputs_scope f) n after).names) b
      ∙ ap (λ n. (scope_behind o f.body (inputs_scope f) (length f.inputs) n).names) a

  pub flow_laid : (old new : List BodyLayout) (number first_output : ℕ) (inputs outputs : List (List Need)) → slice_get o.checked.now.flows o.flow ≡ Some f → inputs ≡ input_needs [] f.inputs
      → LaysBody o f.body s.names s.calls s.path before after old new number → t ≡ scope_behind o f.body s before after → first_output ≡ length t.names → outputs ≡ output_needs t.names f.outputs
      → LaysFlow o f old new (record { body = number; inputs = inputs; outputs = outputs; first_output = first_output })
  flow_laid old new number first_output inputs outputs at i body behind first e =
      lays_flow o f old new number inputs outputs first_output at i (body_laid old new number body) (first ∙ ap length (names_seen behind))
      (e ∙ ap (λ (ns : List Need). output_needs ns f.outputs) (names_seen behind))

laid_as_on : (lib : Library) (old new : List BodyLayout) (k : ℕ) (f : FlowDef) (l : FlowLayout) → Grows old new → IsLaidAs anything lib old k f l → IsLaidAs anything lib new k f l
laid_as_on lib old new k f l g p =
    record {
      body = p.body;
      there = ap (λ (bs : List BodyLayout). slice_get bs l.body) g.1 ∙ there_more old g.0 l.body p.body p.there;
      inputs = p.inputs;
      laid = laid_on anything lib k f.body old new (whole f.body (with_inputs [] f.inputs) [] [] (length f.inputs) (length f.outputs) p.body) g p.laid;
      outputs = p.outputs;
      first_output = p.first_output;
    }

-- The workflows below this number are laid out.
pub record LaidBelow (lib : Library) (k : ℕ) (flows : List FlowLayout) (bodies : List BodyLayout) : Type 0 where
  pub count : length flows ≡ k
  pub each : (j : ℕ) (f : FlowDef) → j < k → slice_get lib.flows j ≡ Some f → IsLaidFlow anything lib flows bodies j f

module _ (o : Origin) (f : FlowDef) (flows : List FlowLayout) (bodies new : List BodyLayout) (l : FlowLayout) (at : slice_get o.checked.now.flows o.flow ≡ Some f) (p : LaidBelow (lib_of o) o.flow flows bodies)
    (q : LaysFlow o f bodies new l) where
  abbrev Holds : ℕ → Type 0
  Holds j = (g : FlowDef) → slice_get o.checked.now.flows j ≡ Some g → IsLaidFlow anything (lib_of o) (flows ++ l ∷ []) new j g

  old_flow : (j : ℕ) → j < o.flow → Holds j
  old_flow j lt g there =
      let r = p.each j g lt there in
      record { layout = r.layout; there = there_more flows (l ∷ []) j r.layout r.there; laid = laid_as_on (lib_of o) bodies new j g r.layout q.grows r.laid }

  new_flow : Holds o.flow
  new_flow g there =
      let same : f ≡ g = same_Some _ _ (sym at ∙ there) in
      record {
        layout = l;
        there = ap (slice_get (flows ++ l ∷ [])) (sym p.count) ∙ there_last flows l;
        laid = subst (λ (x : FlowDef). IsLaidAs anything (lib_of o) new o.flow x l) same q.laid;
      }

  pub one_below : LaidBelow (lib_of o) (o.flow + 1) (flows ++ l ∷ []) new
  one_below = record { count = length_push flows l ∙ ap (λ n. n + 1) p.count; each = λ j g lt. below_more Holds o.flow old_flow new_flow j lt g }

pub all_below : (lib : Library) (flows : List FlowLayout) (bodies : List BodyLayout) (k : ℕ) → length lib.flows ≤ k → k ≤ length lib.flows → LaidBelow lib k flows bodies
    → IsLayout anything lib (record { flows = flows; bodies = bodies })
all_below lib flows bodies k most least p =
    record {
      count = (let c : length flows ≡ k = p.count in omega (arith, c, most, least));
      flows = λ j f there. p.each j f (let lt : j < length lib.flows = slice_get_within lib.flows j f there in omega (arith, lt, most)) there;
    }
