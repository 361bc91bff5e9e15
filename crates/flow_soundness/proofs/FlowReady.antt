-- The parts of a workflow that is ready.
use Rattle.std.proofs.Common.{◌≡◌, ℕ, Bool, true, false, cond, not, ◌&&◌, List, [], ◌∷◌, ◌++◌, Option, Some, None, append_assoc, sym, ◌∙◌, refl}
use Rattle.std.specs.List.{list_all, slice_get}
use Rattle.std.proofs.lemmas.Bool.{false≢true, and_from, and_parts}
use Rattle.wdl_base.specs.declared.place.Segment.{Segment}
use Rattle.wdl_value.specs.declared.env.Bind.{Bind}
use Rattle.wdl_value.specs.Fits.{Structs, fits}
use Rattle.wdl_typed.specs.declared.expr.TExpr.{TExpr}
use Rattle.wdl_typed.specs.declared.flow.FlowDef.{FlowDef}
use Rattle.wdl_typed.specs.declared.scope.Bound.{Bound}
use Rattle.wdl_typed.specs.declared.task.TDecl.{TDecl}
use Rattle.wdl_typed.specs.declared.task.TInput.{TInput}
use Rattle.wdl_typed.specs.Bodies.{all_declared}
use Rattle.wdl_typed.specs.Declarations.{bound, context, decl_names, decls_typed, default_typed, in_body, input_names, inputs_bound, inputs_typed, plain_key}
use Rattle.wdl_typed.specs.Flow as flow
use Rattle.wdl_typed.specs.Flow.{Run, Sight, beginning, declaration, input_of, inputs, seeing, statements}
use Rattle.wdl_typed.specs.Journal.{bind_fits, inputs_fit, is_given, keys, keys_distinct, value_fits}
use Rattle.wdl_typed.specs.Kept.{flow_names, flow_typed, inputs_seen}
use Rattle.wdl_typed.specs.KnownTypes.{is_written}
use Rattle.wdl_typed.specs.Lists.{has_name}
use Rattle.wdl_typed.specs.Scope.{lookup, same_key}
use Rattle.wdl_typed.specs.Typing.{is_type, type_of}
use Rattle.wdl_value.specs.Limits.{is_within}
use Rattle.wdl_names.specs.Fresh.{fresh}
use Rattle.wdl_task.specs.Readiness.{are_given, is_for}
use Rattle.flow_soundness.specs.Readiness.{Agrees, AreDeclsReady, AreInputsReady, IsBodyReady, IsDefaultReady, IsFlowReady}
use Rattle.flow_soundness.proofs.Fitting.{agrees_both, decl_ready, declaration_agrees}
use Rattle.flow_soundness.proofs.FlowSound.{Taken, Typed, all_taken, body_is_new, callees_sound, inputs_sound, input_agrees, is_typed, not_true, one_apart, one_taken, seen_sound}
use Rattle.wdl_base.proofs.Options.{all_at}
use Rattle.flow_soundness.proofs.Fitting.{is_type-some}

-- ---- inputs and outputs

module _ (structs : Structs) where
  default_ready : (names : List Bound) (s : Sight) (i : TInput) (o : Option TExpr) → default_typed structs names i.ty o ≡ true → Agrees structs names s.names → IsDefaultReady o s
  default_ready names s i None typed agrees = tt
  default_ready names s i (Some e) typed agrees = decl_ready structs names s e i.ty (is_type-some (type_of (context structs names) e false) i.ty typed) agrees

  pub decls_ready : (names : List Bound) (taken : List (List ℕ)) (ds : List TDecl) (s : Sight) → decls_typed (in_body structs) structs names ds ≡ true → Agrees structs names s.names
      → Taken structs names taken → fresh taken (decl_names ds) ≡ true → AreDeclsReady ds s
  decls_ready names taken [] s typed agrees inside new = tt
  decls_ready names taken (d ∷ ds) s typed agrees inside new =
      let p = and_parts (is_written structs d.ty && is_type (in_body structs names d.value) d.ty) (decls_typed (in_body structs) structs (names ++ bound d.name d.ty ∷ []) ds) typed in
      let q = and_parts (is_written structs d.ty) (is_type (in_body structs names d.value) d.ty) p.0 in
      let f = and_parts (not (has_name d.name taken)) (fresh (taken ++ d.name ∷ []) (decl_names ds)) new in
      let out = not_true structs (has_name d.name taken) f.0 in
      let t = is_type-some (in_body structs names d.value) d.ty q.1 in
      let here = declaration_agrees structs names s d.name d.value d.ty t agrees in
      let there = agrees_both structs names (bound d.name d.ty ∷ []) s.names (declaration s d.name d.value).names agrees here (one_apart structs names taken d.name d.ty inside out) in (
        decl_ready structs names s d.value d.ty t agrees,
        decls_ready (names ++ bound d.name d.ty ∷ []) (taken ++ d.name ∷ []) ds (seeing s (declaration s d.name d.value)) p.1 there (one_taken structs names taken d.name d.ty inside) f.1,
      )

  module _ (all : List TInput) (given : List Bind) (fit : list_all (is_for structs all) given ≡ true) where
    pub inputs_ready : (names : List Bound) (taken : List (List ℕ)) (is : List TInput) (s : Sight) → inputs_bound all ≡ names ++ inputs_bound is → inputs_typed structs names is ≡ true
        → list_all (is_given given) is ≡ true → Agrees structs names s.names → Taken structs names taken → fresh taken (input_names is) ≡ true → AreInputsReady given is s
    inputs_ready names taken [] s whole typed needed agrees inside new = tt
    inputs_ready names taken (i ∷ is) s whole typed needed agrees inside new =
        let p = and_parts (is_written structs i.ty && default_typed structs names i.ty i.value) (inputs_typed structs (names ++ bound i.name i.ty ∷ []) is) typed in
        let q = and_parts (is_written structs i.ty) (default_typed structs names i.ty i.value) p.0 in
        let n = and_parts (is_given given i) (list_all (is_given given) is) needed in
        let f = and_parts (not (has_name i.name taken)) (fresh (taken ++ i.name ∷ []) (input_names is)) new in
        let out = not_true structs (has_name i.name taken) f.0 in
        let here = input_agrees structs all given fit names (inputs_bound is) taken s i whole q.1 n.0 agrees inside out (lookup given (plain_key i.name)) refl in
        let there = agrees_both structs names (bound i.name i.ty ∷ []) s.names (input_of s i (lookup given (plain_key i.name))).names agrees here (one_apart structs names taken i.name i.ty inside out) in (
          λ none. default_ready names s i i.value q.1 agrees,
          inputs_ready (names ++ bound i.name i.ty ∷ []) (taken ++ i.name ∷ []) is (seeing s (input_of s i (lookup given (plain_key i.name))))
              (whole ∙ sym (append_assoc names (bound i.name i.ty ∷ []) (inputs_bound is))) p.1 n.1 there (one_taken structs names taken i.name i.ty inside) f.1,
        )

-- ---- workflows

module _ (r : Run) (levels depth k : ℕ) (f : FlowDef) (given : List Bind) (place : List Segment) (b : IsFlowReady r.library levels k given) (there : slice_get r.library.flows k ≡ Some f) where
  abbrev t : Typed r.library f
  t = is_typed r.library f (all_at (flow_typed r.library) r.library.flows k f b.library.flows there)

  abbrev start : Sight
  start = beginning place

  abbrev taken_in : flow.Flowing
  taken_in = inputs given f.inputs start

  pub flow_inputs_ready : AreInputsReady given f.inputs start
  flow_inputs_ready =
      let p = and_parts (list_all (is_for r.library.structs f.inputs) given) (list_all (is_given given) f.inputs) (b.fit f there) in
      inputs_ready r.library.structs f.inputs given p.0 [] [] f.inputs start refl t.inputs_are p.1 (λ key x h. absurd (cc)) (λ key u h. absurd (cc)) t.inputs_new

  pub flow_body_ready : IsBodyReady r.library levels f.body (seeing start taken_in)
  flow_body_ready = record {
    library = b.library;
    nested = b.nested f there;
    seen = inputs_seen f;
    given = t.given;
    typed = t.typed;
    agrees = inputs_sound r.library f t r refl (flow.flow r depth) b.library (callees_sound r b.library depth) given (b.fit f there) place;
    all = flow_names f;
    taken = input_names f.inputs;
    new = body_is_new r.library f t;
  }

  pub flow_outputs_ready : AreDeclsReady f.outputs (seeing (seeing start taken_in) (statements r (flow.flow r depth) f.body (seeing start taken_in)))
  flow_outputs_ready =
      decls_ready r.library.structs (inputs_bound f.inputs ++ t.given.names) (input_names f.inputs ++ all_declared f.body) f.outputs
      (seeing (seeing start taken_in) (statements r (flow.flow r depth) f.body (seeing start taken_in))) t.outputs_are
      (seen_sound r.library f t r refl (flow.flow r depth) b.library (callees_sound r b.library depth) given (b.fit f there) place) (all_taken r.library f t) t.outputs_new

-- ---- inputs that fit

one_for : (structs : Structs) (js : List TInput) (b : Bind) → bind_fits structs js b ≡ true → is_for structs js b ≡ true
one_for structs [] b h = absurd (false≢true h)
one_for structs (j ∷ js) b h = by_test (same_key b.key (plain_key j.name)) h (one_for structs js b)
  where
    by_test : (s : Bool) → cond s (value_fits structs j.ty b.value) (bind_fits structs js b) ≡ true → (bind_fits structs js b ≡ true → is_for structs js b ≡ true)
        → cond s (fits structs b.value j.ty) (is_for structs js b) ≡ true
    by_test true h rest = (and_parts (fits structs b.value j.ty) (is_within b.value) h).0
    by_test false h rest = rest h

all_for : (structs : Structs) (is : List TInput) (bs : List Bind) → list_all (bind_fits structs is) bs ≡ true → list_all (is_for structs is) bs ≡ true
all_for structs is [] h = refl
all_for structs is (b ∷ bs) h =
    let p = and_parts (bind_fits structs is b) (list_all (bind_fits structs is) bs) h in
    and_from (is_for structs is b) (list_all (is_for structs is) bs) (one_for structs is b p.0) (all_for structs is bs p.1)

-- Inputs that fit are given.
pub fit_are_given : (structs : Structs) (is : List TInput) (given : List Bind) → inputs_fit structs is given ≡ true → are_given structs is given ≡ true
fit_are_given structs is given h =
    let p = and_parts (keys_distinct (keys given) && list_all (bind_fits structs is) given) (list_all (is_given given) is) h in
    let q = and_parts (keys_distinct (keys given)) (list_all (bind_fits structs is) given) p.0 in
    and_from (list_all (is_for structs is) given) (list_all (is_given given) is) (all_for structs is given q.1) p.1
