-- What holds of the jobs and the waits of every flow, place by place: it holds of none, of the attempts of a call, of what is
-- one segment deeper, and of two parts that begin with different segments.
use Rattle.std.proofs.Common.{◌≡◌, ℕ, ◌+◌, Bool, true, false, cond, ◌&&◌, ◌⊎◌, inl, inr, List, [], ◌∷◌, ◌++◌, Contains, Option, Some, None, slice_get, ◌<◌, Ok, Err, arith, sym, subst}
use Rattle.std.specs.List.{list_all}
use Rattle.std.proofs.lemmas.List.Elements.{Contains-append_cases}
use Rattle.wdl_base.specs.declared.place.Segment.{Segment}
use Rattle.wdl_base.specs.declared.place.Segment.TheVariants as segment
use Rattle.wdl_base.specs.declared.request.Request.{Request}
use Rattle.wdl_value.specs.declared.env.Bind.{Bind}
use Rattle.wdl_value.specs.declared.value.Value.{Value}
use Rattle.wdl_value.specs.Outcome.{Outcome}
use Rattle.wdl_value.specs.Parts.{bool_in, items_in}
use Rattle.wdl_typed.specs.declared.expr.TExpr.{TExpr}
use Rattle.wdl_typed.specs.declared.flow.FlowDef.{FlowDef}
use Rattle.wdl_typed.specs.declared.flow.TCall.{TCall}
use Rattle.wdl_typed.specs.declared.flow.Target.{Target}
use Rattle.wdl_typed.specs.declared.flow.Target.TheVariants as target
use Rattle.wdl_typed.specs.declared.task.TDecl.{TDecl}
use Rattle.wdl_typed.specs.declared.task.TInput.{TInput}
use Rattle.wdl_typed.specs.declared.task.TaskDef.{TaskDef}
use Rattle.wdl_typed.specs.Evaluation.{value_of}
use Rattle.wdl_typed.specs.Flow.{Callee, Flowing, Names, Run, Runner, Sight, all_known, all_together, args_known, args_met, asked, attempts, call_of, call_place, called, chosen, conditional, declaration, declared_as, default_of, each_item, env_of, flow_called, has_ended, if_run, input_of, inputs, inside, item_sight, known, missing, named, outputs, scatter_run, scattered, seeing, task_called, together, with_args}
use Rattle.wdl_typed.specs.Requests.{Asked, Tried, asks, before}
use Rattle.wdl_typed.specs.Declarations.{plain_key}
use Rattle.wdl_typed.specs.Scope.{lookup}
use Rattle.flow_laws.proofs.Signs.{Apart}
use Rattle.flow_laws.proofs.Elements.{none_within, only_one}

pub record Closed (r : Run) (P : List Segment → List Segment → List Request → List (List Segment) → Type 0) : Type 0 where
  pub none : (p hs : List Segment) → P p hs [] []
  pub both : (p hs gs : List Segment) (j k : List Request) (w v : List (List Segment)) → Apart hs gs → P p hs j w → P p gs k v → P p (hs ++ gs) (j ++ k) (w ++ v)
  pub inner : (p : List Segment) (h : Segment) (hs : List Segment) (j : List Request) (w : List (List Segment)) → P (p ++ h ∷ []) hs j w → P p (h ∷ []) j w
  pub tries : (p : List Segment) (h : Segment) (n : Names) (t : TaskDef) (call : List ℕ) (a : Asked) (left : ℕ)
      → P p (h ∷ []) (attempts r n (p ++ h ∷ []) t call a left 0).jobs (attempts r n (p ++ h ∷ []) t call a left 0).waits

module _ (r : Run) (P : List Segment → List Segment → List Request → List (List Segment) → Type 0) (closed : Closed r P) where
  abbrev pub At : List Segment → Runner → Type 0
  At hs f = (s : Sight) → P s.place hs (f s).jobs (f s).waits

  -- what each callee gives at its place
  abbrev pub CalleeAt : Callee → Type 0
  CalleeAt c = (k : ℕ) (args : List Bind) (place : List Segment) → (hs : List Segment) × P place hs (c k args place).jobs (c k args place).waits

  -- ---- declarations

  declared_at : (p hs place : List Segment) (name : List ℕ) (x : Outcome Value) → P p hs (declared_as place name x).jobs (declared_as place name x).waits
  declared_at p hs place name (Ok x) = closed.none p hs
  declared_at p hs place name (Err c) = closed.none p hs

  pub declaration_at : (name : List ℕ) (e : TExpr) (s : Sight) (p hs : List Segment) → P p hs (declaration s name e).jobs (declaration s name e).waits
  declaration_at name e s p hs = by_test (all_known s.names e)
    where
      by_test : (b : Bool) → P p hs (cond b (declared_as s.place name (value_of (before (env_of s.names)) e)) (named (known name None))).jobs (cond b (declared_as s.place name (value_of (before (env_of s.names)) e)) (named (known name None))).waits
      by_test true = declared_at p hs s.place name (value_of (before (env_of s.names)) e)
      by_test false = closed.none p hs

  default_at : (name : List ℕ) (default : Option TExpr) (s : Sight) (p hs : List Segment) → P p hs (default_of s name default).jobs (default_of s name default).waits
  default_at name None s p hs = closed.none p hs
  default_at name (Some e) s p hs = declaration_at name e s p hs

  input_at : (i : TInput) (o : Option Value) (s : Sight) (p hs : List Segment) → P p hs (input_of s i o).jobs (input_of s i o).waits
  input_at i (Some x) s p hs = closed.none p hs
  input_at i None s p hs = default_at i.name i.value s p hs

  -- one part after another one
  pub next_at : (p hs gs : List Segment) (f g : Flowing) → Apart hs gs → P p hs f.jobs f.waits → P p gs g.jobs g.waits → P p (hs ++ gs) (together f g).jobs (together f g).waits
  next_at p hs gs f g apart = closed.both p hs gs f.jobs g.jobs f.waits g.waits apart

  -- a part without jobs before another one, which begins with the same segments
  pub after_none : (p gs : List Segment) (f g : Flowing) → ((hs : List Segment) → P p hs f.jobs f.waits) → P p gs g.jobs g.waits → P p gs (together f g).jobs (together f g).waits
  after_none p gs f g h j = next_at p [] gs f g (λ x c e. none_within x c) (h []) j

  pub inputs_at : (given : List Bind) (is : List TInput) (s : Sight) (hs : List Segment) → P s.place hs (inputs given is s).jobs (inputs given is s).waits
  inputs_at given [] s hs = closed.none s.place hs
  inputs_at given (i ∷ is) s hs =
      let first = input_of s i (lookup given (plain_key i.name)) in
      after_none s.place hs first (inputs given is (seeing s first)) (input_at i (lookup given (plain_key i.name)) s s.place) (inputs_at given is (seeing s first) hs)

  pub outputs_at : (ds : List TDecl) (s : Sight) (hs : List Segment) → P s.place hs (outputs ds s).jobs (outputs ds s).waits
  outputs_at [] s hs = closed.none s.place hs
  outputs_at (d ∷ ds) s hs =
      let first = declaration s d.name d.value in
      after_none s.place hs first (outputs ds (seeing s first)) (declaration_at d.name d.value s s.place) (outputs_at ds (seeing s first) hs)

  -- ---- calls

  asked_at : (p : List Segment) (h : Segment) (n : Names) (t : TaskDef) (call : List ℕ) (q : Tried Asked)
      → P p (h ∷ []) (asked r n (p ++ h ∷ []) t call q).jobs (asked r n (p ++ h ∷ []) t call q).waits
  asked_at p h n t call (Ok a) = closed.tries p h n t call a a.retries
  asked_at p h n t call (Err e) = closed.none p (h ∷ [])

  task_at : (p : List Segment) (h : Segment) (n : Names) (call : List ℕ) (args : List Bind) (o : Option TaskDef)
      → P p (h ∷ []) (task_called r n (p ++ h ∷ []) call args o).jobs (task_called r n (p ++ h ∷ []) call args o).waits
  task_at p h n call args None = closed.none p (h ∷ [])
  task_at p h n call args (Some t) = asked_at p h n t call (asks t args)

  module _ (callee : Callee) (callees : CalleeAt callee) where
    workflow_at : (p : List Segment) (h : Segment) (n : Names) (call : List ℕ) (args : List Bind) (k : ℕ) (o : Option FlowDef)
        → P p (h ∷ []) (flow_called callee n (p ++ h ∷ []) call args k o).jobs (flow_called callee n (p ++ h ∷ []) call args k o).waits
    workflow_at p h n call args k None = closed.none p (h ∷ [])
    workflow_at p h n call args k (Some f) =
        let given = callees k args (p ++ h ∷ []) in
        closed.inner p h given.0 (callee k args (p ++ h ∷ [])).jobs (callee k args (p ++ h ∷ [])).waits given.1

    called_at : (p : List Segment) (h : Segment) (n : Names) (c : TCall) (args : List Bind) (t : Target)
        → P p (h ∷ []) (called r callee n (p ++ h ∷ []) c args t).jobs (called r callee n (p ++ h ∷ []) c args t).waits
    called_at p h n c args (target.Task k) = task_at p h n c.name args (slice_get r.library.tasks k)
    called_at p h n c args (target.Flow k) = workflow_at p h n c.name args k (slice_get r.library.flows k)

    with_args_at : (p : List Segment) (h : Segment) (n : Names) (c : TCall) (q : Tried (List Bind))
        → P p (h ∷ []) (with_args r callee n (p ++ h ∷ []) c q).jobs (with_args r callee n (p ++ h ∷ []) c q).waits
    with_args_at p h n c (Ok args) = called_at p h n c args c.target
    with_args_at p h n c (Err e) = closed.none p (h ∷ [])

    pub call_at : (n : Names) (c : TCall) → At (segment.Call c.name ∷ []) (call_of r callee n c)
    call_at n c s = by_test (args_known s.names c.args && list_all (has_ended s.calls) c.after)
      where
        entered : Flowing
        entered = with_args r callee n (call_place s c.name) c (args_met (env_of s.names) c.args)

        by_test : (b : Bool) → P s.place (segment.Call c.name ∷ []) (cond b entered (missing n)).jobs (cond b entered (missing n)).waits
        by_test true = with_args_at s.place (segment.Call c.name) n c (args_met (env_of s.names) c.args)
        by_test false = closed.none s.place (segment.Call c.name ∷ [])

    -- ---- blocks

    indices : ℕ → List Value → List Segment
    indices i [] = []
    indices i (x ∷ xs) = segment.Index i ∷ indices (i + 1) xs

    later_index : (i k : ℕ) (xs : List Value) → i < k → Contains (indices k xs) (segment.Index i) → ⊥
    unfolding indices
    later_index i k [] l c = none_within (segment.Index i) c
    later_index i k (x ∷ xs) l c = by_case (Contains-append_cases (segment.Index k ∷ []) (indices (k + 1) xs) (segment.Index i) c) (later_index i (k + 1) xs (omega arith))
      where
        by_case : Contains (segment.Index k ∷ []) (segment.Index i) ⊎ Contains (indices (k + 1) xs) (segment.Index i) → (Contains (indices (k + 1) xs) (segment.Index i) → ⊥) → ⊥
        by_case (inl d) rest = let e : segment.Index k ≡ segment.Index i = only_one d in let same : k ≡ i = cc in omega arith
        by_case (inr d) rest = rest d

    first_index : (i : ℕ) (xs : List Value) → Apart (segment.Index i ∷ []) (indices (i + 1) xs)
    first_index i xs h c d = later_index i (i + 1) xs (omega arith) (subst (Contains (indices (i + 1) xs)) (sym (only_one c)) d)

    items_at : (hs : List Segment) (f : Runner) → At hs f → (s : Sight) (k : ℕ) (item : List ℕ) (i : ℕ) (xs : List Value)
        → P (s.place ++ segment.Scatter k ∷ []) (indices i xs) (all_together (each_item f s k item i xs)).jobs (all_together (each_item f s k item i xs)).waits
    unfolding indices
    items_at hs f body s k item i [] = closed.none (s.place ++ segment.Scatter k ∷ []) []
    items_at hs f body s k item i (x ∷ xs) =
        let first = f (item_sight s k item i x) in
        next_at (s.place ++ segment.Scatter k ∷ []) (segment.Index i ∷ []) (indices (i + 1) xs) first (all_together (each_item f s k item (i + 1) xs)) (first_index i xs)
        (closed.inner (s.place ++ segment.Scatter k ∷ []) (segment.Index i) hs first.jobs first.waits (body (item_sight s k item i x)))
        (items_at hs f body s k item (i + 1) xs)

    scattered_at : (hs : List Segment) (n : Names) (f : Runner) → At hs f → (s : Sight) (k : ℕ) (item : List ℕ) (x : Outcome Value)
        → P s.place (segment.Scatter k ∷ []) (scattered n f s k item x).jobs (scattered n f s k item x).waits
    scattered_at hs n f body s k item (Ok x) =
        let all = all_together (each_item f s k item 0 (items_in x)) in
        closed.inner s.place (segment.Scatter k) (indices 0 (items_in x)) all.jobs all.waits (items_at hs f body s k item 0 (items_in x))
    scattered_at hs n f body s k item (Err c) = closed.none s.place (segment.Scatter k ∷ [])

    pub scatter_at : (hs : List Segment) (n : Names) (f : Runner) → At hs f → (k : ℕ) (item : List ℕ) (over : TExpr) → At (segment.Scatter k ∷ []) (scatter_run n f k item over)
    scatter_at hs n f body k item over s = by_test (all_known s.names over)
      where
        entered : Flowing
        entered = scattered n f s k item (value_of (before (env_of s.names)) over)

        by_test : (b : Bool) → P s.place (segment.Scatter k ∷ []) (cond b entered (missing n)).jobs (cond b entered (missing n)).waits
        by_test true = scattered_at hs n f body s k item (value_of (before (env_of s.names)) over)
        by_test false = closed.none s.place (segment.Scatter k ∷ [])

    chosen_at : (hs : List Segment) (n : Names) (f : Runner) → At hs f → (s : Sight) (k : ℕ) (b : Bool) → P s.place (segment.If k ∷ []) (chosen n f s k b).jobs (chosen n f s k b).waits
    chosen_at hs n f body s k true = let g = f (inside s (segment.If k)) in closed.inner s.place (segment.If k) hs g.jobs g.waits (body (inside s (segment.If k)))
    chosen_at hs n f body s k false = closed.none s.place (segment.If k ∷ [])

    conditional_at : (hs : List Segment) (n : Names) (f : Runner) → At hs f → (s : Sight) (k : ℕ) (x : Outcome Value) → P s.place (segment.If k ∷ []) (conditional n f s k x).jobs (conditional n f s k x).waits
    conditional_at hs n f body s k (Ok x) = chosen_at hs n f body s k (bool_in x)
    conditional_at hs n f body s k (Err c) = closed.none s.place (segment.If k ∷ [])

    pub if_at : (hs : List Segment) (n : Names) (f : Runner) → At hs f → (k : ℕ) (e : TExpr) → At (segment.If k ∷ []) (if_run n f k e)
    if_at hs n f body k e s = by_test (all_known s.names e)
      where
        entered : Flowing
        entered = conditional n f s k (value_of (before (env_of s.names)) e)

        by_test : (b : Bool) → P s.place (segment.If k ∷ []) (cond b entered (missing n)).jobs (cond b entered (missing n)).waits
        by_test true = conditional_at hs n f body s k (value_of (before (env_of s.names)) e)
        by_test false = closed.none s.place (segment.If k ∷ [])
