-- Each step keeps what holds of a plan: joints, declarations, blocks, and calls that ask for nothing.
use Rattle.std.proofs.Common.{◌≡◌, ℕ, ◌+◌, ◌*◌, ◌≤◌, Bool, true, false, List, [], ◌∷◌, ◌++◌, length, map, get_or, append-nil, Some, Ok, Err, count_by, codes, slice_get, sym, ap, ◌∙◌, subst, refl, arith}
use Rattle.std.proofs.lemmas.Option.{slice_get_within}
use Rattle.wdl_base.specs.declared.fault.Fault.{Fault}
use Rattle.wdl_base.specs.declared.place.Segment.{Segment}
use Rattle.wdl_base.specs.declared.place.Segment.TheVariants as segment
use Rattle.wdl_value.specs.declared.env.Bind.{Bind}
use Rattle.wdl_value.specs.declared.value.Value.{Value}
use Rattle.wdl_value.specs.declared.value.Value.TheVariants as kind
use Rattle.wdl_value.specs.Outcome.{Outcome}
use Rattle.wdl_value.specs.Parts.{bool_in, items_in}
use Rattle.wdl_value.specs.Tables.{Row}
use Rattle.wdl_typed.specs.declared.checked.Checked.{Checked}
use Rattle.wdl_typed.specs.declared.expr.TExpr.{TExpr}
use Rattle.wdl_typed.specs.declared.flow.FlowDef.{FlowDef}
use Rattle.wdl_typed.specs.declared.flow.Statement.{Statement}
use Rattle.wdl_typed.specs.declared.flow.Statement.TheVariants as stmt
use Rattle.wdl_typed.specs.declared.flow.TIf.{TIf}
use Rattle.wdl_typed.specs.declared.flow.TScatter.{TScatter}
use Rattle.wdl_typed.specs.declared.task.TDecl.{TDecl}
use Rattle.wdl_typed.specs.declared.task.TInput.{TInput}
use Rattle.wdl_typed.specs.Bodies.{Library}
use Rattle.wdl_typed.specs.Flow.{all_values, fault_at}
use Rattle.step_net.specs.Views.{Wants}
use Rattle.value_net.specs.Nets.{are_set, value_at, with_taken, with_value}
use Rattle.net_laws.specs.Cost.{TaskCost}
use Rattle.net_laws.specs.Growing.{Form, whole}
use Rattle.net_laws.specs.Moving.{IsEven, IsWeight}
use Rattle.net_laws.specs.Net.{Work, both_works, no_work}
use Rattle.net_laws.specs.Planned.{counted}
use Rattle.net_laws.specs.Works.{faulty}
use Rattle.net_laws.proofs.Even.{both_even}
use Rattle.plan_lists.specs.Lists.{JobTest, Listed, count_jobs, jobs_in}
use Rattle.plan_lists.proofs.Steps as listing
use Rattle.plan_lists.proofs.Weights.{jobs_weigh}
use Rattle.plan_layout.specs.declared.layout.BodyLayout.{BodyLayout}
use Rattle.plan_layout.specs.declared.layout.FlowLayout.{FlowLayout}
use Rattle.plan_layout.specs.declared.layout.Layout.{Layout}
use Rattle.plan_layout.specs.declared.layout.Need.{Need}
use Rattle.plan_layout.specs.declared.layout.StatementLayout.{StatementLayout}
use Rattle.plan_growth.specs.declared.instance.Instance.{Instance}
use Rattle.plan_growth.specs.declared.rule.Rule.{Rule}
use Rattle.plan_growth.specs.declared.rule.Rule.TheVariants as rule
use Rattle.plan_growth.specs.Entering.{Sown}
use Rattle.plan_growth.specs.Growth.{IsGrowing}
use Rattle.plan_growth.specs.Keeps.{IsAt, IsInputAt, IsOutputAt, net_told, work_told}
use Rattle.plan_growth.proofs.Blocking as blocking
use Rattle.plan_growth.proofs.Keeping as keeping
use Rattle.plan_growth.proofs.Lists.{get_set}
use Rattle.plan_steps.specs.Doing.{Asks, Field, State, chosen, conditioned, declared, scattered}
use Rattle.plan_bodies.specs.Bases.{last_base}
use Rattle.plan_may.specs.May.{at_place}
use Rattle.scatter_plan.specs.Holding.{IsFew, IsHolding, paid_of, task_cost, waiting}
use Rattle.plan_bodies.specs.Joined.{IsCopied, IsGathered, needs_at, needs_in}
use Rattle.plan_steps.specs.Stepping.{OnlyNet, library_in}
use Rattle.plan_steps.specs.Values.{own_value, told_faults, told_net}

told_same : (net : Sown) (c : ℕ) (o : Outcome Value) → told_net net c o ≡ net_told net c o
told_same net c (Ok x) = refl
told_same net c (Err k) = refl

faults_same : (faults : List Fault) (place : List Segment) (name : List ℕ) (o : Outcome Value) → told_faults faults place name o ≡ faults ++ (work_told place name o).faults
faults_same faults place name (Ok x) = sym (append-nil faults)
faults_same faults place name (Err k) = refl

-- work without jobs
pub record IsPlain (w : Work) : Type 0 where
  pub jobs : w.jobs ≡ []
  pub codes_are : w.codes ≡ []

told_plain : (place : List Segment) (name : List ℕ) (o : Outcome Value) → IsPlain (work_told place name o)
told_plain place name (Ok x) = record { jobs = refl; codes_are = refl }
told_plain place name (Err k) = record { jobs = refl; codes_are = refl }

told_count : (place : List Segment) (name : List ℕ) (o : Outcome Value) → (work_told place name o).count ≡ 0
told_count place name (Ok x) = refl
told_count place name (Err k) = refl

module _ (checked : Checked) (layout : Layout) (main : ℕ) (given : List Bind) (site : List ℕ) (rows : List Row) (s : State) (h : IsHolding checked layout main given site rows s) where
  abbrev pub lib : Library
  lib = library_in checked

  abbrev pub form : Form
  form = whole h.flow given [] h.names h.dones

  abbrev pub v : Sown
  v = s.field.plot.net

  abbrev pub is : List Instance
  is = s.field.plot.instances

  abbrev pub later : Work → Work
  later added = both_works h.listed added

  pub lists_later : (added : Work) (weight : Work → ℕ) → IsWeight weight → weight (later added) ≡ weight h.listed + weight added
  lists_later added weight w = w.both h.listed added h.even

  -- the plan holds after a step that asked for nothing
  abbrev Grown : State → Work → (TaskCost → ℕ) → Type 0
  Grown new work paid = IsGrowing lib layout site rows 24 form new.field.plot.net new.field.plot.instances work h.asked paid

  -- It holds, and so many more were paid for.
  abbrev pub Held : State → ℕ → Type 0
  Held new n = (k : IsHolding checked layout main given site rows new) × (n + paid_of checked layout main given site rows h ≤ paid_of checked layout main given site rows k)

  pub holds_by : (new : State) (few : IsFew new) (work : Work) (paid : TaskCost → ℕ) (n : ℕ) → paid task_cost ≡ h.paid_by task_cost + n → IsEven work → new.asks ≡ s.asks → Listed work (λ (test : JobTest). waiting s.asks.ready test + h.answered test) new.field.faults new.field.count
      → ((test : JobTest) → jobs_in h.listed test ≤ jobs_in work test) → Grown new work paid → Held new n
  holds_by new few work paid n paid_is even asks lists more growing =
      let few_at = subst (λ (a : Asks). (new.field.count ≤ 1000000) × (a.jobs ≤ 20000)) asks few in
      subst (λ (a : Asks). Held (record { field = new.field; asks = a }) n) (sym asks) (
        record {
          flow = h.flow;
          there = h.there;
          inputs_given = h.inputs_given;
          names = h.names;
          dones = h.dones;
          distinct = h.distinct;
          line = h.line;
          line_there = h.line_there;
          outputs = h.outputs;
          few_count = few_at.0;
          few_jobs = few_at.1;
          listed = work;
          even = even;
          paid_by = paid;
          asked = h.asked;
          growing = growing;
          answered = h.answered;
          lists = lists;
          over = h.over;
          jobs = h.jobs;
          awaited = h.awaited;
          called = λ j c at. let old = h.called j c at in let m = more (at_place c.place) in omega (arith, old, m);
          rowed = λ r among. let old = h.rowed r among in let m = more (at_place r.place) in omega (arith, old, m);
          owes = let e = h.owes in omega (arith, e, paid_is);
        },
        (let e = h.owes in omega (arith, e, paid_is)),
      )

  plain_in : (added : Work) → IsPlain added → (test : JobTest) → jobs_in added test ≡ 0
  plain_in added plain test = ap (λ rs. count_jobs test rs added.codes) plain.jobs

  plain_later : (added : Work) → IsPlain added → (test : JobTest) → jobs_in (later added) test ≡ jobs_in h.listed test
  plain_later added plain test = let a = lists_later added (λ (w : Work). jobs_in w test) (jobs_weigh test) in let b = plain_in added plain test in omega (arith, a, b)

  pub plain_holds : (new : State) (few : IsFew new) (added : Work) (paid : TaskCost → ℕ) (n : ℕ) → paid task_cost ≡ h.paid_by task_cost + n → IsPlain added → new.asks ≡ s.asks → new.field.faults ≡ s.field.faults ++ added.faults → new.field.count ≡ s.field.count + added.count
      → Grown new (later added) paid → Held new n
  plain_holds new few added paid n paid_is plain asks faults count growing =
      let l = listing.steps h.listed (later added) added (λ (test : JobTest). waiting s.asks.ready test + h.answered test) s.field.faults s.field.count h.lists (lists_later added) in
      holds_by new few (later added) paid n paid_is (both_even h.listed added h.even (ap length plain.codes_are ∙ sym (ap length plain.jobs))) asks
      (record {
        jobs_are = λ test. plain_later added plain test ∙ h.lists.jobs_are test;
        faults_are = λ test. l.faults_are test ∙ ap (count_by test) (sym faults);
        count_is = l.count_is ∙ sym count;
      })
      (λ test. let e = plain_later added plain test in omega (arith, e)) growing

  pub still_holds : (new : State) (few : IsFew new) (paid : TaskCost → ℕ) (n : ℕ) → paid task_cost ≡ h.paid_by task_cost + n → new.asks ≡ s.asks → new.field.faults ≡ s.field.faults → new.field.count ≡ s.field.count → Grown new h.listed paid → Held new n
  still_holds new few paid n paid_is asks faults count growing =
      holds_by new few h.listed paid n paid_is h.even asks
      (record { jobs_are = h.lists.jobs_are; faults_are = λ test. h.lists.faults_are test ∙ ap (count_by test) (sym faults); count_is = h.lists.count_is ∙ sym count }) (λ test. omega arith) growing

  -- ---- a step that was taken

  module _ (t : ℕ) (r : Rule) (code : slice_get v.rules t ≡ Some r) (step : Wants) (there : slice_get v.steps t ≡ Some step) (fresh : step.is_taken ≡ false) (ready : are_set v.values step.needs ≡ true) where
    abbrev pub w : Sown
    w = with_taken v t step

    -- the state in which the step is done
    abbrev pub before : State
    before = record { field = record { plot = record { net = w; instances = is }; faults = s.field.faults; count = s.field.count }; asks = s.asks }

    abbrev pub more : ℕ → TaskCost → ℕ
    more n task = h.paid_by task + n

    pays : (n : ℕ) (task : TaskCost) → more n task ≤ h.paid_by task + n
    pays n task = omega arith

    needs_are : needs_at w t ≡ step.needs
    needs_are = ap needs_in (get_set v.steps t (record { needs = step.needs; is_taken = true }) (slice_get_within v.steps t step there))

    only_net : (new : State) (few : IsFew new) (net : Sown) → OnlyNet checked layout site before new → new.field.plot.net ≡ net → IsGrowing lib layout site rows 24 form net is h.listed h.asked h.paid_by → Held new 0
    only_net new few net only e growing =
        still_holds new few h.paid_by 0 (omega arith) only.asks only.faults only.count
        (subst (λ (js : List Instance). IsGrowing lib layout site rows 24 form new.field.plot.net js h.listed h.asked h.paid_by) (sym only.instances)
        (subst (λ (u : Sown). IsGrowing lib layout site rows 24 form u is h.listed h.asked h.paid_by) (sym e) growing))

    pub gathers_hold : (new : State) (few : IsFew new) (c : ℕ) → r ≡ rule.Gathers c → OnlyNet checked layout site before new → IsGathered w t c new.field.plot.net → Held new 0
    gathers_hold new few c e only g =
        only_net new few (with_value w c (kind.List g.values)) only g.now
        (keeping.gathers_goes lib layout site rows 24 form v is h.listed h.asked h.paid_by h.growing t r code step there fresh ready c e g.values
        (subst (λ (cs : List ℕ). all_values (map (value_at v.values) cs) ≡ Some g.values) needs_are g.are))

    pub ends_hold : (new : State) (few : IsFew new) (c : ℕ) → r ≡ rule.Ends c → OnlyNet checked layout site before new → new.field.plot.net ≡ with_value w c kind.Absent → Held new 0
    ends_hold new few c e only now =
        only_net new few (with_value w c kind.Absent) only now (keeping.ends_goes lib layout site rows 24 form v is h.listed h.asked h.paid_by h.growing t r code step there fresh ready c e)

    pub copies_hold : (new : State) (few : IsFew new) (c : ℕ) → r ≡ rule.Copies c → OnlyNet checked layout site before new → IsCopied w t c new.field.plot.net → Held new 0
    copies_hold new few c e only g =
        let one = keeping.copies_one lib layout site rows 24 form v is h.listed h.asked h.paid_by h.growing t r code step there fresh ready c e in
        let first : get_or (needs_at w t) 0 0 ≡ one.0 = ap (λ cs. get_or cs 0 0) (needs_are ∙ one.1) in
        only_net new few (with_value w c g.value) only g.now
        (keeping.copies_goes lib layout site rows 24 form v is h.listed h.asked h.paid_by h.growing t r code step there fresh ready c e one.0 one.1 g.value (ap (value_at v.values) (sym first) ∙ g.is))

    -- ---- declarations

    abbrev Told : ℕ → Outcome Value → List Segment → List ℕ → Type 0
    Told cell o place name =
        (work : Work) → ((weight : Work → ℕ) → IsWeight weight → weight work ≡ weight h.listed + weight (work_told place name o)) → (paid : TaskCost → ℕ) → ((task : TaskCost) → paid task ≤ h.paid_by task + 1)
        → IsGrowing lib layout site rows 24 form (net_told w cell o) is work h.asked paid

    declared_holds : (new : State) (few : IsFew new) (cell : ℕ) (o : Outcome Value) (place : List Segment) (name : List ℕ) → Told cell o place name → new.field ≡ declared before.field cell place name o → new.asks ≡ s.asks
        → Held new 1
    declared_holds new few cell o place name law e asks =
        let added = work_told place name o in
        plain_holds new few added (more 1) 1 refl (told_plain place name o) asks (ap (λ (f : Field). f.faults) e ∙ faults_same s.field.faults place name o)
        (ap (λ (f : Field). f.count) e ∙ (let z = told_count place name o in omega (arith, z)))
        (subst (λ (f : Field). IsGrowing lib layout site rows 24 form f.plot.net f.plot.instances (later added) h.asked (more 1)) (sym e)
        (subst (λ (u : Sown). IsGrowing lib layout site rows 24 form u is (later added) h.asked (more 1)) (sym (told_same w cell o)) (law (later added) (lists_later added) (more 1) (pays 1))))

    pub decl_holds : (new : State) (few : IsFew new) (i k : ℕ) → r ≡ rule.Statement i k → (q : Instance) (body : BodyLayout) (flow : FlowDef) (l : StatementLayout) (x : TDecl) → IsAt lib layout is i k q body flow l (stmt.Decl x)
        → new.field ≡ declared before.field (last_base q.bases + l.first_name) q.place x.name (own_value w q.bases l.needs x.value) → new.asks ≡ s.asks → Held new 1
    decl_holds new few i k e q body flow l x at done asks =
        let o = own_value w q.bases l.needs x.value in
        declared_holds new few (last_base q.bases + l.first_name) o q.place x.name
        (keeping.decl_goes lib layout site rows 24 form v is h.listed h.asked h.paid_by h.growing t r code step there fresh ready i k e q body flow l x at o refl) done asks

    pub input_holds : (new : State) (few : IsFew new) (i k : ℕ) → r ≡ rule.Input i k → (q : Instance) (body : BodyLayout) (flow : FlowDef) (fl : FlowLayout) (x : TInput) (e : TExpr) (needs : List Need) → IsInputAt lib layout is i k q body flow fl x e needs
        → new.field ≡ declared before.field (last_base q.bases + k) q.place x.name (own_value w q.bases needs e) → new.asks ≡ s.asks → Held new 1
    input_holds new few i k is_ q body flow fl x e needs at done asks =
        let o = own_value w q.bases needs e in
        declared_holds new few (last_base q.bases + k) o q.place x.name
        (keeping.input_goes lib layout site rows 24 form v is h.listed h.asked h.paid_by h.growing t r code step there fresh ready i k is_ q body flow fl x e needs at o refl) done asks

    pub output_holds : (new : State) (few : IsFew new) (i k : ℕ) → r ≡ rule.Output i k → (q : Instance) (body : BodyLayout) (flow : FlowDef) (fl : FlowLayout) (x : TDecl) (needs : List Need) → IsOutputAt lib layout is i k q body flow fl x needs
        → new.field ≡ declared before.field (last_base q.bases + (fl.first_output + k)) q.place x.name (own_value w q.bases needs x.value) → new.asks ≡ s.asks → Held new 1
    output_holds new few i k is_ q body flow fl x needs at done asks =
        let o = own_value w q.bases needs x.value in
        declared_holds new few (last_base q.bases + (fl.first_output + k)) o q.place x.name
        (keeping.output_goes lib layout site rows 24 form v is h.listed h.asked h.paid_by h.growing t r code step there fresh ready i k is_ q body flow fl x needs at o refl) done asks

    -- ---- blocks

    -- a fault, and nothing else
    pub fault_holds : (new : State) (few : IsFew new) (f : Fault) (n : ℕ) → new.field.plot.net ≡ w → new.field.plot.instances ≡ is → new.field.faults ≡ s.field.faults ++ f ∷ [] → new.field.count ≡ s.field.count → new.asks ≡ s.asks
        → ((work : Work) → ((weight : Work → ℕ) → IsWeight weight → weight work ≡ weight h.listed + weight (faulty f)) → (paid : TaskCost → ℕ) → ((task : TaskCost) → paid task ≤ h.paid_by task + n)
        → IsGrowing lib layout site rows 24 form w is work h.asked paid) → Held new n
    fault_holds new few f n net instances faults count asks law =
        plain_holds new few (faulty f) (more n) n refl (record { jobs = refl; codes_are = refl }) asks faults (omega (arith, count))
        (subst (λ (js : List Instance). IsGrowing lib layout site rows 24 form new.field.plot.net js (later (faulty f)) h.asked (more n)) (sym instances)
        (subst (λ (u : Sown). IsGrowing lib layout site rows 24 form u is (later (faulty f)) h.asked (more n)) (sym net) (law (later (faulty f)) (lists_later (faulty f)) (more n) (pays n))))

    -- instances of statements, and nothing else
    pub counted_holds : (new : State) (few : IsFew new) (f : Field) (n m : ℕ) → new.field ≡ f → f.faults ≡ s.field.faults → f.count ≡ s.field.count + m → new.asks ≡ s.asks
        → ((work : Work) → ((weight : Work → ℕ) → IsWeight weight → weight work ≡ weight h.listed + weight (counted m no_work)) → (paid : TaskCost → ℕ) → ((task : TaskCost) → paid task ≤ h.paid_by task + n)
        → IsGrowing lib layout site rows 24 form f.plot.net f.plot.instances work h.asked paid) → Held new n
    counted_holds new few f n m e faults count asks law =
        let added = counted m no_work in
        plain_holds new few added (more n) n refl (record { jobs = refl; codes_are = refl }) asks (ap (λ (g : Field). g.faults) e ∙ faults ∙ sym (append-nil s.field.faults))
        (ap (λ (g : Field). g.count) e ∙ (let z = count in omega (arith, z)))
        (subst (λ (g : Field). IsGrowing lib layout site rows 24 form g.plot.net g.plot.instances (later added) h.asked (more n)) (sym e) (law (later added) (lists_later added) (more n) (pays n)))

    module _ (i k : ℕ) (same : r ≡ rule.Statement i k) (q : Instance) (body : BodyLayout) (flow : FlowDef) (l : StatementLayout) where
      scatter_by : (x : TScatter Statement) → IsAt lib layout is i k q body flow l (stmt.Scatter x) → (inner : BodyLayout) → slice_get layout.bodies l.inner ≡ Some inner → (o : Outcome Value) → own_value w q.bases l.needs x.over ≡ o
          → (new : State) → IsFew new → new.field ≡ scattered q.bases (q.place ++ segment.Scatter x.number ∷ []) inner l x.item before.field o → new.asks ≡ s.asks → Held new 1
      scatter_by x at inner there_too (Ok y) value new few done asks =
          counted_holds new few (scattered q.bases (q.place ++ segment.Scatter x.number ∷ []) inner l x.item before.field (Ok y)) 1 (length (items_in y) * length inner.statements) done refl refl asks
          (blocking.scatter_goes lib layout site rows 24 form v is h.listed h.asked h.paid_by h.growing t r code step there fresh ready i k same q body flow l x at inner there_too y value)
      scatter_by x at inner there_too (Err c) value new few done asks =
          fault_holds new few (fault_at (q.place ++ segment.Scatter x.number ∷ []) x.item c) 1 (ap (λ (f : Field). f.plot.net) done) (ap (λ (f : Field). f.plot.instances) done) (ap (λ (f : Field). f.faults) done)
          (ap (λ (f : Field). f.count) done) asks
          (blocking.scatter_fails lib layout site rows 24 form v is h.listed h.asked h.paid_by h.growing t r code step there fresh ready i k same q body flow l x at c value)

      pub scatter_holds : (x : TScatter Statement) → IsAt lib layout is i k q body flow l (stmt.Scatter x) → (inner : BodyLayout) → slice_get layout.bodies l.inner ≡ Some inner → (new : State) → IsFew new
          → new.field ≡ scattered q.bases (q.place ++ segment.Scatter x.number ∷ []) inner l x.item before.field (own_value w q.bases l.needs x.over) → new.asks ≡ s.asks → Held new 1
      scatter_holds x at inner there_too new few done asks = scatter_by x at inner there_too (own_value w q.bases l.needs x.over) refl new few done asks

      choice_by : (x : TIf Statement) → IsAt lib layout is i k q body flow l (stmt.If x) → (inner : BodyLayout) → slice_get layout.bodies l.inner ≡ Some inner → (y : Value) → own_value w q.bases l.needs x.cond ≡ Ok y → (b : Bool)
          → bool_in y ≡ b → (new : State) → IsFew new → new.field ≡ chosen q.bases (q.place ++ segment.If x.number ∷ []) inner l before.field b → new.asks ≡ s.asks → Held new 1
      choice_by x at inner there_too y value true on new few done asks =
          counted_holds new few (chosen q.bases (q.place ++ segment.If x.number ∷ []) inner l before.field true) 1 (length inner.statements) done refl refl asks
          (blocking.if_on lib layout site rows 24 form v is h.listed h.asked h.paid_by h.growing t r code step there fresh ready i k same q body flow l x at inner there_too y value on)
      choice_by x at inner there_too y value false off new few done asks =
          still_holds new few (more 1) 1 refl asks (ap (λ (f : Field). f.faults) done) (ap (λ (f : Field). f.count) done)
          (subst (λ (f : Field). IsGrowing lib layout site rows 24 form f.plot.net f.plot.instances h.listed h.asked (more 1)) (sym done)
          (blocking.if_off lib layout site rows 24 form v is h.listed h.asked h.paid_by h.growing t r code step there fresh ready i k same q body flow l x at y value off (more 1) (pays 1)))

      if_by : (x : TIf Statement) → IsAt lib layout is i k q body flow l (stmt.If x) → (inner : BodyLayout) → slice_get layout.bodies l.inner ≡ Some inner → (o : Outcome Value) → own_value w q.bases l.needs x.cond ≡ o → (new : State) → IsFew new
          → new.field ≡ conditioned q.bases (q.place ++ segment.If x.number ∷ []) inner l before.field o → new.asks ≡ s.asks → Held new 1
      if_by x at inner there_too (Ok y) value new few done asks = choice_by x at inner there_too y value (bool_in y) refl new few done asks
      if_by x at inner there_too (Err c) value new few done asks =
          fault_holds new few (fault_at (q.place ++ segment.If x.number ∷ []) (codes "if") c) 1 (ap (λ (f : Field). f.plot.net) done) (ap (λ (f : Field). f.plot.instances) done) (ap (λ (f : Field). f.faults) done)
          (ap (λ (f : Field). f.count) done) asks
          (blocking.if_fails lib layout site rows 24 form v is h.listed h.asked h.paid_by h.growing t r code step there fresh ready i k same q body flow l x at c value)

      pub if_holds : (x : TIf Statement) → IsAt lib layout is i k q body flow l (stmt.If x) → (inner : BodyLayout) → slice_get layout.bodies l.inner ≡ Some inner → (new : State) → IsFew new
          → new.field ≡ conditioned q.bases (q.place ++ segment.If x.number ∷ []) inner l before.field (own_value w q.bases l.needs x.cond) → new.asks ≡ s.asks → Held new 1
      if_holds x at inner there_too new few done asks = if_by x at inner there_too (own_value w q.bases l.needs x.cond) refl new few done asks
