-- What each form of statement asks for and made, by the statement.
use Rattle.std.proofs.Common.{◌≡◌, ◌≤◌, ◌<◌, ℕ, ◌+◌, ◌-◌, List, [], ◌∷◌, ◌++◌, Option, Some, Result, Ok, Err, length, get_or, slice_get, ap, refl, sym, subst, ◌∙◌, arith}
use Rattle.std.proofs.lemmas.Option.{same_Some}
use Rattle.wdl_base.specs.declared.place.Segment.{Segment}
use Rattle.wdl_base.specs.declared.place.Segment.TheVariants as segment
use Rattle.wdl_base.specs.declared.fault.Fault.{Fault}
use Rattle.wdl_base.specs.declared.fault.Why.{Why}
use Rattle.wdl_task.specs.declared.fault.CallFault.TheVariants.{Bad}
use Rattle.wdl_task.specs.Tells.{Fails}
use Rattle.wdl_value.specs.declared.env.Bind.{Bind}
use Rattle.wdl_typed.specs.declared.checked.Checked.{Checked}
use Rattle.wdl_typed.specs.declared.expr.TExpr.{TExpr}
use Rattle.wdl_typed.specs.declared.flow.Statement.{Statement, Statement-F, out-Statement}
use Rattle.wdl_typed.specs.declared.flow.Statement.TheOpen as layer
use Rattle.wdl_typed.specs.declared.flow.Statement.TheVariants as stmt
use Rattle.wdl_typed.specs.declared.flow.Target.{Target}
use Rattle.wdl_typed.specs.declared.flow.Target.TheVariants as target
use Rattle.wdl_typed.specs.declared.flow.TCall.{TCall}
use Rattle.wdl_typed.specs.declared.flow.TIf.{TIf}
use Rattle.wdl_typed.specs.declared.flow.TScatter.{TScatter}
use Rattle.wdl_typed.specs.Flow.{args_met, failing_at}
use Rattle.wdl_typed.specs.Requests.{Failing, Tried}
use Rattle.wdl_typed.specs.declared.flow.FlowDef.{FlowDef}
use Rattle.wdl_eval.specs.Ready.{IsReady}
use Rattle.plan_layout.specs.Paths.{body_at, flow_body}
use Rattle.plan_room.specs.Reached.{AreReached}
use Rattle.plan_growth.specs.declared.instance.Instance.{Instance}
use Rattle.plan_growth.specs.declared.rule.Rule.TheVariants as rule
use Rattle.plan_growth.specs.Entering.{Sown}
use Rattle.plan_growth.specs.Keeps.{IsAt}
use Rattle.plan_layout.specs.declared.layout.Need.{Need}
use Rattle.plan_steps.specs.declared.spot.Spot.{Spot}
use Rattle.plan_steps.specs.Stepping.{DidStatement, IsPastTaken, IsWithin, library_in}
use Rattle.plan_layout.specs.declared.layout.BodyLayout.{BodyLayout}
use Rattle.plan_layout.specs.declared.layout.Layout.{Layout}
use Rattle.plan_layout.specs.declared.layout.StatementLayout.{StatementLayout}
use Rattle.plan_steps.specs.declared.fault.PlanFault.{PlanFault}
use Rattle.plan_steps.specs.declared.fault.PlanFault.TheVariants.{TooMany, NoMemory}
use Rattle.plan_steps.specs.Askings.{IsNew}
use Rattle.plan_steps.specs.Doing.{CalledWith, CanCall, CanStand, CanStatement, Field, IsPastCondition, IsPastScatter, IsPastStatement, IsPastWith, State, StatementDone, bases_in, call_count, conditioned, declared, place_in, scattered, statement_count, with_fault}
use Rattle.plan_bodies.specs.Bases.{last_base}
use Rattle.plan_steps.specs.Passes.{Passes}
use Rattle.plan_steps.specs.Values.{own_env, own_value}
use Rattle.plan_steps.proofs.Lists.{read_at, within}

pub passes_as : {A : Type 0} (P Q R S : Type 0) (r : Result A PlanFault) → (P → R) → (Q → S) → Passes P Q r → Passes R S r
passes_as P Q R S (Ok a) f g h = f h
passes_as P Q R S (Err TooMany) f g h = g h
passes_as P Q R S (Err NoMemory) f g h = tt

-- what an index reads is what stands there
pub found_same : {A : Type 0} (xs ys : List A) (k : ℕ) (x y : A) → ys ≡ xs → slice_get xs k ≡ Some x → y ≡ get_or ys k y → y ≡ x
found_same {A = A} xs ys k x y same there is =
    let here : slice_get ys k ≡ Some x = ap (λ (zs : List A). slice_get zs k) same ∙ there in
    same_Some _ _ (sym (read_at ys k y y (within ys k x here) is) ∙ here)

pub inside_of : {A : Type 0} (xs ys : List A) (k : ℕ) (x : A) → ys ≡ xs → slice_get xs k ≡ Some x → k < length ys
inside_of {A = A} xs ys k x same there = within ys k x (ap (λ (zs : List A). slice_get zs k) same ∙ there)

-- ---- calls

module _ (checked : Checked) (layout : Layout) (bases : List ℕ) (line : StatementLayout) (old : State) where
  pub can_moved : (args : List Bind) (place place2 at at2 : List Segment) (t : Target) → at2 ≡ at → CanCall checked layout [] bases place 0 line old args at t → CanCall checked layout [] bases place2 0 line old args at2 t
  can_moved args place place2 at at2 (target.Task k) same h = (h.0, h.1, h.2, subst (λ (p : List Segment). IsNew old.asks.calls p) (sym same) h.3)
  can_moved args place place2 at at2 (target.Flow k) same h = h

  pub bad_call : (site : List ℕ) (place at at2 : List Segment) (step : ℕ) (t : Target) (more : List Fault) (o o2 : Tried (List Bind)) (name : List ℕ) (why : Why) → o2 ≡ o → Fails o (Bad name why) → at2 ≡ at → more ≡ old.field.faults ++ record { place = at2; name = name; why = why } ∷ []
      → CalledWith checked layout site bases place step line t at old (record { field = record { plot = old.field.plot; faults = more; count = old.field.count }; asks = old.asks }) o2
  bad_call site place at at2 step t more o o2 name why same fails there added =
      subst (λ (x : Tried (List Bind)). CalledWith checked layout site bases place step line t at old (record { field = record { plot = old.field.plot; faults = more; count = old.field.count }; asks = old.asks }) x) (sym (same ∙ fails)) (
        ap (λ (fs : List Fault). let f : Field = record { plot = old.field.plot; faults = fs; count = old.field.count } in f)
            (added ∙ ap (λ (p : List Segment). let f : Fault = record { place = p; name = name; why = why } in old.field.faults ++ f ∷ []) there),
        refl,
      )

  pub failed_call : (site : List ℕ) (place at : List Segment) (step : ℕ) (t : Target) (new : State) (o : Tried (List Bind)) (e : Failing) → o ≡ Err e → new.field ≡ with_fault old.field (failing_at at e) → new.asks ≡ old.asks
      → CalledWith checked layout site bases place step line t at old new o
  failed_call site place at step t new o e is field asks = subst (λ (x : Tried (List Bind)). CalledWith checked layout site bases place step line t at old new x) (sym is) (field, asks)

-- ---- statements

module _ (checked : Checked) (layout : Layout) (site : List ℕ) (bases : List ℕ) (place : List Segment) (step : ℕ) (line : StatementLayout) (old : State) where
  pub can_scatter : (st : Statement) (x : TScatter Statement) → st ≡ stmt.Scatter x → CanStatement checked layout [] bases place 0 line old (out-Statement st) → CanStatement checked layout [] bases place 0 line old (layer.Scatter x)
  can_scatter st x e h = subst (λ (y : Statement-F Statement). CanStatement checked layout [] bases place 0 line old y) (ap out-Statement e ∙ stmt.outs-Scatter x) h

  pub can_if : (st : Statement) (x : TIf Statement) → st ≡ stmt.If x → CanStatement checked layout [] bases place 0 line old (out-Statement st) → CanStatement checked layout [] bases place 0 line old (layer.If x)
  can_if st x e h = subst (λ (y : Statement-F Statement). CanStatement checked layout [] bases place 0 line old y) (ap out-Statement e ∙ stmt.outs-If x) h

  module _ (new : State) (more : Type 0) (r : Result (Unit {0}) PlanFault) where
    pub scatter_done : (st : Statement) (x : TScatter Statement) (b inner : BodyLayout) (bases2 : List ℕ) → st ≡ stmt.Scatter x → bases2 ≡ bases → b ≡ inner → slice_get layout.bodies line.inner ≡ Some inner → new.asks ≡ old.asks
        → Passes ((new.field ≡ scattered bases2 (place ++ segment.Scatter x.number ∷ []) b line x.item old.field (own_value old.field.plot.net bases2 line.needs x.over)) × more) (IsPastScatter b old.field (own_value old.field.plot.net bases2 line.needs x.over)) r
        → Passes (StatementDone checked layout site bases place step line old new (out-Statement st)) (IsPastStatement checked layout [] bases place step line old (out-Statement st)) r
    scatter_done st x b inner bases2 is same found there asks h =
        passes_as _ _ _ _ r
        (λ p. subst (λ (y : Statement-F Statement). StatementDone checked layout site bases place step line old new y) (sym (ap out-Statement is ∙ stmt.outs-Scatter x)) (
          inner,
          there,
          subst (λ (c : BodyLayout). new.field ≡ scattered bases (place ++ segment.Scatter x.number ∷ []) c line x.item old.field (own_value old.field.plot.net bases line.needs x.over)) found
              (subst (λ (bs : List ℕ). new.field ≡ scattered bs (place ++ segment.Scatter x.number ∷ []) b line x.item old.field (own_value old.field.plot.net bs line.needs x.over)) same p.0),
          asks,
        ))
        (λ q. subst (λ (y : Statement-F Statement). IsPastStatement checked layout [] bases place step line old y) (sym (ap out-Statement is ∙ stmt.outs-Scatter x)) (
          inner,
          there,
          subst (λ (c : BodyLayout). IsPastScatter c old.field (own_value old.field.plot.net bases line.needs x.over)) found
              (subst (λ (bs : List ℕ). IsPastScatter b old.field (own_value old.field.plot.net bs line.needs x.over)) same q),
        ))
        h

    pub if_done : (st : Statement) (x : TIf Statement) (b inner : BodyLayout) (bases2 : List ℕ) → st ≡ stmt.If x → bases2 ≡ bases → b ≡ inner → slice_get layout.bodies line.inner ≡ Some inner → new.asks ≡ old.asks
        → Passes ((new.field ≡ conditioned bases2 (place ++ segment.If x.number ∷ []) b line old.field (own_value old.field.plot.net bases2 line.needs x.cond)) × more) (IsPastCondition b old.field (own_value old.field.plot.net bases2 line.needs x.cond)) r
        → Passes (StatementDone checked layout site bases place step line old new (out-Statement st)) (IsPastStatement checked layout [] bases place step line old (out-Statement st)) r
    if_done st x b inner bases2 is same found there asks h =
        passes_as _ _ _ _ r
        (λ p. subst (λ (y : Statement-F Statement). StatementDone checked layout site bases place step line old new y) (sym (ap out-Statement is ∙ stmt.outs-If x)) (
          inner,
          there,
          subst (λ (c : BodyLayout). new.field ≡ conditioned bases (place ++ segment.If x.number ∷ []) c line old.field (own_value old.field.plot.net bases line.needs x.cond)) found
              (subst (λ (bs : List ℕ). new.field ≡ conditioned bs (place ++ segment.If x.number ∷ []) b line old.field (own_value old.field.plot.net bs line.needs x.cond)) same p.0),
          asks,
        ))
        (λ q. subst (λ (y : Statement-F Statement). IsPastStatement checked layout [] bases place step line old y) (sym (ap out-Statement is ∙ stmt.outs-If x)) (
          inner,
          there,
          subst (λ (c : BodyLayout). IsPastCondition c old.field (own_value old.field.plot.net bases line.needs x.cond)) found
              (subst (λ (bs : List ℕ). IsPastCondition b old.field (own_value old.field.plot.net bs line.needs x.cond)) same q),
        ))
        h

    pub call_done : (st : Statement) (x : TCall) (bases2 : List ℕ) → st ≡ stmt.Call x → bases2 ≡ bases
        → Passes (CalledWith checked layout site bases2 place step line x.target (place ++ segment.Call x.name ∷ []) old new (args_met (own_env old.field.plot.net bases2 line.needs) x.args))
        (IsPastWith checked layout [] bases2 place step line x.target old (args_met (own_env old.field.plot.net bases2 line.needs) x.args)) r
        → Passes (StatementDone checked layout site bases place step line old new (out-Statement st)) (IsPastStatement checked layout [] bases place step line old (out-Statement st)) r
    call_done st x bases2 is same h =
        passes_as _ _ _ _ r
        (λ p. subst (λ (y : Statement-F Statement). StatementDone checked layout site bases place step line old new y) (sym (ap out-Statement is ∙ stmt.outs-Call x))
        (subst (λ (bs : List ℕ). CalledWith checked layout site bs place step line x.target (place ++ segment.Call x.name ∷ []) old new (args_met (own_env old.field.plot.net bs line.needs) x.args)) same p))
        (λ q. subst (λ (y : Statement-F Statement). IsPastStatement checked layout [] bases place step line old y) (sym (ap out-Statement is ∙ stmt.outs-Call x))
        (subst (λ (bs : List ℕ). IsPastWith checked layout [] bs place step line x.target old (args_met (own_env old.field.plot.net bs line.needs) x.args)) same q))
        h

  pub call_within : (st : Statement) (x : TCall) (bases2 : List ℕ) (before after : ℕ) → st ≡ stmt.Call x → bases2 ≡ bases
      → after ≤ before + (length x.args + call_count checked layout [] bases2 place step line x.target (args_met (own_env old.field.plot.net bases2 line.needs) x.args))
      → after ≤ before + statement_count checked layout [] bases place step line old (out-Statement st)
  call_within st x bases2 before after is same h =
      subst (λ (y : Statement-F Statement). after ≤ before + statement_count checked layout [] bases place step line old y) (sym (ap out-Statement is ∙ stmt.outs-Call x))
      (subst (λ (bs : List ℕ). after ≤ before + (length x.args + call_count checked layout [] bs place step line x.target (args_met (own_env old.field.plot.net bs line.needs) x.args))) same h)

-- ---- what is found by numbers

pub same_line : (b2 b : BodyLayout) (ls : List StatementLayout) (k : ℕ) (l2 l : StatementLayout) → b2 ≡ b → ls ≡ b2.statements → slice_get b.statements k ≡ Some l → l2 ≡ get_or ls k l2 → l2 ≡ l
same_line b2 b ls k l2 l same is there at = found_same b.statements ls k l l2 (is ∙ ap (λ (z : BodyLayout). z.statements) same) there at

pub same_statement : (flows : List FlowDef) (b2 b : BodyLayout) (f : FlowDef) (path : List ℕ) (ss : List Statement) (k : ℕ) (x2 x : Statement) → b2 ≡ b → path ≡ b2.path → ss ≡ body_at (flow_body (slice_get flows b2.flow)) path
    → slice_get flows b.flow ≡ Some f → slice_get (body_at f.body b.path) k ≡ Some x → x2 ≡ get_or ss k x2 → x2 ≡ x
same_statement flows b2 b f path ss k x2 x same is all flow there at =
    found_same (body_at f.body b.path) ss k x x2
    (all ∙ ap (λ (p : List ℕ). body_at (flow_body (slice_get flows b2.flow)) p) is ∙ ap (λ (z : BodyLayout). body_at (flow_body (slice_get flows z.flow)) z.path) same ∙ ap (λ (o : Option FlowDef). body_at (flow_body o) b.path) flow)
    there at

pub same_bases : (is2 is : List Instance) (i : ℕ) (q : Instance) (spot : Spot) → is2 ≡ is → spot ≡ record { bases = bases_in (slice_get is2 i); place = place_in (slice_get is2 i) } → slice_get is i ≡ Some q → spot.bases ≡ q.bases
same_bases is2 is i q spot same at there = ap (λ (s : Spot). s.bases) at ∙ ap (λ (xs : List Instance). bases_in (slice_get xs i)) same ∙ ap bases_in there

pub same_place_in : (is2 is : List Instance) (i : ℕ) (q : Instance) (spot : Spot) → is2 ≡ is → spot ≡ record { bases = bases_in (slice_get is2 i); place = place_in (slice_get is2 i) } → slice_get is i ≡ Some q → spot.place ≡ q.place
same_place_in is2 is i q spot same at there = ap (λ (s : Spot). s.place) at ∙ ap (λ (xs : List Instance). place_in (slice_get xs i)) same ∙ ap place_in there

module _ (checked : Checked) (layout : Layout) (old : State) where
  pub stand_as : (bs2 bs : List ℕ) (p2 p : List Segment) (l2 l : StatementLayout) (x2 x : Statement) → bs2 ≡ bs → p2 ≡ p → l2 ≡ l → x2 ≡ x → CanStand checked layout bs p l old x → CanStand checked layout bs2 p2 l2 old x2
  stand_as bs2 bs p2 p l2 l x2 x e f g m h =
      subst (λ (y : Statement). CanStand checked layout bs2 p2 l2 old y) (sym m)
      (subst (λ (y : StatementLayout). CanStand checked layout bs2 p2 y old x) (sym g)
      (subst (λ (y : List Segment). CanStand checked layout bs2 y l old x) (sym f) (subst (λ (y : List ℕ). CanStand checked layout y p l old x) (sym e) h)))

  -- the statement that was found is the one of these numbers
  abbrev pub AgreesAt : List ℕ → List Segment → StatementLayout → Statement → ℕ → ℕ → Type 0
  AgreesAt bs2 p2 l2 x2 i k =
      (q : Instance) (b : BodyLayout) (f : FlowDef) (l : StatementLayout) (x : Statement) → IsAt (library_in checked) layout old.field.plot.instances i k q b f l x → (bs2 ≡ q.bases) × (p2 ≡ q.place) × (l2 ≡ l) × (x2 ≡ x)

  module _ (bs2 : List ℕ) (p2 : List Segment) (l2 : StatementLayout) (x2 : Statement) (step i k : ℕ) (agrees : AgreesAt bs2 p2 l2 x2 i k) where
    pub taken_done : (site : List ℕ) (new : State) (r : Result (Unit {0}) PlanFault)
        → Passes (StatementDone checked layout site bs2 p2 step l2 old new (out-Statement x2)) (IsPastStatement checked layout [] bs2 p2 step l2 old (out-Statement x2)) r
        → Passes (DidStatement checked layout site old new step i k) (IsPastTaken checked layout old step i k) r
    taken_done site new r h =
        passes_as _ _ _ _ r
        (λ d q b f l x at. let e = agrees q b f l x at in
        subst (λ (y : Statement). StatementDone checked layout site q.bases q.place step l old new (out-Statement y)) e.3
        (subst (λ (y : StatementLayout). StatementDone checked layout site q.bases q.place step y old new (out-Statement x2)) e.2
        (subst (λ (y : List Segment). StatementDone checked layout site q.bases y step l2 old new (out-Statement x2)) e.1
        (subst (λ (y : List ℕ). StatementDone checked layout site y p2 step l2 old new (out-Statement x2)) e.0 d))))
        (λ d q b f l x at. let e = agrees q b f l x at in
        subst (λ (y : Statement). IsPastStatement checked layout [] q.bases q.place step l old (out-Statement y)) e.3
        (subst (λ (y : StatementLayout). IsPastStatement checked layout [] q.bases q.place step y old (out-Statement x2)) e.2
        (subst (λ (y : List Segment). IsPastStatement checked layout [] q.bases y step l2 old (out-Statement x2)) e.1
        (subst (λ (y : List ℕ). IsPastStatement checked layout [] y p2 step l2 old (out-Statement x2)) e.0 d))))
        h

    pub taken_within : (before after : ℕ) → after ≤ before + statement_count checked layout [] bs2 p2 step l2 old (out-Statement x2) → IsWithin checked layout old step (after - before) (rule.Statement i k)
    taken_within before after h = λ q b f l x at.
        let e = agrees q b f l x at in
        let all : after ≤ before + statement_count checked layout [] q.bases q.place step l old (out-Statement x) =
        subst (λ (y : Statement). after ≤ before + statement_count checked layout [] q.bases q.place step l old (out-Statement y)) e.3
        (subst (λ (y : StatementLayout). after ≤ before + statement_count checked layout [] q.bases q.place step y old (out-Statement x2)) e.2
        (subst (λ (y : List Segment). after ≤ before + statement_count checked layout [] q.bases y step l2 old (out-Statement x2)) e.1
        (subst (λ (y : List ℕ). after ≤ before + statement_count checked layout [] y p2 step l2 old (out-Statement x2)) e.0 h))) in
        omega (arith, all)

-- ---- declarations

pub ready_as : (net : Sown) (bs2 bs : List ℕ) (ns2 ns : List Need) (e2 e : TExpr) → bs2 ≡ bs → ns2 ≡ ns → e2 ≡ e → IsReady e (own_env net bs ns) → IsReady e2 (own_env net bs2 ns2)
ready_as net bs2 bs ns2 ns e2 e f g m h =
    subst (λ (y : TExpr). IsReady y (own_env net bs2 ns2)) (sym m) (subst (λ (y : List Need). IsReady e (own_env net bs2 y)) (sym g) (subst (λ (y : List ℕ). IsReady e (own_env net y ns)) (sym f) h))

pub reached_at : (n : ℕ) (bs2 bs : List ℕ) (ns2 ns : List Need) → bs2 ≡ bs → ns2 ≡ ns → AreReached n bs ns → AreReached n bs2 ns2
reached_at n bs2 bs ns2 ns f g h = subst (λ (y : List Need). AreReached n bs2 y) (sym g) (subst (λ (y : List ℕ). AreReached n y ns) (sym f) h)

pub declared_as : (old new : Field) (bs2 bs : List ℕ) (s2 s : ℕ) (p2 p : List Segment) (m2 m : List ℕ) (ns2 ns : List Need) (e2 e : TExpr) → bs2 ≡ bs → s2 ≡ s → p2 ≡ p → m2 ≡ m → ns2 ≡ ns → e2 ≡ e
    → new ≡ declared old (last_base bs2 + s2) p2 m2 (own_value old.plot.net bs2 ns2 e2) → new ≡ declared old (last_base bs + s) p m (own_value old.plot.net bs ns e)
declared_as old new bs2 bs s2 s p2 p m2 m ns2 ns e2 e a b c d f g h =
    subst (λ (y : TExpr). new ≡ declared old (last_base bs + s) p m (own_value old.plot.net bs ns y)) g
    (subst (λ (y : List Need). new ≡ declared old (last_base bs + s) p m (own_value old.plot.net bs y e2)) f
    (subst (λ (y : List ℕ). new ≡ declared old (last_base bs + s) p y (own_value old.plot.net bs ns2 e2)) d
    (subst (λ (y : List Segment). new ≡ declared old (last_base bs + s) y m2 (own_value old.plot.net bs ns2 e2)) c
    (subst (λ (y : ℕ). new ≡ declared old (last_base bs + y) p2 m2 (own_value old.plot.net bs ns2 e2)) b (subst (λ (y : List ℕ). new ≡ declared old (last_base y + s2) p2 m2 (own_value old.plot.net y ns2 e2)) a h)))))
