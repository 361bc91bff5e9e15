-- What each form of statement gives, case by case.
use Rattle.std.proofs.Common.{◌≡◌, ℕ, zero, suc, ◌+◌, ◌-◌, ◌<◌, true, false, cond, List, [], ◌∷◌, length, Option, Some, Result, Ok, Err, sym, ap, ◌∙◌, subst, refl, arith}
use Rattle.std.specs.List.{slice_get}
use Rattle.std.specs.Result.{IsErr, IsErrAnd}
use Rattle.wdl_base.specs.declared.fault.EvalCode.{EvalCode}
use Rattle.wdl_base.specs.declared.place.Segment.{Segment}
use Rattle.wdl_value.specs.declared.env.Bind.{Bind}
use Rattle.wdl_value.specs.declared.value.Value.{Value}
use Rattle.wdl_value.specs.declared.value.Value.TheVariants as v
use Rattle.wdl_value.specs.Outcome.{Outcome}
use Rattle.wdl_value.specs.Parts.{bool_in}
use Rattle.wdl_typed.specs.declared.flow.FlowDef.{FlowDef}
use Rattle.wdl_typed.specs.declared.flow.Statement.{Statement}
use Rattle.wdl_typed.specs.declared.flow.Statement.TheVariants as stmt
use Rattle.wdl_typed.specs.declared.flow.TIf.{TIf}
use Rattle.wdl_typed.specs.declared.flow.TScatter.{TScatter}
use Rattle.wdl_typed.specs.declared.task.TDecl.{TDecl}
use Rattle.wdl_typed.specs.declared.task.TInput.{TInput}
use Rattle.wdl_typed.specs.Bodies.{Library}
use Rattle.wdl_typed.specs.Evaluation.{value_of}
use Rattle.wdl_typed.specs.Flow as flow
use Rattle.wdl_typed.specs.Flow.{Flowing, Run, Sight, all_known, all_together, body_names, conditional, each_item, env_of, fault_at, flow_at, gathered, giving, missing, nothing, seeing, together, too_many, with_fault, with_names}
use Rattle.wdl_typed.specs.Requests.{before}
use Rattle.wdl_plain.specs.declared.fault.PlainFault.{PlainFault}
use Rattle.wdl_plain.specs.declared.fault.PlainFault.TheVariants.{TooMany}
use Rattle.wdl_plain.specs.declared.flowing.Flowing.{Flowing as Made}
use Rattle.wdl_plain.specs.Flows.{Flows, counted}
use Rattle.wdl_plain.proofs.Limits.{many_left, many_right}
use Rattle.wdl_plain.proofs.Turns.{together_assoc, together_nothing}
use Rattle.flow_soundness.specs.Readiness.{IsStatementReady}
use Rattle.flow_soundness.specs.StatementFlow.{statement_flow}
use Rattle.wdl_plain.specs.Walk as spec
use Rattle.wdl_plain.proofs.Forms.{decl_is}

-- the same flow
pub as_flow : (f g : Flowing) (result : Result Made PlainFault) → f ≡ g → Flows g result → Flows f result
as_flow f g result e h = subst (λ (z : Flowing). Flows z result) (sym e) h

pub none_of : (ss : List Statement) → length ss ≡ 0 → ss ≡ []
none_of [] e = refl
none_of (st ∷ ss) e = absurd (omega (arith, e))

-- the same fault over the same names
pub failed_as : (x : Flowing) (place : List Segment) (name : List ℕ) (k : EvalCode) (n m : flow.Names) (l : EvalCode) → x ≡ with_fault (fault_at place name l) (missing n) → k ≡ l → n ≡ m
    → x ≡ with_fault (fault_at place name k) (missing m)
failed_as x place name k n m l h e names = h ∙ ap (λ (c : EvalCode). with_fault (fault_at place name c) (missing n)) (sym e) ∙ ap (λ (z : flow.Names). with_fault (fault_at place name k) (missing z)) names

-- a refusal that is handed on
pub handed_on : (f : Flowing) (result : Result Made PlainFault) (e : PlainFault) → IsErr result × IsErrAnd result (λ y. y ≡ e) → (e ≡ TooMany → too_many f ≡ true) → Flows f result
handed_on f (Ok g) e h past = absurd h.1
handed_on f (Err y) e h past = λ is. past (sym h.1 ∙ is)

pub ready_as : (lib : Library) (levels : ℕ) (st x : Statement) (s : Sight) → st ≡ x → IsStatementReady lib levels st s → IsStatementReady lib levels x s
ready_as lib levels st x s e h = subst (λ (z : Statement). IsStatementReady lib levels z s) e h

module _ (r : Run) (depth : ℕ) (s : Sight) where
  -- ---- statements by their form

  pub gives_decl : (st : Statement) (d : TDecl) → st ≡ stmt.Decl d → statement_flow r depth st s ≡ flow.declaration s d.name d.value
  gives_decl st d e = ap (λ (x : Statement). statement_flow r depth x s) e ∙ decl_is r depth s d

  -- ---- scatters

  abbrev names_in : List Statement → flow.Names
  names_in ss = body_names (spec.parts_of r depth ss)

  abbrev over : TScatter Statement → Outcome Value → Flowing
  over c o = flow.scattered (names_in c.body) (spec.body_flow r depth c.body) s c.number c.item o

  pub scatter_waits : (c : TScatter Statement) → all_known s.names c.over ≡ false → spec.scatter_flow r depth c s ≡ missing (names_in c.body)
  scatter_waits c h = ap (λ b. cond b (over c (value_of (before (env_of s.names)) c.over)) (missing (names_in c.body))) h

  pub scatter_as : (c : TScatter Statement) (o : Outcome Value) → all_known s.names c.over ≡ true → value_of (before (env_of s.names)) c.over ≡ o
      → spec.scatter_flow r depth c s ≡ over c o
  scatter_as c o h e = ap (λ b. cond b (over c (value_of (before (env_of s.names)) c.over)) (missing (names_in c.body))) h ∙ ap (over c) e

  none_together : (item : TScatter Statement) (i : ℕ) (xs : List Value) → all_together (each_item (spec.body_flow r depth []) s item.number item.item i xs) ≡ nothing
  none_together item i [] = refl
  none_together item i (x ∷ xs) = ap (λ (f : Flowing). together nothing f) (none_together item (i + 1) xs)

  -- a scatter whose body has no statements
  pub scattered_none : (c : TScatter Statement) (xs : List Value) → c.body ≡ [] → spec.scattered r depth c xs s ≡ counted 0
  scattered_none c xs e =
      ap (λ (ss : List Statement). gathered (names_in ss) (each_item (spec.body_flow r depth ss) s c.number c.item 0 xs)) e
      ∙ ap (λ (f : Flowing). with_names f [] []) (none_together c 0 xs)

  -- ---- conditions

  abbrev under : TIf Statement → Outcome Value → Flowing
  under c o = conditional (names_in c.body) (spec.body_flow r depth c.body) s c.number o

  pub if_waits : (c : TIf Statement) → all_known s.names c.cond ≡ false → spec.if_flow r depth c s ≡ missing (names_in c.body)
  if_waits c h = ap (λ b. cond b (under c (value_of (before (env_of s.names)) c.cond)) (missing (names_in c.body))) h

  pub if_as : (c : TIf Statement) (o : Outcome Value) → all_known s.names c.cond ≡ true → value_of (before (env_of s.names)) c.cond ≡ o → spec.if_flow r depth c s ≡ under c o
  if_as c o h e = ap (λ b. cond b (under c (value_of (before (env_of s.names)) c.cond)) (missing (names_in c.body))) h ∙ ap (under c) e

  pub if_false : (c : TIf Statement) (x : Value) → all_known s.names c.cond ≡ true → value_of (before (env_of s.names)) c.cond ≡ Ok x → bool_in x ≡ false
      → spec.if_flow r depth c s ≡ giving (Some v.Absent) true (names_in c.body)
  if_false c x h e b = if_as c (Ok x) h e ∙ ap (flow.chosen (names_in c.body) (spec.body_flow r depth c.body) s c.number) b

-- ---- workflows

pub flow_below : (r : Run) (calls k : ℕ) (given : List Bind) (place : List Segment) (o : Option FlowDef) → 0 < calls → slice_get r.library.flows k ≡ o
    → flow.flow r calls k given place ≡ flow_at r (flow.flow r (calls - 1)) o given place
flow_below r zero k given place o less e = absurd (omega (arith, less))
flow_below r (suc n) k given place o less e =
    ap (λ (x : Option FlowDef). flow_at r (flow.flow r n) x given place) e
    ∙ ap (λ m. flow_at r (flow.flow r m) o given place) (let one : n ≡ (suc n) - 1 = omega arith in one)

module _ (taken made told : Flowing) where
  abbrev all : Flowing
  all = together taken (together made (together told nothing))

  pub three : all ≡ together (together taken made) told
  three = ap (λ (f : Flowing). together taken (together made f)) (together_nothing told) ∙ sym (together_assoc taken made told)

  pub first_is_many : too_many taken ≡ true → too_many all ≡ true
  first_is_many h = many_left taken (together made (together told nothing)) h

  pub second_is_many : too_many made ≡ true → too_many all ≡ true
  second_is_many h = many_right taken (together made (together told nothing)) (many_left made (together told nothing) h)

  pub third_is_many : too_many told ≡ true → too_many all ≡ true
  third_is_many h = ap too_many three ∙ many_right (together taken made) told h

  pub two_are_many : too_many (together taken made) ≡ true → too_many all ≡ true
  two_are_many h = ap too_many three ∙ many_left (together taken made) told h

-- what a workflow gives: its inputs, its body and its outputs
module _ (r : Run) (depth : ℕ) (f : FlowDef) (given : List Bind) (place : List Segment) where
  abbrev taken_in : Flowing
  taken_in = flow.inputs given f.inputs (flow.beginning place)

  abbrev after_taken : Sight
  after_taken = seeing (flow.beginning place) taken_in

  abbrev made_in : Flowing
  made_in = spec.body_flow r depth f.body after_taken

  abbrev after_made : Sight
  after_made = seeing after_taken made_in

  abbrev told_in : Flowing
  told_in = flow.outputs f.outputs after_made

  abbrev ran : Flowing
  ran = flow.flow_run r (flow.flow r depth) f given (flow.beginning place)

  pub taken_is : (is : List TInput) (s : Sight) (x : Flowing) → is ≡ f.inputs → s ≡ flow.beginning place → x ≡ flow.inputs given is s → x ≡ taken_in
  taken_is is s x e b h = h ∙ ap (λ (js : List TInput). flow.inputs given js s) e ∙ ap (flow.inputs given f.inputs) b

  pub made_is : (ss : List Statement) (s : Sight) (x : Flowing) → ss ≡ f.body → s ≡ after_taken → x ≡ spec.body_flow r depth ss s → x ≡ made_in
  made_is ss s x e b h = h ∙ ap (λ (ts : List Statement). spec.body_flow r depth ts s) e ∙ ap (spec.body_flow r depth f.body) b

  pub told_is : (ds : List TDecl) (s : Sight) (x : Flowing) → ds ≡ f.outputs → s ≡ after_made → x ≡ flow.outputs ds s → x ≡ told_in
  told_is ds s x e b h = h ∙ ap (λ (es : List TDecl). flow.outputs es s) e ∙ ap (flow.outputs f.outputs) b

  pub sees_both : (s s' t : Sight) (x y : Flowing) → s' ≡ seeing s x → s ≡ t → x ≡ y → s' ≡ seeing t y
  sees_both s s' t x y h e i = h ∙ ap (λ z. seeing z x) e ∙ ap (seeing t) i

  pub taken_past : too_many taken_in ≡ true → too_many ran ≡ true
  taken_past = first_is_many taken_in made_in told_in

  pub made_past : too_many made_in ≡ true → too_many ran ≡ true
  made_past = second_is_many taken_in made_in told_in

  pub told_past : too_many told_in ≡ true → too_many ran ≡ true
  told_past = third_is_many taken_in made_in told_in

  pub both_past : too_many (together taken_in made_in) ≡ true → too_many ran ≡ true
  both_past = two_are_many taken_in made_in told_in

  pub ran_is : ran ≡ together (together taken_in made_in) told_in
  ran_is = three taken_in made_in told_in
