-- Each kind of step keeps a plan growing, as the laws say it.
use Rattle.std.proofs.Common.{◌≡◌, ℕ, ◌+◌, ◌≤◌, List, Some, slice_get, arith, sym, subst, refl}
use Rattle.wdl_value.specs.Tables.{Row}
use Rattle.wdl_typed.specs.declared.flow.FlowDef.{FlowDef}
use Rattle.wdl_typed.specs.declared.flow.Statement.TheVariants as stmt
use Rattle.wdl_typed.specs.declared.flow.TCall.{TCall}
use Rattle.wdl_typed.specs.Bodies.{Library}
use Rattle.value_net.specs.Nets.{IsTaken, with_taken}
use Rattle.net_laws.specs.Cost.{TaskCost}
use Rattle.net_laws.specs.Growing.{Form}
use Rattle.net_laws.specs.Moving.{IsWeight}
use Rattle.net_laws.specs.Net.{Work, no_work}
use Rattle.plan_layout.specs.declared.layout.BodyLayout.{BodyLayout}
use Rattle.plan_layout.specs.declared.layout.Layout.{Layout}
use Rattle.plan_layout.specs.declared.layout.StatementLayout.{StatementLayout}
use Rattle.plan_growth.specs.declared.instance.Instance.{Instance}
use Rattle.plan_growth.specs.declared.rule.Rule.TheVariants as rule
use Rattle.plan_growth.specs.Entering.{Sown}
use Rattle.plan_growth.specs.Growth.{IsGrowing, AskedCall}
use Rattle.plan_growth.specs.Keeps.{BlocksGoOn, CallsGoOn, DeclarationsGoOn, IsAt, JointsGoOn}
use Rattle.plan_growth.specs.Laws.{PlansBegin, PlansGoOn}
use Rattle.plan_growth.proofs.Blocking.{if_fails, if_off, if_on, scatter_fails, scatter_goes}
use Rattle.plan_growth.proofs.Calling.{args_fail, flow_goes, task_asked, task_fails}
use Rattle.plan_growth.proofs.Goes.{as_listed}
use Rattle.plan_growth.proofs.Keeping.{copies_goes, copies_one, decl_goes, ends_goes, gathers_goes, input_goes, output_goes}
use Rattle.plan_growth.proofs.Started.{plan_starts}

module _ (lib : Library) (layout : Layout) (site : List ℕ) (rows : List Row) (depth : ℕ) (form : Form) (v : Sown) (is : List Instance) (listed : Work) (asked : List AskedCall) (paid : TaskCost → ℕ)
    (g : IsGrowing lib layout site rows depth form v is listed asked paid) (t : ℕ) (w : Sown) (taken : IsTaken v t w) where
  -- lists with nothing more
  relist : (net_now : Sown) → IsGrowing lib layout site rows depth form net_now is listed asked paid → (later : Work) → ((weight : Work → ℕ) → IsWeight weight → weight later ≡ weight listed + weight no_work) → (later_paid : TaskCost → ℕ)
      → ((task : TaskCost) → later_paid task ≤ paid task + 0) → IsGrowing lib layout site rows depth form net_now is later asked later_paid
  relist net_now h later lists later_paid pays =
      as_listed lib layout site rows depth form net_now is listed asked paid h later
      (λ weight is_weight.
      let e = lists weight is_weight in
      let z = is_weight.nothing in
      omega (arith, e, z)) later_paid (λ task. let e = pays task in omega (arith, e))

  joints_now : JointsGoOn lib layout site rows depth form v is listed asked paid t (with_taken v t taken.step) taken.step
  joints_now =
      record {
        gathers = λ c code xs e. relist _ (gathers_goes lib layout site rows depth form v is listed asked paid g t (rule.Gathers c) code taken.step taken.there taken.fresh taken.ready c refl xs e);
        ends = λ c code. relist _ (ends_goes lib layout site rows depth form v is listed asked paid g t (rule.Ends c) code taken.step taken.there taken.fresh taken.ready c refl);
        copies_one = λ c code. copies_one lib layout site rows depth form v is listed asked paid g t (rule.Copies c) code taken.step taken.there taken.fresh taken.ready c refl;
        copies = λ c code from needs x e. relist _ (copies_goes lib layout site rows depth form v is listed asked paid g t (rule.Copies c) code taken.step taken.there taken.fresh taken.ready c refl from needs x e);
      }

  declarations_now : DeclarationsGoOn lib layout site rows depth form v is listed asked paid t (with_taken v t taken.step) taken.step
  declarations_now =
      record {
        declaration = λ i k code q body flow l x at o e.
            decl_goes lib layout site rows depth form v is listed asked paid g t (rule.Statement i k) code taken.step taken.there taken.fresh taken.ready i k refl q body flow l x at o e;
        input = λ i k code q body flow fl x e needs at o is_.
            input_goes lib layout site rows depth form v is listed asked paid g t (rule.Input i k) code taken.step taken.there taken.fresh taken.ready i k refl q body flow fl x e needs at o is_;
        output = λ i k code q body flow fl x needs at o is_.
            output_goes lib layout site rows depth form v is listed asked paid g t (rule.Output i k) code taken.step taken.there taken.fresh taken.ready i k refl q body flow fl x needs at o is_;
      }

  module _ (i k : ℕ) (code : slice_get v.rules t ≡ Some (rule.Statement i k)) (q : Instance) (body : BodyLayout) (flow : FlowDef) (l : StatementLayout) where
    blocks_now : BlocksGoOn lib layout site rows depth form v is listed asked paid t (with_taken v t taken.step) taken.step i k code q body flow l
    blocks_now =
        record {
          scatter = λ x at inner inner_there y e.
              scatter_goes lib layout site rows depth form v is listed asked paid g t (rule.Statement i k) code taken.step taken.there taken.fresh taken.ready i k refl q body flow l x at inner inner_there y e;
          scatter_fails = λ x at c e.
              scatter_fails lib layout site rows depth form v is listed asked paid g t (rule.Statement i k) code taken.step taken.there taken.fresh taken.ready i k refl q body flow l x at c e;
          condition = λ x at inner inner_there y e on.
              if_on lib layout site rows depth form v is listed asked paid g t (rule.Statement i k) code taken.step taken.there taken.fresh taken.ready i k refl q body flow l x at inner inner_there y e on;
          condition_off = λ x at y e off later lists later_paid pays.
              as_listed lib layout site rows depth form _ is listed asked later_paid
              (if_off lib layout site rows depth form v is listed asked paid g t (rule.Statement i k) code taken.step taken.there taken.fresh taken.ready i k refl q body flow l x at y e off later_paid pays) later
              (λ weight is_weight.
              let f = lists weight is_weight in
              let z = is_weight.nothing in
              omega (arith, f, z)) later_paid (λ task. omega arith);
          condition_fails = λ x at c e.
              if_fails lib layout site rows depth form v is listed asked paid g t (rule.Statement i k) code taken.step taken.there taken.fresh taken.ready i k refl q body flow l x at c e;
        }

    module _ (x : TCall) (at : IsAt lib layout is i k q body flow l (stmt.Call x)) where
      calls_now : CallsGoOn lib layout site rows depth form v is listed asked paid t (with_taken v t taken.step) taken.step i k code q body flow l x at
      calls_now =
          record {
            arguments_fail = λ e f. args_fail lib layout site rows depth form v is listed asked paid g t (rule.Statement i k) code taken.step taken.there taken.fresh taken.ready i k refl q body flow l x at e f;
            task_fails = λ c target y found args met e f.
                task_fails lib layout site rows depth form v is listed asked paid g t (rule.Statement i k) code taken.step taken.there taken.fresh taken.ready i k refl q body flow l x at c target y found args met e f;
            task = λ c target y found args met a e none.
                task_asked lib layout site rows depth form v is listed asked paid g t (rule.Statement i k) code taken.step taken.there taken.fresh taken.ready i k refl q body flow l x at c target y found args met a e none;
            workflow = λ c target f found fl fl_there own own_there sees args met.
                flow_goes lib layout site rows depth form v is listed asked paid g t (rule.Statement i k) code taken.step taken.there taken.fresh taken.ready i k refl q body flow l x at c target f found fl fl_there own own_there sees args met;
          }

pub plans_go_on : PlansGoOn
plans_go_on =
    record {
      joints = λ lib layout site rows depth form v is listed asked paid g t w taken.
          subst (λ (u : Sown). JointsGoOn lib layout site rows depth form v is listed asked paid t u taken.step) (sym taken.now) (joints_now lib layout site rows depth form v is listed asked paid g t w taken);
      declarations = λ lib layout site rows depth form v is listed asked paid g t w taken.
          subst (λ (u : Sown). DeclarationsGoOn lib layout site rows depth form v is listed asked paid t u taken.step) (sym taken.now) (declarations_now lib layout site rows depth form v is listed asked paid g t w taken);
      blocks = λ lib layout site rows depth form v is listed asked paid g t w taken i k code q body flow l.
          subst (λ (u : Sown). BlocksGoOn lib layout site rows depth form v is listed asked paid t u taken.step i k code q body flow l) (sym taken.now) (blocks_now lib layout site rows depth form v is listed asked paid g t w taken i k code q body flow l);
      calls = λ lib layout site rows depth form v is listed asked paid g t w taken i k code q body flow l x at.
          subst (λ (u : Sown). CallsGoOn lib layout site rows depth form v is listed asked paid t u taken.step i k code q body flow l x at) (sym taken.now) (calls_now lib layout site rows depth form v is listed asked paid g t w taken i k code q body flow l x at);
    }

pub plans_begin : PlansBegin
plans_begin lib layout site rows laid main checked k f found sees fl fl_there own own_there given depth deep = plan_starts lib layout site rows laid main checked k f found sees fl fl_there given depth deep own own_there
