-- An answer keeps a plan growing.
use Rattle.std.proofs.Common.{◌≡◌, ◌<◌, ◌≤◌, ◌+◌, ℕ, true, false, List, [], ◌∷◌, ◌++◌, All, map, length, get_or, Option, Some, None, Ok, Err, slice_get, arith, ap, refl, subst, sym, ◌∙◌}
use Rattle.std.proofs.lemmas.Bool.{true≢false}
use Rattle.wdl_base.specs.declared.answer.Answer.{Answer}
use Rattle.wdl_base.specs.declared.place.Segment.{Segment}
use Rattle.wdl_value.specs.declared.env.Bind.{Bind}
use Rattle.wdl_value.specs.declared.value.Value.{Value}
use Rattle.wdl_value.specs.Tables.{Row, answer_at}
use Rattle.wdl_typed.specs.declared.flow.Statement.TheVariants as stmt
use Rattle.wdl_typed.specs.Bodies.{Library}
use Rattle.wdl_typed.specs.Flow.{failing_at}
use Rattle.wdl_typed.specs.Requests.{Asked, Failing, asks, bad_status, is_success, job_dir, tells}
use Rattle.step_net.specs.Views.{Wants}
use Rattle.value_net.specs.Nets.{joined, value_at}
use Rattle.net_laws.specs.Cost.{TaskCost}
use Rattle.net_laws.specs.Growing as net
use Rattle.net_laws.specs.Growing.{Form, does, mark_cell, slot_cell}
use Rattle.net_laws.specs.Net.{Work}
use Rattle.net_laws.proofs.Even.{work_even}
use Rattle.plan_moves.specs.Laws.{HasAnswered, TellsCall}
use Rattle.plan_moves.specs.Sheets.{Sheet, rules_of, state_of, taken_in}
use Rattle.plan_moves.specs.Telling.{HasOutputs, IsAnswered, IsUnset, IsWaiting, place_of, work_after}
use Rattle.plan_moves.proofs.Arrivals.{arrives}
use Rattle.plan_moves.proofs.Telling.{arrive, calls_tell}
use Rattle.plan_layout.specs.declared.layout.Layout.{Layout}
use Rattle.plan_growth.specs.declared.instance.Instance.{Instance}
use Rattle.plan_growth.specs.declared.rule.Rule.{Rule}
use Rattle.plan_growth.specs.Begun.{IsFree}
use Rattle.plan_growth.specs.Entering.{Sown}
use Rattle.plan_growth.specs.Growth.{AskedCall, Growth, IsAsker, IsGrowing, growth_work, sheet_of}
use Rattle.plan_growth.specs.Meaning.{rule_cells}
use Rattle.plan_growth.specs.News.{Stands}
use Rattle.plan_growth.proofs.Askers.{ended_set_same, task_kept}
use Rattle.plan_growth.proofs.Heads.{set_same, values_kept}
use Rattle.plan_growth.proofs.Moving.{means_kept}
use Rattle.plan_growth.proofs.Outer.{all_left, all_right}
use Rattle.plan_arrives.specs.Arrivals.{AnswersGoOn, AreAmong, HasArrived, NoneOf, SetsCells, row_at}

-- no cell has changed
nothing_set : (v : Sown) (owners : List ℕ) (t : ℕ) → SetsCells v owners t v
nothing_set v owners t = record { rules = refl; steps = refl; cells = refl; others = λ c u h n. refl; kept = λ c x h. h }

module _ (lib : Library) (layout : Layout) (site : List ℕ) (rows : List Row) (depth : ℕ) (form : Form) (v : Sown) (is : List Instance) (listed : Work) (asked : List AskedCall) (paid : TaskCost → ℕ)
    (growing : IsGrowing lib layout site rows depth form v is listed asked paid) (j : ℕ) (c : AskedCall) (at : slice_get asked j ≡ Some c) where
  abbrev rules : List net.Rule
  rules = growing.growth.rules

  abbrev owners : List ℕ
  owners = growing.growth.owners

  abbrev asker : IsAsker lib layout site rows growing.growth c
  asker = growing.asks j c at

  abbrev place : List Segment
  place = place_of asker.scope asker.call

  -- ---- another net, over more rows

  module _ (w : Sown) (sets : SetsCells v owners c.step w) (more : List Row) (elsewhere : (other : List Segment) → (other ≡ place → ⊥) → (attempt : ℕ) → answer_at rows other attempt ≡ answer_at more other attempt)
      (was now : Work) (told : TellsCall lib site rows (sheet_of v rules) asker.call asker.scope asker.given was) (tells_now : TellsCall lib site more (sheet_of w rules) asker.call asker.scope asker.given now) where
    abbrev old : Sheet
    old = sheet_of v rules

    abbrev new : Sheet
    new = sheet_of w rules

    set_in : (o : Option (Option Value)) (x : Value) → joined o ≡ Some x → o ≡ Some (Some x)
    set_in None x h = absurd (let f : ⊥ = cc in f)
    set_in (Some o) x h = ap (λ (p : Option Value). Some p) h

    answered : HasAnswered lib site rows more old new owners was now depth form growing.growth.grown
    answered =
        arrives lib site rows more c.step old new owners asker.call asker.scope asker.given asker.done was now
        (record {
          taken = asker.taken;
          rules = refl;
          steps = sets.steps;
          others = λ d u h n. ap joined (sets.others d u h n);
          kept = λ d x h. ap joined (sets.kept d x (set_in (slice_get v.values d) x h));
          elsewhere = elsewhere;
        })
        asker.rule told tells_now depth form growing.root growing.growth.grown asker.once

    abbrev growth_now : Growth lib layout site more depth form w
    growth_now = record { rules = rules; owners = owners; grown = answered.grown }

    free_on : (u : ℕ) (cells : List ℕ) → ((d : ℕ) → slice_get owners d ≡ Some u → slice_get w.values d ≡ slice_get v.values d) → All (IsFree old owners u) cells → All (IsFree new owners u) cells
    free_on u cells same h i d lt = let f = h i d lt in (f.0, same (get_or cells i d) f.0 ∙ f.1)

    stands_now : (u : ℕ) (r : Rule) (x : Wants) (m : net.Rule) → slice_get w.rules u ≡ Some r → slice_get w.steps u ≡ Some x → slice_get rules u ≡ Some m → Stands lib layout is new owners u r x m
    stands_now u r x m code step rule_ =
        let h = growing.stands u r x m (ap (λ (rs : List Rule). slice_get rs u) (sym sets.rules) ∙ code) (ap (λ (ws : List Wants). slice_get ws u) (sym sets.steps) ∙ step) rule_ in
        let size = sets.cells in
        record {
          means = means_kept lib layout is is (λ i y e. e) (length v.values) (length w.values) (omega (arith, size)) r x.needs m h.means;
          free = λ e. free_on u (rule_cells m) (λ d own. sets.others d u own (λ same. true≢false (sym asker.taken ∙ ap (λ (n : ℕ). taken_in (slice_get v.steps n)) (sym same)
              ∙ ap (λ (ws : List Wants). taken_in (slice_get ws u)) (sym sets.steps) ∙ ap taken_in step ∙ e))) (h.free e);
          within = λ i d lt. (let inside = h.within i d lt in omega (arith, inside, size));
        }

    asker_now : (d : AskedCall) → ((e : ℕ) → slice_get owners e ≡ Some d.step → slice_get w.values e ≡ slice_get v.values e) → IsAsker lib layout site rows growing.growth d → IsAsker lib layout site more growth_now d
    asker_now d same h =
        let stays = values_kept v.values w.values sets.kept in
        record {
          call = h.call;
          scope = h.scope;
          given = h.given;
          done = h.done;
          rule = h.rule;
          taken = ap (λ (ws : List Wants). taken_in (slice_get ws d.step)) sets.steps ∙ h.taken;
          once = λ n. answered.leaves d.step n ∙ h.once n;
          free = free_on d.step (rule_cells (does (stmt.Call h.call) h.scope h.given h.done)) same h.free;
          place = h.place;
          calls_task = task_kept lib old new h.call h.scope h.given d.args d.task stays h.calls_task h.names_set h.calls_set;
          names_set = set_same (value_at v.values) (value_at w.values) h.calls_task.slots h.names_set stays;
          calls_set = ended_set_same (value_at v.values) (value_at w.values) h.calls_task.marks h.calls_set stays;
        }

    growing_now : (later : List AskedCall)
        → ((i : ℕ) (d : AskedCall) → slice_get later i ≡ Some d → (m : ℕ) × (slice_get asked m ≡ Some d) × ((e : ℕ) → slice_get owners e ≡ Some d.step → slice_get w.values e ≡ slice_get v.values e))
        → HasArrived lib layout site more depth form w is listed later paid was now
    growing_now later among =
        record {
          lists = growth_work lib layout site more growth_now;
          even = work_even lib site more (rules_of new) (state_of new owners) answered.grown;
          swaps = λ weight is_weight.
              let a = answered.weighs weight is_weight in
              let b = growing.weighs weight is_weight in
              omega (arith, a, b);
          growing =
              record {
                laid = growing.laid;
                root = growing.root;
                growth = growth_now;
                even =
                    (let codes = growing.even.codes in
                    let means = growing.even.rules_too in
                    let cells = growing.even.owners_too in
                    let a = ap length sets.rules in
                    let b = ap length sets.steps in
                    let size = sets.cells in
                    record { codes = omega (arith, codes, a, b); rules_too = omega (arith, means, b); owners_too = omega (arith, cells, size) });
                stands = stands_now;
                weighs = λ weight is_weight. refl;
                once = λ u m rule_ leaf left n. answered.leaves u n ∙ growing.once u m rule_ leaf (ap (λ (ws : List Wants). taken_in (slice_get ws u)) (sym sets.steps) ∙ left) n;
                fresh = λ u n le. (let b = ap length sets.steps in answered.leaves u n ∙ growing.fresh u n (omega (arith, b, le)));
                asks = λ i d e. (let m = among i d e in asker_now d m.2 (growing.asks m.0 d m.1));
                spends = λ task. (let a = answered.spends task in let b = growing.spends task in omega (arith, a, b));
              };
        }

  -- ---- what the answer tells

  module _ (a : Asked) (k : ℕ) (answer : Answer) (is_asked : asks c.task c.args ≡ Ok a) (waits : IsWaiting rows place a k) where
    abbrev row : Row
    row = row_at place k answer

    abbrev more : List Row
    more = rows ++ row ∷ []

    abbrev was : Work
    was = work_after site place a k [] (place ∷ [])

    abbrev Gives : Sown → List AskedCall → Work → Type 0
    Gives w later now = HasArrived lib layout site more depth form w is listed later paid was now

    elsewhere : (other : List Segment) → (other ≡ place → ⊥) → (attempt : ℕ) → answer_at rows other attempt ≡ answer_at more other attempt
    elsewhere other n attempt = arrive.elsewhere rows row other n attempt

    over : IsAnswered more place a k answer
    over = arrive.answers rows row a waits

    abbrev Free : ℕ → Type 0
    Free = IsFree (sheet_of v rules) owners c.step

    unset : IsUnset (sheet_of v rules) asker.given
    unset =
        let cells = asker.free in
        let behind = map mark_cell asker.given.calls ++ asker.done ∷ [] in
        record {
          names = λ i d lt. ap joined (all_left Free (map slot_cell asker.given.names) behind cells i d lt).1;
          calls = λ i d lt. ap joined (all_left Free (map mark_cell asker.given.calls) (asker.done ∷ []) (all_right Free (map slot_cell asker.given.names) behind cells) i d lt).1;
        }

    told : TellsCall lib site rows (sheet_of v rules) asker.call asker.scope asker.given was
    told = calls_tell.waits lib site rows (sheet_of v rules) asker.call asker.scope asker.given c.args c.task a k asker.calls_task is_asked waits unset

    among_same : (later : List AskedCall) → AreAmong later asked
        → (i : ℕ) (d : AskedCall) → slice_get later i ≡ Some d → (m : ℕ) × (slice_get asked m ≡ Some d) × ((e : ℕ) → slice_get owners e ≡ Some d.step → slice_get v.values e ≡ slice_get v.values e)
    among_same later among i d e = let m = among i d e in (m.0, m.1, λ cell own. refl)

    still : (now : Work) → TellsCall lib site more (sheet_of v rules) asker.call asker.scope asker.given now → (later : List AskedCall) → AreAmong later asked → Gives v later now
    still now tells_now later among = growing_now v (nothing_set v owners c.step) more elsewhere was now told tells_now later (among_same later among)

    goes_done : is_success a.codes answer.status ≡ true → (outs : List Bind) → tells lib.structs c.task a (job_dir site place k) answer ≡ Ok outs → (w : Sown) → SetsCells v owners c.step w
        → HasOutputs (sheet_of w rules) asker.call asker.given outs → (later : List AskedCall) → AreAmong later asked → NoneOf later c.step → Gives w later (work_after site place a k [] [])
    goes_done success outs is_told w sets has later among none =
        growing_now w sets more elsewhere was (work_after site place a k [] []) told
        (calls_tell.done lib site more (sheet_of w rules) asker.call asker.scope asker.given c.args c.task a k answer outs
        (task_kept lib (sheet_of v rules) (sheet_of w rules) asker.call asker.scope asker.given c.args c.task (values_kept v.values w.values sets.kept) asker.calls_task asker.names_set asker.calls_set) is_asked over success is_told has)
        later (λ i d e. (let m = among i d e in (m.0, m.1, λ cell own. sets.others cell d.step own (none i d e))))

    goes_failed : is_success a.codes answer.status ≡ true → (e : Failing) → tells lib.structs c.task a (job_dir site place k) answer ≡ Err e → (later : List AskedCall) → AreAmong later asked
        → Gives v later (work_after site place a k (failing_at place e ∷ []) [])
    goes_failed success e is_told later among =
        still (work_after site place a k (failing_at place e ∷ []) [])
        (calls_tell.failed lib site more (sheet_of v rules) asker.call asker.scope asker.given c.args c.task a k answer e asker.calls_task is_asked over success is_told unset) later among

    goes_refused : is_success a.codes answer.status ≡ false → a.retries ≤ k → (later : List AskedCall) → AreAmong later asked
        → Gives v later (work_after site place a k (failing_at place (bad_status answer.status) ∷ []) [])
    goes_refused refused last later among =
        let within = waits.tried.within in
        still (work_after site place a k (failing_at place (bad_status answer.status) ∷ []) [])
        (calls_tell.refused lib site more (sheet_of v rules) asker.call asker.scope asker.given c.args c.task a k answer asker.calls_task is_asked over refused (omega (arith, within, last)) unset) later among

    next_waits : is_success a.codes answer.status ≡ false → k < a.retries → IsWaiting more place a (k + 1)
    next_waits refused lt = arrive.next more place a k answer over refused lt

    goes_again : is_success a.codes answer.status ≡ false → k < a.retries → (later : List AskedCall) → AreAmong later asked → Gives v later (work_after site place a (k + 1) [] (place ∷ []))
    goes_again refused lt later among =
        still (work_after site place a (k + 1) [] (place ∷ []))
        (calls_tell.waits lib site more (sheet_of v rules) asker.call asker.scope asker.given c.args c.task a (k + 1) asker.calls_task is_asked (next_waits refused lt) unset) later among

-- ---- the same at the place that the plan has of the call

-- what an answer makes of a plan, at a place
record GoesAt (lib : Library) (layout : Layout) (site : List ℕ) (rows : List Row) (depth : ℕ) (form : Form) (v : Sown) (is : List Instance) (listed : Work) (asked : List AskedCall) (paid : TaskCost → ℕ)
    (growing : IsGrowing lib layout site rows depth form v is listed asked paid) (j : ℕ) (c : AskedCall) (at : slice_get asked j ≡ Some c) (a : Asked) (k : ℕ) (answer : Answer) (place : List Segment) : Type 0 where
  pub done : is_success a.codes answer.status ≡ true → (outs : List Bind) → tells lib.structs c.task a (job_dir site place k) answer ≡ Ok outs → (w : Sown) → SetsCells v growing.growth.owners c.step w
      → HasOutputs (sheet_of w growing.growth.rules) (growing.asks j c at).call (growing.asks j c at).given outs → (later : List AskedCall) → AreAmong later asked → NoneOf later c.step
      → HasArrived lib layout site (rows ++ row_at place k answer ∷ []) depth form w is listed later paid (work_after site place a k [] (place ∷ [])) (work_after site place a k [] [])
  pub failed : is_success a.codes answer.status ≡ true → (e : Failing) → tells lib.structs c.task a (job_dir site place k) answer ≡ Err e → (later : List AskedCall) → AreAmong later asked
      → HasArrived lib layout site (rows ++ row_at place k answer ∷ []) depth form v is listed later paid (work_after site place a k [] (place ∷ [])) (work_after site place a k (failing_at place e ∷ []) [])
  pub refused : is_success a.codes answer.status ≡ false → a.retries ≤ k → (later : List AskedCall) → AreAmong later asked
      → HasArrived lib layout site (rows ++ row_at place k answer ∷ []) depth form v is listed later paid (work_after site place a k [] (place ∷ [])) (work_after site place a k (failing_at place (bad_status answer.status) ∷ []) [])
  pub again : is_success a.codes answer.status ≡ false → k < a.retries → (later : List AskedCall) → AreAmong later asked
      → HasArrived lib layout site (rows ++ row_at place k answer ∷ []) depth form v is listed later paid (work_after site place a k [] (place ∷ [])) (work_after site place a (k + 1) [] (place ∷ []))
      × IsWaiting (rows ++ row_at place k answer ∷ []) place a (k + 1)

pub answers : AnswersGoOn
answers lib layout site rows depth form v is listed asked paid growing j c at a k answer is_asked waits =
    let q = growing.asks j c at in
    let own = place_of q.scope q.call in
    let w : IsWaiting rows own a k = subst (λ (p : List Segment). IsWaiting rows p a k) q.place waits in
    let here : GoesAt lib layout site rows depth form v is listed asked paid growing j c at a k answer own =
    record {
      done = goes_done lib layout site rows depth form v is listed asked paid growing j c at a k answer is_asked w;
      failed = goes_failed lib layout site rows depth form v is listed asked paid growing j c at a k answer is_asked w;
      refused = goes_refused lib layout site rows depth form v is listed asked paid growing j c at a k answer is_asked w;
      again = λ r lt later among.
          (goes_again lib layout site rows depth form v is listed asked paid growing j c at a k answer is_asked w r lt later among, next_waits lib layout site rows depth form v is listed asked paid growing j c at a k answer is_asked w r lt);
    } in
    let there = subst (GoesAt lib layout site rows depth form v is listed asked paid growing j c at a k answer) (sym q.place) here in
    record { done = there.done; failed = there.failed; refused = there.refused; again = there.again }
