-- What grows has at any time no more than its flow: by induction, for every sight that sees no less than the cells say.
use Rattle.std.proofs.Common.{◌≡◌, ℕ, zero, suc, ◌+◌, Bool, true, ◌&&◌, inl, inr, List, [], ◌∷◌, ◌++◌, All, length, length-append, map, Option, Some, None, Ok, Err, codes, slice_get, arith, ap, refl, subst, sym, ◌∙◌}
use Rattle.std.proofs.lemmas.Bool.{and_from, and_parts}
use Rattle.std.proofs.lemmas.List.{length-map, map-append}
use Rattle.std.proofs.lemmas.List.Folds.{list_all-append, list_all-map}
use Rattle.wdl_base.specs.declared.place.Segment.{Segment}
use Rattle.wdl_base.specs.declared.place.Segment.TheVariants as segment
use Rattle.wdl_value.specs.declared.env.Bind.{Bind}
use Rattle.wdl_value.specs.declared.value.Value.{Value}
use Rattle.wdl_value.specs.declared.value.Value.TheVariants as v
use Rattle.wdl_value.specs.Outcome.{Outcome}
use Rattle.wdl_value.specs.Parts.{items_in}
use Rattle.wdl_value.specs.Tables.{Row}
use Rattle.wdl_typed.specs.declared.expr.TExpr.{TExpr}
use Rattle.wdl_typed.specs.declared.flow.FlowDef.{FlowDef}
use Rattle.wdl_typed.specs.declared.flow.Statement.{Statement, Statement-F, fold_out-Statement, map-Statement, out-Statement}
use Rattle.wdl_typed.specs.declared.flow.Statement.TheOpen as layer
use Rattle.wdl_typed.specs.declared.flow.Statement.TheVariants as stmt
use Rattle.wdl_typed.specs.declared.flow.TCall.{TCall}
use Rattle.wdl_typed.specs.declared.flow.TIf.{TIf}
use Rattle.wdl_typed.specs.declared.flow.TScatter.{TScatter}
use Rattle.wdl_typed.specs.declared.task.TDecl.{TDecl}
use Rattle.wdl_typed.specs.declared.task.TInput.{TInput}
use Rattle.wdl_typed.specs.Bodies.{Library}
use Rattle.wdl_typed.specs.Declarations.{plain_key}
use Rattle.wdl_typed.specs.Flow.{Callee, Ended, Flowing, Known, Names, Part, Run, Runner, Sight, all_together, beginning, body_run, call_of, chosen, conditional, declaration, default_of, each_item, fault_at, flow, flow_at, flow_ended, flow_run, gathered, giving, in_turn, input_of, inputs, is_clean, item_sight, known, missing, named as named_known, nothing, outputs, run_of_part, scattered, seeing, statement_step, statements, together, with_fault}
use Rattle.wdl_typed.specs.Journal.{keys_distinct}
use Rattle.wdl_typed.specs.Scope.{lookup}
use Rattle.flow_laws.specs.Laws.{run_with}
use Rattle.flow_laws.proofs.Guarded.{declaration_good}
use Rattle.flow_laws.proofs.KnownNames.{NamesStay, names_stay_both}
use Rattle.flow_laws.proofs.Runners.{sight}
use Rattle.flow_laws.proofs.Under.{CallsStay, Gives, Under, under_count, under_equal, under_itself, under_missing, under_together}
use Rattle.flow_laws.proofs.Within.{within_both, within_nothing}
use Rattle.net_laws.specs.Net.{Cells, Given, Mark, Scope, Work, beyond, both_given, both_works, ended_in, flowing_of, inward, item_scope, known_in, no_work, slot_keys}
use Rattle.net_laws.specs.Planned.{call_names, counted, names_in, part_of}
use Rattle.net_laws.specs.Rules.{head}
use Rattle.net_laws.specs.Growing.{AllEnding, AllGathered, Declared, Ending, EndsAt, Form, Growing, IsNamed, IsOutside, Item, Keeps, KeepsCells, NamesNeeded, OutputsCopied, Rule, State, absent_input, all, all_dones, are_set, body_given, default_input, each, each_scatter, failed_if, failed_scatter, false_if, flow_whole, given_input, is_set, item_next, left_call, left_decl, left_if, left_scatter, mark_cell, next, no_input, no_item, no_output, none_left, nothing_given, one, only, output_next, run_call, slot_cell, start, takes, tells, told_call, told_decl, true_if, whole}
use Rattle.net_laws.specs.Laws.{IsBeneath}
use Rattle.net_laws.specs.Works.{faulty, told_work, work_of}
use Rattle.net_laws.proofs.Finished.{outside_missing}
use Rattle.net_laws.proofs.Further.{Sees, call_further, declaration_further, head_further, sees_beyond}
use Rattle.net_laws.proofs.Giving.{statement_gives}
use Rattle.net_laws.proofs.Joined.{ItemsStay, done_set, ending_stay, gathered_stay, marks_stay, outputs_stay, slots_stay}
use Rattle.net_laws.proofs.Leaves.{call_ready, call_slots, clean_both, kept_unset, needs_known, needs_slots, unset_not}
use Rattle.net_laws.proofs.Naming.{given_same, name_same, named}
use Rattle.net_laws.proofs.Sets.{and_true, missing_is, slots_set}
use Rattle.net_laws.proofs.Settles.{call_settles, clean, declaration_settles}
use Rattle.net_laws.proofs.Shown.{both_flow, on_head}
use Rattle.net_laws.proofs.Whole.{flow_called_is}

fits_nothing : (f : Flowing) → IsBeneath no_work f
fits_nothing f = record { jobs = within_nothing f.jobs; size = omega arith; faults = within_nothing f.faults; count = omega arith }

fits_both : (v w : Work) (f g : Flowing) → IsBeneath v f → IsBeneath w g → IsBeneath (both_works v w) (together f g)
fits_both v w f g h j =
    record {
      jobs = within_both v.jobs f.jobs w.jobs g.jobs h.jobs j.jobs;
      size = omega (arith, h.size, j.size, length-append v.jobs w.jobs, length-append f.jobs g.jobs);
      faults = within_both v.faults f.faults w.faults g.faults h.faults j.faults;
      count = omega (arith, h.count, j.count);
    }

fits_under : (cells : Cells) (g : Given) (w : Work) (f : Flowing) → Under (flowing_of cells g w) f → IsBeneath w f
fits_under cells g w f u = record { jobs = u.jobs; size = u.size; faults = u.faults; count = u.count }

work_in_flow : Flowing → Work
work_in_flow f = record { jobs = f.jobs; codes = f.codes; faults = f.faults; waits = f.waits; count = f.count }

clean_together : (f g : Flowing) → is_clean f ≡ true → is_clean g ≡ true → is_clean (together f g) ≡ true
unfolding work_in_flow
clean_together f g h j = clean_both (work_in_flow f) (work_in_flow g) ∙ and_from (is_clean f) (is_clean g) h j

module _ (lib : Library) (site : List ℕ) (table : List Row) (desc : ℕ → Rule → Type 0) (st : State) where
  abbrev pub run : Run
  run = run_with lib site table

  abbrev pub callee : ℕ → Callee
  callee depth = flow run depth

  abbrev pub part : ℕ → Statement → Part
  part depth = part_of run (callee depth)

  abbrev pub work : {depth : ℕ} {f : Form} → Growing lib site table desc st depth f → Work
  work p = work_of lib site table desc st p

  -- ---- what each form comes to

  -- At each sight that sees no less, it has no more than the runner gives there; and once it is done, nothing failed there and nothing
  -- waits.
  pub record Beneath (s : Scope) (f : Runner) (g : Given) (w : Work) (done : Bool) : Type 0 where
    pub under : (ls : List Known) (es : List Ended) → Sees st.cells s ls es → Under (flowing_of st.cells g w) (f (sight s.place ls es))
    pub ends : (ls : List Known) (es : List Ended) → Sees st.cells s ls es → done ≡ true → is_clean (f (sight s.place ls es)) ≡ true

  pub record EachBeneath (s : Scope) (keys : List Statement) (body : Runner) (k : ℕ) (item : List ℕ) (i : ℕ) (ys : List Value) (qs : List Item) (w : Work) : Type 0 where
    pub items : (ls : List Known) (es : List Ended) → Sees st.cells s ls es → ItemsStay lib site table desc st (body_given lib keys).keys qs (each_item body (sight s.place ls es) k item i ys)
    pub under : (ls : List Known) (es : List Ended) → Sees st.cells s ls es → IsBeneath w (all_together (each_item body (sight s.place ls es) k item i ys))
    pub ends : (ls : List Known) (es : List Ended) → Sees st.cells s ls es → are_set st (all_dones lib site table desc st qs) ≡ true → is_clean (all_together (each_item body (sight s.place ls es) k item i ys)) ≡ true

  pub record WholeBeneath (depth : ℕ) (f : FlowDef) (given : List Bind) (place : List Segment) (g : Given) (ds : List ℕ) (w : Work) : Type 0 where
    pub under : Under (flowing_of st.cells g w) (flow_run run (callee depth) f given (beginning place))
    pub ends : are_set st ds ≡ true → is_clean (flow_run run (callee depth) f given (beginning place)) ≡ true

  abbrev pub taking : List Bind → TInput → Runner
  taking given i t = input_of t i (lookup given (plain_key i.name))

  abbrev pub telling : TDecl → Runner
  telling x t = declaration t x.name x.value

  abbrev pub turns : ℕ → List Statement → Runner
  turns depth xs = in_turn (map run_of_part (map (part depth) xs))

  abbrev pub BeneathForm : ℕ → Form → Work → Type 0
  BeneathForm depth (one x s g d) w = Beneath s (run_of_part (part depth x)) g w (is_set st d)
  BeneathForm depth (all xs s g ds) w = Beneath s (turns depth xs) g w (are_set st ds)
  BeneathForm depth (each xs s k item i ys qs) w = EachBeneath s xs (body_run (map (part depth) xs)) k item i ys qs w
  BeneathForm depth (takes given is s g) w = Beneath s (inputs given is) g w (slots_set st.cells g.names)
  BeneathForm depth (tells ds s g) w = Beneath s (outputs ds) g w (slots_set st.cells g.names)
  BeneathForm depth (whole f given place g ds) w = WholeBeneath depth f given place g ds w

  -- ---- what is exact, what is missing, and what stands for another runner

  exact : (s : Scope) (f : Runner) (g : Given) (w : Work) (done : Bool) → ((ls : List Known) (es : List Ended) → Sees st.cells s ls es → f (sight s.place ls es) ≡ flowing_of st.cells g w) → (done ≡ true → clean w ≡ true)
      → Beneath s f g w done
  exact s f g w done e c =
      record {
        under = λ ls es h. under_equal (flowing_of st.cells g w) (f (sight s.place ls es)) (sym (e ls es h));
        ends = λ ls es h d. ap is_clean (e ls es h) ∙ c d;
      }

  lacking : (s : Scope) (f : Runner) (n : Names) (g : Given) (done : Bool) → IsNamed n g → All (λ c. st.cells c ≡ None) (map slot_cell g.names) → All (λ c. st.cells c ≡ None) (map mark_cell g.calls)
      → ((t : Sight) → Gives n (f t)) → (done ≡ true → ⊥) → Beneath s f g no_work done
  lacking s f n g done named_ names calls gives not_done =
      record {
        under = λ ls es h. subst (λ (x : Flowing). Under x (f (sight s.place ls es))) (missing_is st.cells n g named_ names calls) (under_missing n (f (sight s.place ls es)) (gives (sight s.place ls es)));
        ends = λ ls es h d. absurd (not_done d);
      }

  as_runner : (s : Scope) (f h : Runner) (g : Given) (w : Work) (done : Bool) → ((t : Sight) → f t ≡ h t) → Beneath s h g w done → Beneath s f g w done
  as_runner s f h g w done e b =
      record {
        under = λ ls es q. subst (Under (flowing_of st.cells g w)) (sym (e (sight s.place ls es))) (b.under ls es q);
        ends = λ ls es q d. ap is_clean (e (sight s.place ls es)) ∙ b.ends ls es q d;
      }

  -- a statement that is left
  left_one : (depth : ℕ) (x : Statement) (s : Scope) (g : Given) (d t : ℕ) → IsNamed (part_of (run_with lib [] []) (λ k given place. nothing) x).names g → KeepsCells lib site table desc st t g d
      → Beneath s (run_of_part (part depth x)) g no_work (is_set st d)
  left_one depth x s g d t n k =
      lacking s (run_of_part (part depth x)) (part depth x).names g (is_set st d) (subst (λ (m : Names). IsNamed m g) (sym (name_same lib site table (callee depth) x)) n) (kept_unset st t (map slot_cell g.names) k.names)
      (kept_unset st t (map mark_cell g.calls) k.calls) (statement_gives lib site table (callee depth) x) (unset_not (st.cells d) k.done.1)

  -- ---- one after the other

  none_beneath : (s : Scope) → Beneath s (in_turn []) nothing_given no_work true
  none_beneath s = record { under = λ ls es h. under_itself nothing; ends = λ ls es h d. refl }

  next_beneath : (s : Scope) (f : Runner) (fs : List Runner) (g h : Given) (w x : Work) (a b : Bool) → Beneath s f g w a → Beneath (beyond s g) (in_turn fs) h x b
      → Beneath s (in_turn (f ∷ fs)) (both_given g h) (both_works w x) (a && b)
  next_beneath s f fs g h w x a b p q =
      record {
        under = λ ls es e.
            let t = f (sight s.place ls es) in
            subst (λ (y : Flowing). Under y (together t (in_turn fs (seeing (sight s.place ls es) t)))) (both_flow st.cells g h w x)
            (under_together (flowing_of st.cells g w) t (flowing_of st.cells h x) (in_turn fs (seeing (sight s.place ls es) t)) (p.under ls es e) (q.under (ls ++ t.names) (es ++ t.calls) (on ls es e)));
        ends = λ ls es e d.
            let t = f (sight s.place ls es) in
            let c = and_parts a b d in
            clean_together t (in_turn fs (seeing (sight s.place ls es) t)) (p.ends ls es e c.0) (q.ends (ls ++ t.names) (es ++ t.calls) (on ls es e) c.1);
      }
    where
      on : (ls : List Known) (es : List Ended) → Sees st.cells s ls es → Sees st.cells (beyond s g) (ls ++ (f (sight s.place ls es)).names) (es ++ (f (sight s.place ls es)).calls)
      on ls es e = let u = p.under ls es e in sees_beyond st.cells s g ls (f (sight s.place ls es)).names es (f (sight s.place ls es)).calls e u.names u.calls

  pub body_beneath : (depth : ℕ) (xs : List Statement) (s : Scope) (g : Given) (w : Work) (done : Bool) → Beneath s (turns depth xs) g w done → Beneath s (body_run (map (part depth) xs)) g (counted (length xs) w) done
  body_beneath depth xs s g w done p =
      record {
        under = λ ls es h.
            subst (λ (n : ℕ). Under (flowing_of st.cells g (counted n w)) (body_run (map (part depth) xs) (sight s.place ls es))) (length-map xs (part depth))
            (under_count (length (map (part depth) xs)) (flowing_of st.cells g w) (turns depth xs (sight s.place ls es)) (p.under ls es h));
        ends = λ ls es h d. p.ends ls es h d;
      }

  -- ---- declarations

  pub declared_beneath : (name : List ℕ) (e : TExpr) (s : Scope) (c : ℕ) (d : Declared lib site table desc st name e s c)
      → Beneath s (λ (t : Sight). declaration t name e) (only name c) (told_work lib site table desc st name e s c d) (is_set st c)
  declared_beneath name e s c (t, n, inl p) =
      lacking s (λ (y : Sight). declaration y name e) (record { keys = plain_key name ∷ []; calls = [] }) (only name c) (is_set st c) (record { keys = refl; calls = refl }) (single p.1.1) (λ k d i. absurd (omega (arith, i)))
      (declaration_good [] name e).left (unset_not (st.cells c) p.1.1)
    where
      single : st.cells c ≡ None → All (λ a. st.cells a ≡ None) (c ∷ [])
      single h zero d i = h
      single h (suc k) d i = absurd (omega (arith, i))
  declared_beneath name e s c (t, n, inr p) =
      exact s (λ (y : Sight). declaration y name e) (only name c) p.work (is_set st c)
      (λ ls es h. declaration_further st.cells s n.distinct ls es h n.slots (needs_slots st t s e n p.set) name e n.needs ∙ p.follows)
      (λ d. sym (declaration_settles st.cells s.place name e n.slots c p.work (needs_known st t s e n p.set) p.follows) ∙ d)

  -- ---- inputs

  pub given_beneath : (given : List Bind) (i : TInput) (s : Scope) (c : ℕ) (y : Value) → lookup given (plain_key i.name) ≡ Some y → st.cells c ≡ Some y → Beneath s (taking given i) (only i.name c) no_work (is_set st c)
  given_beneath given i s c y e found =
      exact s (taking given i) (only i.name c) no_work (is_set st c)
      (λ ls es q. ap (λ (o : Option Value). input_of (sight s.place ls es) i o) e ∙ ap (λ (o : Option Value). named_known (known i.name o)) (sym found)) (λ d. refl)

  pub absent_beneath : (given : List Bind) (i : TInput) (s : Scope) (c : ℕ) → lookup given (plain_key i.name) ≡ None → i.value ≡ None → st.cells c ≡ Some v.Absent → Beneath s (taking given i) (only i.name c) no_work (is_set st c)
  absent_beneath given i s c e none found =
      exact s (taking given i) (only i.name c) no_work (is_set st c)
      (λ ls es q.
      ap (λ (o : Option Value). input_of (sight s.place ls es) i o) e
      ∙ ap (λ (o : Option TExpr). default_of (sight s.place ls es) i.name o) none
      ∙ ap (λ (o : Option Value). named_known (known i.name o)) (sym found))
      (λ d. refl)

  pub default_beneath : (given : List Bind) (i : TInput) (s : Scope) (c : ℕ) (e : TExpr) → lookup given (plain_key i.name) ≡ None → i.value ≡ Some e → (d : Declared lib site table desc st i.name e s c)
      → Beneath s (taking given i) (only i.name c) (told_work lib site table desc st i.name e s c d) (is_set st c)
  default_beneath given i s c e lacking_ some d =
      as_runner s (taking given i) (λ (t : Sight). declaration t i.name e) (only i.name c) (told_work lib site table desc st i.name e s c d) (is_set st c)
      (λ t. ap (λ (o : Option Value). input_of t i o) lacking_ ∙ ap (λ (o : Option TExpr). default_of t i.name o) some) (declared_beneath i.name e s c d)

  -- ---- calls

  part_run : (depth : ℕ) (x : Statement) (y : Statement-F Statement) → out-Statement x ≡ y → run_of_part (part depth x) ≡ run_of_part (statement_step run (callee depth) (map-Statement Statement Part (part depth) y))
  part_run depth x y e =
      ap run_of_part (fold_out-Statement Part (statement_step run (callee depth)) x ∙ ap (λ (z : Statement-F Statement). statement_step run (callee depth) (map-Statement Statement Part (part depth) z)) e)

  call_run : (depth : ℕ) (x : TCall) (t : Sight) → run_of_part (part depth (stmt.Call x)) t ≡ call_of run (callee depth) (call_names lib x) x t
  call_run depth x t = ap (λ (f : Runner). f t) (part_run depth (stmt.Call x) (layer.Call x) (stmt.outs-Call x))

  -- a call of a workflow, of what the workflow has so far
  called_under : (x : TCall) (g h : Given) (d : ℕ) (ds : List ℕ) (f : FlowDef) (w : Work) (y : Flowing) → EndsAt x g d → keys_distinct (slot_keys h.names) ≡ true
      → OutputsCopied lib site table desc st x.name f.outputs h.names g.names → Ending lib site table desc st ds d → Under (flowing_of st.cells h w) y → (are_set st ds ≡ true → is_clean y ≡ true)
      → Under (flowing_of st.cells g w) (flow_ended x.name f.outputs y)
  called_under x g h d ds f w y at distinct copied ended u clean_ =
      record {
        names = outputs_stay lib site table desc st x.name h.names y.names distinct u.names f.outputs g.names copied;
        calls = subst (λ (ms : List Mark). CallsStay (map (ended_in st.cells) ms) ((let e : Ended = record { call = x.name; ended = is_clean y } in e) ∷ [])) (sym at)
            (record { call = refl; ended = λ t. clean_ (done_set lib site table desc st ds d ended t) }, tt);
        jobs = u.jobs;
        size = u.size;
        faults = u.faults;
        count = u.count;
      }

  -- ---- blocks

  scatter_run_is : (depth : ℕ) (x : TScatter Statement) (s : Scope) (t : ℕ) (n : NamesNeeded st t s x.over) → are_set st (st.needs t) ≡ true → (o : Outcome Value) → head st.cells n.slots x.over ≡ Some o
      → (ls : List Known) (es : List Ended) → Sees st.cells s ls es
      → run_of_part (part depth (stmt.Scatter x)) (sight s.place ls es) ≡ scattered (names_in run (callee depth) x.body) (body_run (map (part depth) x.body)) (sight s.place ls es) x.number x.item o
  scatter_run_is depth x s t n set o e ls es h =
      ap (λ (f : Runner). f (sight s.place ls es)) (part_run depth (stmt.Scatter x) (layer.Scatter x) (stmt.outs-Scatter x))
      ∙ head_further st.cells s n.distinct ls es h n.slots (needs_slots st t s x.over n set) make (missing (names_in run (callee depth) x.body)) x.over n.needs
      ∙ ap (on_head st.cells make (missing (names_in run (callee depth) x.body))) e
    where
      make : Outcome Value → Flowing
      make r = scattered (names_in run (callee depth) x.body) (body_run (map (part depth) x.body)) (sight s.place ls es) x.number x.item r

  if_run_is : (depth : ℕ) (x : TIf Statement) (s : Scope) (t : ℕ) (n : NamesNeeded st t s x.cond) → are_set st (st.needs t) ≡ true → (o : Outcome Value) → head st.cells n.slots x.cond ≡ Some o
      → (ls : List Known) (es : List Ended) → Sees st.cells s ls es
      → run_of_part (part depth (stmt.If x)) (sight s.place ls es) ≡ conditional (names_in run (callee depth) x.body) (body_run (map (part depth) x.body)) (sight s.place ls es) x.number o
  if_run_is depth x s t n set o e ls es h =
      ap (λ (f : Runner). f (sight s.place ls es)) (part_run depth (stmt.If x) (layer.If x) (stmt.outs-If x))
      ∙ head_further st.cells s n.distinct ls es h n.slots (needs_slots st t s x.cond n set) make (missing (names_in run (callee depth) x.body)) x.cond n.needs
      ∙ ap (on_head st.cells make (missing (names_in run (callee depth) x.body))) e
    where
      make : Outcome Value → Flowing
      make r = conditional (names_in run (callee depth) x.body) (body_run (map (part depth) x.body)) (sight s.place ls es) x.number r

  gathered_under : (x : TScatter Statement) (g : Given) (w : Work) (qs : List Item) (fs : List Flowing) → keys_distinct (body_given lib x.body).keys ≡ true → ItemsStay lib site table desc st (body_given lib x.body).keys qs fs
      → AllGathered lib site table desc st qs (body_given lib x.body).keys g.names → AllEnding lib site table desc st qs (body_given lib x.body).calls g.calls → IsBeneath w (all_together fs)
      → Under (flowing_of st.cells g w) (gathered (body_given lib x.body) fs)
  gathered_under x g w qs fs d items names calls u =
      record {
        names = gathered_stay lib site table desc st (body_given lib x.body).keys d qs fs items (body_given lib x.body).keys g.names names;
        calls = ending_stay lib site table desc st (body_given lib x.body).keys qs fs items (body_given lib x.body).calls g.calls calls;
        jobs = u.jobs;
        size = u.size;
        faults = u.faults;
        count = u.count;
      }

  each_beneath : (depth : ℕ) (x : TScatter Statement) (s : Scope) (g : Given) (d t : ℕ) (y : Value) (qs : List Item) (w : Work) (n : NamesNeeded st t s x.over) → are_set st (st.needs t) ≡ true → head st.cells n.slots x.over ≡ Some (Ok y)
      → IsOutside lib site table desc st x.body g → EachBeneath s x.body (body_run (map (part depth) x.body)) x.number x.item 0 (items_in y) qs w
      → AllGathered lib site table desc st qs (body_given lib x.body).keys g.names → AllEnding lib site table desc st qs (body_given lib x.body).calls g.calls
      → Ending lib site table desc st (all_dones lib site table desc st qs) d → Beneath s (run_of_part (part depth (stmt.Scatter x))) g w (is_set st d)
  each_beneath depth x s g d t y qs w n set e out p names calls ended =
      record {
        under = λ ls es h. subst (Under (flowing_of st.cells g w)) (sym (is ls es h)) (gathered_under x g w qs (flows ls es) out.keys (p.items ls es h) names calls (p.under ls es h));
        ends = λ ls es h c. ap is_clean (is ls es h) ∙ p.ends ls es h (done_set lib site table desc st (all_dones lib site table desc st qs) d ended c);
      }
    where
      flows : List Known → List Ended → List Flowing
      flows ls es = each_item (body_run (map (part depth) x.body)) (sight s.place ls es) x.number x.item 0 (items_in y)

      is : (ls : List Known) (es : List Ended) → Sees st.cells s ls es → run_of_part (part depth (stmt.Scatter x)) (sight s.place ls es) ≡ gathered (body_given lib x.body) (each_item (body_run (map (part depth) x.body)) (sight s.place ls es) x.number x.item 0 (items_in y))
      is ls es h =
          scatter_run_is depth x s t n set (Ok y) e ls es h
          ∙ ap (λ (m : Names). gathered m (each_item (body_run (map (part depth) x.body)) (sight s.place ls es) x.number x.item 0 (items_in y))) (given_same lib site table (callee depth) x.body)

  -- ---- items

  pub sees_item : (s : Scope) (k : ℕ) (item : List ℕ) (i cell : ℕ) (y : Value) → st.cells cell ≡ Some y → (ls : List Known) (es : List Ended) → Sees st.cells s ls es
      → Sees st.cells (item_scope s k item i cell) (ls ++ record { key = plain_key item; value = Some y } ∷ []) es
  sees_item s k item i cell y is ls es h =
      record {
        names = subst (λ (ks : List Known). NamesStay ks (ls ++ record { key = plain_key item; value = Some y } ∷ [])) (sym (map-append (known_in st.cells) s.names (record { key = plain_key item; cell = cell } ∷ [])))
            (names_stay_both (map (known_in st.cells) s.names) ls (record { key = plain_key item; value = st.cells cell } ∷ []) (record { key = plain_key item; value = Some y } ∷ []) h.names
            (record { key = refl; value = λ x e. sym is ∙ e }, tt));
        calls = h.calls;
      }

  item_beneath : (depth : ℕ) (xs : List Statement) (s : Scope) (k : ℕ) (item : List ℕ) (i cell : ℕ) (y : Value) (ys : List Value) (g : Given) (ds : List ℕ) (qs : List Item) (v w : Work) → st.cells cell ≡ Some y
      → slot_keys g.names ≡ (body_given lib xs).keys → Beneath (item_scope s k item i cell) (body_run (map (part depth) xs)) g v (are_set st ds) → EachBeneath s xs (body_run (map (part depth) xs)) k item (i + 1) ys qs w
      → EachBeneath s xs (body_run (map (part depth) xs)) k item i (y ∷ ys) (record { item = cell; given = g; dones = ds } ∷ qs) (both_works v w)
  item_beneath depth xs s k item i cell y ys g ds qs v w is keys p q =
      record {
        items = λ ls es h. (let u = first ls es h in (keys, u.names, u.calls, q.items ls es h));
        under = λ ls es h. fits_both v w (here ls es) (all_together (later ls es)) (fits_under st.cells g v (here ls es) (first ls es h)) (q.under ls es h);
        ends = λ ls es h c.
            let t = and_parts (are_set st ds) (are_set st (all_dones lib site table desc st qs)) (sym (list_all-append (is_set st) ds (all_dones lib site table desc st qs)) ∙ c) in
            clean_together (here ls es) (all_together (later ls es)) (p.ends (ls ++ record { key = plain_key item; value = Some y } ∷ []) es (sees_item s k item i cell y is ls es h) t.0) (q.ends ls es h t.1);
      }
    where
      here : List Known → List Ended → Flowing
      here ls es = body_run (map (part depth) xs) (item_sight (sight s.place ls es) k item i y)

      later : List Known → List Ended → List Flowing
      later ls es = each_item (body_run (map (part depth) xs)) (sight s.place ls es) k item (i + 1) ys

      first : (ls : List Known) (es : List Ended) → Sees st.cells s ls es → Under (flowing_of st.cells g v) (body_run (map (part depth) xs) (item_sight (sight s.place ls es) k item i y))
      first ls es h = p.under (ls ++ record { key = plain_key item; value = Some y } ∷ []) es (sees_item s k item i cell y is ls es h)

  -- ---- workflows

  whole_beneath : (depth : ℕ) (f : FlowDef) (given : List Bind) (place : List Segment) (i b o : Given) (ds : List ℕ) (u v w : Work) → Beneath (start place) (inputs given f.inputs) i u (slots_set st.cells i.names)
      → Beneath (beyond (start place) i) (turns depth f.body) b v (are_set st ds) → Beneath (beyond (beyond (start place) i) b) (outputs f.outputs) o w (slots_set st.cells o.names)
      → WholeBeneath depth f given place (both_given i (both_given b (both_given o nothing_given))) (map slot_cell i.names ++ ds ++ map slot_cell o.names)
      (both_works u (both_works (counted (length f.body) v) (both_works w no_work)))
  whole_beneath depth f given place i b o ds u v w p q r =
      record { under = net.under [] [] (record { names = tt; calls = tt }); ends = λ c. net.ends [] [] (record { names = tt; calls = tt }) (all_done c) }
    where
      body : Runner
      body = statements run (callee depth) f.body

      net : Beneath (start place) (in_turn (inputs given f.inputs ∷ statements run (callee depth) f.body ∷ outputs f.outputs ∷ [])) (both_given i (both_given b (both_given o nothing_given)))
          (both_works u (both_works (counted (length f.body) v) (both_works w no_work))) (slots_set st.cells i.names && (are_set st ds && (slots_set st.cells o.names && true)))
      net =
          next_beneath (start place) (inputs given f.inputs) (statements run (callee depth) f.body ∷ outputs f.outputs ∷ []) i (both_given b (both_given o nothing_given)) u (both_works (counted (length f.body) v) (both_works w no_work))
          (slots_set st.cells i.names) (are_set st ds && (slots_set st.cells o.names && true)) p
          (next_beneath (beyond (start place) i) (statements run (callee depth) f.body) (outputs f.outputs ∷ []) b (both_given o nothing_given) (counted (length f.body) v) (both_works w no_work) (are_set st ds)
          (slots_set st.cells o.names && true) (body_beneath depth f.body (beyond (start place) i) b v (are_set st ds) q)
          (next_beneath (beyond (beyond (start place) i) b) (outputs f.outputs) [] o nothing_given w no_work (slots_set st.cells o.names) true r (none_beneath (beyond (beyond (beyond (start place) i) b) o))))

      all_done : are_set st (map slot_cell i.names ++ ds ++ map slot_cell o.names) ≡ true → slots_set st.cells i.names && (are_set st ds && (slots_set st.cells o.names && true)) ≡ true
      all_done c =
          let x = and_parts (are_set st (map slot_cell i.names ++ ds)) (are_set st (map slot_cell o.names)) (sym (list_all-append (is_set st) (map slot_cell i.names ++ ds) (map slot_cell o.names)) ∙ c) in
          let y = and_parts (are_set st (map slot_cell i.names)) (are_set st ds) (sym (list_all-append (is_set st) (map slot_cell i.names) ds) ∙ x.0) in
          and_from (slots_set st.cells i.names) (are_set st ds && (slots_set st.cells o.names && true)) (sym (list_all-map (is_set st) slot_cell i.names) ∙ y.0)
          (and_from (are_set st ds) (slots_set st.cells o.names && true) y.1 (and_true (slots_set st.cells o.names) ∙ sym (list_all-map (is_set st) slot_cell o.names) ∙ x.1))

  -- ---- what grows, form by form

  pub beneath : {depth : ℕ} {f : Form} (p : Growing lib site table desc st depth f) → BeneathForm depth f (work p)
  beneath (none_left depth s) = none_beneath s
  beneath (next depth x xs s g h d ds p q) = next_beneath s (run_of_part (part depth x)) (map run_of_part (map (part depth) xs)) g h (work p) (work q) (is_set st d) (are_set st ds) (beneath p) (beneath q)
  beneath (left_decl depth x s c t left n k) =
      left_one depth (stmt.Decl x) s (only x.name c) c t (named lib site table (callee depth) desc st (left_decl depth x s c t left n k)) (kept_alone c t k)
    where
      kept_alone : (c t : ℕ) → Keeps st t c → KeepsCells lib site table desc st t (only x.name c) c
      kept_alone c t k = record { names = only_kept c t k; calls = λ i e l. absurd (omega (arith, l)); done = k }
        where
          only_kept : (c t : ℕ) → Keeps st t c → All (Keeps st t) (c ∷ [])
          only_kept c t k zero e l = k
          only_kept c t k (suc i) e l = absurd (omega (arith, l))
  beneath (left_call depth x s g d t left n is ends k) = left_one depth (stmt.Call x) s g d t (named lib site table (callee depth) desc st (left_call depth x s g d t left n is ends k)) k
  beneath (left_scatter depth x s g d t left n outside k) = left_one depth (stmt.Scatter x) s g d t (named lib site table (callee depth) desc st (left_scatter depth x s g d t left n outside k)) k
  beneath (left_if depth x s g d t left n outside k) = left_one depth (stmt.If x) s g d t (named lib site table (callee depth) desc st (left_if depth x s g d t left n outside k)) k
  beneath (told_decl depth x s c t w taken n set own follows) =
      exact s (run_of_part (part depth (stmt.Decl x))) (only x.name c) w (is_set st c)
      (λ ls es h. ap (λ (f : Runner). f (sight s.place ls es)) (part_run depth (stmt.Decl x) (layer.Decl x) (stmt.outs-Decl x)) ∙ declaration_further st.cells s n.distinct ls es h n.slots (needs_slots st t s x.value n set) x.name x.value n.needs ∙ follows)
      (λ d. sym (declaration_settles st.cells s.place x.name x.value n.slots c w (needs_known st t s x.value n set) follows) ∙ d)
  beneath (told_call depth x s g d t w taken n set is ends own plain follows) =
      exact s (run_of_part (part depth (stmt.Call x))) g w (is_set st d)
      (λ ls es h.
      let ready = call_slots st t s x n set in
      call_run depth x (sight s.place ls es) ∙ call_further st.cells s n.distinct ls es h n.slots ready.0 lib site table (callee depth) (call_names lib x) x n.marks ready.1 n.needs ∙ follows)
      (λ c. sym (call_settles st.cells lib site table (callee depth) x s.place n.slots n.marks g d w (call_ready st t s x n set) plain follows ends) ∙ c)
  beneath (run_call depth x s g h d t ds taken n set k is f found args met names ends distinct p copied ended) =
      let u = beneath p in
      record {
        under = λ ls es q. subst (Under (flowing_of st.cells g (work p))) (sym (far ls es q)) (called_under x g h d ds f (work p) _ ends distinct copied ended u.under u.ends);
        ends = λ ls es q c. ap is_clean (far ls es q) ∙ u.ends (done_set lib site table desc st ds d ended c);
      }
    where
      far : (ls : List Known) (es : List Ended) → Sees st.cells s ls es
          → run_of_part (part (suc depth) (stmt.Call x)) (sight s.place ls es) ≡ flow_ended x.name f.outputs (flow_run run (callee depth) f args (beginning (s.place ++ segment.Call x.name ∷ [])))
      far ls es q =
          let ready = call_slots st t s x n set in
          call_run (suc depth) x (sight s.place ls es)
          ∙ call_further st.cells s n.distinct ls es q n.slots ready.0 lib site table (callee (suc depth)) (call_names lib x) x n.marks ready.1 n.needs
          ∙ flow_called_is st.cells lib site table (callee (suc depth)) x s.place n.slots n.marks k is f found args met
          ∙ ap (λ (o : Option FlowDef). flow_ended x.name f.outputs (flow_at run (callee depth) o args (s.place ++ segment.Call x.name ∷ []))) found
  beneath (failed_scatter depth x s g d t c taken n set e outside k) =
      exact s (run_of_part (part depth (stmt.Scatter x))) g (faulty (fault_at (s.place ++ segment.Scatter x.number ∷ []) x.item c)) (is_set st d)
      (λ ls es h. scatter_run_is depth x s t n set (Err c) e ls es h ∙ ap (with_fault (fault_at (s.place ++ segment.Scatter x.number ∷ []) x.item c)) (outside_missing lib site table desc st depth t x.body g d outside k))
      (λ h. absurd (unset_not (st.cells d) k.done.1 h))
  beneath (each_scatter depth x s g d t y qs taken n set e outside p names calls ended) = each_beneath depth x s g d t y qs (work p) n set e outside (beneath p) names calls ended
  beneath (failed_if depth x s g d t c taken n set e outside k) =
      exact s (run_of_part (part depth (stmt.If x))) g (faulty (fault_at (s.place ++ segment.If x.number ∷ []) (codes "if") c)) (is_set st d)
      (λ ls es h. if_run_is depth x s t n set (Err c) e ls es h ∙ ap (with_fault (fault_at (s.place ++ segment.If x.number ∷ []) (codes "if") c)) (outside_missing lib site table desc st depth t x.body g d outside k))
      (λ h. absurd (unset_not (st.cells d) k.done.1 h))
  beneath (false_if depth x s g d t y taken n set e off outside own same done) =
      exact s (run_of_part (part depth (stmt.If x))) g no_work (is_set st d)
      (λ ls es h.
      if_run_is depth x s t n set (Ok y) e ls es h
      ∙ ap (chosen (names_in run (callee depth) x.body) (body_run (map (part depth) x.body)) (sight s.place ls es) x.number) off
      ∙ ap (giving (Some v.Absent) true) (given_same lib site table (callee depth) x.body)
      ∙ same)
      (λ h. refl)
  beneath (true_if depth x s g h d t ds y taken n set e on outside p names calls ended) =
      let b = body_beneath depth x.body (inward s (segment.If x.number)) h (work p) (are_set st ds) (beneath p) in
      record {
        under = λ ls es q.
            let u = b.under ls es (record { names = q.names; calls = q.calls }) in
            subst (Under (flowing_of st.cells g (counted (length x.body) (work p)))) (sym (far ls es q)) (record {
              names = slots_stay lib site table desc st h.names g.names _ names u.names;
              calls = marks_stay lib site table desc st h.calls g.calls _ calls u.calls;
              jobs = u.jobs;
              size = u.size;
              faults = u.faults;
              count = u.count;
            });
        ends = λ ls es q c. ap is_clean (far ls es q) ∙ b.ends ls es (record { names = q.names; calls = q.calls }) (done_set lib site table desc st ds d ended c);
      }
    where
      far : (ls : List Known) (es : List Ended) → Sees st.cells s ls es
          → run_of_part (part depth (stmt.If x)) (sight s.place ls es) ≡ body_run (map (part depth) x.body) (sight (s.place ++ segment.If x.number ∷ []) ls es)
      far ls es q =
          if_run_is depth x s t n set (Ok y) e ls es q ∙ ap (chosen (names_in run (callee depth) x.body) (body_run (map (part depth) x.body)) (sight s.place ls es) x.number) on
  beneath (no_item depth xs s k item i) = record { items = λ ls es h. tt; under = λ ls es h. fits_nothing nothing; ends = λ ls es h d. refl }
  beneath (item_next depth xs s k item i cell y ys g ds qs is p q) =
      item_beneath depth xs s k item i cell y ys g ds qs (counted (length xs) (work p)) (work q) is (named lib site table (callee depth) desc st p).keys
      (body_beneath depth xs (item_scope s k item i cell) g (work p) (are_set st ds) (beneath p)) (beneath q)
  beneath (no_input depth given s) = none_beneath s
  beneath (given_input depth given i is s h c y e found p) =
      next_beneath s (taking given i) (map (taking given) is) (only i.name c) h no_work (work p) (is_set st c) (slots_set st.cells h.names) (given_beneath given i s c y e found) (beneath p)
  beneath (absent_input depth given i is s h c e lacking_ found p) =
      next_beneath s (taking given i) (map (taking given) is) (only i.name c) h no_work (work p) (is_set st c) (slots_set st.cells h.names) (absent_beneath given i s c e lacking_ found) (beneath p)
  beneath (default_input depth given i is s h c e lacking_ some d p) =
      next_beneath s (taking given i) (map (taking given) is) (only i.name c) h (told_work lib site table desc st i.name e s c d) (work p) (is_set st c) (slots_set st.cells h.names)
      (default_beneath given i s c e lacking_ some d) (beneath p)
  beneath (no_output depth s) = none_beneath s
  beneath (output_next depth x xs s h c d p) =
      next_beneath s (telling x) (map telling xs) (only x.name c) h (told_work lib site table desc st x.name x.value s c d) (work p) (is_set st c) (slots_set st.cells h.names) (declared_beneath x.name x.value s c d) (beneath p)
  beneath (flow_whole depth f given place i b o ds p q r) = whole_beneath depth f given place i b o ds (work p) (work q) (work r) (beneath p) (beneath q) (beneath r)

pub flow_beneath : (lib : Library) (site : List ℕ) (table : List Row) (desc : ℕ → Rule → Type 0) (st : State) (depth k : ℕ) (f : FlowDef) → slice_get lib.flows k ≡ Some f → (given : List Bind) (place : List Segment) (g : Given) (ds : List ℕ)
    (p : Growing lib site table desc st depth (whole f given place g ds)) → IsBeneath (work_of lib site table desc st p) (flow (run_with lib site table) (suc depth) k given place)
flow_beneath lib site table desc st depth k f found given place g ds p =
    subst (λ (o : Option FlowDef). IsBeneath (work_of lib site table desc st p) (flow_at (run_with lib site table) (flow (run_with lib site table) depth) o given place)) (sym found)
    (fits_under st.cells g (work_of lib site table desc st p) _ (beneath lib site table desc st p).under)
