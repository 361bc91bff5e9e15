-- What the public call gives.
use Rattle.std.proofs.Common.{◌≡◌, ℕ, List, [], Option, Some, Result, Ok, Err, sym, ap, ◌∙◌, subst}
use Rattle.std.specs.List.{slice_get}
use Rattle.std.specs.Result.{IsErr, IsErrAnd}
use Rattle.wdl_base.specs.declared.entry.Entry.{Entry}
use Rattle.wdl_base.specs.declared.place.Segment.{Segment}
use Rattle.wdl_value.specs.declared.env.Bind.{Bind}
use Rattle.wdl_value.specs.Tables.{table}
use Rattle.wdl_typed.specs.declared.checked.Checked.{Checked}
use Rattle.wdl_typed.specs.declared.flow.FlowDef.{FlowDef}
use Rattle.wdl_typed.specs.Bodies.{Library}
use Rattle.wdl_typed.specs.Flow as flow
use Rattle.wdl_typed.specs.Journal.{flow_over}
use Rattle.wdl_plain.specs.declared.fault.PlainFault.{PlainFault}
use Rattle.wdl_plain.specs.declared.flowing.Flowing.{Flowing as Made}
use Rattle.wdl_plain.specs.Flows.{Flows}
use Rattle.wdl_plain.specs.Views.{flowing_of}
use Rattle.wdl_plain.specs.declared.flow.Flow.{Flow}
use Rattle.wdl_plain.specs.Shown.{IsShown, IsShownAs, Shows, library_of}

-- the flow that the code goes over
pub over_is : (lib : Library) (k : ℕ) (site : List ℕ) (es journal : List Entry) (env given : List Bind) (place : List Segment) → es ≡ journal → env ≡ given → place ≡ []
    → flow.flow (record { library = lib; site = site; table = table es }) 25 k env place ≡ flow_over lib k given site journal
over_is lib k site es journal env given place e f p =
    ap (λ (xs : List Entry). flow.flow (record { library = lib; site = site; table = table xs }) 25 k env place) e
    ∙ ap (λ (g : List Bind). flow.flow (record { library = lib; site = site; table = table journal }) 25 k g place) f
    ∙ ap (λ (q : List Segment). flow.flow (record { library = lib; site = site; table = table journal }) 25 k given q) p

-- what is shown of a flow, by the flow that the code made
pub shows : (f : flow.Flowing) (main : FlowDef) (made : Made) (s : Flow) → Flows f (Ok made) → IsShownAs (flowing_of made) main s → Shows f main (Ok s)
shows f main made s h is = (subst (λ (z : flow.Flowing). IsShownAs z main s) h.0 is, h.1)

pub refuses : (f : flow.Flowing) (main : FlowDef) (result : Result Flow PlainFault) (e : PlainFault) → IsErr result × IsErrAnd result (λ y. y ≡ e) → Flows f (Err e) → Shows f main result
refuses f main (Ok s) e h p = absurd h.1
refuses f main (Err y) e h p = λ is. p (sym h.1 ∙ is)

pub is_shown : (c : Checked) (given : List Bind) (site : List ℕ) (journal : List Entry) (result : Result Flow PlainFault) (k : ℕ) (main : FlowDef) → c.main ≡ Some k → slice_get c.flows k ≡ Some main
    → Shows (flow_over (library_of c) k given site journal) main result → IsShown c given site journal result
is_shown c given site journal result k main is there h n other e at =
    let same : k ≡ n = some_same (sym is ∙ e) in
    let def : main ≡ other = some_same (sym there ∙ ap (slice_get c.flows) same ∙ at) in
    subst (λ (m : ℕ). Shows (flow_over (library_of c) m given site journal) other result) same
    (subst (λ (z : FlowDef). Shows (flow_over (library_of c) k given site journal) z result) def h)
  where
    some_same : {A : Type 0} {a b : A} → (let o : Option A = Some a in o ≡ Some b) → a ≡ b
    some_same h = cc
