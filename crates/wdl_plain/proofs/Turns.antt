-- Statements, inputs or outputs one after the other.
use Rattle.std.proofs.Common.{◌≡◌, ℕ, ◌+◌, true, false, List, [], ◌∷◌, ◌++◌, add-zero, zero-add, add_assoc, append_assoc, append-nil, sym, ap, ◌∙◌}
use Rattle.std.proofs.lemmas.List.{map-append}
use Rattle.wdl_base.specs.declared.fault.Fault.{Fault}
use Rattle.wdl_base.specs.declared.place.Segment.{Segment}
use Rattle.wdl_base.specs.declared.request.Request.{Request}
use Rattle.wdl_typed.specs.Flow.{Ended, Flowing, Known, Runner, Sight, in_turn, nothing, seeing, together, too_many}
use Rattle.wdl_typed.specs.Requests.{Successes}
use Rattle.wdl_plain.specs.declared.flowing.Flowing.{Flowing as Made}
use Rattle.wdl_plain.specs.declared.job.AskedJob.{AskedJob}
use Rattle.wdl_plain.specs.declared.known.Ended.{Ended as MadeEnded}
use Rattle.wdl_plain.specs.declared.known.Known.{Known as MadeKnown}
use Rattle.wdl_plain.specs.Flows.{counted}
use Rattle.wdl_plain.specs.Views.{codes_in, codes_of, ended_of, endeds_of, flowing_of, known_of, knowns_of, request_of, requests_in}
use Rattle.wdl_plain.proofs.Limits.{many_left, many_right}

-- ---- lists of flows

abbrev make : List Known → List Ended → List Request → List Successes → List Fault → List (List Segment) → ℕ → Flowing
make names calls jobs codes faults waits count = record { names = names; calls = calls; jobs = jobs; codes = codes; faults = faults; waits = waits; count = count }

pub together_assoc : (f g h : Flowing) → together (together f g) h ≡ together f (together g h)
together_assoc f g h =
    ap (λ x. make x ((f.calls ++ g.calls) ++ h.calls) ((f.jobs ++ g.jobs) ++ h.jobs) ((f.codes ++ g.codes) ++ h.codes) ((f.faults ++ g.faults) ++ h.faults) ((f.waits ++ g.waits) ++ h.waits) ((f.count + g.count) + h.count)) (append_assoc f.names g.names h.names)
    ∙ ap (λ x. make (f.names ++ (g.names ++ h.names)) x ((f.jobs ++ g.jobs) ++ h.jobs) ((f.codes ++ g.codes) ++ h.codes) ((f.faults ++ g.faults) ++ h.faults) ((f.waits ++ g.waits) ++ h.waits) ((f.count + g.count) + h.count)) (append_assoc f.calls g.calls h.calls)
    ∙ ap (λ x. make (f.names ++ (g.names ++ h.names)) (f.calls ++ (g.calls ++ h.calls)) x ((f.codes ++ g.codes) ++ h.codes) ((f.faults ++ g.faults) ++ h.faults) ((f.waits ++ g.waits) ++ h.waits) ((f.count + g.count) + h.count)) (append_assoc f.jobs g.jobs h.jobs)
    ∙ ap (λ x. make (f.names ++ (g.names ++ h.names)) (f.calls ++ (g.calls ++ h.calls)) (f.jobs ++ (g.jobs ++ h.jobs)) x ((f.faults ++ g.faults) ++ h.faults) ((f.waits ++ g.waits) ++ h.waits) ((f.count + g.count) + h.count)) (append_assoc f.codes g.codes h.codes)
    ∙ ap (λ x. make (f.names ++ (g.names ++ h.names)) (f.calls ++ (g.calls ++ h.calls)) (f.jobs ++ (g.jobs ++ h.jobs)) (f.codes ++ (g.codes ++ h.codes)) x ((f.waits ++ g.waits) ++ h.waits) ((f.count + g.count) + h.count)) (append_assoc f.faults g.faults h.faults)
    ∙ ap (λ x. make (f.names ++ (g.names ++ h.names)) (f.calls ++ (g.calls ++ h.calls)) (f.jobs ++ (g.jobs ++ h.jobs)) (f.codes ++ (g.codes ++ h.codes)) (f.faults ++ (g.faults ++ h.faults)) x ((f.count + g.count) + h.count)) (append_assoc f.waits g.waits h.waits)
    ∙ ap (λ x. make (f.names ++ (g.names ++ h.names)) (f.calls ++ (g.calls ++ h.calls)) (f.jobs ++ (g.jobs ++ h.jobs)) (f.codes ++ (g.codes ++ h.codes)) (f.faults ++ (g.faults ++ h.faults)) (f.waits ++ (g.waits ++ h.waits)) x) (add_assoc f.count g.count h.count)

pub together_nothing : (f : Flowing) → together f nothing ≡ f
together_nothing f =
    ap (λ x. make x (f.calls ++ []) (f.jobs ++ []) (f.codes ++ []) (f.faults ++ []) (f.waits ++ []) (f.count + 0)) (append-nil f.names)
    ∙ ap (λ x. make f.names x (f.jobs ++ []) (f.codes ++ []) (f.faults ++ []) (f.waits ++ []) (f.count + 0)) (append-nil f.calls)
    ∙ ap (λ x. make f.names f.calls x (f.codes ++ []) (f.faults ++ []) (f.waits ++ []) (f.count + 0)) (append-nil f.jobs)
    ∙ ap (λ x. make f.names f.calls f.jobs x (f.faults ++ []) (f.waits ++ []) (f.count + 0)) (append-nil f.codes)
    ∙ ap (λ x. make f.names f.calls f.jobs f.codes x (f.waits ++ []) (f.count + 0)) (append-nil f.faults)
    ∙ ap (λ x. make f.names f.calls f.jobs f.codes f.faults x (f.count + 0)) (append-nil f.waits)
    ∙ ap (λ x. make f.names f.calls f.jobs f.codes f.faults f.waits x) (add-zero f.count)

pub counted_zero : (f : Flowing) → together (counted 0) f ≡ f
counted_zero f = ap (λ x. make f.names f.calls f.jobs f.codes f.faults f.waits x) (zero-add f.count)

-- what the code appends, list by list
pub appended : (f g : Made) (ns : List MadeKnown) (es : List MadeEnded) (js : List AskedJob) (faults : List Fault) (waits : List (List Segment)) → ns ≡ f.names ++ g.names → es ≡ f.calls ++ g.calls
    → js ≡ f.jobs ++ g.jobs → faults ≡ f.faults ++ g.faults → waits ≡ f.waits ++ g.waits
    → flowing_of (record { names = ns; calls = es; jobs = js; faults = faults; waits = waits; count = f.count + g.count }) ≡ together (flowing_of f) (flowing_of g)
appended f g ns es js faults waits names calls jobs failed waited =
    let made : List Known → List Ended → List Request → List Successes → Flowing = λ n c j s. make n c j s (f.faults ++ g.faults) (f.waits ++ g.waits) (f.count + g.count) in
    ap (λ x. make (knowns_of ns) (endeds_of es) (requests_in js) (codes_in js) x waits (f.count + g.count)) failed
    ∙ ap (λ x. make (knowns_of ns) (endeds_of es) (requests_in js) (codes_in js) (f.faults ++ g.faults) x (f.count + g.count)) waited
    ∙ ap (λ x. made x (endeds_of es) (requests_in js) (codes_in js)) (ap knowns_of names ∙ map-append known_of f.names g.names)
    ∙ ap (λ x. made (knowns_of f.names ++ knowns_of g.names) x (requests_in js) (codes_in js)) (ap endeds_of calls ∙ map-append ended_of f.calls g.calls)
    ∙ ap (λ x. made (knowns_of f.names ++ knowns_of g.names) (endeds_of f.calls ++ endeds_of g.calls) x (codes_in js)) (ap requests_in jobs ∙ map-append request_of f.jobs g.jobs)
    ∙ ap (λ x. made (knowns_of f.names ++ knowns_of g.names) (endeds_of f.calls ++ endeds_of g.calls) (requests_in f.jobs ++ requests_in g.jobs) x) (ap codes_in jobs ∙ map-append codes_of f.jobs g.jobs)

-- ---- what is seen

abbrev sight : List Known → List Ended → List Segment → Sight
sight names calls place = record { names = names; calls = calls; place = place }

pub seeing_counted : (s : Sight) (n : ℕ) → seeing s (counted n) ≡ s
seeing_counted s n = ap (λ x. sight x (s.calls ++ []) s.place) (append-nil s.names) ∙ ap (λ x. sight s.names x s.place) (append-nil s.calls)

pub seeing_both : (s : Sight) (f g : Flowing) → seeing (seeing s f) g ≡ seeing s (together f g)
seeing_both s f g =
    ap (λ x. sight x ((s.calls ++ f.calls) ++ g.calls) s.place) (append_assoc s.names f.names g.names)
    ∙ ap (λ x. sight (s.names ++ (f.names ++ g.names)) x s.place) (append_assoc s.calls f.calls g.calls)

-- ---- one after the other

-- what was given so far, and what the rest gives
pub record Going (total : Flowing) (rest : List Runner) (s start : Sight) (all : Flowing) : Type 0 where
  pub whole : together total (in_turn rest s) ≡ all
  pub sees : s ≡ seeing start total
  pub within : too_many total ≡ false

pub begins_none : (total : Flowing) (fs : List Runner) (s : Sight) → total ≡ counted 0 → Going total fs s s (in_turn fs s)
begins_none total fs s e = record {
  whole = ap (λ t. together t (in_turn fs s)) e ∙ counted_zero (in_turn fs s);
  sees = sym (ap (seeing s) e ∙ seeing_counted s 0);
  within = ap too_many e;
}

pub goes : (f : Runner) (fs gs : List Runner) (total more total' all : Flowing) (s s' start : Sight) → gs ≡ f ∷ fs
    → more ≡ f s → s' ≡ seeing s more → total' ≡ together total more → too_many (together total more) ≡ false
    → Going total gs s start all → Going total' fs s' start all
goes f fs gs total more total' all s s' start cut is seen sum within g = record {
  whole =
      ap (λ t. together t (in_turn fs s')) sum
      ∙ ap (λ z. together (together total more) (in_turn fs z)) seen
      ∙ together_assoc total more (in_turn fs (seeing s more))
      ∙ ap (λ m. together total (together m (in_turn fs (seeing s m)))) is
      ∙ sym (ap (λ hs. together total (in_turn hs s)) cut)
      ∙ g.whole;
  sees = seen ∙ ap (λ z. seeing z more) g.sees ∙ seeing_both start total more ∙ sym (ap (seeing start) sum);
  within = ap too_many sum ∙ within;
}

-- a part that is past a limit
pub many_part : (f : Runner) (fs gs : List Runner) (total all : Flowing) (s start : Sight) → gs ≡ f ∷ fs → too_many (f s) ≡ true
    → Going total gs s start all → too_many all ≡ true
many_part f fs gs total all s start cut h g =
    sym (ap too_many (sym (ap (λ hs. together total (in_turn hs s)) cut) ∙ g.whole))
    ∙ many_right total (in_turn (f ∷ fs) s) (many_left (f s) (in_turn fs (seeing s (f s))) h)

pub many_sum : (f : Runner) (fs gs : List Runner) (total more all : Flowing) (s start : Sight) → gs ≡ f ∷ fs → more ≡ f s
    → too_many (together total more) ≡ true → Going total gs s start all → too_many all ≡ true
many_sum f fs gs total more all s start cut is h g =
    sym (ap too_many (sym (ap (λ hs. together total (in_turn hs s)) cut) ∙ g.whole))
    ∙ ap too_many (sym (together_assoc total (f s) (in_turn fs (seeing s (f s)))))
    ∙ many_left (together total (f s)) (in_turn fs (seeing s (f s))) (sym (ap (λ m. too_many (together total m)) is) ∙ h)
