-- The names that statements give out do not hang on the table of answers.
use Rattle.std.proofs.Common.{◌≡◌, ℕ, List, [], ◌∷◌, ◌++◌, Option, Some, None, option_and_then, map, append_assoc, append-nil, sym, ap, ◌∙◌, subst, refl}
use Rattle.std.specs.List.{slice_get}
use Rattle.wdl_base.specs.declared.name.Key.{Key}
use Rattle.wdl_typed.specs.declared.flow.FlowDef.{FlowDef}
use Rattle.wdl_typed.specs.declared.flow.Statement.{Statement, Statement-F, fold-Statement, map-Statement, roll-Statement, ind-Statement, fold-roll-Statement}
use Rattle.wdl_typed.specs.declared.flow.Statement.TheOpen as layer
use Rattle.wdl_typed.specs.declared.flow.Target.{Target}
use Rattle.wdl_typed.specs.declared.flow.Target.TheVariants as target
use Rattle.wdl_typed.specs.declared.task.TaskDef.{TaskDef}
use Rattle.wdl_typed.specs.Bodies.{Library, signature, task_signature, flow_signature}
use Rattle.wdl_typed.specs.Flow.{Callee, Names, Part, Run, body_names, names_of_part, signature_keys, statement_step, output_keys}
use Rattle.wdl_flow.specs.Given.{all_names, both, flow_outputs, names_in, names_step, outputs_of, task_outputs}

abbrev named : List Key → List (List ℕ) → Names
named keys calls = record { keys = keys; calls = calls }

pub signature_names : (lib : Library) (call : List ℕ) (t : Target) → signature_keys call (signature lib t) ≡ output_keys call (outputs_of lib.tasks lib.flows t)
signature_names lib call (target.Task k) = by_task (slice_get lib.tasks k)
  where
    by_task : (o : Option TaskDef) → signature_keys call (option_and_then (λ t. Some (task_signature t)) o) ≡ output_keys call (task_outputs o)
    by_task None = refl
    by_task (Some t) = refl
signature_names lib call (target.Flow k) = by_flow (slice_get lib.flows k)
  where
    by_flow : (o : Option FlowDef) → signature_keys call (option_and_then (λ f. Some (flow_signature f)) o) ≡ output_keys call (flow_outputs o)
    by_flow None = refl
    by_flow (Some f) = refl

module _ (r : Run) (callee : Callee) where
  abbrev names_by : Statement → Names
  names_by st = (fold-Statement Part (statement_step r callee) st).names

  abbrev Same : Statement → Type 0
  Same st = names_by st ≡ names_in r.library.tasks r.library.flows st

  abbrev Kept : Type 0
  Kept = (st : Statement) × Same st

  abbrev plain : Statement-F Kept → Statement-F Statement
  plain = map-Statement Kept Statement (λ (k : Kept). k.0)

  abbrev firsts : List Kept → List Statement
  firsts = map (λ (k : Kept). k.0)

  abbrev part : Statement → Part
  part = fold-Statement Part (statement_step r callee)

  body_same : (ks : List Kept) → body_names (map part (firsts ks)) ≡ all_names r.library.tasks r.library.flows (firsts ks)
  body_same [] = refl
  body_same (k ∷ ks) =
      ap (λ (n : Names). both n (body_names (map part (firsts ks)))) k.1
      ∙ ap (λ (n : Names). both (names_in r.library.tasks r.library.flows k.0) n) (body_same ks)

  layer_same : (y : Statement-F Kept) → (statement_step r callee (map-Statement Statement Part part (plain y))).names
      ≡ names_step r.library.tasks r.library.flows (map-Statement Statement Names (names_in r.library.tasks r.library.flows) (plain y))
  layer_same (layer.Decl d) = refl
  layer_same (layer.Call c) = ap (λ keys. named keys (c.name ∷ [])) (signature_names r.library c.name c.target)
  layer_same (layer.Scatter s) = body_same s.body
  layer_same (layer.If i) = body_same i.body

  pub names_same : (st : Statement) → Same st
  names_same = ind-Statement Same (λ x y is. subst (λ (z : Statement-F Statement). Same (roll-Statement z)) is (
      ap names_of_part (fold-roll-Statement Part (statement_step r callee) (plain y))
      ∙ layer_same y
      ∙ sym (fold-roll-Statement Names (names_step r.library.tasks r.library.flows) (plain y))))

  pub bodies_same : (ss : List Statement) → body_names (map part ss) ≡ all_names r.library.tasks r.library.flows ss
  bodies_same [] = refl
  bodies_same (st ∷ ss) =
      ap (λ (n : Names). both n (body_names (map part ss))) (names_same st)
      ∙ ap (λ (n : Names). both (names_in r.library.tasks r.library.flows st) n) (bodies_same ss)

-- ---- names behind others

pub both_assoc : (a b c : Names) → both (both a b) c ≡ both a (both b c)
both_assoc a b c =
    ap (λ x. named x ((a.calls ++ b.calls) ++ c.calls)) (append_assoc a.keys b.keys c.keys)
    ∙ ap (λ x. named (a.keys ++ (b.keys ++ c.keys)) x) (append_assoc a.calls b.calls c.calls)

pub both_none : (a : Names) → both a (named [] []) ≡ a
both_none a = ap (λ x. named x (a.calls ++ [])) (append-nil a.keys) ∙ ap (λ x. named a.keys x) (append-nil a.calls)

pub both_more : (n m start : Names) (x rest from all : Names) → m ≡ both n x → from ≡ both x rest → both n from ≡ both start all → both m rest ≡ both start all
both_more n m start x rest from all d e h = ap (λ k. both k rest) d ∙ both_assoc n x rest ∙ ap (both n) (sym e) ∙ h

pub both_end : (n start rest all : Names) → rest ≡ named [] [] → both n rest ≡ both start all → n ≡ both start all
both_end n start rest all e h = sym (both_none n) ∙ ap (both n) (sym e) ∙ h
