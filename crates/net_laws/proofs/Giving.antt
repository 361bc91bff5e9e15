-- What statements give has their names, whatever they see.
use Rattle.std.proofs.Common.{ℕ, Bool, true, false, cond, List, [], ◌∷◌, ◌++◌, map, Some, Ok, Err, ap, refl, subst, sym, ◌∙◌}
use Rattle.wdl_base.specs.declared.name.Key.{Key}
use Rattle.wdl_value.specs.declared.value.Value.{Value}
use Rattle.wdl_value.specs.declared.value.Value.TheVariants as v
use Rattle.wdl_value.specs.Outcome.{Outcome}
use Rattle.wdl_value.specs.Parts.{bool_in, items_in}
use Rattle.wdl_value.specs.Tables.{Row}
use Rattle.wdl_typed.specs.declared.flow.Statement.{Statement, Statement-F, fold-roll-Statement, ind-Statement, map-Statement, roll-Statement}
use Rattle.wdl_typed.specs.declared.flow.Statement.TheOpen as layer
use Rattle.wdl_typed.specs.Bodies.{Library}
use Rattle.wdl_typed.specs.Evaluation.{value_of}
use Rattle.wdl_typed.specs.Flow.{Callee, Flowing, Names, Part, Run, Runner, Sight, all_known, body_names, body_run, chosen, conditional, each_item, env_of, in_turn, missing, run_of_part, scattered, seeing, statement_step, together}
use Rattle.wdl_typed.specs.Requests.{before}
use Rattle.flow_laws.specs.Laws.{run_with}
use Rattle.flow_laws.proofs.Called.{call_good}
use Rattle.flow_laws.proofs.Guarded.{declaration_good}
use Rattle.flow_laws.proofs.KnownNames.{calls_of, keys_of}
use Rattle.flow_laws.proofs.Longer.{below_itself}
use Rattle.flow_laws.proofs.Under.{Gives, calls_append, giving_gives, keys_append, missing_gives}
use Rattle.net_laws.specs.Planned.{part_of}
use Rattle.flow_laws.proofs.Blocks.{gathered_keys, gathered_calls}

-- ---- items

scattered_gives : (n : Names) (body : Runner) (s : Sight) (k : ℕ) (item : List ℕ) (r : Outcome Value) → Gives n (scattered n body s k item r)
scattered_gives n body s k item (Ok x) =
    record { keys = gathered_keys (each_item body s k item 0 (items_in x)) n.keys; calls = gathered_calls (each_item body s k item 0 (items_in x)) n.calls }
scattered_gives n body s k item (Err c) = let m = missing_gives n in record { keys = m.keys; calls = m.calls }

-- ---- conditions

chosen_gives : (n : Names) (body : Runner) → ((s : Sight) → Gives n (body s)) → (s : Sight) (k : ℕ) (b : Bool) → Gives n (chosen n body s k b)
chosen_gives n body h s k true = h _
chosen_gives n body h s k false = giving_gives (Some v.Absent) true n

conditional_gives : (n : Names) (body : Runner) → ((s : Sight) → Gives n (body s)) → (s : Sight) (k : ℕ) (r : Outcome Value) → Gives n (conditional n body s k r)
conditional_gives n body h s k (Ok x) = chosen_gives n body h s k (bool_in x)
conditional_gives n body h s k (Err c) = let m = missing_gives n in record { keys = m.keys; calls = m.calls }

either_gives : (n : Names) (f : Flowing) → Gives n f → (b : Bool) → Gives n (cond b f (missing n))
either_gives n f h true = h
either_gives n f h false = missing_gives n

-- ---- statements

module _ (lib : Library) (site : List ℕ) (table : List Row) (callee : Callee) where
  abbrev here : Run
  here = run_with lib site table

  abbrev part : Statement → Part
  part = part_of here callee

  abbrev PartGives : Part → Type 0
  PartGives p = (s : Sight) → Gives p.names (p.run s)

  abbrev Holds : Statement → Type 0
  Holds x = PartGives (part x)

  abbrev Both : Type 0
  Both = (x : Statement) × Holds x

  abbrev plain : Statement-F Both → Statement-F Statement
  plain = map-Statement Both Statement (λ (k : Both). k.0)

  abbrev firsts : List Both → List Statement
  firsts = map (λ (k : Both). k.0)

  both_give : (m n : Names) (f g : Flowing) → Gives m f → Gives n g → Gives (record { keys = m.keys ++ n.keys; calls = m.calls ++ n.calls }) (together f g)
  both_give m n f g h j =
      record {
        keys = keys_append f.names g.names ∙ ap (λ (ks : List Key). ks ++ keys_of g.names) h.keys ∙ ap (λ (ks : List Key). m.keys ++ ks) j.keys;
        calls = calls_append f.calls g.calls ∙ ap (λ (cs : List (List ℕ)). cs ++ calls_of g.calls) h.calls ∙ ap (λ (cs : List (List ℕ)). m.calls ++ cs) j.calls;
      }

  turns_give : (ks : List Both) (s : Sight) → Gives (body_names (map part (firsts ks))) (in_turn (map run_of_part (map part (firsts ks))) s)
  turns_give [] s = record { keys = refl; calls = refl }
  turns_give (k ∷ ks) s =
      both_give (part k.0).names (body_names (map part (firsts ks))) ((part k.0).run s) (in_turn (map run_of_part (map part (firsts ks))) (seeing s ((part k.0).run s))) (k.1 s) (turns_give ks (seeing s ((part k.0).run s)))

  body_gives : (ks : List Both) (s : Sight) → Gives (body_names (map part (firsts ks))) (body_run (map part (firsts ks)) s)
  body_gives ks s = let h = turns_give ks s in record { keys = h.keys; calls = h.calls }

  layer_gives : (y : Statement-F Both) → PartGives (statement_step here callee (map-Statement Statement Part part (plain y)))
  layer_gives (layer.Decl d) s = (declaration_good [] d.name d.value).left s
  layer_gives (layer.Call c) s = (call_good lib site table table (λ p a x h. h) callee callee (λ k args p. below_itself (callee k args p)) c []).left s
  layer_gives (layer.Scatter b) s =
      either_gives (body_names (map part (firsts b.body))) _
      (scattered_gives (body_names (map part (firsts b.body))) (body_run (map part (firsts b.body))) s b.number b.item (value_of (before (env_of s.names)) b.over)) (all_known s.names b.over)
  layer_gives (layer.If b) s =
      either_gives (body_names (map part (firsts b.body))) _
      (conditional_gives (body_names (map part (firsts b.body))) (body_run (map part (firsts b.body))) (body_gives b.body) s b.number (value_of (before (env_of s.names)) b.cond)) (all_known s.names b.cond)

  pub statement_gives : (x : Statement) → Holds x
  statement_gives = ind-Statement Holds (λ x y is. subst (λ (z : Statement-F Statement). Holds (roll-Statement z)) is (subst PartGives (sym (fold-roll-Statement Part (statement_step here callee) (plain y))) (layer_gives y)))
