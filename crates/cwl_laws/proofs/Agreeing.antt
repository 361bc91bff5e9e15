-- Each statement of a body of the subset agrees with its step, whatever stands in it.
use Rattle.std.proofs.Common.{◌≡◌, ℕ, suc, ◌≤◌, true, false, List, [], ◌∷◌, ◌++◌, map, Some, Contains, arith, sym, ap, subst, refl}
use Rattle.std.proofs.lemmas.Bool.{false≢true, and_parts}
use Rattle.wdl_base.specs.Names.{is_name}
use Rattle.wdl_typed.specs.declared.flow.Statement.{Statement, Statement-F, fold-Statement, fold-roll-Statement, ind-Statement, map-Statement, roll-Statement}
use Rattle.wdl_typed.specs.declared.flow.Statement.TheOpen as layer
use Rattle.wdl_typed.specs.declared.flow.Target.{Target}
use Rattle.wdl_typed.specs.declared.flow.TCall.{TCall}
use Rattle.wdl_typed.specs.declared.task.TDecl.{TDecl}
use Rattle.wdl_typed.specs.Bodies.{Seen, Signature, arg_names, body_nests, call_by, signature, target_nests}
use Rattle.wdl_typed.specs.Flow.{Callee, Part, Run, call_of, run_of_part, statement_step}
use Rattle.flow_soundness.proofs.GivenKeys.{when_some}
use Rattle.flow_laws.proofs.Checked.{OutputsDiffer}
use Rattle.cwl_model.specs.declared.process.Process.{Process}
use Rattle.cwl_image.specs.declared.broken.Broken.{Broken}
use Rattle.cwl_image.specs.Expressions.{are_allowed, is_simple}
use Rattle.cwl_image.specs.Image.{Draft, Scope, call_draft, draft, draft_step, target_by}
use Rattle.cwl_image.specs.Named.{are_names}
use Rattle.cwl_image.specs.Subset.{unless}
use Rattle.cwl_laws.specs.Laws.{Simulates}
use Rattle.cwl_laws.specs.Parts.{IsCalled, names_of_call}
use Rattle.cwl_laws.specs.Tools.{ground_of}
use Rattle.cwl_laws.proofs.Statements.{IsDone, IsSound, KnownDone, body_done, AllDone, BodyHere}
use Rattle.cwl_laws.proofs.Nested.{if_done, plain, scatter_done}
use Rattle.cwl_laws.proofs.Stands.{AreSimple, Layer, opened}
use Rattle.cwl_laws.proofs.Tools.{both_empty, rule_holds}
use Rattle.cwl_laws.proofs.Typings.{level_below, outputs_simple}
use Rattle.wdl_base.proofs.Options.{then_parts}

-- what is known of a call at a level: it agrees with its step, and its outputs are of the types of the subset
pub record CallDone (r : Run) (callee : Callee) (flows : ℕ → Process) (c : TCall) (seen : Seen) (scope : Scope) : Type 0 where
  pub agrees : Simulates (ground_of r) r.library.structs seen.names scope (call_of r callee (names_of_call r.library c) c) (call_draft r.library (target_by r.library flows) c)
  pub simple : (s : Signature) → signature r.library c.target ≡ Some s → (d : TDecl) → Contains s.outputs d → is_simple d.ty ≡ true

abbrev pub CallsDone : Run → Callee → (ℕ → Process) → List (List ℕ) → (Target → List Broken) → ℕ → Type 0
CallsDone r callee flows declared_in targets depth =
    (m : ℕ) (c : TCall) (seen given : Seen) (scope : Scope) → suc m ≤ depth → IsCalled r.library declared_in c seen given scope → targets c.target ≡ []
    → target_nests (body_nests r.library.flows m) r.library.flows c.target ≡ true → CallDone r callee flows c seen scope

module _ (r : Run) (callee : Callee) (flows : ℕ → Process) (declared_in : List (List ℕ)) (targets : Target → List Broken) (differ : OutputsDiffer r.library)
    (sound : (st : Statement) → IsSound r callee st) (depth : ℕ) (calls : CallsDone r callee flows declared_in targets depth) where
  abbrev Kept : Type 0
  Kept = KnownDone r callee flows declared_in targets differ sound depth

  abbrev Plain : Statement-F Kept → Statement-F Statement
  Plain = plain r callee flows declared_in targets differ sound depth

  abbrev fold_part : Statement → Part
  fold_part = fold-Statement Part (statement_step r callee)

  abbrev LayerHere : ℕ → List (List ℕ) → List (List ℕ) → Seen → Seen → Scope → Statement-F Statement → Type 0
  LayerHere = Layer r.library (target_by r.library flows) declared_in targets

  call_done : (c : TCall) (n : ℕ) (all taken : List (List ℕ)) (seen first : Seen) (scope : Scope) → n ≤ depth → LayerHere n all taken seen first scope (layer.Call c)
      → Simulates (ground_of r) r.library.structs seen.names scope (call_of r callee (names_of_call r.library c) c) (call_draft r.library (target_by r.library flows) c) × AreSimple first.names
  call_done c n all taken seen first scope le l =
      let v = level_below r.library.flows n (layer.Call c) l.nested refl in
      let d = calls v.0 c seen first scope (raised n v.0 depth v.1 le) made l.called v.2 in
      let p = then_parts (call_by r.library.structs c seen) (signature r.library c.target) first l.typed in
      let q = when_some _ _ first p.2 in
      (d.agrees, subst (λ (z : Seen). AreSimple z.names) q.1 (outputs_simple c.name p.0.outputs (d.simple p.0 p.1)))
    where
      raised : (n m d : ℕ) → n ≡ suc m → n ≤ d → suc m ≤ d
      raised n m d e h = omega arith

      made : IsCalled r.library declared_in c seen first scope
      made =
          record {
            typed = l.typed;
            kept = l.kept;
            name = (and_parts (is_name c.name) (are_names (arg_names c.args)) l.named).0;
            simple = l.simple;
            covers = λ k i. let t = l.used k i in let q = l.covers k t.0 i t.1 in (q.0, q.1);
          }

  abbrev Agreed : Seen → Seen → Scope → Part → Draft → Type 0
  Agreed seen first scope p d = Simulates (ground_of r) r.library.structs seen.names scope (run_of_part p) d × AreSimple first.names

  layer_done : (y : Statement-F Kept) (n : ℕ) (all taken : List (List ℕ)) (seen first : Seen) (scope : Scope) → n ≤ depth → LayerHere n all taken seen first scope (Plain y)
      → Agreed seen first scope (statement_step r callee (map-Statement Statement Part fold_part (Plain y))) (draft_step r.library (target_by r.library flows) (map-Statement Statement Draft (draft r.library (target_by r.library flows)) (Plain y)))
  layer_done (layer.Decl d) n all taken seen first scope le l =
      let c = both_empty (unless (is_simple d.ty) 605 d.span ++ unless (are_allowed r.library.structs seen.names d.value false) 606 d.span) (unless false 602 d.span) l.kept in
      absurd (false≢true (rule_holds false 602 d.span c.1))
  layer_done (layer.Call c) n all taken seen first scope le l = call_done c n all taken seen first scope le l
  layer_done (layer.Scatter b) n all taken seen first scope le l = scatter_done r callee flows declared_in targets differ sound depth b n all taken seen first scope le l
  layer_done (layer.If b) n all taken seen first scope le l = if_done r callee flows declared_in targets differ sound depth b n all taken seen first scope le l

  -- Each statement agrees with its step.
  statement_done : (st : Statement) → IsDone r callee flows declared_in targets differ sound depth st
  statement_done = ind-Statement (IsDone r callee flows declared_in targets differ sound depth) (λ a y is.
      subst (λ (z : Statement-F Statement). IsDone r callee flows declared_in targets differ sound depth (roll-Statement z)) is (λ n all taken seen first scope le o.
      let q = layer_done y n all taken seen first scope le (opened r.library (target_by r.library flows) declared_in targets n all taken seen first scope (Plain y) o) in
      record {
        agrees =
            subst (λ (p : Part). Simulates (ground_of r) r.library.structs seen.names scope (run_of_part p) (draft r.library (target_by r.library flows) (roll-Statement (Plain y))))
            (sym (fold-roll-Statement Part (statement_step r callee) (Plain y)))
            (subst (λ (d : Draft). Simulates (ground_of r) r.library.structs seen.names scope (run_of_part (statement_step r callee (map-Statement Statement Part fold_part (Plain y)))) d)
            (sym (fold-roll-Statement Draft (draft_step r.library (target_by r.library flows)) (Plain y))) q.0);
        simple = q.1;
      }))

  abbrev known_done : List Statement → List Kept
  known_done = map (λ (st : Statement). (st, statement_done st))

  firsts_done : (ss : List Statement) → map (λ (k : Kept). k.0) (known_done ss) ≡ ss
  firsts_done [] = refl
  firsts_done (st ∷ ss) = ap (λ (zs : List Statement). st ∷ zs) (firsts_done ss)

  -- The statements of a body agree with their steps.
  pub statements_done : (ss : List Statement) (n : ℕ) (all taken : List (List ℕ)) (seen g : Seen) (scope : Scope) → n ≤ depth → BodyHere r callee flows declared_in targets differ sound n all taken seen g scope ss
      → AllDone r callee flows declared_in targets differ sound seen g scope ss
  statements_done ss n all taken seen g scope le b =
      subst (AllDone r callee flows declared_in targets differ sound seen g scope) (firsts_done ss)
      (body_done r callee flows declared_in targets differ sound depth (known_done ss) n all taken seen g scope le
      (subst (BodyHere r callee flows declared_in targets differ sound n all taken seen g scope) (sym (firsts_done ss)) b))
