-- What the parts of a typed task come from.
use Rattle.std.proofs.Common.{◌≡◌, List, [], ◌++◌, Option, Some, None, refl, sym, subst}
use Rattle.std.proofs.lemmas.Option.{same_Some}
use Rattle.wdl_base.specs.declared.span.Span.{Span}
use Rattle.wdl_ast.specs.declared.task.TaskSection.{TaskSection}
use Rattle.wdl_typed.specs.declared.expr.TExpr.{TExpr}
use Rattle.wdl_typed.specs.declared.expr.TPart.{TPart}
use Rattle.wdl_typed.specs.declared.task.TDecl.{TDecl}
use Rattle.wdl_typed.specs.declared.task.TInput.{TInput}
use Rattle.wdl_typed.specs.declared.task.TaskDef.{TaskDef}
use Rattle.wdl_typed.specs.Declarations.{decls_bound, inputs_bound}
use Rattle.wdl_check_rules.specs.Spans.{joined}
use Rattle.wdl_check_types.specs.Outcome.{done, then_}
use Rattle.wdl_check_decls.specs.declared.standing.Standing.TheVariants.{Private, Output}
use Rattle.wdl_check_decls.specs.Declarations.{decls_typed, inputs_typed}
use Rattle.wdl_check_decls.specs.Expressions.{World}
use Rattle.wdl_check_decls.specs.Names.{first_repeated}
use Rattle.wdl_check_task.specs.declared.runtime.Said.{Said}
use Rattle.wdl_check_task.specs.declared.task.Head.{Head}
use Rattle.wdl_check_task.specs.declared.task.Work.{Work}
use Rattle.wdl_check_task.specs.Command.{command_typed}
use Rattle.wdl_check_task.specs.Runtime.{runtime_typed}
use Rattle.wdl_check_task.specs.Sections.{attributes_of, idents_of, inputs_of, outputs_of, parts_of, privates_of}
use Rattle.wdl_check_task.specs.Tasks.{after_head, head, head_bound, head_typed, sections_typed, task_of, task_typed, unless_repeated, with_outputs, work, work_typed}
use Rattle.wdl_check_decls.proofs.WellTyped.{then_some}

pub record Made (w : World) (t : TaskSection) (d : TaskDef) : Type 0 where
  pub is : List TInput
  pub ds : List TDecl
  pub qs : List (TPart TExpr)
  pub s : Said
  pub os : List TDecl
  pub once : first_repeated [] (idents_of t.elements) ≡ None
  pub from_inputs : (inputs_typed w (inputs_of t.elements)).typed ≡ Some is
  pub from_privates : (decls_typed Private w (inputs_bound is) (privates_of t.elements)).typed ≡ Some ds
  pub from_command : (command_typed w (inputs_bound is ++ decls_bound ds) (parts_of t.elements)).typed ≡ Some qs
  pub from_runtime : (runtime_typed w (inputs_bound is ++ decls_bound ds) (attributes_of t.elements)).typed ≡ Some s
  pub from_outputs : (decls_typed Output w (inputs_bound is ++ decls_bound ds) (outputs_of t.elements)).typed ≡ Some os
  pub whole : task_of (joined t.keyword t.closing) (head t.name.name is ds) (work qs s) os ≡ d

made_head : (w : World) (t : TaskSection) (d : TaskDef) (is : List TInput) (ds : List TDecl) → first_repeated [] (idents_of t.elements) ≡ None
    → (inputs_typed w (inputs_of t.elements)).typed ≡ Some is
    → (decls_typed Private w (inputs_bound is) (privates_of t.elements)).typed ≡ Some ds
    → (after_head w (inputs_bound is ++ decls_bound ds) t (head t.name.name is ds)).typed ≡ Some d → Made w t d
made_head w t d is ds n hi hd h =
    let names = inputs_bound is ++ decls_bound ds in
    let q = then_some (work_typed w names t) (with_outputs w names t (head t.name.name is ds)) d h in
    let c = then_some (command_typed w names (parts_of t.elements)) (λ k. then_ (runtime_typed w names (attributes_of t.elements)) (λ s. done (work k s))) q.0 q.1 in
    let r = then_some (runtime_typed w names (attributes_of t.elements)) (λ s. done (work c.0 s)) q.0 c.2 in
    let k = subst (λ (k : Work). (with_outputs w names t (head t.name.name is ds) k).typed ≡ Some d) (sym (same_Some (work c.0 r.0) q.0 r.2)) q.2 in
    let o =
    then_some (decls_typed Output w names (outputs_of t.elements)) (λ os. done (task_of (joined t.keyword t.closing) (head t.name.name is ds) (work c.0 r.0) os)) d k in
    record {
      is = is;
      ds = ds;
      qs = c.0;
      s = r.0;
      os = o.0;
      once = n;
      from_inputs = hi;
      from_privates = hd;
      from_command = c.1;
      from_runtime = r.1;
      from_outputs = o.1;
      whole = same_Some (task_of (joined t.keyword t.closing) (head t.name.name is ds) (work c.0 r.0) o.0) d o.2;
    }

made_sections : (w : World) (t : TaskSection) (d : TaskDef) → first_repeated [] (idents_of t.elements) ≡ None → (sections_typed w t).typed ≡ Some d → Made w t d
made_sections w t d n h =
    let q = then_some (head_typed w t) (λ l. after_head w (head_bound l) t l) d h in
    let i =
    then_some (inputs_typed w (inputs_of t.elements))
    (λ is. then_ (decls_typed Private w (inputs_bound is) (privates_of t.elements)) (λ ds. done (head t.name.name is ds))) q.0 q.1 in
    let p = then_some (decls_typed Private w (inputs_bound i.0) (privates_of t.elements)) (λ ds. done (head t.name.name i.0 ds)) q.0 i.2 in
    made_head w t d i.0 p.0 n i.1 p.1
    (subst (λ (l : Head). (after_head w (head_bound l) t l).typed ≡ Some d) (sym (same_Some (head t.name.name i.0 p.0) q.0 p.2)) q.2)

made_at : (w : World) (t : TaskSection) (d : TaskDef) (o : Option Span) → first_repeated [] (idents_of t.elements) ≡ o
    → (unless_repeated o (sections_typed w t)).typed ≡ Some d → Made w t d
made_at w t d (Some span) e h = absurd cc
made_at w t d None e h = made_sections w t d e h

pub made : (w : World) (t : TaskSection) (d : TaskDef) → (task_typed w t).typed ≡ Some d → Made w t d
made w t d h = made_at w t d (first_repeated [] (idents_of t.elements)) refl h
