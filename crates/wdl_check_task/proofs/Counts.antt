-- A dedented command has no more parts than its text has tokens.
use Rattle.std.proofs.Common.{◌≡◌, ℕ, zero, suc, ◌+◌, ◌*◌, ◌≤◌, List, [], Some, ◌∷◌, ◌++◌, length, length-append, append_assoc, codes, arith, refl, ap, sym, ◌∙◌}
use Rattle.std.proofs.lemmas.Option.{same_Some}
use Rattle.wdl_base.specs.declared.template.Part.{Part}
use Rattle.wdl_base.specs.declared.template.Part.TheVariants as template
use Rattle.wdl_base.specs.Templates.{dedented, dedented_text, holes, marked, onto_text, template_of}
use Rattle.wdl_ast.specs.declared.expr.Expr.{Expr}
use Rattle.wdl_ast.specs.declared.string.StringPart.{StringPart}
use Rattle.wdl_ast.specs.declared.string.StringPart.TheVariants as part
use Rattle.wdl_ast.specs.declared.task.TaskElement.{TaskElement}
use Rattle.wdl_ast.specs.declared.task.TaskElement.TheVariants as element
use Rattle.wdl_ast.specs.declared.task.TaskSection.{TaskSection}
use Rattle.wdl_ast.specs.declared.token.Kind.TheVariants as kind
use Rattle.wdl_ast.specs.declared.token.Mark.TheVariants as mark
use Rattle.wdl_ast.specs.DocumentWords.{each, task_element_words, task_words}
use Rattle.wdl_ast.specs.Words.{at, ident, keyword, options_words, part_words, parts_words, words}
use Rattle.wdl_ast.specs.Words.{marked as marked_word}
use Rattle.wdl_typed.specs.declared.expr.TExpr.{TExpr}
use Rattle.wdl_typed.specs.declared.expr.TPart.{TPart}
use Rattle.wdl_typed.specs.declared.scope.Bound.{Bound}
use Rattle.wdl_typed.specs.declared.task.TaskDef.{TaskDef}
use Rattle.wdl_typed.specs.Declarations.{decls_bound, inputs_bound}
use Rattle.wdl_check_decls.specs.Expressions.{World}
use Rattle.wdl_check_task.specs.Command.{part_typed, parts_behind, template_from}
use Rattle.wdl_check_task.specs.Laws.{TaskCounts}
use Rattle.wdl_check_task.specs.Sections.{parts_in, parts_of}
use Rattle.wdl_check_task.proofs.Made.{made}
use Rattle.wdl_check_decls.proofs.WellTyped.{then_some}

-- ---- the parts of a template: one more where characters could still stand first

abbrev weight : List Part → ℕ
weight [] = 1
weight (template.Chars s ∷ ts) = length (template.Chars s ∷ ts)
weight (template.Hole k ∷ ts) = length (template.Hole k ∷ ts) + 1

within : (ts : List Part) → length ts ≤ weight ts
within [] = omega arith
within (template.Chars s ∷ ts) = omega arith
within (template.Hole k ∷ ts) = omega arith

onto_weight : (b : ℕ) (ts : List Part) → weight (onto_text b ts) ≤ weight ts
onto_weight b [] = omega arith
onto_weight b (template.Chars s ∷ ts) = omega arith
onto_weight b (template.Hole k ∷ ts) = omega arith

hole_weight : (k : ℕ) (ts : List Part) (n : ℕ) → weight ts ≤ 2 * n + 1 → weight (template.Hole k ∷ ts) ≤ 2 * suc n + 1
hole_weight k ts n h = omega (arith, within ts)

template_weight : (text ks : List ℕ) → weight (template_of text ks) ≤ 2 * length ks + 1
template_weight [] ks = omega arith
template_weight (zero ∷ text) [] = template_weight text []
template_weight (zero ∷ text) (k ∷ ks) = hole_weight k (template_of text ks) (length ks) (template_weight text ks)
template_weight (suc b ∷ text) ks = omega (arith, onto_weight (suc b) (template_of text ks), template_weight text ks)

dedented_length : (ts : List Part) → length (dedented ts) ≤ 2 * length (holes ts) + 1
dedented_length ts =
    omega (arith, within (dedented ts), template_weight (dedented_text (marked ts)) (holes ts))

-- ---- tokens

round_two : {A : Type 0} (a b : A) (xs ys rest : List A) → 2 + length rest ≤ length ((a ∷ (xs ++ (ys ++ b ∷ []))) ++ rest)
round_two a b xs ys rest = simp length-append (omega arith)

round_command : {A : Type 0} (a b c : A) (xs : List A) → length xs ≤ length (a ∷ (b ∷ (xs ++ c ∷ [])))
round_command a b c xs = simp length-append (omega arith)

round_task : {A : Type 0} (a b c d : A) (xs : List A) → 4 + length xs ≤ length (a ∷ (b ∷ (c ∷ (xs ++ d ∷ []))))
round_task a b c d xs = simp length-append (omega arith)

holes_length : (k : ℕ) (ps : List (StringPart Expr)) → 2 * length (holes (template_from k ps)) ≤ length (parts_words words ps)
holes_length k [] = omega arith
holes_length k (part.Chars c ∷ ps) = omega (arith, holes_length (k + 1) ps)
holes_length k (part.Placeholder q ∷ ps) =
    omega (
      arith,
      holes_length (k + 1) ps,
      round_two (at (kind.HoleOpen q.mark) q.opening) (at kind.HoleClose q.closing) (options_words q.options) (words q.expr) (parts_words words ps),
    )

parts_append : (ps qs : List (StringPart Expr)) → parts_words words (ps ++ qs) ≡ parts_words words ps ++ parts_words words qs
parts_append [] qs = refl
parts_append (p ∷ ps) qs =
    ap (λ ws. part_words words p ++ ws) (parts_append ps qs) ∙ sym (append_assoc (part_words words p) (parts_words words ps) (parts_words words qs))

element_length : (e : TaskElement) → length (parts_words words (parts_in e)) ≤ length (task_element_words e)
element_length (element.Command s) =
    round_command (keyword (codes "command") s.keyword) (at (kind.CommandOpen s.fence) s.opening) (at kind.CommandClose s.closing) (parts_words words s.parts)
element_length e = omega arith

elements_length : (es : List TaskElement) → length (parts_words words (parts_of es)) ≤ length (each task_element_words es)
elements_length [] = omega arith
elements_length (e ∷ es) =
    omega (
      arith,
      ap length (parts_append (parts_in e) (parts_of es)),
      length-append (parts_words words (parts_in e)) (parts_words words (parts_of es)),
      length-append (task_element_words e) (each task_element_words es),
      element_length e,
      elements_length es,
    )

command_length : (t : TaskSection) → 1 + length (dedented (template_from 0 (parts_of t.elements))) ≤ length (task_words t)
command_length t =
    omega (
      arith,
      dedented_length (template_from 0 (parts_of t.elements)),
      holes_length 0 (parts_of t.elements),
      elements_length t.elements,
      round_task (keyword (codes "task") t.keyword) (ident t.name) (marked_word mark.OpenBrace t.opening) (marked_word mark.CloseBrace t.closing) (each task_element_words t.elements),
    )

behind_length : (w : World) (names : List Bound) (ps : List (StringPart Expr)) (before : List (TPart TExpr)) (ts : List Part) (qs : List (TPart TExpr))
    → (parts_behind w names ps before ts).typed ≡ Some qs → length qs ≡ length before + length ts
behind_length w names ps before [] qs h = omega (arith, ap length (same_Some before qs h))
behind_length w names ps before (t ∷ ts) qs h =
    let r = then_some (part_typed w names ps t) (λ q. parts_behind w names ps (before ++ q ∷ []) ts) qs h in
    let l = behind_length w names ps (before ++ r.0 ∷ []) ts qs r.2 in
    omega (arith, l, length-append before (r.0 ∷ []))

pub task_counts : TaskCounts
task_counts w t d h =
    let m = made w t d h in
    let l = behind_length w (inputs_bound m.is ++ decls_bound m.ds) (parts_of t.elements) [] (dedented (template_from 0 (parts_of t.elements))) m.qs m.from_command in
    let e = ap (λ (x : TaskDef). length x.command) m.whole in
    omega (arith, l, e, command_length t)
