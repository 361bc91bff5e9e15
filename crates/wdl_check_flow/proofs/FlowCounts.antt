-- A workflow that is typed has no more statements than its text has tokens.
use Rattle.std.proofs.Common.{◌≡◌, ℕ, ◌+◌, ◌≤◌, List, [], ◌∷◌, ◌++◌, length, length-append, codes, map, arith, refl, ap, sym, ◌∙◌}
use Rattle.wdl_ast.specs.declared.token.Mark.TheVariants as mark
use Rattle.wdl_ast.specs.declared.workflow.Statement.{Statement as Written, Statement-F, fold-roll-Statement, map-Statement, roll-Statement}
use Rattle.wdl_ast.specs.declared.workflow.Statement.TheOpen as layer
use Rattle.wdl_ast.specs.declared.workflow.WorkflowElement.{WorkflowElement}
use Rattle.wdl_ast.specs.declared.workflow.WorkflowElement.TheVariants as element
use Rattle.wdl_ast.specs.DocumentWords.{each, statement_step as words_step, statement_words, workflow_element_words}
use Rattle.wdl_ast.specs.Words.{Words, ident, itself, keyword, marked, type_words, words}
use Rattle.wdl_typed.specs.declared.flow.Statement.{Statement, Statement-F as Typed-F, fold-Statement as fold, fold-roll-Statement as fold-roll, map-Statement as map-typed, roll-Statement as roll}
use Rattle.wdl_typed.specs.declared.flow.Statement.TheOpen as typed
use Rattle.wdl_typed.specs.declared.flow.Statement.TheVariants as form
use Rattle.wdl_typed.specs.Kept.{count_step, sum_of}
use Rattle.wdl_check_flow.specs.Bodies.{condition, scatter}
use Rattle.wdl_check_flow.specs.Flows.{inputs_seen}
use Rattle.wdl_check_flow.specs.Laws.{FlowsCounted}
use Rattle.wdl_check_flow.specs.Sections.{statements_in, statements_of}
use Rattle.wdl_check_flow.proofs.FlowGives.{rested}
use Rattle.wdl_check_flow.proofs.FlowShape.{Forms, statements_fit}
use Rattle.wdl_check_flow.proofs.Orders.{sum-append}
use Rattle.wdl_check_flow.proofs.Weights.{Weighs, body_weighs}

-- ---- the statements in a typed one

abbrev count : Statement → ℕ
count = fold ℕ count_step

count_at : (s : Statement) (y : Typed-F Statement) → roll y ≡ s → count s ≡ count_step (map-typed Statement ℕ count y)
count_at s y is = ap count (sym is) ∙ fold-roll ℕ count_step y

-- ---- tokens

abbrev long : Written → ℕ
long s = length (statement_words s)

long_at : (y : Statement-F Written) → long (roll-Statement y) ≡ length (words_step (map-Statement Written Words statement_words y))
unfolding statement_words
long_at y = ap length (fold-roll-Statement Words words_step y)

each_long : (ss : List Written) → length (each itself (map statement_words ss)) ≡ sum_of (map (λ (s : Written). length (statement_words s)) ss)
each_long [] = refl
each_long (s ∷ ss) = omega (arith, each_long ss, length-append (statement_words s) (each itself (map statement_words ss)))

scatter_long : {A : Type 0} (a b c d e f g : A) (over body : List A) → 1 + length body ≤ length (a ∷ b ∷ c ∷ d ∷ (over ++ e ∷ f ∷ (body ++ g ∷ [])))
scatter_long a b c d e f g over body = simp length-append (omega arith)

conditional_long : {A : Type 0} (a b e f g : A) (over body : List A) → 1 + length body ≤ length (a ∷ b ∷ (over ++ e ∷ f ∷ (body ++ g ∷ [])))
conditional_long a b e f g over body = simp length-append (omega arith)

declaration_long : {A : Type 0} (a b : A) (ty value : List A) → 1 ≤ length (ty ++ a ∷ b ∷ value)
declaration_long a b ty value = simp length-append (omega arith)

-- ---- statements

forms : Forms (Weighs count long)
forms = record {
  declaration = λ d number t e.
      omega (
        arith,
        count_at (form.Decl t) (typed.Decl t) (form.rolls-Decl t),
        long_at (layer.Declaration d),
        declaration_long (ident d.name) (marked mark.Assign d.assign) (type_words d.ty) (words d.value),
      );
  call = λ c number t e. omega (arith, count_at (form.Call t) (typed.Call t) (form.rolls-Call t), long_at (layer.Call c));
  scatter = λ s number span over body b.
      omega (
        arith,
        count_at (scatter number s.item.name span over body) _ (form.rolls-Scatter _),
        long_at (layer.Scatter s),
        body_weighs count long s.body body b,
        each_long s.body,
        scatter_long (keyword (codes "scatter") s.keyword) (marked mark.OpenParen s.opening_paren) (ident s.item) (keyword (codes "in") s.in_word)
            (marked mark.CloseParen s.closing_paren) (marked mark.OpenBrace s.opening) (marked mark.CloseBrace s.closing) (words s.over) (each itself (map statement_words s.body)),
      );
  conditional = λ i number span test body b.
      omega (
        arith,
        count_at (condition number span test body) _ (form.rolls-If _),
        long_at (layer.Conditional i),
        body_weighs count long i.body body b,
        each_long i.body,
        conditional_long (keyword (codes "if") i.keyword) (marked mark.OpenParen i.opening_paren)
            (marked mark.CloseParen i.closing_paren) (marked mark.OpenBrace i.opening) (marked mark.CloseBrace i.closing) (words i.condition) (each itself (map statement_words i.body)),
      );
}

-- ---- workflows

element_long : (e : WorkflowElement) → sum_of (map long (statements_in e)) ≤ length (workflow_element_words e)
element_long (element.Statement s) = omega arith
element_long e = omega arith

elements_long : (es : List WorkflowElement) → sum_of (map long (statements_of es)) ≤ length (each workflow_element_words es)
elements_long [] = omega arith
elements_long (e ∷ es) =
    omega (
      arith,
      element_long e,
      elements_long es,
      sum-append long (statements_in e) (statements_of es),
      length-append (workflow_element_words e) (each workflow_element_words es),
    )

round_flow : {A : Type 0} (a b c d : A) (xs : List A) → 1 + length xs ≤ length (a ∷ b ∷ c ∷ (xs ++ d ∷ []))
round_flow a b c d xs = simp length-append (omega arith)

pub flows_counted : FlowsCounted
flows_counted p f is r h =
    let s = rested p is f r h in
    let ws = statements_of f.elements in
    omega (
      arith,
      body_weighs count long ws r.body (statements_fit p (Weighs count long) forms ws (inputs_seen is) (record { statements = r.body; given = s.given }) s.body),
      elements_long f.elements,
      round_flow (keyword (codes "workflow") f.keyword) (ident f.name) (marked mark.OpenBrace f.opening) (marked mark.CloseBrace f.closing) (each workflow_element_words f.elements),
    )
