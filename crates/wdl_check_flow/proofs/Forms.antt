-- The typing of a statement, form by form.
use Rattle.std.proofs.Common.{◌≡◌, ℕ, sym, ap, ◌∙◌}
use Rattle.wdl_ast.specs.declared.section.Declaration.{Declaration}
use Rattle.wdl_ast.specs.declared.workflow.Call.{Call}
use Rattle.wdl_ast.specs.declared.workflow.Conditional.{Conditional}
use Rattle.wdl_ast.specs.declared.workflow.Scatter.{Scatter}
use Rattle.wdl_ast.specs.declared.workflow.Statement.{Statement, Statement-F, map-Statement, para-roll-Statement, roll-Statement}
use Rattle.wdl_ast.specs.declared.workflow.Statement.TheVariants as form
use Rattle.wdl_typed.specs.Bodies.{Seen}
use Rattle.wdl_check_rules.specs.Spans.{joined}
use Rattle.wdl_check_flow.specs.Bodies.{Checking, Part, conditional_typed, decl_statement, scatter_typed, statement_step, statement_typed, statements_typed, with_typing}
use Rattle.wdl_check_flow.specs.Calls.{call_typed}
use Rattle.wdl_check_flow.specs.Targets.{Place}

pub typed_roll : (p : Place) (y : Statement-F Statement) (number : ℕ) (seen : Seen) → statement_typed p (roll-Statement y) number seen ≡ statement_step p (map-Statement Statement Part (with_typing p) y) number seen
unfolding statement_typed
typed_roll p y number seen = ap (λ (f : Checking). f number seen) (para-roll-Statement Checking (statement_step p) y)

typed_at : (p : Place) (s : Statement) (y : Statement-F Statement) (number : ℕ) (seen : Seen) → roll-Statement y ≡ s → statement_typed p s number seen ≡ statement_step p (map-Statement Statement Part (with_typing p) y) number seen
typed_at p s y number seen is = ap (λ (x : Statement). statement_typed p x number seen) (sym is) ∙ typed_roll p y number seen

pub typed_declaration : (p : Place) (d : Declaration) (number : ℕ) (seen : Seen) → statement_typed p (form.Declaration d) number seen ≡ decl_statement p seen d
typed_declaration p d number seen = typed_at p _ _ number seen (form.rolls-Declaration d)

pub typed_call : (p : Place) (c : Call) (number : ℕ) (seen : Seen) → statement_typed p (form.Call c) number seen ≡ call_typed p seen c
typed_call p c number seen = typed_at p _ _ number seen (form.rolls-Call c)

pub typed_scatter : (p : Place) (s : Scatter Statement) (number : ℕ) (seen : Seen)
    → statement_typed p (form.Scatter s) number seen ≡ scatter_typed p s.item s.over (joined s.keyword s.closing) (statements_typed p s.body) number seen
typed_scatter p s number seen = typed_at p _ _ number seen (form.rolls-Scatter s)

pub typed_conditional : (p : Place) (i : Conditional Statement) (number : ℕ) (seen : Seen)
    → statement_typed p (form.Conditional i) number seen ≡ conditional_typed p i.condition (joined i.keyword i.closing) (statements_typed p i.body) number seen
typed_conditional p i number seen = typed_at p _ _ number seen (form.rolls-Conditional i)
