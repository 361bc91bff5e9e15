-- Bodies of workflows (OpenWDL 1.1, "Workflow Definition"): the statements in their dependency order, each of which sees what
-- those before it give out.
use Rattle.std.specs.Prelude.{ℕ, List, [], ◌∷◌, ◌++◌, map}
use Rattle.wdl_base.specs.declared.span.Span.{Span}
use Rattle.wdl_value.specs.declared.ty.Ty.TheVariants as ty
use Rattle.wdl_ast.specs.declared.expr.Expr.{Expr}
use Rattle.wdl_ast.specs.declared.leaf.Ident.{Ident}
use Rattle.wdl_ast.specs.declared.section.Declaration.{Declaration}
use Rattle.wdl_ast.specs.declared.workflow.Statement.{Statement as Written, Statement-F, para-Statement}
use Rattle.wdl_ast.specs.declared.workflow.Statement.TheOpen as layer
use Rattle.wdl_typed.specs.declared.expr.TExpr.{TExpr}
use Rattle.wdl_typed.specs.declared.flow.Statement.{Statement}
use Rattle.wdl_typed.specs.declared.flow.Statement.TheVariants as form
use Rattle.wdl_typed.specs.declared.task.TDecl.{TDecl}
use Rattle.wdl_typed.specs.Bodies.{Seen, joined as with_more, optional, retyped, with_item}
use Rattle.wdl_typed.specs.Order.{picked}
use Rattle.wdl_check_rules.specs.Spans.{joined}
use Rattle.wdl_check_types.specs.Outcome.{Outcome, done, then_}
use Rattle.wdl_check_types.specs.Places.{statement_span}
use Rattle.wdl_check_order.specs.Needs.{statement_needing}
use Rattle.wdl_check_order.specs.Ordered.{ordered}
use Rattle.wdl_check_decls.specs.declared.standing.Standing.TheVariants.{Body}
use Rattle.wdl_check_decls.specs.Declarations.{decl_typed}
use Rattle.wdl_check_flow.specs.declared.collection.Collection.{Collection}
use Rattle.wdl_check_flow.specs.Blocks.{collection_typed, condition_typed}
use Rattle.wdl_check_flow.specs.Calls.{Stated, call_typed}
use Rattle.wdl_check_flow.specs.Given.{decl_gives, nothing}
use Rattle.wdl_check_flow.specs.Numbers.{numbers_of}
use Rattle.wdl_check_flow.specs.Targets.{Place, world_at}

-- the typed statements, and what they give out together
pub record Typed_body : Type 0 where
  pub statements : List Statement
  pub given : Seen

-- a statement with its number, where this is seen
abbrev pub Checking : Type 0
Checking = ℕ → Seen → Outcome Stated

abbrev pub Part : Type 0
Part = Written × Checking

pub record Numbered : Type 0 where
  pub number : ℕ
  pub check : Checking

abbrev pub numbered : List ℕ → List Part → List Numbered
numbered [] ps = []
numbered (n ∷ ns) [] = []
numbered (n ∷ ns) (p ∷ ps) = record { number = n; check = p.1 } ∷ numbered ns ps

abbrev pub writtens : List Part → List Written
writtens = map (λ (p : Part). p.0)

-- ---- bodies

-- the statements behind those before, which give this
abbrev pub behind : Seen → List Statement → Seen → List Numbered → Outcome Typed_body
behind seen before given [] = done (record { statements = before; given = given })
behind seen before given (n ∷ ns) =
    then_ (n.check n.number (with_more seen given)) (λ (s : Stated). behind seen (before ++ s.statement ∷ []) (with_more given s.given) ns)

abbrev pub body_typed : List Part → Seen → Outcome Typed_body
body_typed parts seen =
    then_ (ordered (map statement_needing (writtens parts)) (map statement_span (writtens parts)))
    (λ ps. behind seen [] nothing (picked (numbered (numbers_of (writtens parts)) parts) ps))

-- ---- statements

abbrev pub decl_stated : TDecl → Stated
decl_stated d = record { statement = form.Decl d; given = decl_gives d }

abbrev pub decl_statement : Place → Seen → Declaration → Outcome Stated
decl_statement p seen d = then_ (decl_typed Body (world_at p seen) seen.names d) (λ t. done (decl_stated t))

abbrev pub scatter : ℕ → List ℕ → Span → TExpr → List Statement → Statement
scatter number item span over body = form.Scatter (record { number = number; item = item; over = over; body = body; span = span })

abbrev pub scatter_stated : ℕ → List ℕ → Span → Collection → Typed_body → Stated
scatter_stated number item span c b =
    record { statement = scatter number item span c.expr b.statements; given = retyped (λ u. ty.Array u c.some) b.given }

abbrev pub condition : ℕ → Span → TExpr → List Statement → Statement
condition number span cond body = form.If (record { number = number; cond = cond; body = body; span = span })

abbrev pub condition_stated : ℕ → Span → TExpr → Typed_body → Stated
condition_stated number span e b = record { statement = condition number span e b.statements; given = retyped optional b.given }

-- the body of a scatter sees an item
abbrev pub scatter_typed : Place → Ident → Expr → Span → (Seen → Outcome Typed_body) → Checking
scatter_typed p item over span body number seen =
    then_ (collection_typed p seen over) (λ (c : Collection).
    then_ (body (with_item seen item.name c.item)) (λ b. done (scatter_stated number item.name span c b)))

abbrev pub conditional_typed : Place → Expr → Span → (Seen → Outcome Typed_body) → Checking
conditional_typed p condition span body number seen =
    then_ (condition_typed p seen condition) (λ (e : TExpr). then_ (body seen) (λ b. done (condition_stated number span e b)))

abbrev pub statement_step : Place → Statement-F Part → Checking
statement_step p (layer.Declaration d) number seen = decl_statement p seen d
statement_step p (layer.Call c) number seen = call_typed p seen c
statement_step p (layer.Scatter s) number seen = scatter_typed p s.item s.over (joined s.keyword s.closing) (body_typed s.body) number seen
statement_step p (layer.Conditional i) number seen = conditional_typed p i.condition (joined i.keyword i.closing) (body_typed i.body) number seen

-- a statement by its number and what it sees
unfoldable pub statement_typed : Place → Written → Checking
statement_typed p = para-Statement Checking (statement_step p)

abbrev pub with_typing : Place → Written → Part
with_typing p s = (s, statement_typed p s)

-- the statements of a body as they are written
abbrev pub statements_typed : Place → List Written → Seen → Outcome Typed_body
statements_typed p ss = body_typed (map (with_typing p) ss)
