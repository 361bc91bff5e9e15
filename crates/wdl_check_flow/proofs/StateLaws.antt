-- What code answers for statements, from what it answers for their parts.
use Rattle.std.proofs.Common.{◌≡◌, ℕ, List, Option, Some, None, Result, Ok, Err, length, refl, sym, ap, ◌∙◌, subst, inl}
use Rattle.wdl_base.specs.declared.span.Span.{Span}
use Rattle.wdl_ast.specs.declared.section.Declaration.{Declaration}
use Rattle.wdl_ast.specs.declared.expr.Expr.{Expr}
use Rattle.wdl_ast.specs.declared.leaf.Ident.{Ident}
use Rattle.wdl_ast.specs.declared.workflow.Statement.{Statement as Written}
use Rattle.wdl_value.specs.declared.ty.Ty.TheVariants as ty
use Rattle.wdl_typed.specs.declared.expr.TExpr.{TExpr}
use Rattle.wdl_typed.specs.declared.flow.Statement.{Statement}
use Rattle.wdl_typed.specs.declared.flow.Statement.TheVariants as form
use Rattle.wdl_typed.specs.declared.task.TDecl.{TDecl}
use Rattle.wdl_typed.specs.Bodies.{Seen, joined, optional, retyped, with_item}
use Rattle.wdl_check_rules.specs.declared.fault.CheckFault.{CheckFault}
use Rattle.wdl_check_rules.specs.declared.fault.CheckFault.TheVariants.{Bad}
use Rattle.wdl_check_types.specs.Outcome.{Answers, Outcome, done, or_refused, then_}
use Rattle.wdl_check_types.proofs.OutcomeLaws.{then_err, then_ok}
use Rattle.wdl_check_decls.specs.declared.standing.Standing.TheVariants.{Body}
use Rattle.wdl_check_decls.specs.Declarations.{decl_typed}
use Rattle.wdl_check_flow.specs.declared.collection.Collection.{Collection}
use Rattle.wdl_check_flow.specs.declared.visible.Gathering.TheVariants.{List as ListOf, Optional}
use Rattle.wdl_check_flow.specs.Blocks.{collection_typed, condition_typed}
use Rattle.wdl_check_flow.specs.Bodies.{Typed_body, condition, condition_stated, conditional_typed, decl_stated, decl_statement, scatter, scatter_stated, scatter_typed, statements_typed}
use Rattle.wdl_check_flow.specs.Calls.{Stated}
use Rattle.wdl_check_flow.specs.Given.{decl_gives, gathered_behind}
use Rattle.wdl_check_flow.specs.Stating.{States, StatesBody}
use Rattle.wdl_check_flow.specs.Targets.{Place, world_at}
use Rattle.wdl_check_flow.proofs.SeenLaws.{behind_condition, behind_scatter}

abbrev stated_with : Statement → Seen → Option Stated
stated_with x given = Some (record { statement = x; given = given })

abbrev body_with : List Statement → Seen → Typed_body
body_with ss given = record { statements = ss; given = given }

-- the first part and the body of a block, and then the block
module _ {A : Type 0} (first : Outcome A) (body : A → Outcome Typed_body) (made : A → Typed_body → Stated) (whole : Outcome Stated)
    (is : whole ≡ then_ first (λ a. then_ (body a) (λ b. done (made a b)))) where
  pub block_refused : (e : CheckFault) → Answers first (Err e) → Answers whole (Err e)
  block_refused e h = subst (λ (o : Outcome Stated). Answers o (Err e)) (sym is) (then_err first (λ a. then_ (body a) (λ b. done (made a b))) e h)

  pub body_refused : (a : A) (e : CheckFault) → first.typed ≡ Some a → Answers (body a) (Err e) → Answers whole (Err e)
  body_refused a e f h =
      subst (λ (o : Outcome Stated). Answers o (Err e)) (sym is)
      (then_ok first (λ a. then_ (body a) (λ b. done (made a b))) a (Err e) f (then_err (body a) (λ b. done (made a b)) e h))

  pub block_stated : (a : A) (b : Typed_body) → first.typed ≡ Some a → (body a).typed ≡ Some b → whole.typed ≡ Some (made a b)
  block_stated a b f h =
      subst (λ (o : Outcome Stated). Answers o (Ok (made a b))) (sym is)
      (then_ok first (λ a. then_ (body a) (λ b. done (made a b))) a (Ok (made a b)) f (then_ok (body a) (λ b. done (made a b)) b (Ok (made a b)) h refl))

-- ---- forms

pub states_as : (o w : Outcome Stated) (before after : Seen) (r : Result Statement CheckFault) → o ≡ w → States w before after r → States o before after r
states_as o w before after r is h = subst (λ (x : Outcome Stated). States x before after r) (sym is) h

module _ (p : Place) (item : Ident) (over : Expr) (span : Span) (body : List Written) (number : ℕ) (seen : Seen) where
  abbrev scatter_whole : Outcome Stated
  scatter_whole = scatter_typed p item over span (statements_typed p body) number seen

  abbrev scatter_body : Collection → Outcome Typed_body
  scatter_body c = statements_typed p body (with_item seen item.name c.item)

  abbrev scatter_made : Collection → Typed_body → Stated
  scatter_made = scatter_stated number item.name span

  pub scatter_refused : (after : Seen) (e : CheckFault) → Answers (collection_typed p seen over) (Err e) → States scatter_whole seen after (Err e)
  scatter_refused after e h =
      block_refused (collection_typed p seen over) scatter_body scatter_made scatter_whole refl e h

  pub scatter_out : (c : Collection) (entered after : Seen) (e : CheckFault) → (collection_typed p seen over).typed ≡ Some c → entered ≡ with_item seen item.name c.item
      → Answers (statements_typed p body entered) (Err e) → States scatter_whole seen after (Err e)
  scatter_out c entered after e f is h =
      body_refused (collection_typed p seen over) scatter_body scatter_made scatter_whole refl c e f
      (subst (λ (z : Seen). Answers (statements_typed p body z) (Err e)) is h)

  pub scatter_states : (c : Collection) (entered inside after : Seen) (kept from : ℕ) (ss : List Statement) (x : Statement)
      → (collection_typed p seen over).typed ≡ Some c → entered ≡ with_item seen item.name c.item → kept ≡ length seen.names → from ≡ length entered.names
      → StatesBody (statements_typed p body entered) entered inside (Ok ss) → after ≡ gathered_behind (ListOf c.some) kept from inside
      → x ≡ scatter number item.name span c.expr ss
      → States scatter_whole seen after (Ok x)
  scatter_states c entered inside after kept from ss x f is first second inner gives made =
      let g : Seen = retyped (λ u. ty.Array u c.some) inner.0 in (
        g,
        block_stated (collection_typed p seen over) scatter_body scatter_made scatter_whole refl c (body_with ss inner.0) f
            (subst (λ (z : Seen). (statements_typed p body z).typed ≡ Some (body_with ss inner.0)) is inner.1)
            ∙ ap (λ (z : Statement). stated_with z g) (sym made),
        gives
            ∙ ap (λ n. gathered_behind (ListOf c.some) n from inside) first
            ∙ ap (λ n. gathered_behind (ListOf c.some) (length seen.names) n inside) (second ∙ ap (λ (z : Seen). length z.names) is)
            ∙ ap (gathered_behind (ListOf c.some) (length seen.names) (length (with_item seen item.name c.item).names)) (inner.2 ∙ ap (λ (z : Seen). joined z inner.0) is)
            ∙ behind_scatter seen inner.0 item.name c.item c.some,
      )

module _ (p : Place) (test : Expr) (span : Span) (body : List Written) (number : ℕ) (seen : Seen) where
  abbrev condition_whole : Outcome Stated
  condition_whole = conditional_typed p test span (statements_typed p body) number seen

  abbrev condition_body : TExpr → Outcome Typed_body
  condition_body e = statements_typed p body seen

  abbrev condition_made : TExpr → Typed_body → Stated
  condition_made = condition_stated number span

  pub condition_refused : (after : Seen) (e : CheckFault) → Answers (condition_typed p seen test) (Err e) → States condition_whole seen after (Err e)
  condition_refused after e h =
      block_refused (condition_typed p seen test) condition_body condition_made condition_whole refl e h

  pub condition_out : (t : TExpr) (after : Seen) (e : CheckFault) → (condition_typed p seen test).typed ≡ Some t
      → Answers (statements_typed p body seen) (Err e) → States condition_whole seen after (Err e)
  condition_out t after e f h =
      body_refused (condition_typed p seen test) condition_body condition_made condition_whole refl t e f h

  pub condition_states : (t : TExpr) (inside after : Seen) (kept : ℕ) (ss : List Statement) (x : Statement)
      → (condition_typed p seen test).typed ≡ Some t → kept ≡ length seen.names
      → StatesBody (statements_typed p body seen) seen inside (Ok ss) → after ≡ gathered_behind Optional kept kept inside
      → x ≡ condition number span t ss
      → States condition_whole seen after (Ok x)
  condition_states t inside after kept ss x f first inner gives made =
      let g : Seen = retyped optional inner.0 in (
        g,
        block_stated (condition_typed p seen test) condition_body condition_made condition_whole refl t (body_with ss inner.0) f inner.1
            ∙ ap (λ (z : Statement). stated_with z g) (sym made),
        gives
            ∙ ap (λ n. gathered_behind Optional n n inside) first
            ∙ ap (gathered_behind Optional (length seen.names) (length seen.names)) inner.2
            ∙ behind_condition seen inner.0,
      )

-- ---- parts of statements

-- a code where what was typed makes nothing
pub refused_by : {A B : Type 0} (first : Outcome A) (made : A → Option B) (code : ℕ) (span : Span) (a : A) → first.typed ≡ Some a → made a ≡ None
    → Answers (then_ first (λ x. or_refused code span (made x))) (Err (Bad code span))
refused_by {A} {B} first made code span a e none =
    then_ok first (λ x. or_refused code span (made x)) a (Err (Bad code span)) e (subst (λ (o : Option B). Answers (or_refused code span o) (Err (Bad code span))) (sym none) (refl, inl refl))

pub decl_states : (p : Place) (seen : Seen) (d : Declaration) (t u v : TDecl) (after : Seen) → (decl_typed Body (world_at p seen) seen.names d).typed ≡ Some t → u ≡ t → after ≡ joined seen (decl_gives u)
    → v ≡ t → States (decl_statement p seen d) seen after (Ok (form.Decl v))
decl_states p seen d t u v after e same gives made = (
  decl_gives t,
  then_ok (decl_typed Body (world_at p seen) seen.names d) (λ x. done (decl_stated x)) t (Ok (decl_stated t)) e refl ∙ ap (λ (z : TDecl). stated_with (form.Decl z) (decl_gives t)) (sym made),
  gives ∙ ap (λ (z : TDecl). joined seen (decl_gives z)) same,
)
