-- Whole expressions, whole types and the parts of a command, read and written.
use Rattle.std.proofs.Common.{◌≡◌, false, List, ◌∷◌, ◌++◌, Ok, refl, arith}
use Rattle.wdl_base.specs.declared.span.Span.{Span}
use Rattle.wdl_ast.specs.declared.token.Kind.TheVariants as kind
use Rattle.wdl_ast.specs.declared.string.StringPart.{StringPart}
use Rattle.wdl_ast.specs.declared.expr.Expr.{Expr}
use Rattle.wdl_ast.specs.declared.type_tree.TypeTree.{TypeTree}
use Rattle.wdl_ast.specs.Words.{Words, at, words, type_words, parts_words}
use Rattle.token_reading.specs.declared.fault.Fault.{Fault}
use Rattle.token_reading.specs.declared.tall.Tall.{Tall}
use Rattle.token_reading.specs.declared.tall.Rule.TheVariants as rule
use Rattle.token_reading.specs.Outcome.{tall}
use Rattle.wdl_parse_expr.specs.Grammar.{Parts, Tree, max_depth, IsExpr, AreParts}
use Rattle.token_reading.specs.TypeGrammar.{max_type_depth, IsType}
use Rattle.wdl_parse_expr.specs.Context.{Part, an_expr, a_part, root, type_root, Points, ExprCause, TypeCause}
use Rattle.wdl_parse_expr.specs.Reading.{parts, expr}
use Rattle.token_reading.specs.TypeReading.{type_at}
use Rattle.wdl_parse_expr.specs.Contract.{expr_continues, type_continues, read_expr, read_type, read_parts}
use Rattle.token_reading.proofs.Steps.{then_is}
use Rattle.token_reading.proofs.Says.{Says, Takes, says_then}
use Rattle.wdl_parse_expr.proofs.Sound.{tall_words, expr_sound, expr_takes, parts_sound}
use Rattle.wdl_parse_expr.proofs.Goes.{exact}
use Rattle.wdl_parse_expr.proofs.Primaries.{parts_is}
use Rattle.wdl_parse_expr.proofs.Rules.{expr_full, expr_starts}
use Rattle.wdl_parse_expr.proofs.TypeLaws.{type_exact, type_sound, type_full}

-- C is said of a fault, and of all the tokens those that are read stand at the end, where a whole expression, type or part of a command stands.
module _ (Root : Part → Words → Type 0) (tokens : Words) (C : Fault → Type 0) (blame : (f : Fault) → Points (ExprCause max_depth Root f.code) tokens f.span → C f) where
  pub expr_reads : (front ts : Words) → tokens ≡ front ++ ts → Root an_expr front → Says C (Takes IsExpr words ts) (read_expr ts)
  unfolding read_expr
  expr_reads front ts e here = says_then C (Takes (λ (t : Tall Expr). Tree max_depth rule.Expr t.depth t.tree) tall_words ts) (Takes IsExpr words ts) (expr max_depth rule.Expr ts) _
      (expr_sound max_depth Root tokens C blame max_depth rule.Expr ts (front, 0, e, root an_expr front here, omega arith)) (λ x rest a. (a.0, (x.depth, a.1)))

  pub parts_reads : (front ts : Words) → tokens ≡ front ++ ts → Root a_part front → Says C (Takes AreParts (parts_words words) ts) (read_parts ts)
  unfolding read_parts
  parts_reads front ts e here = says_then C (Takes (λ (t : Tall (List (StringPart Expr))). Parts (Tree max_depth) t.tree 0 t.depth) (λ t. parts_words words t.tree) ts) (Takes AreParts (parts_words words) ts)
      (parts (expr max_depth) ts) _ (parts_sound max_depth Root tokens C blame max_depth (expr max_depth) (expr_sound max_depth Root tokens C blame max_depth) ts (front, 0, e, root a_part front here, omega arith)) (λ x rest a. (a.0, (x.depth, a.1)))

pub type_reads : (Root : Words → Type 0) (tokens : Words) (C : Fault → Type 0) → ((f : Fault) → Points (TypeCause Root f.code) tokens f.span → C f) → (front ts : Words) → tokens ≡ front ++ ts → Root front
    → Says C (Takes IsType type_words ts) (read_type ts)
unfolding read_type
type_reads Root tokens C blame front ts e here = type_sound Root tokens C blame max_type_depth ts (front, 0, e, type_root front here, refl)

pub expr_read : (x : Expr) → IsExpr x → (tail : Words) → expr_continues tail ≡ false → read_expr (words x ++ tail) ≡ Ok (x, tail)
unfolding read_expr
expr_read x p tail stops = then_is (expr max_depth rule.Expr (words x ++ tail)) _ (tall x p.0, tail) (exact 6 _ (tall x p.0) tail stops (expr_full max_depth rule.Expr p.0 x p.1 tail))

pub type_read : (t : TypeTree) → IsType t → (tail : Words) → type_continues tail ≡ false → read_type (type_words t ++ tail) ≡ Ok (t, tail)
unfolding read_type
type_read t p tail stops = type_exact (type_at max_type_depth (type_words t ++ tail)) t tail stops (type_full max_type_depth t p tail)

pub parts_read : (ps : List (StringPart Expr)) → AreParts ps → (c : Span) (tail : Words) → read_parts (parts_words words ps ++ at kind.CommandClose c ∷ tail) ≡ Ok (ps, at kind.CommandClose c ∷ tail)
unfolding read_parts
parts_read ps p c tail = then_is (parts (expr max_depth) (parts_words words ps ++ at kind.CommandClose c ∷ tail)) _ (tall ps p.0, at kind.CommandClose c ∷ tail)
    (parts_is max_depth (expr max_depth) (expr_takes max_depth) (expr_full max_depth) (expr_starts max_depth) ps p.0 (at kind.CommandClose c) tail (λ rest. refl) p.1)
