use Rattle.std.proofs.Common.{◌≡◌, ◌-◌, ap, subst, sym, ◌∙◌, arith, length, drop, Ok}
use Rattle.wdl_ast.specs.Words.{words}
use Rattle.token_reading.specs.Outcome.{Fails}
use Rattle.wdl_parse_expr.specs.Contract.{read_expr}
use Rattle.wdl_parse_expr.specs.Grammar.{IsExpr}
use Rattle.library_calls.specs.Parsing.{Fronts, IsLongest}
use Rattle.library_calls.proofs.Places.{left_fits, front_at, longest_at, place}
use Rattle.library_calls.proofs.Readings.{is_front, is_longest, refused}
use Rattle.library_calls.proofs.parsing.parse_expr.Goals as goal

pub overflow_sub-result : goal.overflow_sub-result
overflow_sub-result c =
    let ts = c.args.tokens.now in
    let read : read_expr (drop c.args.at ts) ≡ Ok (c.in-Ok.expr, c.read_expr.new.tokens) = ap read_expr (sym c.cursor_at-cursor.ensures) ∙ c.in-Ok.ensures in
    omega (arith, left_fits IsExpr words ts c.args.at c.in-Ok.expr c.read_expr.new.tokens (is_front (drop c.args.at ts) c.in-Ok.expr c.read_expr.new.tokens read), c.len-left.ensures)

pub returns-in-Ok-clause-found : goal.returns-in-Ok-clause-found
returns-in-Ok-clause-found c =
    let ts = c.args.tokens.now in
    let read : read_expr (drop c.args.at ts) ≡ Ok (c.in-Ok.expr, c.read_expr.new.tokens) = ap read_expr (sym c.cursor_at-cursor.ensures) ∙ c.in-Ok.ensures in
    subst (λ n. Fronts IsExpr words (drop c.args.at ts) c.in-Ok.expr (drop (length ts - n) ts)) (sym c.len-left.ensures)
    (front_at IsExpr words ts c.args.at c.in-Ok.expr c.read_expr.new.tokens (is_front (drop c.args.at ts) c.in-Ok.expr c.read_expr.new.tokens read) c.requires)

pub returns-in-Ok-clause-longest : goal.returns-in-Ok-clause-longest
returns-in-Ok-clause-longest c =
    let ts = c.args.tokens.now in
    let read : read_expr (drop c.args.at ts) ≡ Ok (c.in-Ok.expr, c.read_expr.new.tokens) = ap read_expr (sym c.cursor_at-cursor.ensures) ∙ c.in-Ok.ensures in
    subst (λ n. IsLongest IsExpr words (drop c.args.at ts) c.in-Ok.expr (drop (length ts - n) ts)) (sym c.len-left.ensures)
    (longest_at IsExpr words ts c.args.at c.in-Ok.expr c.read_expr.new.tokens (is_front (drop c.args.at ts) c.in-Ok.expr c.read_expr.new.tokens read) c.requires (is_longest (drop c.args.at ts) c.in-Ok.expr c.read_expr.new.tokens read))

pub returns-in-Ok-clause-read : goal.returns-in-Ok-clause-read
returns-in-Ok-clause-read c =
    let ts = c.args.tokens.now in
    let read : read_expr (drop c.args.at ts) ≡ Ok (c.in-Ok.expr, c.read_expr.new.tokens) = ap read_expr (sym c.cursor_at-cursor.ensures) ∙ c.in-Ok.ensures in
    let front : Fronts IsExpr words (drop c.args.at ts) c.in-Ok.expr c.read_expr.new.tokens = is_front (drop c.args.at ts) c.in-Ok.expr c.read_expr.new.tokens read in
    subst (λ n. read_expr (drop c.args.at ts) ≡ Ok (c.in-Ok.expr, drop (length ts - n) ts)) (sym c.len-left.ensures)
    (subst (λ z. read_expr (drop c.args.at ts) ≡ Ok (c.in-Ok.expr, z)) (sym (place IsExpr words ts c.args.at c.in-Ok.expr c.read_expr.new.tokens front c.requires)) read)

pub returns-in-Err-clause-refused : goal.returns-in-Err-clause-refused
returns-in-Err-clause-refused c = refused c.args.tokens.now (drop c.args.at c.args.tokens.now) c.in-Err.stop c.fault_of.result c.fault_of.ensures (subst (λ z. Fails (read_expr z) c.in-Err.stop) c.cursor_at-cursor.ensures c.in-Err.ensures)
