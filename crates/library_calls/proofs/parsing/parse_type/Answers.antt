use Rattle.std.proofs.Common.{◌≡◌, ◌-◌, ap, subst, sym, ◌∙◌, arith, length, drop, Ok}
use Rattle.wdl_ast.specs.Words.{type_words}
use Rattle.token_reading.specs.Outcome.{Fails}
use Rattle.token_reading.specs.TypeGrammar.{IsType}
use Rattle.wdl_parse_expr.specs.Contract.{read_type}
use Rattle.library_calls.specs.Parsing.{Fronts, IsLongest}
use Rattle.library_calls.proofs.Places.{left_fits, front_at, longest_at}
use Rattle.library_calls.proofs.Readings.{is_type_front, is_longest_type, refused_type}
use Rattle.library_calls.proofs.parsing.parse_type.Goals as goal

pub overflow_sub-result : goal.overflow_sub-result
overflow_sub-result c =
    let ts = c.args.tokens.now in
    let read : read_type (drop c.args.at ts) ≡ Ok (c.in-Ok.ty, c.read_type.new.tokens) = ap read_type (sym c.cursor_at-cursor.ensures) ∙ c.in-Ok.ensures in
    omega (arith, left_fits IsType type_words ts c.args.at c.in-Ok.ty c.read_type.new.tokens (is_type_front (drop c.args.at ts) c.in-Ok.ty c.read_type.new.tokens read), c.len-left.ensures)

pub returns-in-Ok-clause-found : goal.returns-in-Ok-clause-found
returns-in-Ok-clause-found c =
    let ts = c.args.tokens.now in
    let read : read_type (drop c.args.at ts) ≡ Ok (c.in-Ok.ty, c.read_type.new.tokens) = ap read_type (sym c.cursor_at-cursor.ensures) ∙ c.in-Ok.ensures in
    subst (λ n. Fronts IsType type_words (drop c.args.at ts) c.in-Ok.ty (drop (length ts - n) ts)) (sym c.len-left.ensures)
    (front_at IsType type_words ts c.args.at c.in-Ok.ty c.read_type.new.tokens (is_type_front (drop c.args.at ts) c.in-Ok.ty c.read_type.new.tokens read) c.requires)

pub returns-in-Ok-clause-longest : goal.returns-in-Ok-clause-longest
returns-in-Ok-clause-longest c =
    let ts = c.args.tokens.now in
    let read : read_type (drop c.args.at ts) ≡ Ok (c.in-Ok.ty, c.read_type.new.tokens) = ap read_type (sym c.cursor_at-cursor.ensures) ∙ c.in-Ok.ensures in
    subst (λ n. IsLongest IsType type_words (drop c.args.at ts) c.in-Ok.ty (drop (length ts - n) ts)) (sym c.len-left.ensures)
    (longest_at IsType type_words ts c.args.at c.in-Ok.ty c.read_type.new.tokens (is_type_front (drop c.args.at ts) c.in-Ok.ty c.read_type.new.tokens read) c.requires (is_longest_type (drop c.args.at ts) c.in-Ok.ty c.read_type.new.tokens read))

pub returns-in-Err-clause-refused : goal.returns-in-Err-clause-refused
returns-in-Err-clause-refused c = refused_type c.args.tokens.now (drop c.args.at c.args.tokens.now) c.in-Err.stop c.fault_of.result c.fault_of.ensures (subst (λ z. Fails (read_type z) c.in-Err.stop) c.cursor_at-cursor.ensures c.in-Err.ensures)
