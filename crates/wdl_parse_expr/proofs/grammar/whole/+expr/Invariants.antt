use Rattle.wdl_parse_expr.proofs.grammar.whole.+expr.Given as goal

abbrev pub decreases-expr : goal.decreases-expr
decreases-expr l = l.depth
