use Rattle.std.proofs.Common.{◌≡◌, ◌-◌, ap, sym, ◌∙◌, subst, rules, arith}
use Rattle.std.proofs.lemmas.Grind.{common_steps}
use Rattle.token_reading.specs.Outcome.{then_, missing, Reads}
use Rattle.token_reading.proofs.Turns.{one_more}
use Rattle.wdl_parse_doc.specs.Reading.Blocks.{block_at, turns_from}
use Rattle.wdl_parse_doc.proofs.block.read_block.Goals as goal

pub loop-turn-preserved : goal.loop-turn-preserved
unfolding turns_from then_
loop-turn-preserved c =
    let e = one_more (λ n. turns_from n c.loop-turn.block c.loop-turn.tokens) _ c.loop-turn._turn c.loop-turn-test.true c.loop-turn.invariant in
    first_of (search rules, grind (arith, common_steps))

pub returns-in_err-statement : goal.returns-in_err-statement
unfolding turns_from then_
returns-in_err-statement c =
    let e = one_more (λ n. turns_from n c.loop-turn.block c.loop-turn.tokens) _ c.loop-turn._turn c.loop-turn-test.true c.loop-turn.invariant in
    first_of (search rules, grind (arith, common_steps))

pub returns-in-Done : goal.returns-in-Done
unfolding turns_from then_
returns-in-Done c =
    let e = one_more (λ n. turns_from n c.loop-turn.block c.loop-turn.tokens) _ c.loop-turn._turn c.loop-turn-test.true c.loop-turn.invariant in
    first_of (search rules, grind (arith, common_steps))

pub returns : goal.returns
unfolding turns_from
returns c =
    let over : c.len-turn-end.result - c.loop-turn._turn ≡ 0 = omega arith in
    let none : block_at c.args.head c.args.tokens.now ≡ missing = c.loop-turn.invariant ∙ ap (λ n. turns_from n c.loop-turn.block c.loop-turn.tokens) over in
    subst (λ z. Reads (block_at c.args.head c.args.tokens.now) z c.loop-turn.tokens) (sym c.unended.ensures) none
