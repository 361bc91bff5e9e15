use Rattle.std.proofs.Common.{[], ◌∷◌, ◌++◌, ◌+◌, drop, Ok, inl, sym, subst, ap, ◌∙◌, arith}
use Rattle.run_keeper.specs.Ahead.{IsAhead}
use Rattle.run_keeper.specs.Entries.{IsText}
use Rattle.serde_json.specs.Data.{string}
use Rattle.run_keeper.proofs.ListLemmas.{next_at, read_all, given_ok}
use Rattle.run_keeper.proofs.list.text_items.Goals as goal

pub loop-value-init : goal.loop-value-init
loop-value-init c = λ xs sound left. record { rest = xs; whole = ap (λ all. all ++ xs) (sym c.new-all.ensures); sound = sound; left = left }

pub loop-value-preserved : goal.loop-value-preserved
loop-value-preserved c = λ xs sound left.
    let i = c.loop-value.value-index in
    let n = next_at c.args.values.now i c.value-item.result c.loop-value-test.true c.value-item.is (c.loop-value.invariant xs sound left) in
    let read = given_ok c.in_ok-text_of.field-0 n.next (c.in_ok-text_of.ensures n.next n.sound n.same) in
    let all = c.in_ok-push.ensures.ok ∙ ap (λ x. c.loop-value.all ++ x ∷ []) read in
    subst (λ all. IsAhead string IsText (drop (i + 1) c.args.values.now) xs all) (sym all) n.ahead

pub returns-in_err-text_of : goal.returns-in_err-text_of
returns-in_err-text_of c = λ xs sound left.
    let n = next_at c.args.values.now c.loop-value.value-index c.value-item.result c.loop-value-test.true c.value-item.is (c.loop-value.invariant xs sound left) in
    grind (arith, c.in_err-text_of.ensures n.next n.sound n.same)

pub returns : goal.returns
returns c = λ xs sound left.
    inl (ap Ok (read_all c.args.values.now c.loop-value.value-index c.loop-value-test.false (c.loop-value.invariant xs sound left)))
