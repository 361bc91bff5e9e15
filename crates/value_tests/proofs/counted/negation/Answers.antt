use Rattle.value_tests.proofs.Negations.{negation_is_ready}
use Rattle.value_tests.proofs.counted.negation.Goals as goal

pub eval-requires : goal.eval-requires
eval-requires g c =
    let literal = c.in_ok-literal.ensures in
    let whole = c.in_ok-e.ensures in
    let lent = c.get.ensures in
    record { ready = negation_is_ready c.get.result.now c.args.b c.new-env.result cc }
