use Rattle.std.proofs.Common.{◌≡◌, Bool, ◌&&◌, IfOk, ap, subst, sym, ◌∙◌}
use Rattle.wdl_typed.specs.Lists.{numbers_differ}
use Rattle.wdl_well_typed.proofs.NumberLemmas.{fresh_numbers-differ}
use Rattle.wdl_well_typed.proofs.numbered.are_counted.Goals as goal

pub returns : goal.returns
returns c =
    subst (λ (z : Bool). IfOk c.numbers_differ.result (λ b. b ≡ z))
    (fresh_numbers-differ c.args.numbers.now ∙ ap (λ t. t && numbers_differ c.args.numbers.now) (sym c.if-not-are_below.false ∙ c.are_below.ensures))
    c.numbers_differ.ensures
