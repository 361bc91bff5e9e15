use Rattle.wdl_order.proofs.LeastLaws as law
use Rattle.wdl_order.proofs.laws.orders_are_least.Goals as goal

pub returns : goal.returns
returns c = record { least = law.least; one = law.one; nothing = law.nothing; circular = law.none }
