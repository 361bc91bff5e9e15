use Rattle.json_values.proofs.OrderLemmas.{read_ordered}
use Rattle.json_values.proofs.laws.texts_are_ordered.Goals as goal

pub returns : goal.returns
returns c = record { law = read_ordered }
