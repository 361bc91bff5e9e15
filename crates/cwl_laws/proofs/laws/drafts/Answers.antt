use Rattle.std.proofs.Common.{[]}
use Rattle.cwl_laws.proofs.Given.{given_same}
use Rattle.cwl_laws.proofs.Ids.{blocks_read, id_same, item_apart, name_reads, when_apart}
use Rattle.cwl_laws.proofs.Uses.{statement_wires, uses_typed}
use Rattle.cwl_laws.proofs.laws.drafts.Goals as goal

pub returns : goal.returns
returns c = record { read = (name_reads, blocks_read); differ = (id_same, item_apart, when_apart); wires = λ lib processes st. statement_wires lib processes [] st; given = given_same; uses = uses_typed }
