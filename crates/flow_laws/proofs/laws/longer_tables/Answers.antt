use Rattle.flow_laws.proofs.Longer.{longer_tables, too_many_stay}
use Rattle.flow_laws.proofs.Rows.{longer_rows}
use Rattle.flow_laws.proofs.laws.longer_tables.Goals as goal

pub returns : goal.returns
returns c = record { tables = longer_tables; rows = longer_rows; too_many = too_many_stay }
