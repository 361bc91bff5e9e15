-- What each document offers, as code has it.
use Rattle.std.specs.Prelude.{map}
use Rattle.wdl_check_flow.specs.Targets.{offer_of}
use Rattle.wdl_check_doc.specs.declared.table.Reaching.{Reaching}
use Rattle.wdl_check_doc.specs.declared.table.Table.{Table as Held}
use Rattle.wdl_check_doc.specs.Offers.{Table}

abbrev pub table_of : Held → Table
table_of t = record { own = map offer_of t.own.now; all = map offer_of t.all.items }

abbrev pub reaching_of : Reaching → Table
reaching_of r = record { own = map offer_of r.own.now; all = map offer_of r.all }
