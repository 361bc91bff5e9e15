use Rattle.std.proofs.Common.{rules, arith}
use Rattle.std.proofs.lemmas.List.FromFn.{map-range_with_len_more}
use Rattle.wdl_load.specs.Loads.{load_value}
use Rattle.wdl_load.proofs.value.load_values.Goals as goal

pub loop-number-preserved : goal.loop-number-preserved
loop-number-preserved c =
    let e = map-range_with_len_more load_value 0 c.loop-number.number c.loop-number.number (omega arith) in
    search (rules, e)
