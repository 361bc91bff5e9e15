use Rattle.std.proofs.Common.{◌≡◌, rules, sym, ◌∙◌}
use Rattle.wdl_value.specs.declared.value.Value.{the_lemmas as values}
use Rattle.wdl_value.specs.declared.ty.Ty.{the_lemmas as types}
use Rattle.wdl_value.specs.Fits.{takes, takes_list}
use Rattle.wdl_value.proofs.fitting.+takes.Goals as goal

pub takes-returns-in-Array : goal.takes-returns-in-Array
takes-returns-in-Array t c =
    let e : takes c.args.structs.now c.args.value.now c.args.t.now ≡ takes_list c.args.structs.now c.as_slice.result.now c.get.result.now c.in-Array.some = search (rules, values, types) in
    c.takes_list.ensures ∙ sym e
