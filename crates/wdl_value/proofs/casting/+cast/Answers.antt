use Rattle.std.proofs.Common.{◌≡◌, rules}
use Rattle.wdl_value.specs.declared.value.Value.{the_lemmas as values}
use Rattle.wdl_value.specs.declared.ty.Ty.{the_lemmas as types}
use Rattle.wdl_value.specs.Cast.{cast, cast_list, cast_map}
use Rattle.wdl_value.specs.CastOut.{cast_out}
use Rattle.wdl_value.proofs.casting.+cast.Goals as goal

pub cast-returns-in-List-Array : goal.cast-returns-in-List-Array
cast-returns-in-List-Array t c =
    let e : cast c.args.v.now c.args.t.now ≡ cast_list c.as_slice.result.now c.get.result.now c.in-List-Array.some = search (rules, values, types, cast_out) in
    rw e c.cast_list.ensures

pub cast-returns-in-Map-Map : goal.cast-returns-in-Map-Map
cast-returns-in-Map-Map t c =
    let e : cast c.args.v.now c.args.t.now ≡ cast_map c.as_slice-in-Map-Map.result.now c.get-in-Map-Map.result.now c.get-in-Map-Map-2.result.now = search (rules, values, types, cast_out) in
    rw e c.cast_map.ensures
