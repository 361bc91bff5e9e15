use Rattle.std.proofs.Common.{◌≡◌, ◌+◌, length, rules, arith}
use Rattle.wdl_value.specs.declared.value.Value.{the_lemmas as values}
use Rattle.wdl_value.specs.Size.{size, size_row_list, size_field_list}
use Rattle.wdl_value.proofs.measure.+size.Goals as goal

pub size-returns-in-Map : goal.size-returns-in-Map
size-returns-in-Map t c =
    let e : size c.args.v.now ≡ 1 + size_row_list c.as_slice-in-Map.result.now = search (rules, values) in
    record { value = omega (arith, e) }

pub size-returns-in-Struct : goal.size-returns-in-Struct
size-returns-in-Struct t c =
    let e : size c.args.v.now ≡ 1 + (length c.as_str.result.now + size_field_list c.as_slice-in-Struct.result.now) = search (rules, values) in
    record { value = omega (arith, e) }
