use Rattle.wdl_check_decls.proofs.WellTyped.{cast_types, decl_types, decls_types, expr_types, inputs_types, placed_types}
use Rattle.wdl_check_decls.proofs.laws.declarations_are_well_typed.Goals as goal

pub returns : goal.returns
returns c = record {
  expression = expr_types;
  cast = cast_types;
  placed = placed_types;
  inputs = inputs_types;
  declaration = decl_types;
  declarations = decls_types;
}
