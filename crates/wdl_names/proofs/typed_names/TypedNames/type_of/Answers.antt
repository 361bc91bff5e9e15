use Rattle.std.proofs.Common.{option_map, sym, ap, ◌∙◌}
use Rattle.wdl_typed.specs.declared.scope.Bound.{Bound}
use Rattle.wdl_typed.specs.Scope.{type_in}
use Rattle.wdl_names.proofs.NameLemmas.{type_in-find}
use Rattle.wdl_names.proofs.typed_names.TypedNames.type_of.Goals as goal

pub returns : goal.returns
returns c =
    c.ty_of.ensures ∙ ap (option_map (λ (b : Bound). b.ty)) c.find.ensures ∙ sym (type_in-find c.args.key.now c.self.inside.bounds)
    ∙ ap (λ bs. type_in bs c.args.key.now) c.self.view_is
