use Rattle.std.proofs.Common.{◌≡◌, ◌&&◌, ◌||◌, map, drop}
use Rattle.std.specs.List.{list_all, list_any}
use Rattle.wdl_typed.specs.KnownTypes.{is_some}
use Rattle.cwl_image.specs.declared.literal.Literal.{Literal}
use Rattle.cwl_image.specs.Expressions.{is_zero, literal_of}
use Rattle.cwl_rules.proofs.literal.+literal.Given as goal

abbrev pub invariant-list_literal-loop-e : goal.invariant-list_literal-loop-e
invariant-list_literal-loop-e l =
    ((l.is_literal && list_all (λ (x : Literal). x.is_literal) (map literal_of (drop l.e-index l.es)))
    ≡ list_all (λ (x : Literal). x.is_literal) (map literal_of l.es))
    × ((l.are_numbers && list_all (λ (x : Literal). is_some x.number) (map literal_of (drop l.e-index l.es)))
    ≡ list_all (λ (x : Literal). is_some x.number) (map literal_of l.es))
    × ((l.has_zero || list_any (λ (x : Literal). is_zero x.number) (map literal_of (drop l.e-index l.es)))
    ≡ list_any (λ (x : Literal). is_zero x.number) (map literal_of l.es))
