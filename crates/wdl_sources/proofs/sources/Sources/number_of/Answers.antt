use Rattle.std.proofs.Common.{◌≡◌, ◌∙◌, ℕ, List, false, Some, IfSome, IfNone, ap, is_some, slice_get, subst}
use Rattle.std.specs.Map.{values_of}
use Rattle.wdl_base.specs.Names.{is_among}
use Rattle.wdl_sources.specs.declared.source.Source.{Source}
use Rattle.wdl_sources.specs.Walks.{paths}
use Rattle.wdl_sources.proofs.PathLemmas.{at_path, numbered, unnumbered}
use Rattle.wdl_sources.proofs.sources.Sources.number_of.Goals as goal

pub returns-clause-some : goal.returns-clause-some
returns-clause-some c =
    let path = c.args.path.now in
    let entries = c.self.inside.by_path.entries in
    let number = c.get_index_of.result in
    let value = subst (λ (p : List ℕ). IfSome number (λ k. slice_get (values_of entries) k ≡ at_path p entries)) c.as_str.ensures.value c.get_index_of.ensures.value in
    subst (λ (ss : List Source). IfSome number (λ k. slice_get (paths ss) k ≡ Some path)) c.self.view_is
    (numbered path entries number c.self.invariant c.get_index_of.ensures.within value)

pub returns-clause-none : goal.returns-clause-none
returns-clause-none c =
    let path = c.args.path.now in
    let entries = c.self.inside.by_path.entries in
    subst (λ (ss : List Source). IfNone c.get_index_of.result (is_among path (paths ss) ≡ false)) c.self.view_is
    (unnumbered path entries c.get_index_of.result c.self.invariant (c.get_index_of.ensures.found ∙ ap (λ p. is_some (at_path p entries)) c.as_str.ensures.value))
