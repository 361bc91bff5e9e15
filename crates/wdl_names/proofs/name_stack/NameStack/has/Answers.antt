use Rattle.std.proofs.Common.{ℕ, List, sym, ◌∙◌}
use Rattle.std.specs.BTreeMap.{get_by_text}
use Rattle.std.specs.Str.{bytes_eq}
use Rattle.wdl_names.proofs.FirstLemmas.{looked_for}
use Rattle.wdl_names.proofs.NameLemmas.{has_name-find}
use Rattle.wdl_names.proofs.name_stack.NameStack.has.Goals as goal

pub returns : goal.returns
returns c =
    looked_for (λ (q n : List ℕ). bytes_eq n q) (get_by_text c.self.inside.places.places) c.args.name.now
    c.stands.result c.as_slice.result.now c.self.inside.names c.args.self.now c.get-place.result
    c.stands.ensures c.as_slice.ensures c.self.view_is c.get-place.ensures c.self.invariant
    ∙ sym (has_name-find c.args.name.now c.args.self.now)
