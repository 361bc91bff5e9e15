use Rattle.std.proofs.Common.{ℕ, List}
use Rattle.std.specs.BTreeMap.{get_by_text}
use Rattle.std.specs.Str.{bytes_eq}
use Rattle.wdl_names.proofs.FirstLemmas.{finds_pop}
use Rattle.wdl_names.proofs.name_stack.NameStack.leave.Goals as goal

pub invariant_of-self : goal.invariant_of-self
invariant_of-self c =
    finds_pop (λ (q n : List ℕ). bytes_eq n q) (get_by_text c.self.inside.places.places) c.pop.result c.self.inside.names c.pop.new.self c.self.invariant c.pop.ensures
