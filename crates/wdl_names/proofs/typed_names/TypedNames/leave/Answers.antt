use Rattle.std.specs.BTreeMap.{get_by_text}
use Rattle.wdl_names.specs.Names.{is_call_of}
use Rattle.wdl_names.proofs.FirstLemmas.{finds_pop}
use Rattle.wdl_names.proofs.typed_names.TypedNames.leave.Goals as goal

pub invariant_of-self : goal.invariant_of-self
invariant_of-self c = finds_pop is_call_of (get_by_text c.self.inside.calls.places) c.pop.result c.self.inside.bounds c.pop.new.self c.self.invariant c.pop.ensures
