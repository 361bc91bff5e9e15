use Rattle.wdl_base.specs.declared.name.Key.{Key}
use Rattle.wdl_typed.specs.Scope.{same_key}
use Rattle.wdl_names.specs.KeyTexts.{place_of}
use Rattle.wdl_names.proofs.FirstLemmas.{finds_pop}
use Rattle.wdl_names.proofs.index.Index.pop.Goals as goal

pub invariant_of-self : goal.invariant_of-self
invariant_of-self g c =
    finds_pop (λ (k : Key) x. same_key (g.T.Keyed.keyed x) k) (place_of c.self.inside.places.alone c.self.inside.places.outputs)
    c.pop.result c.self.inside.items c.pop.new.self c.self.invariant c.pop.ensures
