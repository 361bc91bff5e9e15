use Rattle.std.specs.BTreeMap.{get_by_text}
use Rattle.std.specs.Str.{bytes_eq}
use Rattle.wdl_names.proofs.FirstLemmas.{placed, placed_within}
use Rattle.wdl_names.proofs.indexed.Indexed.place.Goals as goal

pub returns-clause-found : goal.returns-clause-found
returns-clause-found g c =
    placed (λ x. bytes_eq (g.T.Named.named x) c.args.name.now) c.self.inside.items.now c.args.self.now c.get.result
    (get_by_text c.self.inside.places.places c.args.name.now) c.get.ensures (c.self.invariant c.args.name.now) c.self.view_is

pub returns-clause-within : goal.returns-clause-within
returns-clause-within g c =
    placed_within (λ x. bytes_eq (g.T.Named.named x) c.args.name.now) c.self.inside.items.now c.args.self.now c.get.result
    (get_by_text c.self.inside.places.places c.args.name.now) c.get.ensures (c.self.invariant c.args.name.now) c.self.view_is
