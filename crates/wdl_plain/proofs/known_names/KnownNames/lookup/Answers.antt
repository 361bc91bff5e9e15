use Rattle.std.specs.Option.{option_copied}
use Rattle.wdl_typed.specs.Scope.{lookup}
use Rattle.wdl_plain.specs.SightMarks.{key_mark, known_marks}
use Rattle.std.proofs.Common.{true}
use Rattle.wdl_plain.specs.Views.{env_in}
use Rattle.wdl_plain.proofs.SightLemmas.{lookup-skip}
use Rattle.wdl_flow.proofs.Skip.{searched}
use Rattle.wdl_plain.proofs.known_names.KnownNames.lookup.Goals as goal

pub returns : goal.returns
returns c =
    searched (λ ks. lookup (env_in ks) c.args.key.now) known_marks (key_mark c.args.key.now true) (lookup-skip c.args.key.now)
    (option_copied c.value_among.result) c.as_slice.result.now c.self.inside.knowns c.args.self.now c.self.inside.marks c.key_mark.result c.place-from.result
    c.value_among.ensures c.as_slice.ensures c.self.view_is c.place-from.ensures.place c.self.invariant c.key_mark.ensures
