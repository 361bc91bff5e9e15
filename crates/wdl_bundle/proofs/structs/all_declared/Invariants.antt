use Rattle.std.proofs.Common.{◌≡◌, ◌++◌, drop, map}
use Rattle.wdl_bundle.specs.StructSections.{all_declared, declared_of}
use Rattle.struct_names.specs.Known.{known_of}
use Rattle.wdl_bundle.proofs.structs.all_declared.Given as goal

abbrev pub invariant-loop-known : goal.invariant-loop-known
invariant-loop-known l = map declared_of l.declared.items ++ all_declared (map known_of (drop l.known-index l.knowns)) ≡ all_declared (map known_of l.knowns)
