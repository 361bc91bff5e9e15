use Rattle.std.proofs.Common.{◌≡◌, drop, map}
use Rattle.wdl_check_task.specs.Runtime.{first_named}
use Rattle.wdl_check_task.proofs.runtime.first_named.Given as goal

abbrev pub invariant-loop-attribute : goal.invariant-loop-attribute
invariant-loop-attribute l =
    first_named l.name (map (λ a. a.now) (drop l.attribute-index l.attributes)) ≡ first_named l.name (map (λ a. a.now) l.attributes)
