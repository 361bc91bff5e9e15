use Rattle.std.proofs.Common.{◌≡◌, true, take}
use Rattle.cwl_image.specs.Named.{body_named}
use Rattle.cwl_rules.proofs.named.+named.Given as goal

abbrev pub invariant-see_body-loop-statement : goal.invariant-see_body-loop-statement
invariant-see_body-loop-statement l = body_named (take l.statement-index l.body) ≡ true
