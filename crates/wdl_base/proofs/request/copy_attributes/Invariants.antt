use Rattle.std.proofs.Common.{◌≡◌, take}
use Rattle.wdl_base.proofs.request.copy_attributes.Given as goal

abbrev pub invariant-loop-attribute : goal.invariant-loop-attribute
invariant-loop-attribute l = l.all ≡ take l.attribute-index l.attributes
