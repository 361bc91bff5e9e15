use Rattle.std.proofs.Common.{◌≡◌, true, take}
use Rattle.std.specs.List.{list_all}
use Rattle.wdl_base.specs.Names.{is_name}
use Rattle.wide_formed.proofs.members.see_path.Given as goal

abbrev pub invariant-loop-name : goal.invariant-loop-name
invariant-loop-name l = list_all is_name (take l.name-index l.names) ≡ true
