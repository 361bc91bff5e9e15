use Rattle.wdl_task.specs.Views.{laying_of}
use Rattle.wdl_task.proofs.command.with_hole.Goals as goal

pub printed-requires : goal.printed-requires
printed-requires g c = record { printed = c.requires.ready.1 (laying_of c.in_ok-value.field-0) c.in_ok-value.ensures.value }
