use Rattle.wdl_typed.specs.Flow.{has_ended}
use Rattle.wdl_plain.specs.SightMarks.{call_marks, name_mark}
use Rattle.wdl_plain.specs.Views.{endeds_of}
use Rattle.wdl_plain.proofs.SightLemmas.{has_ended-skip}
use Rattle.wdl_flow.proofs.Skip.{searched}
use Rattle.wdl_plain.proofs.calls.Calls.has_ended.Goals as goal

pub returns : goal.returns
returns c =
    searched (λ es. has_ended (endeds_of es) c.args.name.now) call_marks (name_mark c.args.name.now) (has_ended-skip c.args.name.now)
    c.has_ended_among.result c.as_slice.result.now c.self.inside.ends c.args.self.now c.self.inside.marks c.name_mark.result c.place-from.result
    c.has_ended_among.ensures c.as_slice.ensures c.self.view_is c.place-from.ensures.place c.self.invariant c.name_mark.ensures
