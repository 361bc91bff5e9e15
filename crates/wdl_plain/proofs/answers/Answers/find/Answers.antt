use Rattle.std.proofs.Common.{◌∙◌, ap, refl}
use Rattle.std.specs.Option.{option_copied}
use Rattle.wdl_value.specs.Tables.{answer_at, table}
use Rattle.wdl_flow.specs.Marks.{entry_marks, place_mark}
use Rattle.wdl_plain.proofs.SightLemmas.{answer_at-skip}
use Rattle.wdl_flow.proofs.Skip.{searched}
use Rattle.wdl_plain.proofs.answers.Answers.find.Goals as goal

pub returns : goal.returns
returns c =
    searched (λ es. answer_at (table es) c.args.place.now c.args.attempt) entry_marks (place_mark c.args.attempt c.args.place.now)
    (answer_at-skip c.args.place.now c.args.attempt)
    (option_copied c.answer_among.result) c.self.inside.entries.now c.self.inside.entries.now c.args.self.now c.self.inside.marks c.place_mark.result c.place-from.result
    c.answer_among.ensures refl c.self.view_is c.place-from.ensures.place c.self.invariant
    (c.place_mark.ensures ∙ ap (place_mark c.args.attempt) c.as_slice.ensures)
