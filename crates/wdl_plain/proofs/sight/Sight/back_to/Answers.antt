use Rattle.std.proofs.Common.{List, take, sym, ap, ◌∙◌}
use Rattle.std.proofs.lemmas.List.{take-map}
use Rattle.wdl_base.specs.declared.place.Segment.{Segment}
use Rattle.wdl_typed.specs.Flow as flow
use Rattle.wdl_plain.specs.Views.{ended_of, endeds_of, known_of, knowns_of}
use Rattle.wdl_plain.proofs.sight.Sight.back_to.Goals as goal

abbrev sight : List flow.Known → List flow.Ended → List Segment → flow.Sight
sight names calls place = record { names = names; calls = calls; place = place }

pub returns : goal.returns
returns c =
    ap (λ x. sight x (endeds_of c.keep-2.new.self) c.keep_segments.new.place) (ap knowns_of c.keep.ensures ∙ sym (take-map known_of c.args.mark.names c.args.self.now.names))
    ∙ ap (λ x. sight (take c.args.mark.names (knowns_of c.args.self.now.names)) x c.keep_segments.new.place) (ap endeds_of c.keep-2.ensures ∙ sym (take-map ended_of c.args.mark.calls c.args.self.now.calls))
    ∙ ap (sight (take c.args.mark.names (knowns_of c.args.self.now.names)) (take c.args.mark.calls (endeds_of c.args.self.now.calls))) c.keep_segments.ensures
