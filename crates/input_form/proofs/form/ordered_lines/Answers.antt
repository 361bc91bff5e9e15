use Rattle.std.proofs.Common.{◌≡◌, List, map, rules, subst}
use Rattle.std.proofs.lemmas.List.Sorted.{answers_always}
use Rattle.input_form.specs.declared.line.Line.{Line}
use Rattle.input_form.specs.Form.{IsInTextOrder, line_of, start}
use Rattle.input_form.proofs.form.ordered_lines.Goals as goal

pub returns : goal.returns
returns c =
    let same : c.in_ok-lines.lines.items ≡ map (line_of c.args.flow.now.name) c.args.flow.now.inputs = search rules in
    let Ordered : List Line → Type 0 = λ ls. IsInTextOrder ls c.sort_by_key.new.self.items in
    subst Ordered same (record {
      permuted = c.sort_by_key.ensures.permutation;
      sorted = c.in_ok-sort_by_key.ensures.sorted start (answers_always _ _ _ (λ f a r g h. search rules));
      stable = c.sort_by_key.ensures.stable start (answers_always _ _ _ (λ f a r g h. search rules));
    })
