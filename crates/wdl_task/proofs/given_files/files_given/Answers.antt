use Rattle.std.proofs.Common.{◌≡◌, [], IfOk, map, ap, ◌∙◌, subst}
use Rattle.wdl_value.specs.FilePaths.{Paths}
use Rattle.wdl_typed.specs.Requests.{with_paths}
use Rattle.wdl_task.proofs.GivenFiles.{both_paths}
use Rattle.wdl_task.proofs.given_files.files_given.Goals as goal

pub returns : goal.returns
returns c =
    subst (λ (ps : Paths). IfOk c.distinct.result (λ r. r ≡ with_paths c.args.files.now [] ps))
    (ap (λ ps. map (λ p. p.now) ps) c.as_slice-3.ensures.value
    ∙ both_paths c.args.env.now c.as_slice-binds.result.now c.args.task.now.inputs c.as_slice.result.now c.args.task.now.privates c.as_slice-2.result.now
    (map (λ p. p.now) c.new-paths.result.items) (map (λ p. p.now) c.push_paths.new.paths.items) (map (λ p. p.now) c.push_paths-2.new.paths.items)
    c.as_slice-binds.ensures c.as_slice.ensures c.as_slice-2.ensures (ap (λ ps. map (λ p. p.now) ps) c.new-paths.ensures.items) c.in_ok-push_paths.ensures c.in_ok-push_paths-2.ensures)
    c.distinct.ensures
