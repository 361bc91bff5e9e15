use Rattle.std.proofs.Common.{rules, ◌∙◌}
use Rattle.wdl_task.proofs.GivenFiles.{all_taken, known_path, new_path}
use Rattle.wdl_task.proofs.given_files.distinct.Goals as goal
use Rattle.wdl_task.proofs.given_files.distinct.Goals.{then-branch+in_ok-copy+in_ok-push, else-branch}

pub loop-path-preserved : goal.loop-path-preserved
loop-path-preserved c = elim c.if-branch.branch [
  | then-branch+in_ok-copy+in_ok-push w ↦
      new_path c.args.files.now c.args.paths.now c.loop-path.seen.keys c.loop-path.distinct c.loop-path.path-index c.path-item.result c.path-item.is c.loop-path-test.true c.loop-path.invariant
      c.as_str.result c.as_str.ensures.value c.in_ok-insert.field-0 c.in_ok-insert.ensures.added c.insert.new.self.keys c.if-branch.distinct w.in_ok-copy.field-0
      w.if-branch.true c.in_ok-insert.ensures.keys (w.distinct-is ∙ w.in_ok-push.ensures.ok) w.in_ok-copy.ensures
  | else-branch w ↦
      known_path c.args.files.now c.args.paths.now c.loop-path.seen.keys c.loop-path.distinct c.loop-path.path-index c.path-item.result c.path-item.is c.loop-path-test.true c.loop-path.invariant
      c.as_str.result c.as_str.ensures.value c.in_ok-insert.field-0 c.in_ok-insert.ensures.added c.insert.new.self.keys c.if-branch.distinct
      w.if-branch.false (search rules) w.distinct-is
]

pub returns : goal.returns
returns c = all_taken c.args.files.now c.args.paths.now c.loop-path.seen.keys c.loop-path.distinct c.loop-path.path-index c.loop-path.invariant (search rules)
