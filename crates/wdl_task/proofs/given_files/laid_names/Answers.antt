use Rattle.std.proofs.Common.{◌∙◌}
use Rattle.wdl_task.proofs.GivenFiles.{name_added}
use Rattle.wdl_task.proofs.given_files.laid_names.Goals as goal

pub loop-file-preserved : goal.loop-file-preserved
loop-file-preserved c = λ q.
    name_added q c.args.files.now c.loop-file.file-index c.file-item.result c.as_str.result c.loop-file.names.keys c.insert.new.self.keys
    c.loop-file-test.true c.file-item.is c.as_str.ensures.value c.in_ok-insert.ensures.keys
    ∙ c.loop-file.invariant q
