use Rattle.std.proofs.Common.{◌≡◌, Err, ◌∙◌, ap}
use Rattle.wdl_base.specs.declared.fault.EvalCode.TheVariants.{TooLarge}
use Rattle.wdl_task.proofs.Written.{laid_more, too_large}
use Rattle.wdl_task.proofs.writes.with_file.Goals as goal

pub returns-in-Err-TooLarge-clause-value : goal.returns-in-Err-TooLarge-clause-value
returns-in-Err-TooLarge-clause-value c code is =
    let same : TooLarge ≡ code = cc in
    too_large c.args.f c.args.value.now c.args.files (c.in-Err-TooLarge.ensures.too_large (ap Err c.in-Err-TooLarge.field-0-is)) ∙ ap Err same

pub returns-clause-laid : goal.returns-clause-laid
returns-clause-laid c =
    laid_more c.args.files c.push.new.self (record { name = c.in_ok-name.name; body = c.in-Ok.text }) c.laid_size.result c.len.result c.requires.laid c.in_ok-push.ensures.ok c.in_ok-name.ensures.value (rw c.as_slice.ensures at c.laid_size.ensures) c.if-laid_size.false
