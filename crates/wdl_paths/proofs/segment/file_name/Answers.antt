use Rattle.std.proofs.Common.{rules, sym, ap, ◌∙◌}
use Rattle.wdl_paths.specs.Resolve.{file_name}
use Rattle.wdl_paths.proofs.Slashes.{file_name-cut, file_name-alone}
use Rattle.wdl_paths.proofs.segment.file_name.Goals as goal

pub loop-more-preserved : goal.loop-more-preserved
loop-more-preserved c =
    let l = c.loop-more in (
      search rules,
      sym (file_name-cut c.in-Some.field-0-0.now c.in-Some.more.now) ∙ ap file_name (sym c.in-Some.ensures.0) ∙ l.invariant.1,
    )

pub returns : goal.returns
returns c = let l = c.loop-more in record { name = sym (file_name-alone l.rest.now c.in_default.ensures) ∙ l.invariant.1 }
