use Rattle.std.proofs.Common.{◌==◌, [], sym, ap, subst, ◌∙◌}
use Rattle.wdl_stdlib.specs.PathParts.{EachPlain, texts}
use Rattle.wdl_stdlib.proofs.FileNames.{parts_plain}
use Rattle.wdl_stdlib.proofs.PlainPieces.{split_plain}
use Rattle.wdl_stdlib.proofs.file_names.relative_name.Goals as goal

pub name_of-requires : goal.name_of-requires
name_of-requires c =
    let cut = ap texts c.as_slice.ensures.value ∙ c.in_ok-parts.ensures in
    let plain = subst EachPlain (sym cut) (split_plain (λ b. b == 47) c.args.path.now c.requires) in
    let left = rw c.in-Some.is at c.in_ok-left.ensures in
    subst (λ parts. EachPlain (texts parts)) (sym c.as_slice-in-Some.ensures.value)
    (parts_plain (texts c.as_slice.result.now) [] (texts c.in-Some.left.items) tt plain (sym left))
