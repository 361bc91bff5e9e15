use Rattle.std.proofs.Common.{◌∷◌, [], ap, sym, ◌∙◌, option_and_then, lit<}
use Rattle.std.specs.Option.{option_copied}
use Rattle.std.proofs.lemmas.Str.Pattern.{strip_prefix_char}
use Rattle.wdl_value.specs.Files.{stripped}
use Rattle.wdl_stdlib.proofs.Names.{stripped-two, stripped-is, prefix_text}
use Rattle.wdl_stdlib.proofs.file_names.below.Goals as goal

pub returns-in-Some : goal.returns-in-Some
returns-in-Some c =
    let dir = c.args.dir.now in
    let path = c.args.path.now in
    let front = stripped-is dir path _ (prefix_text dir path _ c.strip_prefix.ensures.cases) in
    let slash = stripped-is (47 ∷ []) c.in-Some.rest.now _ (strip_prefix_char 47 c.in-Some.rest.now _ c.strip_prefix-in-Some.ensures.cases (lit< tt)) in
    record { value = slash ∙ ap (option_and_then (stripped (47 ∷ []))) (sym (ap option_copied c.in-Some.is) ∙ front) ∙ sym (stripped-two dir (47 ∷ []) path) }

pub returns-in-None : goal.returns-in-None
returns-in-None c =
    let dir = c.args.dir.now in
    let path = c.args.path.now in
    let front = stripped-is dir path _ (prefix_text dir path _ c.strip_prefix.ensures.cases) in
    record { value = ap (option_and_then (stripped (47 ∷ []))) (sym (ap option_copied c.in-None.is) ∙ front) ∙ sym (stripped-two dir (47 ∷ []) path) }
