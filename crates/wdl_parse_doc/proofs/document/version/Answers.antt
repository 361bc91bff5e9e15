use Rattle.std.proofs.Common.{◌≡◌, ◌∷◌, true, drop, ap, sym, ◌∙◌, rules, arith, codes}
use Rattle.std.proofs.lemmas.List.{take_rest}
use Rattle.wdl_ast.specs.declared.token.Kind.TheVariants as kind
use Rattle.wdl_ast.specs.Words.{at, keyword}
use Rattle.wdl_parse_doc.specs.Contract.{is_version, is_number}
use Rattle.wdl_parse_doc.proofs.Versions.{split_two, behind_version}
use Rattle.wdl_parse_doc.proofs.document.version.Goals as goal

pub returns-else-not-is_number : goal.returns-else-not-is_number
returns-else-not-is_number c =
    let first = c.first-item.result in
    let second = c.second-item.result in
    let version : is_version first.kind ≡ true = first_of (cc, search rules, grind arith) in
    let number : is_number second.kind ≡ true = first_of (cc, search rules, grind arith) in
    split_two c.args.tokens.now first second c.in-len2-up.len_at_least c.first-item.is c.second-item.is
    ∙ behind_version first second (drop 2 c.args.tokens.now) version number
    ∙ ap (λ z. keyword (codes "version") first.span ∷ at (kind.Frac (codes "1.1")) second.span ∷ z) (sym (take_rest c.args.tokens.now 2))
