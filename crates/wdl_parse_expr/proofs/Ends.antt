-- Whether a list ends without a comma, by its last element.
use Rattle.std.proofs.Common.{◌≡◌, suc, ◌-◌, ◌<◌, List, [], ◌∷◌, length, get_or, ap, ◌∙◌, arith}
use Rattle.std.specs.Prelude.{is_none}
use Rattle.wdl_ast.specs.declared.leaf.ListItem.{ListItem}
use Rattle.wdl_parse_expr.specs.Grammar.{ends_bare}

pub by_last : {E : Type 0} (xs : List (ListItem E)) (d : ListItem E) → 0 < length xs → d ≡ get_or xs (length xs - 1) d → is_none d.comma ≡ ends_bare xs
by_last [] d some h = absurd (omega arith)
by_last {E} (x ∷ []) d some h = ap (λ (z : ListItem E). is_none z.comma) h
by_last (x ∷ y ∷ more) d some h =
    let e : length (x ∷ y ∷ more) - 1 ≡ suc (length (y ∷ more) - 1) = omega arith in
    by_last (y ∷ more) d (omega arith) (h ∙ ap (λ n. get_or (x ∷ y ∷ more) n d) e)
