-- The version that a document begins with.
use Rattle.std.proofs.Common.{◌≡◌, ◌≤◌, true, List, [], ◌∷◌, length, get_or, drop, ap, sym, ◌∙◌, arith, codes}
use Rattle.std.proofs.lemmas.Slice.Eq.{bytes_eq-Decides}
use Rattle.wdl_ast.specs.declared.token.Kind.{Kind}
use Rattle.wdl_ast.specs.declared.token.Kind.TheVariants as kind
use Rattle.wdl_ast.specs.declared.token.Token.{Token}
use Rattle.wdl_ast.specs.Words.{Words, at, keyword}
use Rattle.token_reading.proofs.Steps.{word_is}
use Rattle.wdl_parse_doc.specs.Contract.{is_version, is_number, BehindVersion}

-- a list by its first two elements
pub split_two : {X : Type 0} (xs : List X) (x y : X) → 2 ≤ length xs → x ≡ get_or xs 0 x → y ≡ get_or xs 1 y → xs ≡ x ∷ y ∷ drop 2 xs
split_two [] x y h p q = absurd (omega (arith, h))
split_two (a ∷ []) x y h p q = absurd (omega (arith, h))
split_two (a ∷ b ∷ more) x y h p q = ap (λ z. z ∷ b ∷ more) (sym p) ∙ ap (λ z. x ∷ z ∷ more) (sym q)

number_is : (k : Kind) → is_number k ≡ true → k ≡ kind.Frac (codes "1.1")
number_is (kind.Frac w) e = ap kind.Frac ((bytes_eq-Decides w (codes "1.1")).0 e)
number_is _ e = cc

pub behind_version : (t u : Token) (rest : Words) → is_version t.kind ≡ true → is_number u.kind ≡ true → BehindVersion (t ∷ u ∷ rest) t.span u.span rest
behind_version t u rest h q =
    ap (λ k. at k t.span ∷ u ∷ rest) (word_is (codes "version") t.kind h) ∙ ap (λ k. keyword (codes "version") t.span ∷ at k u.span ∷ rest) (number_is u.kind q)
