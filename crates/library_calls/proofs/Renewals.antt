-- Texts are renewed one after another.
use Rattle.std.proofs.Common.{◌≡◌, ℕ, ◌+◌, ◌<◌, List, [], ◌∷◌, ◌++◌, length, take, get_or, sym, ap, subst, ◌∙◌}
use Rattle.std.proofs.lemmas.List.{take_more, get_or_default}
use Rattle.std.specs.List.{AllByRecursion}
use Rattle.run_keeper.specs.Reads.{IsNoRow}
use Rattle.library_calls.specs.Renewals.{IsRenewed, AreRenewed, IsRow, IsFirstBad}

renewed_push : (ss ts : List (List ℕ)) (s t : List ℕ) → AreRenewed ss ts → IsRenewed s t → AreRenewed (ss ++ s ∷ []) (ts ++ t ∷ [])
renewed_push [] [] s t h one = (one, tt)
renewed_push [] (y ∷ ts) s t h one = absurd h
renewed_push (x ∷ ss) [] s t h one = absurd h
renewed_push (x ∷ ss) (y ∷ ts) s t h one = (h.0, renewed_push ss ts s t h.1 one)

renewed_rows : (ss ts : List (List ℕ)) → AreRenewed ss ts → AllByRecursion IsRow ss
renewed_rows [] [] h = tt
renewed_rows [] (y ∷ ts) h = absurd h
renewed_rows (x ∷ ss) [] h = absurd h
renewed_rows (x ∷ ss) (y ∷ ts) h = ((h.0.0, h.0.1), renewed_rows ss ts h.1)

pub renewed_more : (rows all now : List (List ℕ)) (i : ℕ) (row text : List ℕ) → i < length rows → row ≡ get_or rows i row → AreRenewed (take i rows) all → IsRenewed row text
    → now ≡ all ++ text ∷ [] → AreRenewed (take (i + 1) rows) now
renewed_more rows all now i row text within is before one pushed =
    let front : take (i + 1) rows ≡ take i rows ++ row ∷ [] = take_more rows i row within ∙ ap (λ r. take i rows ++ r ∷ []) (sym is) in
    subst (λ ss. AreRenewed ss now) (sym front) (subst (λ ts. AreRenewed (take i rows ++ row ∷ []) ts) (sym pushed) (renewed_push (take i rows) all row text before one))

pub first_bad : (rows all : List (List ℕ)) (i n : ℕ) (row : List ℕ) → i ≡ n → i < length rows → row ≡ get_or rows i row → AreRenewed (take i rows) all → IsNoRow row
    → IsFirstBad n rows
first_bad rows all i n row same within is before bad =
    subst (λ n. IsFirstBad n rows) same (record {
      before = renewed_rows (take i rows) all before;
      within = within;
      bad = subst IsNoRow (is ∙ get_or_default rows i row [] within) bad;
    })
