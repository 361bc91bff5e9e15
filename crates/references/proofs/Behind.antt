-- Names behind names.
use Rattle.std.proofs.Common.{◌≡◌, List, [], ◌∷◌, ◌++◌, refl, sym, ap, ◌∙◌, append_assoc, append-nil}
use Rattle.wdl_base.specs.declared.name.Key.{Key}
use Rattle.references.specs.Names.{behind}

pub behind_is : (names : List Key) (keys : List Key) → behind names keys ≡ names ++ keys
unfolding behind
behind_is names keys = refl

pub behind_none : (names : List Key) → behind names [] ≡ names
behind_none names = behind_is names [] ∙ append-nil names

pub behind_one : (names : List Key) (key : Key) → behind names (key ∷ []) ≡ names ++ key ∷ []
behind_one names key = behind_is names (key ∷ [])

pub behind_append : (names : List Key) (xs ys : List Key) → behind names (xs ++ ys) ≡ behind (behind names xs) ys
behind_append names xs ys =
    behind_is names (xs ++ ys) ∙ sym (append_assoc names xs ys) ∙ ap (λ l. l ++ ys) (sym (behind_is names xs)) ∙ sym (behind_is (behind names xs) ys)

pub behind_more : (n m start : List Key) (xs rest from all : List Key) → m ≡ behind n xs → from ≡ xs ++ rest → behind n from ≡ behind start all → behind m rest ≡ behind start all
behind_more n m start xs rest from all d e h = ap (λ k. behind k rest) d ∙ sym (behind_append n xs rest) ∙ ap (behind n) (sym e) ∙ h

pub behind_all : (n start : List Key) (rest all : List Key) → rest ≡ [] → behind n rest ≡ behind start all → n ≡ behind start all
behind_all n start rest all e h = sym (behind_none n) ∙ ap (behind n) (sym e) ∙ h

pub behind_two : (n m l : List Key) (xs ys zs : List Key) → m ≡ behind n xs → l ≡ behind m ys → zs ≡ xs ++ ys → l ≡ behind n zs
behind_two n m l xs ys zs d e f = e ∙ ap (λ k. behind k ys) d ∙ sym (behind_append n xs ys) ∙ ap (behind n) (sym f)

pub from_none : (names start keys : List Key) → names ≡ behind start keys → start ≡ [] → names ≡ keys
from_none names start keys h e = h ∙ behind_is start keys ∙ ap (λ (l : List Key). l ++ keys) e
