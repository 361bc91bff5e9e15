-- The items of a scatter, one after the other.
use Rattle.std.proofs.Common.{◌≡◌, ℕ, ◌+◌, ◌<◌, true, List, [], ◌∷◌, ◌++◌, length, take, drop, get_or, sym, ap, ◌∙◌, subst, arith}
use Rattle.std.proofs.lemmas.List.{length-take-le, take-append-drop, take_more}
use Rattle.wdl_value.specs.declared.value.Value.{Value}
use Rattle.wdl_typed.specs.Flow.{Flowing, Runner, Sight, all_together, each_item, item_sight, together, too_many}
use Rattle.wdl_plain.specs.declared.gathering.Gathering.{Gathering}
use Rattle.wdl_plain.specs.Flows.{quiet}
use Rattle.wdl_plain.specs.Gathers.{IsGathered}
use Rattle.wdl_plain.specs.Views.{flowing_of}
use Rattle.wdl_plain.proofs.Gatherings.{each_push, many_front, many_pushed, together_push}

module _ (body : Runner) (s : Sight) (k : ℕ) (item : List ℕ) where
  abbrev run : ℕ → List Value → List Flowing
  run = each_item body s k item

  split : (xs ys : List Value) (i : ℕ) → run i (xs ++ ys) ≡ run i xs ++ run (i + length xs) ys
  split [] ys i = ap (λ n. run n ys) (let e : i ≡ i + 0 = omega arith in e)
  split (x ∷ xs) ys i =
      ap (λ fs. body (item_sight s k item i x) ∷ fs) (split xs ys (i + 1))
      ∙ ap (λ n. body (item_sight s k item i x) ∷ (run (i + 1) xs ++ run n ys)) (let e : i + 1 + length xs ≡ i + length (x ∷ xs) = omega arith in e)

  module _ (xs : List Value) (i : ℕ) (x : Value) (below : i < length xs) (at : x ≡ get_or xs i x) where
    abbrev done : List Flowing
    done = run 0 (take i xs)

    abbrev here : Flowing
    here = body (item_sight s k item i x)

    -- one item more
    pub item_more : run 0 (take (i + 1) xs) ≡ done ++ here ∷ []
    item_more =
        ap (run 0) (take_more xs i x below ∙ ap (λ z. take i xs ++ z ∷ []) (sym at))
        ∙ each_push body s k item 0 (take i xs) x
        ∙ ap (λ n. done ++ body (item_sight s k item n x) ∷ []) (let l = length-take-le i xs (omega arith) in let e : 0 + length (take i xs) ≡ i = omega (arith, l) in e)

    all_split : run 0 xs ≡ (done ++ here ∷ []) ++ run (0 + length (take (i + 1) xs)) (drop (i + 1) xs)
    all_split = ap (run 0) (sym (take-append-drop (i + 1) xs)) ∙ split (take (i + 1) xs) (drop (i + 1) xs) 0 ∙ ap (λ fs. fs ++ run (0 + length (take (i + 1) xs)) (drop (i + 1) xs)) item_more

    many_so_far : too_many (all_together (done ++ here ∷ [])) ≡ true → too_many (all_together (run 0 xs)) ≡ true
    many_so_far h = ap (λ fs. too_many (all_together fs)) all_split ∙ many_front (done ++ here ∷ []) (run (0 + length (take (i + 1) xs)) (drop (i + 1) xs)) h

    -- an item that is past a limit
    pub item_is_many : too_many here ≡ true → too_many (all_together (run 0 xs)) ≡ true
    item_is_many h = many_so_far (many_pushed done [] here h)

    -- the items so far, and this one
    pub items_are_many : (g : Gathering) (more : Flowing) → IsGathered g done → more ≡ here → too_many (together (flowing_of g.total) (quiet more)) ≡ true → too_many (all_together (run 0 xs)) ≡ true
    items_are_many g more is same h =
        many_so_far (ap too_many (together_push done here)
        ∙ sym (ap (λ (z : Flowing). too_many (together z (quiet here))) is.total)
        ∙ sym (ap (λ (z : Flowing). too_many (together (flowing_of g.total) (quiet z))) same)
        ∙ h)

    pub gathered_more : (g g' : Gathering) (more : Flowing) → more ≡ here → ((fs : List Flowing) → IsGathered g fs → IsGathered g' (fs ++ more ∷ [])) → IsGathered g done → IsGathered g' (run 0 (take (i + 1) xs))
    gathered_more g g' more same with_ is =
        subst (λ (fs : List Flowing). IsGathered g' fs) (ap (λ (z : Flowing). done ++ z ∷ []) same ∙ sym item_more) (with_ done is)
