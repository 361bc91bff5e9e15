-- What is found in an index by two names, after a change behind one first name.
use Rattle.std.proofs.Common.{◌≡◌, ℕ, Bool, true, false, cond, ◌&&◌, List, Option, Some, None, String, sym, ap, ◌∙◌, refl, Result, Ok, Err, OnOk, OnErr}
use Rattle.std.specs.BTreeMap.{BTreeMap, get_by_text}
use Rattle.std.specs.Global.{Global}
use Rattle.std.specs.Option.{option_and_then}
use Rattle.std.specs.Str.{bytes_eq}
use Rattle.std.proofs.lemmas.Slice.Eq.{bytes_eq-Decides}
use Rattle.wdl_base.specs.declared.name.Key.{Key}
use Rattle.wdl_names.specs.KeyTexts.{is_output, is_second, place_of, place_under}
use Rattle.wdl_names.specs.declared.name_places.NamePlaces.{NamePlaces}

abbrev pub second_place : List ℕ → Option NamePlaces → Option ℕ
second_place name = option_and_then (λ (names : NamePlaces). get_by_text names.places name)

module _ (alone more : NamePlaces) (old new : BTreeMap (String Global) NamePlaces) (first : List ℕ)
    (changed : (name : List ℕ) → get_by_text new name ≡ cond (bytes_eq first name) (Some more) (get_by_text old name)) where
  put_under : (second : List ℕ) (place : ℕ) → ((name : List ℕ) → get_by_text more.places name ≡ cond (bytes_eq second name) (Some place) (second_place name (get_by_text old first)))
      → (f : List ℕ) (s : Option (List ℕ)) → place_under alone new f s ≡ cond (bytes_eq first f && is_second second s) (Some place) (place_under alone old f s)
  put_under second place put f None = by_test (bytes_eq first f)
    where
      by_test : (b : Bool) → place_under alone new f None ≡ cond (b && false) (Some place) (place_under alone old f None)
      by_test true = refl
      by_test false = refl
  put_under second place put f (Some s) = ap (second_place s) (changed f) ∙ by_test (bytes_eq first f) refl
    where
      by_test : (b : Bool) → bytes_eq first f ≡ b → second_place s (cond b (Some more) (get_by_text old f)) ≡ cond (b && bytes_eq second s) (Some place) (second_place s (get_by_text old f))
      by_test true e = put s ∙ ap (λ n. cond (bytes_eq second s) (Some place) (second_place s (get_by_text old n))) ((bytes_eq-Decides first f).0 e)
      by_test false e = refl

  same_under : ((name : List ℕ) → get_by_text more.places name ≡ second_place name (get_by_text old first))
      → (f : List ℕ) (s : Option (List ℕ)) → place_under alone new f s ≡ place_under alone old f s
  same_under same f None = refl
  same_under same f (Some s) = ap (second_place s) (changed f) ∙ by_test (bytes_eq first f) refl
    where
      by_test : (b : Bool) → bytes_eq first f ≡ b → second_place s (cond b (Some more) (get_by_text old f)) ≡ second_place s (get_by_text old f)
      by_test true e = same s ∙ ap (λ n. second_place s (get_by_text old n)) ((bytes_eq-Decides first f).0 e)
      by_test false e = refl

  pub output_put : (second : List ℕ) (place : ℕ) → ((name : List ℕ) → get_by_text more.places name ≡ cond (bytes_eq second name) (Some place) (second_place name (get_by_text old first)))
      → (key : Key) → place_of alone new key ≡ cond (is_output first second key) (Some place) (place_of alone old key)
  output_put second place put key = put_under second place put key.first key.second

  -- the same by how it came out
  pub output_put_ok : {A E : Type 0} (r : Result A E) (group : NamePlaces) (second : List ℕ) (place : ℕ) → get_by_text old first ≡ Some group
      → OnOk r ((name : List ℕ) → get_by_text more.places name ≡ cond (bytes_eq second name) (Some place) (get_by_text group.places name))
      → OnOk r ((key : Key) → place_of alone new key ≡ cond (is_output first second key) (Some place) (place_of alone old key))
  output_put_ok (Ok a) group second place there put =
      output_put second place (λ name. put name ∙ ap (λ o. cond (bytes_eq second name) (Some place) (second_place name o)) (sym there))
  output_put_ok (Err e) group second place there put = put

  pub output_put_err : {A E : Type 0} (r : Result A E) (group : NamePlaces) → get_by_text old first ≡ Some group
      → OnErr r ((name : List ℕ) → get_by_text more.places name ≡ get_by_text group.places name)
      → OnErr r ((key : Key) → place_of alone new key ≡ place_of alone old key)
  output_put_err (Ok a) group there same = same
  output_put_err (Err e) group there same = λ key. same_under (λ name. same name ∙ ap (second_place name) (sym there)) key.first key.second
