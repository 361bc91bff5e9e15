-- What is the same by the tests of keys and places is equal, and has one mark.
use Rattle.std.proofs.Common.{◌≡◌, ℕ, true, ◌==◌, List, [], ◌∷◌, Option, Some, None, ap, ◌∙◌, refl}
use Rattle.std.specs.Str.{bytes_eq}
use Rattle.std.proofs.lemmas.Bool.{false≢true, and_parts, eqb-true}
use Rattle.std.proofs.lemmas.Slice.Eq.{bytes_eq-Decides}
use Rattle.wdl_base.specs.declared.entry.Entry.{Entry}
use Rattle.wdl_base.specs.declared.name.Key.{Key}
use Rattle.wdl_base.specs.declared.place.Segment.{Segment}
use Rattle.wdl_base.specs.declared.place.Segment.TheVariants.{Call, Scatter, If, Index}
use Rattle.wdl_base.specs.Same.{same_place, same_segment}
use Rattle.wdl_value.specs.Tables.{is_at, row_of}
use Rattle.wdl_typed.specs.Scope.{same_key, same_second}
use Rattle.wdl_flow.specs.Marks.{entry_mark, place_mark}

pub same_second-true : (s t : Option (List ℕ)) → same_second s t ≡ true → s ≡ t
same_second-true None None h = refl
same_second-true None (Some t) h = absurd (false≢true h)
same_second-true (Some s) None h = absurd (false≢true h)
same_second-true (Some s) (Some t) h = ap Some ((bytes_eq-Decides s t).0 h)

pub same_key-true : (j k : Key) → same_key j k ≡ true → j ≡ k
same_key-true j k h =
    let p = and_parts (bytes_eq j.first k.first) (same_second j.second k.second) h in
    let key : List ℕ → Option (List ℕ) → Key = λ f o. record { first = f; second = o } in
    ap (λ f. key f j.second) ((bytes_eq-Decides j.first k.first).0 p.0) ∙ ap (λ o. key k.first o) (same_second-true j.second k.second p.1)

one_segment : (a b : Segment) → same_segment a b ≡ true → a ≡ b
one_segment (Call a) (Call b) h = ap Call ((bytes_eq-Decides a b).0 h)
one_segment (Scatter a) (Scatter b) h = ap Scatter (eqb-true a b h)
one_segment (If a) (If b) h = ap If (eqb-true a b h)
one_segment (Index a) (Index b) h = ap Index (eqb-true a b h)
one_segment a b h = absurd (false≢true h)

same_place-true : (p q : List Segment) → same_place p q ≡ true → p ≡ q
same_place-true [] [] h = refl
same_place-true [] (y ∷ ys) h = absurd (false≢true h)
same_place-true (x ∷ xs) [] h = absurd (false≢true h)
same_place-true (x ∷ xs) (y ∷ ys) h =
    let t = and_parts (same_segment x y) (same_place xs ys) h in
    ap (λ z. z ∷ xs) (one_segment x y t.0) ∙ ap (λ zs. y ∷ zs) (same_place-true xs ys t.1)

pub entry_marks_agree : (place : List Segment) (attempt : ℕ) (e : Entry) → is_at place attempt (row_of e) ≡ true → entry_mark e ≡ place_mark attempt place
entry_marks_agree place attempt e h =
    let p = and_parts (same_place e.request.place place) (e.request.attempt == attempt) h in
    ap (λ n. place_mark n e.request.place) (eqb-true e.request.attempt attempt p.1) ∙ ap (place_mark attempt) (same_place-true e.request.place place p.0)
