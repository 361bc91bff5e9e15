use Rattle.std.proofs.Common.{◌≡◌, ◌∙◌, ℕ, true, List, Err, map, ap, sym, subst}
use Rattle.wdl_library.specs.declared.doc.Doc.{Doc}
use Rattle.wdl_library.specs.Links.{has_no_circle}
use Rattle.wdl_links.specs.Circles as circles
use Rattle.wdl_imports.specs.Checks.{IsWithin, IsPlacedFault}
use Rattle.wdl_imports.proofs.CollectLaws.{made_linked, circle_in, circle_made, names_in, names_made}
use Rattle.wdl_imports.proofs.collect.library_of.Goals as goal

pub placed-requires : goal.placed-requires
placed-requires c =
    let docs = c.args.docs in
    let f = c.in-Err.fault in
    let ps : c.as_slice-in-Err.result.now ≡ map (λ (d : Doc). d.path) docs =
    c.as_slice-in-Err.ensures ∙ c.in_ok-paths.ensures ∙ ap (λ (ds : List Doc). map (λ (d : Doc). d.path) ds) c.as_slice.ensures in
    subst (λ (x : List (List ℕ)). IsWithin x f) (sym ps) (circle_in docs f c.requires (subst (λ (ds : List Doc). circles.IsAnswer ds (Err f)) c.as_slice-2.ensures c.in-Err.ensures))

pub returns-in-Err : goal.returns-in-Err
returns-in-Err c =
    let docs = c.args.docs in
    let f = c.in-Err.fault in
    let ps : c.as_slice-in-Err.result.now ≡ map (λ (d : Doc). d.path) docs =
    c.as_slice-in-Err.ensures ∙ c.in_ok-paths.ensures ∙ ap (λ (ds : List Doc). map (λ (d : Doc). d.path) ds) c.as_slice.ensures in
    circle_made docs f c.placed.result (subst (λ (ds : List Doc). circles.IsAnswer ds (Err f)) c.as_slice-2.ensures c.in-Err.ensures)
    (subst (λ (x : List (List ℕ)). IsPlacedFault x f c.placed.result) ps c.placed.ensures)

pub invariant_of-result : goal.invariant_of-result
invariant_of-result c =
    let ends : has_no_circle c.args.docs ≡ true = subst (λ (ds : List Doc). has_no_circle ds ≡ true) c.as_slice-2.ensures c.in_default.ensures in
    record { linked = made_linked c.args.docs c.in-Ok.docs c.requires ends c.in-Ok.ensures.same; named = ∣ c.in-Ok.ensures.structs_are ∣₁ }

pub placed-requires-in-Err-name_structs : goal.placed-requires-in-Err-name_structs
placed-requires-in-Err-name_structs c =
    let docs = c.args.docs in
    let f = c.in-Err-name_structs.fault in
    let ps : c.as_slice-in-Err-name_structs.result.now ≡ map (λ (d : Doc). d.path) docs =
    c.as_slice-in-Err-name_structs.ensures ∙ c.in_ok-paths.ensures ∙ ap (λ (ds : List Doc). map (λ (d : Doc). d.path) ds) c.as_slice.ensures in
    subst (λ (x : List (List ℕ)). IsWithin x f) (sym ps) (names_in docs f c.requires c.in-Err-name_structs.ensures)

pub returns : goal.returns
returns c =
    let docs = c.args.docs in
    let f = c.in-Err-name_structs.fault in
    let ps : c.as_slice-in-Err-name_structs.result.now ≡ map (λ (d : Doc). d.path) docs =
    c.as_slice-in-Err-name_structs.ensures ∙ c.in_ok-paths.ensures ∙ ap (λ (ds : List Doc). map (λ (d : Doc). d.path) ds) c.as_slice.ensures in
    names_made docs f c.placed-in-Err-name_structs.result c.in-Err-name_structs.ensures
    (subst (λ (x : List (List ℕ)). IsPlacedFault x f c.placed-in-Err-name_structs.result) ps c.placed-in-Err-name_structs.ensures)

pub no_circle-requires-clause-reached : goal.no_circle-requires-clause-reached
no_circle-requires-clause-reached c = subst (λ (ds : List Doc). circles.AreReached ds) (sym c.as_slice-2.ensures) c.requires.reached
