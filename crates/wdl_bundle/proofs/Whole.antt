-- The bundle of a library, from its documents as code has them.
use Rattle.std.proofs.Common.{◌≡◌, List, [], ◌∷◌, Some, Result, map, slice_get, subst}
use Rattle.wdl_value.specs.Fits.{Structs}
use Rattle.wdl_ast.specs.declared.document.Document.{Document}
use Rattle.wdl_library.specs.declared.doc.Doc.{Doc}
use Rattle.wdl_bundle.specs.declared.fault.BundleFault.{BundleFault}
use Rattle.struct_names.specs.declared.known.DocNames.{DocNames as Indices}
use Rattle.wdl_bundle.specs.declared.reach.Offer.{Offer as Held}
use Rattle.wdl_bundle.specs.Bundled.{Answers, bundled, document_from, document_in, reach_with, refused_from, refused_in, workflow_call}
use Rattle.wdl_bundle.specs.Called.{Offer, all_offers, offer_of}
use Rattle.struct_names.specs.Known.{Known, known, known_of}

abbrev pub Right : Structs → List Known → List (List Offer) → Result Document BundleFault → Type 0
Right structs ks all r = Answers (refused_in ks all) (document_in ks structs all) r

abbrev Whole : Structs → List Indices → List (List Held) → Result Document BundleFault → Indices → List Held → Type 0
Whole structs ks os r k own =
    Answers (refused_from (known_of k) (reach_with (known_of k) (map offer_of own) (map (map offer_of) os)))
    (document_from (known_of k) (map known_of ks) structs (reach_with (known_of k) (map offer_of own) (map (map offer_of) os))) r

pub whole : (structs : Structs) (ks : List Indices) (os : List (List Held)) (k : Indices) (own : List Held) (r : Result Document BundleFault)
    → Some k ≡ slice_get ks 0 → Some own ≡ slice_get os 0 → Whole structs ks os r k own → Right structs (map known_of ks) (map (map offer_of) os) r
whole structs [] os k own r first offered h = absurd cc
whole structs (x ∷ ks) [] k own r first offered h = absurd cc
whole structs (x ∷ ks) (y ∷ os) k own r first offered h =
    let a : k ≡ x = cc in
    let b : own ≡ y = cc in
    subst (λ (z : Indices). Whole structs (x ∷ ks) (y ∷ os) r z y) a (subst (λ (w : List Held). Whole structs (x ∷ ks) (y ∷ os) r k w) b h)

pub moved : (docs : List Doc) (structs : Structs) (ks : List Known) (r : Result Document BundleFault) → ks ≡ map known docs → Right structs ks (all_offers 0 ks) r
    → Answers (workflow_call docs) (bundled docs structs) r
unfolding bundled workflow_call
moved docs structs ks r e h = subst (λ (xs : List Known). Right structs xs (all_offers 0 xs) r) e h
