-- What is seen behind a block.
use Rattle.std.proofs.Common.{◌≡◌, ℕ, Bool, List, [], ◌∷◌, ◌++◌, length, take, drop, ap, ◌∙◌, append_assoc, append-nil, refl}
use Rattle.std.proofs.Math.Seq.{drop-append_seam, take-append_seam}
use Rattle.wdl_value.specs.declared.ty.Ty.{Ty}
use Rattle.wdl_value.specs.declared.ty.Ty.TheVariants as ty
use Rattle.wdl_typed.specs.declared.scope.Bound.{Bound}
use Rattle.wdl_typed.specs.Bodies.{Seen, joined, optional, retyped, with_item}
use Rattle.wdl_typed.specs.Declarations.{bound}
use Rattle.wdl_check_flow.specs.declared.visible.Gathering.{Gathering}
use Rattle.wdl_check_flow.specs.declared.visible.Gathering.TheVariants.{List as ListOf, Optional}
use Rattle.wdl_check_flow.specs.Given.{gathered, gathered_behind, nothing, retyped_names}

abbrev pub seen_with : List Bound → List (List ℕ) → Seen
seen_with names calls = record { names = names; calls = calls }

pub joined-assoc : (s t u : Seen) → joined (joined s t) u ≡ joined s (joined t u)
joined-assoc s t u =
    ap (λ ns. seen_with ns ((s.calls ++ t.calls) ++ u.calls)) (append_assoc s.names t.names u.names)
    ∙ ap (seen_with (s.names ++ (t.names ++ u.names))) (append_assoc s.calls t.calls u.calls)

pub joined_nothing : (s : Seen) → joined s nothing ≡ s
joined_nothing s = ap (λ ns. seen_with ns (s.calls ++ [])) (append-nil s.names) ∙ ap (seen_with s.names) (append-nil s.calls)

-- a block's body gave names behind those that were seen before it
cut : (g : Gathering) (kept from : List Bound) (given : Seen) (calls : List (List ℕ)) (names : List Bound)
    → names ≡ from ++ given.names → take (length kept) names ≡ kept
    → gathered_behind g (length kept) (length from) (seen_with names (calls ++ given.calls)) ≡ joined (seen_with kept calls) (retyped (gathered g) given)
cut g kept from given calls names is first =
    ap (λ ns. seen_with (ns ++ retyped_names (gathered g) (drop (length from) names)) (calls ++ given.calls)) first
    ∙ ap (λ ns. seen_with (kept ++ retyped_names (gathered g) ns) (calls ++ given.calls)) (ap (drop (length from)) is ∙ drop-append_seam from given.names)

pub behind_scatter : (before given : Seen) (item : List ℕ) (t : Ty) (some : Bool)
    → gathered_behind (ListOf some) (length before.names) (length (with_item before item t).names) (joined (with_item before item t) given) ≡ joined before (retyped (λ u. ty.Array u some) given)
behind_scatter before given item t some =
    cut (ListOf some) before.names (before.names ++ bound item t ∷ []) given before.calls ((before.names ++ bound item t ∷ []) ++ given.names) refl
    (ap (take (length before.names)) (append_assoc before.names (bound item t ∷ []) given.names) ∙ take-append_seam before.names (bound item t ∷ given.names))

pub behind_condition : (before given : Seen) → gathered_behind Optional (length before.names) (length before.names) (joined before given) ≡ joined before (retyped optional given)
behind_condition before given =
    cut Optional before.names before.names given before.calls (before.names ++ given.names) refl (take-append_seam before.names given.names)
