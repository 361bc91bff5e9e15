-- What statements give out and break, one after another, and what blocks do.
use Rattle.std.proofs.Common.{◌≡◌, ℕ, Bool, List, [], ◌∷◌, ◌++◌, Option, Some, None, option_and_then, take, length, sym, ap, ◌∙◌, append_assoc, append-nil}
use Rattle.std.proofs.Math.Seq.{take-append_seam}
use Rattle.std.proofs.lemmas.Option.{same_Some}
use Rattle.wdl_base.specs.declared.span.Span.{Span}
use Rattle.wdl_value.specs.declared.ty.Ty.{Ty, Ty-F, out-Ty}
use Rattle.wdl_value.specs.declared.ty.Ty.TheOpen as type
use Rattle.wdl_typed.specs.declared.expr.TExpr.{TExpr}
use Rattle.wdl_typed.specs.declared.flow.Statement.{Statement}
use Rattle.wdl_typed.specs.declared.scope.Bound.{Bound}
use Rattle.wdl_typed.specs.Bodies.{Library}
use Rattle.wdl_typed.specs.Declarations.{bound, in_body}
use Rattle.cwl_image.specs.declared.broken.Broken.{Broken}
use Rattle.cwl_image.specs.Subset.{Walk, Walked, after_block, block_broken, followed, if_over, nothing, scatter_at, scatter_over, walk, walk_body}
use Rattle.cwl_subset.specs.declared.walk.Walked.{Walked as Kept}
use Rattle.cwl_rules.specs.Lowest.{lower, lowest}
use Rattle.cwl_subset.specs.Walks.{conditional, if_walk, items_at, items_of, joined, none, scatter_walk, scattered, summed}
use Rattle.cwl_rules.proofs.LowestLemmas.{lower_assoc, lower_none, lowest_append}
use Rattle.wdl_base.proofs.Options.{some_none}

abbrev kept : List Bound → Option Broken → Kept
kept given broken = record { given = given; broken = broken }

summed_followed : (v w : Walked) → summed (followed v w) ≡ joined (summed v) (summed w)
summed_followed v w = ap (kept (v.given ++ w.given)) (lowest_append v.broken w.broken)

joined_assoc : (a b c : Kept) → joined (joined a b) c ≡ joined a (joined b c)
joined_assoc a b c =
    ap (λ ns. kept ns (lower (lower a.broken b.broken) c.broken)) (append_assoc a.given b.given c.given)
    ∙ ap (kept (a.given ++ (b.given ++ c.given))) (lower_assoc a.broken b.broken c.broken)

pub joined_none : (w : Kept) → joined w none ≡ w
joined_none w = ap (λ ns. kept ns (lower w.broken None)) (append-nil w.given) ∙ ap (kept w.given) (lower_none w.broken)

-- a statement of a body, what it gives out and breaks, and the statements after it
pub walk_goes : (lib : Library) (declared : List (List ℕ)) (s : Statement) (ss ds : List Statement) (start before after : List Bound) (walked all next whole : Kept)
    → ds ≡ s ∷ ss → next ≡ summed (walk lib declared s before) → after ≡ before ++ next.given → all ≡ joined walked next
    → before ≡ start ++ walked.given → joined walked (summed (walk_body lib declared ds before)) ≡ whole
    → (after ≡ start ++ all.given) × (joined all (summed (walk_body lib declared ss after)) ≡ whole)
walk_goes lib declared s ss ds start before after walked all next whole split is entered added seen rest =
    let w : Walked = walk lib declared s before in
    let more : Walked = walk_body lib declared ss (before ++ w.given) in
    let behind : after ≡ before ++ w.given = entered ∙ ap (λ (k : Kept). before ++ k.given) is in (
      entered ∙ ap (λ ns. ns ++ next.given) seen ∙ append_assoc start walked.given next.given ∙ sym (ap (λ (k : Kept). start ++ k.given) added),
      ap (λ (k : Kept). joined k (summed (walk_body lib declared ss after))) added
          ∙ ap (λ ns. joined (joined walked next) (summed (walk_body lib declared ss ns))) behind
          ∙ ap (λ (k : Kept). joined (joined walked k) (summed more)) is
          ∙ joined_assoc walked (summed w) (summed more)
          ∙ ap (joined walked) (sym (summed_followed w more))
          ∙ sym (ap (λ xs. joined walked (summed (walk_body lib declared xs before))) split)
          ∙ rest,
    )

-- the names at the end of a body, and those at its beginning
pub names_kept : (start given names : List Bound) (count : ℕ) → names ≡ start ++ given → count ≡ length start → take count names ≡ start
names_kept start given names count is n =
    ap (λ k. take k names) n ∙ ap (take (length start)) is ∙ take-append_seam start given

-- ---- blocks

after_head : (head : List Broken) (w : Walked) → summed (after_block head w) ≡ kept w.given (lower (lowest head) (lowest w.broken))
after_head head w = ap (kept w.given) (lowest_append head w.broken)

scatter_head : (head : List Broken) (item : List ℕ) (body : Walk) (names : List Bound) (o : Option Ty) → option_and_then (λ t. items_at (out-Ty t)) o ≡ None
    → summed (after_block head (scatter_over item body names o)) ≡ kept [] (lowest head)
scatter_head head item body names None e = after_head head nothing ∙ ap (kept []) (lower_none (lowest head))
scatter_head head item body names (Some t) e = by_layer (out-Ty t) e
  where
    by_layer : (y : Ty-F Ty) → items_at y ≡ None → summed (after_block head (scatter_at item body names y)) ≡ kept [] (lowest head)
    by_layer (type.Array u some) h = absurd (some_none (u, some) h)
    by_layer y h = after_head head nothing ∙ ap (kept []) (lower_none (lowest head))

scatter_inside : (head : List Broken) (item : List ℕ) (body : Walk) (names : List Bound) (o : Option Ty) (t : Ty) (some : Bool) → option_and_then (λ u. items_at (out-Ty u)) o ≡ Some (t, some)
    → summed (after_block head (scatter_over item body names o)) ≡ scattered (lowest head) (summed (body (names ++ bound item t ∷ []))) some
scatter_inside head item body names None t some e = absurd (some_none (t, some) (sym e))
scatter_inside head item body names (Some v) t some e = by_layer (out-Ty v) e
  where
    by_layer : (y : Ty-F Ty) → items_at y ≡ Some (t, some) → summed (after_block head (scatter_at item body names y)) ≡ scattered (lowest head) (summed (body (names ++ bound item t ∷ []))) some
    by_layer (type.Array u also) h =
        after_head head (scatter_at item body names (type.Array u also))
        ∙ ap (λ (p : Ty × Bool). scattered (lowest head) (summed (body (names ++ bound item p.0 ∷ []))) p.1) (same_Some (u, also) (t, some) h)
    by_layer y h = absurd (some_none (t, some) (sym h))

pub scatter_none : (lib : Library) (declared : List (List ℕ)) (body : List Statement) (item : List ℕ) (over : TExpr) (span : Span) (names : List Bound) → items_of lib.structs names over ≡ None
    → summed (scatter_walk lib declared body item over span names) ≡ kept [] (lowest (block_broken lib.structs declared names over span))
scatter_none lib declared body item over span names e =
    scatter_head (block_broken lib.structs declared names over span) item (walk_body lib declared body) names (in_body lib.structs names over) e

pub scatter_some : (lib : Library) (declared : List (List ℕ)) (body : List Statement) (item : List ℕ) (over : TExpr) (span : Span) (names : List Bound) (t : Ty) (some : Bool) → items_of lib.structs names over ≡ Some (t, some)
    → summed (scatter_walk lib declared body item over span names)
    ≡ scattered (lowest (block_broken lib.structs declared names over span)) (summed (walk_body lib declared body (names ++ bound item t ∷ []))) some
scatter_some lib declared body item over span names t some e =
    scatter_inside (block_broken lib.structs declared names over span) item (walk_body lib declared body) names (in_body lib.structs names over) t some e

pub if_inside : (lib : Library) (declared : List (List ℕ)) (body : List Statement) (cond_ : TExpr) (span : Span) (names : List Bound)
    → summed (if_walk lib declared body cond_ span names)
    ≡ conditional (lowest (block_broken lib.structs declared names cond_ span)) (summed (walk_body lib declared body names))
if_inside lib declared body cond_ span names =
    after_head (block_broken lib.structs declared names cond_ span) (if_over (walk_body lib declared body) names)
