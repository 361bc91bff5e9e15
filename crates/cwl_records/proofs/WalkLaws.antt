-- What statements give out and leave, one after another, and what blocks do.
use Rattle.std.proofs.Common.{◌≡◌, ℕ, Bool, List, [], ◌∷◌, ◌++◌, Option, Some, None, option_and_then, map, refl, sym, ap, ◌∙◌, append_assoc, append-nil}
use Rattle.std.proofs.lemmas.Option.{same_Some}
use Rattle.wdl_value.specs.declared.ty.Ty.{Ty, Ty-F, out-Ty}
use Rattle.wdl_value.specs.declared.ty.Ty.TheOpen as type
use Rattle.wdl_typed.specs.declared.flow.FlowDef.{FlowDef}
use Rattle.wdl_typed.specs.declared.flow.Statement.{Statement}
use Rattle.wdl_typed.specs.declared.flow.TScatter.{TScatter}
use Rattle.wdl_typed.specs.declared.scope.Bound.{Bound}
use Rattle.wdl_typed.specs.declared.task.TDecl.{TDecl}
use Rattle.wdl_typed.specs.Bodies.{Library}
use Rattle.wdl_typed.specs.Declarations.{in_body, inputs_bound}
use Rattle.wdl_swaps.specs.declared.swap.Swap.{Swap}
use Rattle.wdl_swaps.specs.Strays.{flow_strays}
use Rattle.wdl_swaps.specs.Swaps.{swapped_decl}
use Rattle.cwl_image.specs.Subset.{declared_by}
use Rattle.cwl_subset.specs.Walks.{items_at, items_of}
use Rattle.cwl_records.specs.declared.aliases.Walked.{Walked}
use Rattle.cwl_records.specs.Aliases.{Scene, Step, Walk, scatter_at, scatter_over, scene_of, unaliased, walk, walk_body, walk_flow}
use Rattle.cwl_records.specs.Scenes.{inside_by, joined, nothing, scatter_inside, scatter_left, scatter_of, scatter_walk, walked}
use Rattle.wdl_base.proofs.Options.{some_none}

abbrev left : List Bound → List Statement → Walked
left given kept = record { given = given; kept = kept }

joined_assoc : (a b c : Walked) → joined (joined a b) c ≡ joined a (joined b c)
joined_assoc a b c =
    ap (λ (ns : List Bound). left ns ((a.kept ++ b.kept) ++ c.kept)) (append_assoc a.given b.given c.given)
    ∙ ap (left (a.given ++ (b.given ++ c.given))) (append_assoc a.kept b.kept c.kept)

pub joined_nothing : (w : Walked) → joined w nothing ≡ w
joined_nothing w = ap (λ (ns : List Bound). left ns (w.kept ++ [])) (append-nil w.given) ∙ ap (left w.given) (append-nil w.kept)

-- what is known in a body after some of its statements: the names that are seen, what was given out and left, and the swaps
abbrev Stands : Scene → List Statement → List Bound → List Bound → List Swap → Walked → Walked → List Swap → Type 0
Stands scene ss start names swaps so whole end =
    (names ≡ start ++ so.given)
    × (joined so (walked (walk_body scene ss names swaps)) ≡ whole)
    × (swaps ++ (walk_body scene ss names swaps).added ≡ end)

-- a statement of a body, and the statements after it
pub walk_goes : (scene : Scene) (s : Statement) (ss ds : List Statement) (start before after : List Bound) (swaps more end : List Swap) (so all next whole : Walked)
    → ds ≡ s ∷ ss → next ≡ walked (walk scene s before swaps) → more ≡ swaps ++ (walk scene s before swaps).added
    → after ≡ before ++ next.given → all ≡ joined so next → Stands scene ds start before swaps so whole end → Stands scene ss start after more all whole end
walk_goes scene s ss ds start before after swaps more end so all next whole split is grown entered added stands =
    let w : Step = walk scene s before swaps in
    let rest : Step = walk_body scene ss (before ++ w.given) (swaps ++ w.added) in
    let behind : after ≡ before ++ w.given = entered ∙ ap (λ (k : Walked). before ++ k.given) is in (
      entered
          ∙ ap (λ (ns : List Bound). ns ++ next.given) stands.0
          ∙ append_assoc start so.given next.given
          ∙ sym (ap (λ (k : Walked). start ++ k.given) added),
      ap (λ (k : Walked). joined k (walked (walk_body scene ss after more))) added
          ∙ ap (λ (ns : List Bound). joined (joined so next) (walked (walk_body scene ss ns more))) behind
          ∙ ap (λ (xs : List Swap). joined (joined so next) (walked (walk_body scene ss (before ++ w.given) xs))) grown
          ∙ ap (λ (k : Walked). joined (joined so k) (walked rest)) is
          ∙ joined_assoc so (walked w) (walked rest)
          ∙ sym (ap (λ (xs : List Statement). joined so (walked (walk_body scene xs before swaps))) split)
          ∙ stands.1,
      ap (λ (xs : List Swap). xs ++ (walk_body scene ss after xs).added) grown
          ∙ ap (λ (ns : List Bound). (swaps ++ w.added) ++ (walk_body scene ss ns (swaps ++ w.added)).added) behind
          ∙ append_assoc swaps w.added rest.added
          ∙ sym (ap (λ (xs : List Statement). swaps ++ (walk_body scene xs before swaps).added) split)
          ∙ stands.2,
    )

-- ---- blocks

none_over : (s : TScatter Walk) (names : List Bound) (swaps : List Swap) (o : Option Ty) → option_and_then (λ t. items_at (out-Ty t)) o ≡ None
    → scatter_over s names swaps o ≡ scatter_over s names swaps None
none_over s names swaps None e = refl
none_over s names swaps (Some t) e = by_layer (out-Ty t) e
  where
    by_layer : (y : Ty-F Ty) → items_at y ≡ None → scatter_at s names swaps y ≡ scatter_over s names swaps None
    by_layer (type.Array u some) h = absurd (some_none (u, some) h)
    by_layer y h = refl

some_over : (s : TScatter Walk) (names : List Bound) (swaps : List Swap) (o : Option Ty) (t : Ty) (some : Bool) → option_and_then (λ u. items_at (out-Ty u)) o ≡ Some (t, some)
    → scatter_over s names swaps o ≡ scatter_at s names swaps (type.Array t some)
some_over s names swaps None t some e = absurd (some_none (t, some) (sym e))
some_over s names swaps (Some v) t some e = by_layer (out-Ty v) e
  where
    by_layer : (y : Ty-F Ty) → items_at y ≡ Some (t, some) → scatter_at s names swaps y ≡ scatter_at s names swaps (type.Array t some)
    by_layer (type.Array u also) h = ap (λ (p : Ty × Bool). scatter_at s names swaps (type.Array p.0 p.1)) (same_Some (u, also) (t, some) h)
    by_layer y h = absurd (some_none (t, some) (sym h))

pub scatter_is : (scene : Scene) (s : TScatter Statement) (names : List Bound) (swaps : List Swap)
    → scatter_left swaps s (scatter_inside scene s.body s.item s.over names swaps) ≡ walked (scatter_walk scene s names swaps)
scatter_is scene s names swaps = by_items (items_of scene.lib.structs names s.over) refl
  where
    by_items : (o : Option (Ty × Bool)) → items_of scene.lib.structs names s.over ≡ o
        → scatter_left swaps s (inside_by scene s.body s.item names swaps o) ≡ walked (scatter_walk scene s names swaps)
    by_items None e = sym (ap walked (none_over (scatter_of scene s) names swaps (in_body scene.lib.structs names s.over) e))
    by_items (Some p) e = sym (ap walked (some_over (scatter_of scene s) names swaps (in_body scene.lib.structs names s.over) p.0 p.1 e))

-- Nothing stands in the place of a name of a block's body outside it.
none_added : (s : TScatter Walk) (names : List Bound) (swaps : List Swap) (o : Option Ty) → (scatter_over s names swaps o).added ≡ []
none_added s names swaps None = refl
none_added s names swaps (Some t) = by_layer (out-Ty t)
  where
    by_layer : (y : Ty-F Ty) → (scatter_at s names swaps y).added ≡ []
    by_layer (type.Array u some) = refl
    by_layer y = refl

pub scatter_adds : (scene : Scene) (s : TScatter Statement) (names : List Bound) (swaps : List Swap) → (scatter_walk scene s names swaps).added ≡ []
scatter_adds scene s names swaps = none_added (scatter_of scene s) names swaps (in_body scene.lib.structs names s.over)

-- ---- workflows

abbrev pub scene_at : Library → List (List ℕ) → List (List ℕ) → Scene
scene_at lib declared strays = record { lib = lib; declared = declared; strays = strays }

abbrev with_body : FlowDef → List Statement → List TDecl → FlowDef
with_body f body outputs = record { name = f.name; inputs = f.inputs; body = body; outputs = outputs; span = f.span }

walk_is : (lib : Library) (f : FlowDef) (declared strays : List (List ℕ)) (body : List Statement) (names : List Bound) (swaps : List Swap)
    → declared ≡ declared_by f.body → strays ≡ flow_strays f → body ≡ f.body → names ≡ inputs_bound f.inputs → swaps ≡ []
    → walk_body (scene_at lib declared strays) body names swaps ≡ walk_flow lib f
walk_is lib f declared strays body names swaps d s b n w =
    ap (λ ds. walk_body (scene_at lib ds strays) body names swaps) d
    ∙ ap (λ ss. walk_body (scene_at lib (declared_by f.body) ss) body names swaps) s
    ∙ ap (λ (xs : List Statement). walk_body (scene_of lib f) xs names swaps) b
    ∙ ap (λ (ns : List Bound). walk_body (scene_of lib f) f.body ns swaps) n
    ∙ ap (λ (ws : List Swap). walk_body (scene_of lib f) f.body (inputs_bound f.inputs) ws) w

-- a workflow with what its walk leaves
pub flow_is : (lib : Library) (f : FlowDef) (declared strays : List (List ℕ)) (body : List Statement) (names : List Bound) (swaps more : List Swap) (w : Walked) (outputs : List TDecl)
    → declared ≡ declared_by f.body → strays ≡ flow_strays f → body ≡ f.body → names ≡ inputs_bound f.inputs → swaps ≡ []
    → w ≡ walked (walk_body (scene_at lib declared strays) body names swaps) → more ≡ swaps ++ (walk_body (scene_at lib declared strays) body names swaps).added
    → outputs ≡ map (swapped_decl more) f.outputs → with_body f w.kept outputs ≡ unaliased lib f
flow_is lib f declared strays body names swaps more w outputs d s b n none is grown made =
    let e = walk_is lib f declared strays body names swaps d s b n none in
    let added : more ≡ (walk_flow lib f).added = grown ∙ ap (λ (ws : List Swap). ws ++ (walk_body (scene_at lib declared strays) body names swaps).added) none ∙ ap (λ (x : Step). x.added) e in
    ap (λ (x : Walked). with_body f x.kept outputs) is
    ∙ ap (λ (x : Step). with_body f x.kept outputs) e
    ∙ ap (with_body f (walk_flow lib f).kept) (made ∙ ap (λ (ws : List Swap). map (swapped_decl ws) f.outputs) added)
