-- What a statement gives out, and the outputs of its step.
use Rattle.std.proofs.Common.{◌≡◌, ℕ, Bool, true, false, cond, List, [], ◌∷◌, ◌++◌, map, Option, Some, None, option_and_then, sym, ap, ◌∙◌, subst, refl}
use Rattle.std.proofs.lemmas.Bool.{false≢true}
use Rattle.std.proofs.lemmas.Option.{none-some, same_Some}
use Rattle.wdl_value.specs.declared.ty.Ty.{Ty, Ty-F, fold-roll-Ty, map-Ty, out-Ty, roll-Ty, roll-out-Ty}
use Rattle.wdl_value.specs.declared.ty.Ty.TheOpen as type
use Rattle.wdl_value.specs.declared.ty.Ty.TheVariants as ty
use Rattle.wdl_value.specs.Bare.{is_optional}
use Rattle.wdl_value.specs.Kinds.{is_bool}
use Rattle.wdl_typed.specs.declared.flow.Statement.{Statement, Statement-F, fold-roll-Statement, ind-Statement, map-Statement, roll-Statement}
use Rattle.wdl_typed.specs.declared.flow.Statement.TheOpen as layer
use Rattle.wdl_typed.specs.declared.scope.Bound.{Bound}
use Rattle.wdl_typed.specs.declared.task.TDecl.{TDecl}
use Rattle.wdl_typed.specs.Bodies.{Giving, Library, Seen, Signature, body_step, call_by, call_gives, gives, if_over, joined, optional, output_bound, retyped, scatter_over, signature, statement_step, with_item}
use Rattle.wdl_typed.specs.Declarations.{bound, in_body}
use Rattle.cwl_model.specs.declared.ty.CwlTy.{CwlTy}
use Rattle.cwl_model.specs.declared.ty.CwlTy.TheVariants as cwl
use Rattle.cwl_image.specs.Expressions.{are_allowed, is_simple}
use Rattle.cwl_image.specs.Image.{Draft, Linkage, Output, Targets, block_output, body_links, call_output, draft, draft_step, linkage_of, links_of, list_type, null_at, null_type, signature_outputs, type_of, type_step}
use Rattle.cwl_image.specs.Subset.{Walk, Walked, block_broken, body_walk, outputs_bound, scatter_at, scatter_over as scatter_walk, unless, walk, walk_step}
use Rattle.cwl_laws.specs.Parts.{LinksTyped, OutsTyped}
use Rattle.cwl_laws.proofs.Scatters.{array_type}
use Rattle.cwl_laws.proofs.Tools.{both_empty, rule_holds}

-- ---- types

opt_type : (t : Ty) → type_of (ty.Opt t) ≡ cwl.Null (type_of t)
opt_type t = ap type_of (sym (ty.rolls-Opt t)) ∙ fold-roll-Ty CwlTy type_step (type.Opt t)

-- the outermost of a type that is not optional is no null
abbrev not_null : Ty-F CwlTy → Bool
not_null (type.Opt t) = false
not_null z = true

null_by_layer : (z : Ty-F CwlTy) → not_null z ≡ true → null_type (type_step z) ≡ cwl.Null (type_step z)
null_by_layer type.Bool h = ap (null_at cwl.Bool) cwl.outs-Bool
null_by_layer type.Int h = ap (null_at cwl.Long) cwl.outs-Long
null_by_layer type.Str h = ap (null_at cwl.Str) cwl.outs-Str
null_by_layer type.File h = ap (null_at cwl.File) cwl.outs-File
null_by_layer (type.Array t some) h = ap (null_at (cwl.List t)) (cwl.outs-List t)
null_by_layer (type.Map t u) h = ap (null_at cwl.Str) cwl.outs-Str
null_by_layer (type.Pair t u) h = ap (null_at cwl.Str) cwl.outs-Str
null_by_layer (type.Struct n) h = ap (null_at cwl.Str) cwl.outs-Str
null_by_layer type.Absent h = ap (null_at cwl.Str) cwl.outs-Str
null_by_layer type.Empty h = ap (null_at cwl.Str) cwl.outs-Str
null_by_layer (type.Opt t) h = absurd (false≢true h)

plain_layer : (z : Ty-F Ty) → is_optional z ≡ false → not_null (map-Ty Ty CwlTy type_of z) ≡ true
plain_layer (type.Opt t) h = absurd (false≢true (sym h))
plain_layer type.Bool h = refl
plain_layer type.Int h = refl
plain_layer type.Str h = refl
plain_layer type.File h = refl
plain_layer (type.Array t some) h = refl
plain_layer (type.Map t u) h = refl
plain_layer (type.Pair t u) h = refl
plain_layer (type.Struct n) h = refl
plain_layer type.Absent h = refl
plain_layer type.Empty h = refl

-- Outside a condition a type is optional in both.
optional_type : (t : Ty) → null_type (type_of t) ≡ type_of (optional t)
optional_type t = by_layer (out-Ty t) refl (is_optional (out-Ty t)) refl
  where
    at : (z : Ty-F Ty) → out-Ty t ≡ z → type_of t ≡ type_step (map-Ty Ty CwlTy type_of z)
    at z e = ap type_of (sym (roll-out-Ty t) ∙ ap roll-Ty e) ∙ fold-roll-Ty CwlTy type_step z

    by_layer : (z : Ty-F Ty) → out-Ty t ≡ z → (b : Bool) → is_optional z ≡ b → null_type (type_of t) ≡ type_of (cond (is_optional (out-Ty t)) t (ty.Opt t))
    by_layer (type.Opt u) e b h =
        ap null_type (at (type.Opt u) e) ∙ ap (null_at (cwl.Null (type_of u))) (cwl.outs-Null (type_of u)) ∙ sym (at (type.Opt u) e)
        ∙ ap (λ w. type_of (cond (is_optional w) t (ty.Opt t))) (sym e)
    by_layer z e false h =
        ap null_type (at z e) ∙ null_by_layer (map-Ty Ty CwlTy type_of z) (plain_layer z h) ∙ ap cwl.Null (sym (at z e)) ∙ sym (opt_type t)
        ∙ ap (λ b. type_of (cond b t (ty.Opt t))) (sym (ap is_optional e ∙ h))
    by_layer z e true h = absurd (false≢true h)

-- ---- lists of names

pub links_append : (ls ms : List Linkage) (bs cs : List Bound) → LinksTyped ls bs → LinksTyped ms cs → LinksTyped (ls ++ ms) (bs ++ cs)
links_append [] ms [] cs h k = k
links_append [] ms (b ∷ bs) cs h k = absurd h
links_append (l ∷ ls) ms [] cs h k = absurd h
links_append (l ∷ ls) ms (b ∷ bs) cs h k = (h.0, h.1, links_append ls ms bs cs h.2 k)

pub outs_linked : (step : List ℕ) (os : List Output) (bs : List Bound) → OutsTyped os bs → LinksTyped (map (linkage_of step) os) bs
outs_linked step [] [] h = tt
outs_linked step [] (b ∷ bs) h = absurd h
outs_linked step (o ∷ os) [] h = absurd h
outs_linked step (o ∷ os) (b ∷ bs) h = (h.0, h.1, outs_linked step os bs h.2)

abbrev retyped_by : (Ty → Ty) → List Bound → List Bound
retyped_by f = map (λ (b : Bound). record { key = b.key; ty = f b.ty })

block_typed : (f : CwlTy → CwlTy) (g : Ty → Ty) → ((t : Ty) → f (type_of t) ≡ type_of (g t)) → (ls : List Linkage) (bs : List Bound) → LinksTyped ls bs → OutsTyped (map (block_output f) ls) (retyped_by g bs)
block_typed f g same [] [] h = tt
block_typed f g same [] (b ∷ bs) h = absurd h
block_typed f g same (l ∷ ls) [] h = absurd h
block_typed f g same (l ∷ ls) (b ∷ bs) h = (h.0, ap f h.1 ∙ same b.ty, block_typed f g same ls bs h.2)

call_typed : (call : List ℕ) (ds : List TDecl) → OutsTyped (map (call_output call) ds) (map (output_bound call) ds)
call_typed call [] = tt
call_typed call (d ∷ ds) = (refl, refl, call_typed call ds)

-- ---- statements

module _ (lib : Library) (processes : Targets) (declared : List (List ℕ)) where
  -- The step gives what the statement gives out, with the types of its names; so does the walk over the rules.
  abbrev Same : Statement → Type 0
  Same st =
      (seen given : Seen) → gives lib st seen ≡ Some given → (walk lib declared st seen.names).broken ≡ []
      → OutsTyped (draft lib processes st).outs given.names × ((walk lib declared st seen.names).given ≡ given.names)

  abbrev KnownSame : Type 0
  KnownSame = (st : Statement) × Same st

  abbrev plain : Statement-F KnownSame → Statement-F Statement
  plain = map-Statement KnownSame Statement (λ (k : KnownSame). k.0)

  abbrev firsts : List KnownSame → List Statement
  firsts = map (λ (k : KnownSame). k.0)

  abbrev SameBody : List Statement → Seen → Seen → Type 0
  SameBody ss seen g =
      LinksTyped (body_links (map (draft lib processes) ss)) g.names × ((body_walk (map (walk lib declared) ss) seen.names).given ≡ g.names)

  body_same : (ks : List KnownSame) (seen g : Seen) → body_step (map (gives lib) (firsts ks)) seen ≡ Some g → (body_walk (map (walk lib declared) (firsts ks)) seen.names).broken ≡ [] → SameBody (firsts ks) seen g
  body_same [] seen g h w = let same = ap (λ (s : Seen). s.names) (same_Some _ _ h) in (subst (LinksTyped []) same tt, same)
  body_same (k ∷ ks) seen g h w = by_first (λ first r q b. body_same ks (joined seen first) r q b) (gives lib k.0 seen) refl h
    where
      split : ((walk lib declared k.0 seen.names).broken ≡ []) × ((body_walk (map (walk lib declared) (firsts ks)) (seen.names ++ (walk lib declared k.0 seen.names).given)).broken ≡ [])
      split = both_empty (walk lib declared k.0 seen.names).broken (body_walk (map (walk lib declared) (firsts ks)) (seen.names ++ (walk lib declared k.0 seen.names).given)).broken w

      Rest : Seen → Type 0
      Rest first =
          (r : Seen) → body_step (map (gives lib) (firsts ks)) (joined seen first) ≡ Some r → (body_walk (map (walk lib declared) (firsts ks)) (seen.names ++ first.names)).broken ≡ [] → SameBody (firsts ks) (joined seen first) r

      by_first : ((first : Seen) → Rest first) → (o : Option Seen) → gives lib k.0 seen ≡ o → option_and_then (λ first. option_and_then (λ rest. Some (joined first rest)) (body_step (map (gives lib) (firsts ks)) (joined seen first))) o ≡ Some g → SameBody (firsts (k ∷ ks)) seen g
      by_first rests None e h = absurd (none-some _ h)
      by_first rests (Some first) e h = by_rest (rests first) (body_step (map (gives lib) (firsts ks)) (joined seen first)) refl h
        where
          here : OutsTyped (draft lib processes k.0).outs first.names × ((walk lib declared k.0 seen.names).given ≡ first.names)
          here = k.1 seen first e split.0

          by_rest : Rest first → (o : Option Seen) → body_step (map (gives lib) (firsts ks)) (joined seen first) ≡ o → option_and_then (λ rest. Some (joined first rest)) o ≡ Some g → SameBody (firsts (k ∷ ks)) seen g
          by_rest rest None q h = absurd (none-some _ h)
          by_rest rest (Some more) q h =
              let r = rest more q (subst (λ bs. (body_walk (map (walk lib declared) (firsts ks)) (seen.names ++ bs)).broken ≡ []) here.1 split.1) in
              let names : first.names ++ more.names ≡ g.names = ap (λ (s : Seen). s.names) (same_Some _ _ h) in (
                subst (LinksTyped (body_links (map (draft lib processes) (firsts (k ∷ ks))))) names
                    (links_append (links_of (draft lib processes k.0)) (body_links (map (draft lib processes) (firsts ks))) first.names more.names
                    (outs_linked (draft lib processes k.0).id (draft lib processes k.0).outs first.names here.0) r.0),
                ap (λ bs. bs ++ (body_walk (map (walk lib declared) (firsts ks)) (seen.names ++ bs)).given) here.1 ∙ ap (λ bs. first.names ++ bs) r.1 ∙ names,
              )

  layer_same : (y : Statement-F KnownSame) (seen given : Seen) → statement_step lib (map-Statement Statement Giving (gives lib) (plain y)) seen ≡ Some given
      → (walk_step lib declared (map-Statement Statement Walk (walk lib declared) (plain y)) seen.names).broken ≡ []
      → OutsTyped (draft_step lib processes (map-Statement Statement Draft (draft lib processes) (plain y))).outs given.names
      × ((walk_step lib declared (map-Statement Statement Walk (walk lib declared) (plain y)) seen.names).given ≡ given.names)
  layer_same (layer.Decl d) seen given h w =
      let a = both_empty (unless (is_simple d.ty) 605 d.span ++ unless (are_allowed lib.structs seen.names d.value false) 606 d.span) (unless false 602 d.span) w in
      absurd (false≢true (rule_holds false 602 d.span a.1))
  layer_same (layer.Call c) seen given h w = by_signature (signature lib c.target) h
    where
      by_test : (s : Signature) (b : Bool) → cond b (Some (call_gives c.name s.outputs)) None ≡ Some given → OutsTyped (map (call_output c.name) s.outputs) given.names × (map (output_bound c.name) s.outputs ≡ given.names)
      by_test s true h = let same = ap (λ (z : Seen). z.names) (same_Some _ _ h) in (subst (OutsTyped (map (call_output c.name) s.outputs)) same (call_typed c.name s.outputs), same)
      by_test s false h = absurd (none-some _ h)

      by_signature : (o : Option Signature) → option_and_then (call_by lib.structs c seen) o ≡ Some given → OutsTyped (signature_outputs c.name o) given.names × (outputs_bound c.name o ≡ given.names)
      by_signature None h = absurd (none-some _ h)
      by_signature (Some s) h = by_test s _ h
  layer_same (layer.Scatter b) seen given h w = by_type (in_body lib.structs seen.names b.over) h rest
    where
      ws : List Walk
      ws = map (walk lib declared) (firsts b.body)

      rest : (scatter_walk b.item (body_walk ws) seen.names (in_body lib.structs seen.names b.over)).broken ≡ []
      rest = (both_empty (block_broken lib.structs declared seen.names b.over b.span) (scatter_walk b.item (body_walk ws) seen.names (in_body lib.structs seen.names b.over)).broken w).1

      outs : List Output
      outs = map (block_output list_type) (body_links (map (draft lib processes) (firsts b.body)))

      by_body : (u : Ty) (some : Bool) (o : Option Seen) → body_step (map (gives lib) (firsts b.body)) (with_item seen b.item u) ≡ o → option_and_then (λ s. Some (retyped (λ z. ty.Array z some) s)) o ≡ Some given
          → (body_walk ws (seen.names ++ bound b.item u ∷ [])).broken ≡ [] → OutsTyped outs given.names × (retyped_by (λ z. ty.Array z some) (body_walk ws (seen.names ++ bound b.item u ∷ [])).given ≡ given.names)
      by_body u some None e h w = absurd (none-some _ h)
      by_body u some (Some g) e h w =
          let r = body_same b.body (with_item seen b.item u) g e w in
          let names : retyped_by (λ z. ty.Array z some) g.names ≡ given.names = ap (λ (z : Seen). z.names) (same_Some _ _ h) in (
            subst (OutsTyped outs) names (block_typed list_type (λ z. ty.Array z some) (λ t. sym (array_type t some)) (body_links (map (draft lib processes) (firsts b.body))) g.names r.0),
            ap (retyped_by (λ z. ty.Array z some)) r.1 ∙ names,
          )

      by_layer : (z : Ty-F Ty) → scatter_over b.item (body_step (map (gives lib) (firsts b.body))) seen z ≡ Some given → (scatter_at b.item (body_walk ws) seen.names z).broken ≡ []
          → OutsTyped outs given.names × ((scatter_at b.item (body_walk ws) seen.names z).given ≡ given.names)
      by_layer (type.Array u some) h w = by_body u some (body_step (map (gives lib) (firsts b.body)) (with_item seen b.item u)) refl h w
      by_layer z h w = absurd (none-some _ h)

      by_type : (o : Option Ty) → option_and_then (λ t. scatter_over b.item (body_step (map (gives lib) (firsts b.body))) seen (out-Ty t)) o ≡ Some given → (scatter_walk b.item (body_walk ws) seen.names o).broken ≡ []
          → OutsTyped outs given.names × ((scatter_walk b.item (body_walk ws) seen.names o).given ≡ given.names)
      by_type None h w = absurd (none-some _ h)
      by_type (Some t) h w = by_layer (out-Ty t) h w
  layer_same (layer.If b) seen given h w = by_type (in_body lib.structs seen.names b.cond) h
    where
      ws : List Walk
      ws = map (walk lib declared) (firsts b.body)

      rest : (body_walk ws seen.names).broken ≡ []
      rest = (both_empty (block_broken lib.structs declared seen.names b.cond b.span) (body_walk ws seen.names).broken w).1

      outs : List Output
      outs = map (block_output null_type) (body_links (map (draft lib processes) (firsts b.body)))

      by_body : (o : Option Seen) → body_step (map (gives lib) (firsts b.body)) seen ≡ o → option_and_then (λ s. Some (retyped optional s)) o ≡ Some given → OutsTyped outs given.names × (retyped_by optional (body_walk ws seen.names).given ≡ given.names)
      by_body None e h = absurd (none-some _ h)
      by_body (Some g) e h =
          let r = body_same b.body seen g e rest in
          let names : retyped_by optional g.names ≡ given.names = ap (λ (z : Seen). z.names) (same_Some _ _ h) in (
            subst (OutsTyped outs) names (block_typed null_type optional optional_type (body_links (map (draft lib processes) (firsts b.body))) g.names r.0),
            ap (retyped_by optional) r.1 ∙ names,
          )

      by_bool : (t : Ty) (c : Bool) → cond c (option_and_then (λ s. Some (retyped optional s)) (body_step (map (gives lib) (firsts b.body)) seen)) None ≡ Some given → OutsTyped outs given.names × (retyped_by optional (body_walk ws seen.names).given ≡ given.names)
      by_bool t true h = by_body (body_step (map (gives lib) (firsts b.body)) seen) refl h
      by_bool t false h = absurd (none-some _ h)

      by_type : (o : Option Ty) → option_and_then (if_over (body_step (map (gives lib) (firsts b.body))) seen) o ≡ Some given → OutsTyped outs given.names × (retyped_by optional (body_walk ws seen.names).given ≡ given.names)
      by_type None h = absurd (none-some _ h)
      by_type (Some t) h = by_bool t (is_bool t) h

  pub given_same : (st : Statement) → Same st
  given_same = ind-Statement Same (λ a y is. subst (λ (z : Statement-F Statement). Same (roll-Statement z)) is (λ seen given h w.
      let typed = ap (λ (g : Giving). g seen) (fold-roll-Statement Giving (statement_step lib) (plain y)) in
      let walked = ap (λ (g : Walk). g seen.names) (fold-roll-Statement Walk (walk_step lib declared) (plain y)) in
      let r = layer_same y seen given (sym typed ∙ h) (sym (ap (λ (z : Walked). z.broken) walked) ∙ w) in (
        subst (λ (d : Draft). OutsTyped d.outs given.names) (sym (fold-roll-Statement Draft (draft_step lib processes) (plain y))) r.0,
        ap (λ (z : Walked). z.given) walked ∙ r.1,
      )))
