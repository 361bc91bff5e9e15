-- A body that is typed is well typed over the library, and gives out what it is said to give.
use Rattle.std.proofs.Common.{◌≡◌, ℕ, Bool, true, false, ◌&&◌, List, [], ◌∷◌, ◌++◌, Option, Some, None, map, option_and_then, if◌then◌else◌, slice_get, zero, suc, refl, sym, ap, ◌∙◌, subst}
use Rattle.std.proofs.lemmas.List.Concat.{flat_map-cons}
use Rattle.std.proofs.lemmas.Option.{same_Some}
use Rattle.wdl_value.specs.declared.ty.Ty.{Ty, Ty-F, out-Ty}
use Rattle.wdl_value.specs.declared.ty.Ty.TheOpen as type
use Rattle.wdl_value.specs.declared.ty.Ty.TheVariants as ty
use Rattle.wdl_value.specs.Kinds.{is_bool}
use Rattle.wdl_ast.specs.declared.section.Declaration.{Declaration}
use Rattle.wdl_ast.specs.declared.workflow.Statement.{Statement as Written, Statement-F, ind-Statement, map-Statement, roll-Statement}
use Rattle.wdl_ast.specs.declared.workflow.Statement.TheOpen as layer
use Rattle.wdl_ast.specs.declared.expr.Expr.{Expr}
use Rattle.wdl_typed.specs.declared.expr.TExpr.{TExpr}
use Rattle.wdl_typed.specs.declared.flow.Statement.{Statement}
use Rattle.wdl_typed.specs.Bodies.{Library, Seen, body_gives, gives, if_over, joined, optional, retyped, scatter_over, with_item}
use Rattle.wdl_typed.specs.Declarations.{in_body}
use Rattle.wdl_typed.specs.KnownTypes.{is_written}
use Rattle.wdl_typed.specs.Order.{option_list, picked}
use Rattle.wdl_typed.specs.Typing.{is_type}
use Rattle.wdl_check_rules.specs.declared.typed.Typed.{Typed}
use Rattle.wdl_check_rules.specs.Rules.{condition_of}
use Rattle.wdl_check_rules.specs.Spans.{joined as joined_span, span_of}
use Rattle.wdl_check_types.specs.Outcome.{Outcome, done, or_refused, then_}
use Rattle.wdl_check_types.specs.Places.{statement_span}
use Rattle.wdl_check_order.specs.Needs.{statement_needing}
use Rattle.wdl_check_order.specs.Ordered.{ordered}
use Rattle.wdl_check_decls.specs.declared.standing.Standing.TheVariants.{Body}
use Rattle.wdl_check_decls.specs.Declarations.{decl_typed}
use Rattle.wdl_check_decls.specs.Expressions.{expr_typed}
use Rattle.wdl_check_decls.specs.Laws.{CastTypes, DeclTypes, ExprTypes}
use Rattle.wdl_check_flow.specs.declared.collection.Collection.{Collection}
use Rattle.wdl_check_flow.specs.Blocks.{collection_of, collection_typed, condition_typed, items_at}
use Rattle.wdl_check_flow.specs.Bodies.{Numbered, Part, Typed_body, behind, body_typed, condition_stated, decl_stated, decl_statement, numbered, scatter_stated, statement_step, statement_typed, statements_typed, with_typing, writtens}
use Rattle.wdl_check_flow.specs.Calls.{Stated}
use Rattle.wdl_check_flow.specs.Given.{nothing}
use Rattle.wdl_check_flow.specs.Laws.{IsOf}
use Rattle.wdl_check_flow.specs.Numbers.{numbers_of}
use Rattle.wdl_check_flow.specs.Targets.{Place, world_at}
use Rattle.wdl_check_flow.proofs.CallGives.{call_well}
use Rattle.wdl_check_flow.proofs.Forms.{typed_roll}
use Rattle.wdl_check_flow.proofs.Gives.{gives_decl, gives_if, gives_pushed, gives_scatter}
use Rattle.wdl_check_decls.proofs.WellTyped.{then_some, refused_some}

module _ (exprs : ExprTypes) (casts : CastTypes) (decls : DeclTypes) (lib : Library) (p : Place) (of : IsOf lib p) where
  abbrev GivesAt : (ℕ → Seen → Outcome Stated) → Type 0
  GivesAt check = (number : ℕ) (seen : Seen) (x : Stated) → (check number seen).typed ≡ Some x → gives lib x.statement seen ≡ Some x.given

  abbrev Holds : Written → Type 0
  Holds s = GivesAt (statement_typed p s)

  abbrev Known : Type 0
  Known = (s : Written) × Holds s

  abbrev bare : Known → Written
  bare k = k.0

  -- ---- bodies

  abbrev Each : List Numbered → Type 0
  Each [] = Unit {0}
  Each (n ∷ ns) = GivesAt n.check × Each ns

  each_numbered : (ns : List ℕ) (ks : List Known) → Each (numbered ns (map (with_typing p) (map bare ks)))
  each_numbered [] ks = tt
  each_numbered (n ∷ ns) [] = tt
  each_numbered (n ∷ ns) (k ∷ ks) = (k.1, each_numbered ns ks)

  each_got : (ns : List Numbered) (i : ℕ) (n : Numbered) → Each ns → slice_get ns i ≡ Some n → GivesAt n.check
  each_got [] i n all e = cc
  each_got (m ∷ ns) zero n all e = subst (λ (x : Numbered). GivesAt x.check) (same_Some m n e) all.0
  each_got (m ∷ ns) (suc i) n all e = each_got ns i n all.1 e

  each_picked : (ns : List Numbered) (ps : List ℕ) → Each ns → Each (picked ns ps)
  each_picked ns [] all = tt
  each_picked ns (i ∷ ps) all =
      subst Each (sym (flat_map-cons (λ q. option_list (slice_get ns q)) i ps)) (by_got (each_picked ns ps all) (slice_get ns i) refl)
    where
      by_got : Each (picked ns ps) → (o : Option Numbered) → slice_get ns i ≡ o → Each (option_list o ++ picked ns ps)
      by_got rest None e = rest
      by_got rest (Some n) e = (each_got ns i n all e, rest)

  behind_gives : (seen : Seen) (before : List Statement) (given : Seen) (ns : List Numbered) (b : Typed_body) → Each ns
      → body_gives lib before seen ≡ Some given → (behind seen before given ns).typed ≡ Some b → body_gives lib b.statements seen ≡ Some b.given
  behind_gives seen before given [] b all g h = subst (λ (z : Typed_body). body_gives lib z.statements seen ≡ Some z.given) (same_Some _ b h) g
  behind_gives seen before given (n ∷ ns) b all g h =
      let q = then_some (n.check n.number (joined seen given)) (λ (s : Stated). behind seen (before ++ s.statement ∷ []) (joined given s.given) ns) b h in
      behind_gives seen (before ++ q.0.statement ∷ []) (joined given q.0.given) ns b all.1
      (gives_pushed lib before q.0.statement seen given q.0.given g (all.0 n.number (joined seen given) q.0 q.1)) q.2

  parts_give : (ks : List Known) (seen : Seen) (b : Typed_body) → (body_typed (map (with_typing p) (map bare ks)) seen).typed ≡ Some b
      → body_gives lib b.statements seen ≡ Some b.given
  parts_give ks seen b h =
      let parts : List Part = map (with_typing p) (map bare ks) in
      let q = then_some (ordered (map statement_needing (writtens parts)) (map statement_span (writtens parts))) (λ ps. behind seen [] nothing (picked (numbered (numbers_of (writtens parts)) parts) ps)) b h in
      behind_gives seen [] nothing (picked (numbered (numbers_of (writtens parts)) parts) q.0) b
      (each_picked (numbered (numbers_of (writtens parts)) parts) q.0 (each_numbered (numbers_of (writtens parts)) ks)) refl q.2

  -- ---- statements

  decl_gives_well : (d : Declaration) (seen : Seen) (x : Stated) → (decl_statement p seen d).typed ≡ Some x → gives lib x.statement seen ≡ Some x.given
  decl_gives_well d seen x h =
      let q = then_some (decl_typed Body (world_at p seen) seen.names d) (λ t. done (decl_stated t)) x h in
      subst (λ (z : Stated). gives lib z.statement seen ≡ Some z.given) (same_Some (decl_stated q.0) x q.2)
      (gives_decl lib q.0 seen
      ∙ ap (λ (b : Bool). if b then Some (decl_stated q.0).given else None)
      (ap (λ structs. is_written structs q.0.ty && is_type (in_body structs seen.names q.0.value) q.0.ty) (sym of.structs) ∙ decls Body (world_at p seen) seen.names d q.0 of.known q.1))

  -- an array that is gone over
  array_at : (e : TExpr) (y : Ty-F Ty) (c : Collection) → items_at e y ≡ Some c → (e ≡ c.expr) × (y ≡ type.Array c.item c.some)
  array_at e (type.Array t some) c h = let k = same_Some (record { expr = e; item = t; some = some }) c h in (ap (λ (z : Collection). z.expr) k, ap (λ (z : Collection). type.Array z.item z.some) k)
  array_at e y c h = cc

  collection_is : (seen : Seen) (e : Expr) (c : Collection) → (collection_typed p seen e).typed ≡ Some c
      → (t : Ty) × (in_body lib.structs seen.names c.expr ≡ Some t) × (out-Ty t ≡ type.Array c.item c.some)
  collection_is seen e c h =
      let q = then_some (expr_typed (world_at p seen) seen.names false false e) (λ x. or_refused 326 (span_of e) (collection_of x)) c h in
      let k = array_at q.0.expr (out-Ty q.0.ty) c (refused_some 326 (span_of e) (collection_of q.0) c q.2) in (
        q.0.ty,
        ap (λ structs. in_body structs seen.names c.expr) (sym of.structs) ∙ ap (in_body p.world.structs seen.names) (sym k.0) ∙ exprs (world_at p seen) seen.names false false e q.0 q.1,
        k.1,
      )

  condition_is : (seen : Seen) (e : Expr) (c : TExpr) → (condition_typed p seen e).typed ≡ Some c
      → (t : Ty) × (in_body lib.structs seen.names c ≡ Some t) × (is_bool t ≡ true)
  condition_is seen e c h =
      let q = then_some (expr_typed (world_at p seen) seen.names false false e) (λ x. or_refused 325 (span_of e) (condition_of x)) c h in
      by_test (is_bool q.0.ty) q.0 refl (refused_some 325 (span_of e) (condition_of q.0) c q.2)
      (ap (λ structs. in_body structs seen.names q.0.expr) (sym of.structs) ∙ exprs (world_at p seen) seen.names false false e q.0 q.1)
    where
      by_test : (b : Bool) (x : Typed) → is_bool x.ty ≡ b → (if b then Some x.expr else None) ≡ Some c → in_body lib.structs seen.names x.expr ≡ Some x.ty
          → (t : Ty) × (in_body lib.structs seen.names c ≡ Some t) × (is_bool t ≡ true)
      by_test true x k e is = (x.ty, ap (in_body lib.structs seen.names) (sym (same_Some x.expr c e)) ∙ is, k)
      by_test false x k e is = cc

  layer_holds : (y : Statement-F Known) (number : ℕ) (seen : Seen) (x : Stated)
      → (statement_step p (map-Statement Written Part (with_typing p) (map-Statement Known Written bare y)) number seen).typed ≡ Some x → gives lib x.statement seen ≡ Some x.given
  layer_holds (layer.Declaration d) number seen x h = decl_gives_well d seen x h
  layer_holds (layer.Call c) number seen x h = call_well casts lib p seen c x of h
  layer_holds (layer.Scatter s) number seen x h =
      let body : List Part = map (with_typing p) (map bare s.body) in
      let q = then_some (collection_typed p seen s.over) (λ (c : Collection). then_ (body_typed body (with_item seen s.item.name c.item)) (λ b. done (scatter_stated number s.item.name (joined_span s.keyword s.closing) c b))) x h in
      let r = then_some (body_typed body (with_item seen s.item.name q.0.item)) (λ b. done (scatter_stated number s.item.name (joined_span s.keyword s.closing) q.0 b)) x q.2 in
      let k = collection_is seen s.over q.0 q.1 in
      subst (λ (z : Stated). gives lib z.statement seen ≡ Some z.given) (same_Some (scatter_stated number s.item.name (joined_span s.keyword s.closing) q.0 r.0) x r.2)
      (gives_scatter lib _ seen
      ∙ ap (option_and_then (λ (t : Ty). scatter_over s.item.name (body_gives lib r.0.statements) seen (out-Ty t))) k.1
      ∙ ap (scatter_over s.item.name (body_gives lib r.0.statements) seen) k.2
      ∙ ap (option_and_then (λ (g : Seen). Some (retyped (λ u. ty.Array u q.0.some) g))) (parts_give s.body (with_item seen s.item.name q.0.item) r.0 r.1))
  layer_holds (layer.Conditional i) number seen x h =
      let body : List Part = map (with_typing p) (map bare i.body) in
      let q = then_some (condition_typed p seen i.condition) (λ (e : TExpr). then_ (body_typed body seen) (λ b. done (condition_stated number (joined_span i.keyword i.closing) e b))) x h in
      let r = then_some (body_typed body seen) (λ b. done (condition_stated number (joined_span i.keyword i.closing) q.0 b)) x q.2 in
      let k = condition_is seen i.condition q.0 q.1 in
      subst (λ (z : Stated). gives lib z.statement seen ≡ Some z.given) (same_Some (condition_stated number (joined_span i.keyword i.closing) q.0 r.0) x r.2)
      (gives_if lib _ seen
      ∙ ap (option_and_then (if_over (body_gives lib r.0.statements) seen)) k.1
      ∙ ap (λ (b : Bool). if b then option_and_then (λ (g : Seen). Some (retyped optional g)) (body_gives lib r.0.statements seen) else None) k.2
      ∙ ap (option_and_then (λ (g : Seen). Some (retyped optional g))) (parts_give i.body seen r.0 r.1))

  statement_holds : (s : Written) → Holds s
  statement_holds = ind-Statement Holds (λ x y is. subst (λ (z : Statement-F Written). Holds (roll-Statement z)) is (λ number seen s h.
      layer_holds y number seen s (sym (ap (λ (o : Outcome Stated). o.typed) (typed_roll p (map-Statement Known Written bare y) number seen)) ∙ h)))

  abbrev known : List Written → List Known
  known = map (λ (s : Written). (s, statement_holds s))

  bare_known : (ss : List Written) → map bare (known ss) ≡ ss
  bare_known [] = refl
  bare_known (s ∷ ss) = ap (λ (rest : List Written). s ∷ rest) (bare_known ss)

  pub body_well : (ss : List Written) (seen : Seen) (b : Typed_body) → (statements_typed p ss seen).typed ≡ Some b → body_gives lib b.statements seen ≡ Some b.given
  body_well ss seen b h = parts_give (known ss) seen b (ap (λ (xs : List Written). (statements_typed p xs seen).typed) (bare_known ss) ∙ h)
