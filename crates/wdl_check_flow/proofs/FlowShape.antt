-- What is typed of a statement has its form, and what is typed of a body has its statements in an order: a relation that goes
-- from the statements of a body to the block round it holds of each written statement and what is typed of it.
use Rattle.std.proofs.Common.{◌≡◌, ℕ, suc, List, [], ◌∷◌, ◌++◌, Option, Some, None, option_map, length, map, slice_get, append_assoc, append-nil, refl, ap, sym, ◌∙◌, subst}
use Rattle.std.proofs.lemmas.Option.{slice_get-map, same_Some}
use Rattle.wdl_base.specs.declared.span.Span.{Span}
use Rattle.wdl_ast.specs.declared.section.Declaration.{Declaration}
use Rattle.wdl_ast.specs.declared.workflow.Call.{Call}
use Rattle.wdl_ast.specs.declared.workflow.Conditional.{Conditional}
use Rattle.wdl_ast.specs.declared.workflow.Scatter.{Scatter}
use Rattle.wdl_ast.specs.declared.workflow.Statement.{Statement as Written, Statement-F, ind-Statement, map-Statement, out-Statement, roll-Statement}
use Rattle.wdl_ast.specs.declared.workflow.Statement.TheOpen as layer
use Rattle.wdl_typed.specs.declared.expr.TExpr.{TExpr}
use Rattle.wdl_typed.specs.declared.flow.Statement.{Statement}
use Rattle.wdl_typed.specs.declared.flow.Statement.TheVariants as form
use Rattle.wdl_typed.specs.declared.flow.TCall.{TCall}
use Rattle.wdl_typed.specs.declared.scope.Bound.{Bound}
use Rattle.wdl_typed.specs.declared.task.TDecl.{TDecl}
use Rattle.wdl_typed.specs.Bodies.{Seen, arg_names, joined as with_more, with_item}
use Rattle.wdl_typed.specs.Kept.{sum_of}
use Rattle.wdl_typed.specs.Order.{picked}
use Rattle.wdl_check_rules.specs.Spans.{joined}
use Rattle.wdl_check_types.specs.Outcome.{Outcome, done, or_refused, then_}
use Rattle.wdl_check_types.specs.Places.{call_ident, call_span, statement_span}
use Rattle.wdl_check_types.specs.Written.{written}
use Rattle.wdl_order.specs.Least.{least_order}
use Rattle.wdl_check_order.specs.Needs.{call_arguments, statement_needing}
use Rattle.wdl_check_order.specs.Ordered.{ordered}
use Rattle.wdl_check_decls.specs.declared.standing.Standing.TheVariants.{Body}
use Rattle.wdl_check_decls.specs.Declarations.{decl_typed, declared, value_typed}
use Rattle.wdl_check_decls.specs.Expressions.{World}
use Rattle.wdl_check_decls.proofs.ListLaws.{picked_none, picked_some}
use Rattle.wdl_check_flow.specs.declared.collection.Collection.{Collection}
use Rattle.wdl_check_flow.specs.declared.numbers.Counts.{Counts}
use Rattle.wdl_check_flow.specs.Blocks.{collection_typed, condition_typed}
use Rattle.wdl_check_flow.specs.Bodies.{Numbered, Part, Typed_body, behind, body_typed, condition, condition_stated, decl_stated, numbered, scatter, scatter_stated, statement_step, statement_typed, statements_typed, with_typing, writtens}
use Rattle.wdl_check_flow.specs.Calls.{Stated, after_typed, arguments_behind, call_to, call_with, required_given, stated_call, target_span}
use Rattle.wdl_check_flow.specs.Given.{nothing}
use Rattle.wdl_check_flow.specs.Numbers.{counted, numbers_after, numbers_of}
use Rattle.wdl_check_flow.specs.Targets.{Offer, Place, target_of, world_at}
use Rattle.wdl_check_flow.proofs.Forms.{typed_roll}
use Rattle.wdl_check_flow.proofs.Orders.{order_sum}
use Rattle.wdl_check_decls.proofs.WellTyped.{then_some}

-- ---- lists

-- two lists of one length, whose members belong to each other
abbrev pub Pairs : {A B : Type 0} → (A → B → Type 0) → List A → List B → Type 0
Pairs R [] [] = Unit {0}
Pairs R (a ∷ as_) (b ∷ bs) = R a b × Pairs R as_ bs
Pairs R as_ bs = ⊥

pairs_more : {A B : Type 0} (R : A → B → Type 0) (as_ : List A) (bs : List B) (a : A) (b : B) → Pairs R as_ bs → R a b → Pairs R (as_ ++ a ∷ []) (bs ++ b ∷ [])
pairs_more R [] [] a b ps r = (r, tt)
pairs_more R [] (c ∷ bs) a b ps r = absurd ps
pairs_more R (c ∷ as_) [] a b ps r = absurd ps
pairs_more R (c ∷ as_) (d ∷ bs) a b ps r = (ps.0, pairs_more R as_ bs a b ps.1 r)

map_picked : {A B : Type 0} (f : A → B) (xs : List A) (ps : List ℕ) → map f (picked xs ps) ≡ picked (map f xs) ps
map_picked f xs [] = refl
map_picked {A} f xs (p ∷ ps) = by_got (map_picked f xs ps) (slice_get xs p) refl
  where
    by_got : map f (picked xs ps) ≡ picked (map f xs) ps → (o : Option A) → slice_get xs p ≡ o → map f (picked xs (p ∷ ps)) ≡ picked (map f xs) (p ∷ ps)
    by_got more None e =
        ap (map f) (picked_none xs p ps e) ∙ more ∙ sym (picked_none (map f xs) p ps (slice_get-map f xs p ∙ ap (option_map f) e))
    by_got more (Some x) e =
        ap (map f) (picked_some xs p ps x e) ∙ ap (λ ys. f x ∷ ys) more
        ∙ sym (picked_some (map f xs) p ps (f x) (slice_get-map f xs p ∙ ap (option_map f) e))

-- each member with its number
abbrev pub labelled : {A : Type 0} → List ℕ → List A → List (ℕ × A)
labelled [] xs = []
labelled (n ∷ ns) [] = []
labelled (n ∷ ns) (x ∷ xs) = (n, x) ∷ labelled ns xs

labelled-map : {A B : Type 0} (f : A → B) (ns : List ℕ) (xs : List A) → map (λ (l : ℕ × A). (l.0, f l.1)) (labelled ns xs) ≡ labelled ns (map f xs)
labelled-map f [] xs = refl
labelled-map f (n ∷ ns) [] = refl
labelled-map {A} {B} f (n ∷ ns) (x ∷ xs) = ap (λ (ls : List (ℕ × B)). (n, f x) ∷ ls) (labelled-map f ns xs)

-- ---- relations

-- between a written statement, its number, and what is typed of it
abbrev pub Relation : Type 1
Relation = Written → ℕ → Statement → Type 0

abbrev pub Fits : Relation → ℕ × Written → Statement → Type 0
Fits R l x = R l.1 l.0 x

pub record BodyOf (R : Relation) (ws : List Written) (ss : List Statement) : Type 0 where
  pub positions : List ℕ
  pub order : least_order (map statement_needing ws) ≡ Some positions
  pub pairs : Pairs (Fits R) (picked (labelled (numbers_of ws) ws) positions) ss

labelled_length : (c : Counts) (ws : List Written) → length (map statement_needing ws) ≡ length (labelled (numbers_after c ws) ws)
labelled_length c [] = refl
labelled_length c (w ∷ ws) = ap suc (labelled_length (counted (out-Statement w) c) ws)

-- the statements of a body count as much as those that are written
pub body_sum : (R : Relation) (ws : List Written) (ss : List Statement) (b : BodyOf R ws ss) (f : ℕ × Written → ℕ)
    → sum_of (map f (picked (labelled (numbers_of ws) ws) b.positions)) ≡ sum_of (map f (labelled (numbers_of ws) ws))
body_sum R ws ss b f =
    order_sum f (labelled (numbers_of ws) ws) (map statement_needing ws) b.positions (labelled_length (record { scatters = 0; conditions = 0 }) ws) b.order

pub record Forms (R : Relation) : Type 0 where
  pub declaration : (d : Declaration) (number : ℕ) (t : TDecl) → d.name.name ≡ t.name → R (roll-Statement (layer.Declaration d)) number (form.Decl t)
  pub call : (c : Call) (number : ℕ) (t : TCall) → (call_ident c).name ≡ t.name → R (roll-Statement (layer.Call c)) number (form.Call t)
  pub scatter : (s : Scatter Written) (number : ℕ) (span : Span) (over : TExpr) (body : List Statement) → BodyOf R s.body body
      → R (roll-Statement (layer.Scatter s)) number (scatter number s.item.name span over body)
  pub conditional : (i : Conditional Written) (number : ℕ) (span : Span) (test : TExpr) (body : List Statement) → BodyOf R i.body body
      → R (roll-Statement (layer.Conditional i)) number (condition number span test body)

-- ---- names

pub decl_name : (w : World) (names : List Bound) (d : Declaration) (t : TDecl) → (decl_typed Body w names d).typed ≡ Some t → d.name.name ≡ t.name
decl_name w names d t h =
    let q = then_some (written w.locals d.ty) (λ u. then_ (value_typed Body w names d.value u) (λ e. done (declared d u e))) t h in
    let r = then_some (value_typed Body w names d.value q.0) (λ e. done (declared d q.0 e)) t q.2 in
    ap (λ (z : TDecl). z.name) (same_Some (declared d q.0 r.0) t r.2)

call_name : (p : Place) (seen : Seen) (o : Offer) (c : Call) (t : TCall) → (call_to p seen o c).typed ≡ Some t → (call_ident c).name ≡ t.name
call_name p seen o c t h =
    let q = then_some (arguments_behind p seen o [] (call_arguments c)) (λ args. then_ (required_given (call_span c) o (arg_names args)) (λ _. then_ (after_typed seen c.after) (λ after. done (call_with c o args after)))) t h in
    let r = then_some (required_given (call_span c) o (arg_names q.0)) (λ _. then_ (after_typed seen c.after) (λ after. done (call_with c o q.0 after))) t q.2 in
    let s = then_some (after_typed seen c.after) (λ after. done (call_with c o q.0 after)) t r.2 in
    ap (λ (z : TCall). z.name) (same_Some (call_with c o q.0 s.0) t s.2)

-- ---- statements

module _ (p : Place) (R : Relation) (forms : Forms R) where
  abbrev Holds : Written → Type 0
  Holds s = (number : ℕ) (seen : Seen) (x : Stated) → (statement_typed p s number seen).typed ≡ Some x → R s number x.statement

  abbrev Known : Type 0
  Known = (s : Written) × Holds s

  abbrev bare : Known → Written
  bare k = k.0

  abbrev plain : ℕ × Known → ℕ × Written
  plain l = (l.0, bare l.1)

  abbrev checked : ℕ × Known → Numbered
  checked l = record { number = l.0; check = statement_typed p (bare l.1) }

  numbered_known : (ns : List ℕ) (ks : List Known) → numbered ns (map (with_typing p) (map bare ks)) ≡ map checked (labelled ns ks)
  numbered_known [] ks = refl
  numbered_known (n ∷ ns) [] = refl
  numbered_known (n ∷ ns) (k ∷ ks) = ap (λ (rest : List Numbered). checked (n, k) ∷ rest) (numbered_known ns ks)

  written_same : (ws : List Written) → writtens (map (with_typing p) ws) ≡ ws
  written_same [] = refl
  written_same (w ∷ ws) = ap (λ (rest : List Written). w ∷ rest) (written_same ws)

  behind_fits : (ls : List (ℕ × Known)) (seen : Seen) (front : List (ℕ × Written)) (before : List Statement) (given : Seen) (b : Typed_body)
      → Pairs (Fits R) front before → (behind seen before given (map checked ls)).typed ≡ Some b → Pairs (Fits R) (front ++ map plain ls) b.statements
  behind_fits [] seen front before given b fits h =
      subst (λ (z : Typed_body). Pairs (Fits R) (front ++ []) z.statements) (same_Some (record { statements = before; given = given }) b h)
      (subst (λ (ws : List (ℕ × Written)). Pairs (Fits R) ws before) (sym (append-nil front)) fits)
  behind_fits (l ∷ ls) seen front before given b fits h =
      let q = then_some (statement_typed p (bare l.1) l.0 (with_more seen given)) (λ (s : Stated). behind seen (before ++ s.statement ∷ []) (with_more given s.given) (map checked ls)) b h in
      subst (λ (ws : List (ℕ × Written)). Pairs (Fits R) ws b.statements) (append_assoc front (plain l ∷ []) (map plain ls))
      (behind_fits ls seen (front ++ plain l ∷ []) (before ++ q.0.statement ∷ []) (with_more given q.0.given) b
      (pairs_more (Fits R) front before (plain l) q.0.statement fits (l.1.1 l.0 (with_more seen given) q.0 q.1)) q.2)

  body_fits : (ks : List Known) (seen : Seen) (b : Typed_body) → (body_typed (map (with_typing p) (map bare ks)) seen).typed ≡ Some b → BodyOf R (map bare ks) b.statements
  body_fits ks seen b h =
      let ws : List Written = map bare ks in
      let parts : List Part = map (with_typing p) ws in
      let ns : List ℕ = numbers_of ws in
      let q = then_some (ordered (map statement_needing (writtens parts)) (map statement_span (writtens parts))) (λ ps. behind seen [] nothing (picked (numbered (numbers_of (writtens parts)) parts) ps)) b h in
      let same : picked (numbered (numbers_of (writtens parts)) parts) q.0 ≡ map checked (picked (labelled ns ks) q.0) =
      ap (λ (xs : List Written). picked (numbered (numbers_of xs) parts) q.0) (written_same ws)
      ∙ ap (λ (xs : List Numbered). picked xs q.0) (numbered_known ns ks)
      ∙ sym (map_picked checked (labelled ns ks) q.0) in
      let bare_same : map plain (picked (labelled ns ks) q.0) ≡ picked (labelled ns ws) q.0 =
      map_picked plain (labelled ns ks) q.0 ∙ ap (λ (ls : List (ℕ × Written)). picked ls q.0) (labelled-map bare ns ks) in
      record {
        positions = q.0;
        order = ap (λ (xs : List Written). least_order (map statement_needing xs)) (sym (written_same ws)) ∙ q.1;
        pairs = subst (λ (ls : List (ℕ × Written)). Pairs (Fits R) ls b.statements) bare_same
            (behind_fits (picked (labelled ns ks) q.0) seen [] [] nothing b tt (ap (λ (xs : List Numbered). (behind seen [] nothing xs).typed) (sym same) ∙ q.2));
      }

  layer_fits : (y : Statement-F Known) (number : ℕ) (seen : Seen) (x : Stated)
      → (statement_step p (map-Statement Written Part (with_typing p) (map-Statement Known Written bare y)) number seen).typed ≡ Some x
      → R (roll-Statement (map-Statement Known Written bare y)) number x.statement
  layer_fits (layer.Declaration d) number seen x h =
      let q = then_some (decl_typed Body (world_at p seen) seen.names d) (λ t. done (decl_stated t)) x h in
      subst (λ (z : Stated). R (roll-Statement (layer.Declaration d)) number z.statement) (same_Some (decl_stated q.0) x q.2)
      (forms.declaration d number q.0 (decl_name (world_at p seen) seen.names d q.0 q.1))
  layer_fits (layer.Call c) number seen x h =
      let q = then_some (or_refused 322 (target_span c.target) (target_of p.reach c.target)) (λ (o : Offer). then_ (call_to p seen o c) (λ (t : TCall). done (stated_call o t))) x h in
      let r = then_some (call_to p seen q.0 c) (λ (t : TCall). done (stated_call q.0 t)) x q.2 in
      subst (λ (z : Stated). R (roll-Statement (layer.Call c)) number z.statement) (same_Some (stated_call q.0 r.0) x r.2)
      (forms.call c number r.0 (call_name p seen q.0 c r.0 r.1))
  layer_fits (layer.Scatter s) number seen x h =
      let body : List Part = map (with_typing p) (map bare s.body) in
      let span = joined s.keyword s.closing in
      let q = then_some (collection_typed p seen s.over) (λ (c : Collection). then_ (body_typed body (with_item seen s.item.name c.item)) (λ b. done (scatter_stated number s.item.name span c b))) x h in
      let r = then_some (body_typed body (with_item seen s.item.name q.0.item)) (λ b. done (scatter_stated number s.item.name span q.0 b)) x q.2 in
      subst (λ (z : Stated). R (roll-Statement (map-Statement Known Written bare (layer.Scatter s))) number z.statement) (same_Some (scatter_stated number s.item.name span q.0 r.0) x r.2)
      (forms.scatter _ number span q.0.expr r.0.statements (body_fits s.body (with_item seen s.item.name q.0.item) r.0 r.1))
  layer_fits (layer.Conditional i) number seen x h =
      let body : List Part = map (with_typing p) (map bare i.body) in
      let span = joined i.keyword i.closing in
      let q = then_some (condition_typed p seen i.condition) (λ e. then_ (body_typed body seen) (λ b. done (condition_stated number span e b))) x h in
      let r = then_some (body_typed body seen) (λ b. done (condition_stated number span q.0 b)) x q.2 in
      subst (λ (z : Stated). R (roll-Statement (map-Statement Known Written bare (layer.Conditional i))) number z.statement) (same_Some (condition_stated number span q.0 r.0) x r.2)
      (forms.conditional _ number span q.0 r.0.statements (body_fits i.body seen r.0 r.1))

  statement_fits : (s : Written) → Holds s
  statement_fits = ind-Statement Holds (λ x y is. subst (λ (z : Statement-F Written). Holds (roll-Statement z)) is (λ number seen s h.
      layer_fits y number seen s (sym (ap (λ (o : Outcome Stated). o.typed) (typed_roll p (map-Statement Known Written bare y) number seen)) ∙ h)))

  abbrev known : List Written → List Known
  known = map (λ (s : Written). (s, statement_fits s))

  bare_known : (ws : List Written) → map bare (known ws) ≡ ws
  bare_known [] = refl
  bare_known (w ∷ ws) = ap (λ (rest : List Written). w ∷ rest) (bare_known ws)

  pub statements_fit : (ws : List Written) (seen : Seen) (b : Typed_body) → (statements_typed p ws seen).typed ≡ Some b → BodyOf R ws b.statements
  statements_fit ws seen b h =
      subst (λ (xs : List Written). BodyOf R xs b.statements) (bare_known ws)
      (body_fits (known ws) seen b (ap (λ (xs : List Written). (statements_typed p xs seen).typed) (bare_known ws) ∙ h))
