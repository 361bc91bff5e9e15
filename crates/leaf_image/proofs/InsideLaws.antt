-- What stands in statements with leaves in the places of struct inputs.
use Rattle.std.proofs.Common.{◌≡◌, ℕ, List, [], ◌∷◌, ◌++◌, map, refl, ap, sym, ◌∙◌, subst}
use Rattle.std.proofs.lemmas.List.{map-append}
use Rattle.wdl_typed.specs.declared.expr.TExpr.{TExpr}
use Rattle.wdl_typed.specs.declared.flow.Statement.{Statement, Statement-F, fold-roll-Statement, ind-Statement, map-Statement, roll-Statement}
use Rattle.wdl_typed.specs.declared.flow.Statement.TheOpen as layer
use Rattle.wdl_typed.specs.declared.flow.Statement.TheVariants as s
use Rattle.wdl_typed.specs.declared.flow.TCall.{TCall}
use Rattle.wdl_typed.specs.declared.flow.TIf.{TIf}
use Rattle.wdl_typed.specs.declared.flow.TScatter.{TScatter}
use Rattle.wdl_typed.specs.Bodies.{all_declared, append_all as all_names, declared, names_step}
use Rattle.wdl_swaps.specs.Swaps.{swapped, swapped_decl}
use Rattle.leaf_image.specs.Inside.{append_all, calls_in, calls_of, calls_step, exprs_in, exprs_of, exprs_step}
use Rattle.leaf_image.specs.Leaves.{items_in, items_of, items_step}
use Rattle.leaf_image.specs.Records.{Setting, expanded, expanded_call}
use Rattle.leaf_image.proofs.ExpandLaws.{expanded_calls, expanded_decl, expanded_if, expanded_scatter}

pub exprs_opened : (y : Statement-F Statement) → exprs_of (roll-Statement y) ≡ exprs_step (map-Statement Statement (List TExpr) exprs_of y)
exprs_opened y = fold-roll-Statement (List TExpr) exprs_step y

pub calls_opened : (y : Statement-F Statement) → calls_of (roll-Statement y) ≡ calls_step (map-Statement Statement (List TCall) calls_of y)
calls_opened y = fold-roll-Statement (List TCall) calls_step y

items_opened : (y : Statement-F Statement) → items_in (roll-Statement y) ≡ items_step (map-Statement Statement (List (List ℕ)) items_in y)
items_opened y = fold-roll-Statement (List (List ℕ)) items_step y

declared_opened : (y : Statement-F Statement) → declared (roll-Statement y) ≡ names_step (map-Statement Statement (List (List ℕ)) declared y)
declared_opened y = fold-roll-Statement (List (List ℕ)) names_step y

module _ (x : Setting) where
  abbrev value : TExpr → TExpr
  value = swapped x.own.swaps

  abbrev call : TCall → TCall
  call = expanded_call x

  -- the expressions swapped, the calls with the leaves among their arguments, and the same names
  pub record Stands (st : Statement) : Type 0 where
    pub exprs : exprs_of (expanded x st) ≡ map value (exprs_of st)
    pub calls : calls_of (expanded x st) ≡ map call (calls_of st)
    pub names : declared (expanded x st) ≡ declared st
    pub items : items_in (expanded x st) ≡ items_in st

  abbrev Known : Type 0
  Known = (st : Statement) × Stands st

  abbrev firsts : List Known → List Statement
  firsts = map (λ (k : Known). k.0)

  all_exprs : (ks : List Known) → append_all (map exprs_of (map (expanded x) (firsts ks))) ≡ map value (exprs_in (firsts ks))
  all_exprs [] = refl
  all_exprs (k ∷ ks) =
      ap (λ (es : List TExpr). es ++ append_all (map exprs_of (map (expanded x) (firsts ks)))) k.1.exprs
      ∙ ap (λ (es : List TExpr). map value (exprs_of k.0) ++ es) (all_exprs ks)
      ∙ sym (map-append value (exprs_of k.0) (exprs_in (firsts ks)))

  all_calls : (ks : List Known) → append_all (map calls_of (map (expanded x) (firsts ks))) ≡ map call (calls_in (firsts ks))
  all_calls [] = refl
  all_calls (k ∷ ks) =
      ap (λ (cs : List TCall). cs ++ append_all (map calls_of (map (expanded x) (firsts ks)))) k.1.calls
      ∙ ap (λ (cs : List TCall). map call (calls_of k.0) ++ cs) (all_calls ks)
      ∙ sym (map-append call (calls_of k.0) (calls_in (firsts ks)))

  all_same : (ks : List Known) → all_names (map declared (map (expanded x) (firsts ks))) ≡ all_declared (firsts ks)
  all_same [] = refl
  all_same (k ∷ ks) =
      ap (λ (ns : List (List ℕ)). ns ++ all_names (map declared (map (expanded x) (firsts ks)))) k.1.names
      ∙ ap (λ (ns : List (List ℕ)). declared k.0 ++ ns) (all_same ks)

  all_items : (ks : List Known) → all_names (map items_in (map (expanded x) (firsts ks))) ≡ items_of (firsts ks)
  all_items [] = refl
  all_items (k ∷ ks) =
      ap (λ (ns : List (List ℕ)). ns ++ all_names (map items_in (map (expanded x) (firsts ks)))) k.1.items
      ∙ ap (λ (ns : List (List ℕ)). items_in k.0 ++ ns) (all_items ks)

  -- a form, by what it is now
  by_form : (y z : Statement-F Statement) (t : Statement) → expanded x t ≡ roll-Statement z → t ≡ roll-Statement y
      → exprs_step (map-Statement Statement (List TExpr) exprs_of z) ≡ map value (exprs_step (map-Statement Statement (List TExpr) exprs_of y))
      → calls_step (map-Statement Statement (List TCall) calls_of z) ≡ map call (calls_step (map-Statement Statement (List TCall) calls_of y))
      → names_step (map-Statement Statement (List (List ℕ)) declared z) ≡ names_step (map-Statement Statement (List (List ℕ)) declared y)
      → items_step (map-Statement Statement (List (List ℕ)) items_in z) ≡ items_step (map-Statement Statement (List (List ℕ)) items_in y) → Stands t
  by_form y z t is was e c n i = record {
    exprs = ap exprs_of is ∙ exprs_opened z ∙ e ∙ ap (map value) (sym (ap exprs_of was ∙ exprs_opened y));
    calls = ap calls_of is ∙ calls_opened z ∙ c ∙ ap (map call) (sym (ap calls_of was ∙ calls_opened y));
    names = ap declared is ∙ declared_opened z ∙ n ∙ sym (ap declared was ∙ declared_opened y);
    items = ap items_in is ∙ items_opened z ∙ i ∙ sym (ap items_in was ∙ items_opened y);
  }

  by_layer : (y : Statement-F Known) → Stands (roll-Statement (map-Statement Known Statement (λ (k : Known). k.0) y))
  by_layer (layer.Decl d) =
      by_form (layer.Decl d) (layer.Decl (swapped_decl x.own.swaps d)) (roll-Statement (layer.Decl d))
      (ap (expanded x) (s.rolls-Decl d) ∙ expanded_decl x d ∙ sym (s.rolls-Decl (swapped_decl x.own.swaps d))) refl refl refl refl refl
  by_layer (layer.Call c) =
      by_form (layer.Call c) (layer.Call (call c)) (roll-Statement (layer.Call c)) (ap (expanded x) (s.rolls-Call c) ∙ expanded_calls x c ∙ sym (s.rolls-Call (call c))) refl refl refl refl refl
  by_layer (layer.Scatter t) =
      let old : TScatter Statement = record { number = t.number; item = t.item; over = t.over; body = firsts t.body; span = t.span } in
      let now : TScatter Statement = record { number = t.number; item = t.item; over = value t.over; body = map (expanded x) (firsts t.body); span = t.span } in
      by_form (layer.Scatter old) (layer.Scatter now) (roll-Statement (layer.Scatter old)) (ap (expanded x) (s.rolls-Scatter old) ∙ expanded_scatter x old ∙ sym (s.rolls-Scatter now)) refl
      (ap (λ (es : List TExpr). value t.over ∷ es) (all_exprs t.body)) (all_calls t.body) (all_same t.body) (ap (λ (ns : List (List ℕ)). t.item ∷ ns) (all_items t.body))
  by_layer (layer.If t) =
      let old : TIf Statement = record { number = t.number; cond = t.cond; body = firsts t.body; span = t.span } in
      let now : TIf Statement = record { number = t.number; cond = value t.cond; body = map (expanded x) (firsts t.body); span = t.span } in
      by_form (layer.If old) (layer.If now) (roll-Statement (layer.If old)) (ap (expanded x) (s.rolls-If old) ∙ expanded_if x old ∙ sym (s.rolls-If now)) refl
      (ap (λ (es : List TExpr). value t.cond ∷ es) (all_exprs t.body)) (all_calls t.body) (all_same t.body) (all_items t.body)

  stands : (st : Statement) → Stands st
  stands = ind-Statement Stands (λ l y is. subst (λ (z : Statement-F Statement). Stands (roll-Statement z)) is (by_layer y))

  -- ---- bodies

  pub exprs_expanded : (ss : List Statement) → exprs_in (map (expanded x) ss) ≡ map value (exprs_in ss)
  exprs_expanded [] = refl
  exprs_expanded (t ∷ ss) =
      ap (λ (es : List TExpr). es ++ exprs_in (map (expanded x) ss)) (stands t).exprs
      ∙ ap (λ (es : List TExpr). map value (exprs_of t) ++ es) (exprs_expanded ss)
      ∙ sym (map-append value (exprs_of t) (exprs_in ss))

  pub calls_expanded : (ss : List Statement) → calls_in (map (expanded x) ss) ≡ map call (calls_in ss)
  calls_expanded [] = refl
  calls_expanded (t ∷ ss) =
      ap (λ (cs : List TCall). cs ++ calls_in (map (expanded x) ss)) (stands t).calls
      ∙ ap (λ (cs : List TCall). map call (calls_of t) ++ cs) (calls_expanded ss)
      ∙ sym (map-append call (calls_of t) (calls_in ss))

  pub declared_expanded : (ss : List Statement) → all_declared (map (expanded x) ss) ≡ all_declared ss
  declared_expanded [] = refl
  declared_expanded (t ∷ ss) =
      ap (λ (ns : List (List ℕ)). ns ++ all_declared (map (expanded x) ss)) (stands t).names
      ∙ ap (λ (ns : List (List ℕ)). declared t ++ ns) (declared_expanded ss)

  pub items_expanded : (ss : List Statement) → items_of (map (expanded x) ss) ≡ items_of ss
  items_expanded [] = refl
  items_expanded (t ∷ ss) =
      ap (λ (ns : List (List ℕ)). ns ++ items_of (map (expanded x) ss)) (stands t).items
      ∙ ap (λ (ns : List (List ℕ)). items_in t ++ ns) (items_expanded ss)
