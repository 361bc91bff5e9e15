-- The bodies of blocks that are ready.
use Rattle.std.proofs.Common.{◌≡◌, ℕ, zero, suc, ◌-◌, ◌<◌, Bool, true, false, cond as chosen_of, not, List, [], ◌∷◌, ◌++◌, Option, Some, None, option_and_then, Ok, append-nil, sym, ap, ◌∙◌, subst, refl}
use Rattle.std.specs.List.{slice_get}
use Rattle.std.proofs.lemmas.Bool.{false≢true, and_parts}
use Rattle.wdl_base.specs.declared.place.Segment.TheVariants as segment
use Rattle.wdl_value.specs.declared.ty.Ty.{Ty, Ty-F, out-Ty, roll-Ty, roll-out-Ty}
use Rattle.wdl_value.specs.declared.ty.Ty.TheVariants as ty
use Rattle.wdl_value.specs.declared.ty.Ty.TheOpen as type
use Rattle.wdl_value.specs.declared.value.Value.{Value, Value-F}
use Rattle.wdl_value.specs.Fits.{Structs, fits}
use Rattle.wdl_value.specs.Kinds.{is_bool}
use Rattle.wdl_value.specs.Parts.{items_at, items_in}
use Rattle.wdl_value.proofs.FitsForms.{a_list, all_fit}
use Rattle.wdl_typed.specs.declared.flow.Statement.{Statement, Statement-F, fold-Statement, fold_out-Statement, map-Statement, out-Statement}
use Rattle.wdl_typed.specs.declared.flow.Statement.TheVariants as stmt
use Rattle.wdl_typed.specs.declared.flow.Statement.TheOpen as layer
use Rattle.wdl_typed.specs.declared.flow.TIf.{TIf}
use Rattle.wdl_typed.specs.declared.flow.TScatter.{TScatter}
use Rattle.wdl_typed.specs.Bodies.{Differing, Library, Seen, body_gives, declared, if_over, items_differ, items_step, names_step, optional, retyped, scatter_over, with_item}
use Rattle.wdl_typed.specs.Declarations.{bound, in_body, plain_key}
use Rattle.wdl_typed.specs.Evaluation.{value_of}
use Rattle.wdl_typed.specs.Flow.{Sight, all_known, env_of, inside}
use Rattle.wdl_typed.specs.Lists.{has_name}
use Rattle.wdl_typed.specs.Requests.{before}
use Rattle.wdl_names.specs.Fresh.{fresh}
use Rattle.flow_soundness.specs.Readiness.{AreItemsReady, IsBodyReady, IsDeclReady, IsNew, IsStatementReady, are_among}
use Rattle.flow_soundness.proofs.Fitting.{agrees_both, agrees_one, decl_ready, value_fits}
use Rattle.flow_soundness.proofs.FlowSound.{not_true, one_apart}
use Rattle.flow_soundness.proofs.Newness.{new_inside}
use Rattle.flow_soundness.proofs.Ready.{statement_nested, statement_typed}
use Rattle.wdl_base.proofs.Options.{then_parts}

-- ---- what a block declares

-- what is declared in the body of a block is new there
record BlockNew (all taken : List (List ℕ)) (y : Statement-F Statement) : Type 0 where
  pub declared_all : are_among all (names_step (map-Statement Statement (List (List ℕ)) declared y))
  pub declared_new : fresh taken (names_step (map-Statement Statement (List (List ℕ)) declared y)) ≡ true
  pub items_new : items_step (map-Statement Statement Differing (fold-Statement Differing items_step) y) all ≡ true

block_new : (all taken : List (List ℕ)) (seen : Seen) (st : Statement) (y : Statement-F Statement) → out-Statement st ≡ y → IsNew all taken seen (st ∷ []) → BlockNew all taken y
block_new all taken seen st y e n =
    let names = append-nil (declared st) ∙ fold_out-Statement (List (List ℕ)) names_step st ∙ ap (λ (z : Statement-F Statement). names_step (map-Statement Statement (List (List ℕ)) declared z)) e in
    let items = fold_out-Statement Differing items_step st ∙ ap (λ (z : Statement-F Statement). items_step (map-Statement Statement Differing (fold-Statement Differing items_step) z)) e in
    record {
      declared_all = subst (are_among all) names n.declared_all;
      declared_new = sym (ap (fresh taken) names) ∙ n.declared_new;
      items_new = sym (ap (λ (d : Differing). d all) items) ∙ (and_parts (fold-Statement Differing items_step st all) true n.items_new).0;
    }

pub none_new : (all taken : List (List ℕ)) (seen : Seen) (ss : List Statement) → IsNew all taken seen ss → IsNew all taken seen []
none_new all taken seen ss n = record {
  seen_taken = n.seen_taken;
  taken_all = n.taken_all;
  declared_all = λ name h. absurd (false≢true h);
  declared_new = refl;
  items_new = refl;
}

-- ---- scatters

-- what is typed of a scatter
record ScatterTyped (lib : Library) (c : TScatter Statement) (seen : Seen) : Type 0 where
  pub item : Ty
  pub some : Bool
  pub given : Seen
  pub over : in_body lib.structs seen.names c.over ≡ Some (ty.Array item some)
  pub body : body_gives lib c.body (with_item seen c.item item) ≡ Some given

scatter_typed : (lib : Library) (levels : ℕ) (c : TScatter Statement) (s : Sight) (b : IsStatementReady lib levels (stmt.Scatter c) s) → ScatterTyped lib c b.seen
scatter_typed lib levels c s b =
    let h = statement_typed lib levels (stmt.Scatter c) s b (layer.Scatter c) (stmt.outs-Scatter c) in
    let p = then_parts (λ t. scatter_over c.item (body_gives lib c.body) b.seen (out-Ty t)) (in_body lib.structs b.seen.names c.over) h.0 h.1 in
    by_type p.0 p.1 (out-Ty p.0) refl h.0 p.2
  where
    by_type : (t : Ty) → in_body lib.structs b.seen.names c.over ≡ Some t → (z : Ty-F Ty) → out-Ty t ≡ z → (g : Seen) → scatter_over c.item (body_gives lib c.body) b.seen z ≡ Some g → ScatterTyped lib c b.seen
    by_type t typed (type.Array u some) e g h =
        let q = then_parts (λ i. Some (retyped (λ w. ty.Array w some) i)) (body_gives lib c.body (with_item b.seen c.item u)) g h in
        let array : t ≡ ty.Array u some = sym (roll-out-Ty t) ∙ ap roll-Ty e ∙ ty.rolls-Array u some in
        record { item = u; some = some; given = q.0; over = typed ∙ ap (λ z. Some z) array; body = q.1 }
    by_type t typed z e g h = absurd (cc)

pub scatter_over_ready : (lib : Library) (levels : ℕ) (c : TScatter Statement) (s : Sight) → IsStatementReady lib levels (stmt.Scatter c) s → IsDeclReady c.over s
scatter_over_ready lib levels c s b =
    let t = scatter_typed lib levels c s b in
    decl_ready lib.structs b.seen.names s c.over (ty.Array t.item t.some) t.over b.agrees

one_fits : (structs : Structs) (xs : List Value) (t : Ty) (i : ℕ) (x : Value) → all_fit structs xs t ≡ true → slice_get xs i ≡ Some x → fits structs x t ≡ true
one_fits structs [] t i x h g = absurd (cc)
one_fits structs (y ∷ ys) t zero x h g = let same : y ≡ x = cc in ap (λ z. fits structs z t) (sym same) ∙ (and_parts (fits structs y t) (all_fit structs ys t) h).0
one_fits structs (y ∷ ys) t (suc i) x h g = one_fits structs ys t i x (and_parts (fits structs y t) (all_fit structs ys t) h).1 g

pub scatter_items_ready : (lib : Library) (levels : ℕ) (c : TScatter Statement) (s : Sight) (x : Value) → IsStatementReady lib levels (stmt.Scatter c) s → all_known s.names c.over ≡ true
    → value_of (before (env_of s.names)) c.over ≡ Ok x → AreItemsReady lib levels c (items_in x) s
scatter_items_ready lib levels c s x b known h =
    let t = scatter_typed lib levels c s b in
    let n = statement_nested lib levels (stmt.Scatter c) s b (layer.Scatter c) (stmt.outs-Scatter c) refl in
    let new = block_new b.all b.taken b.seen (stmt.Scatter c) (layer.Scatter c) (stmt.outs-Scatter c) b.new in
    let l = a_list lib.structs x t.item t.some (value_fits lib.structs b.seen.names s.names c.over (ty.Array t.item t.some) x t.over b.agrees known h) in
    let fit = ap (λ (y : Value-F Value). all_fit lib.structs (items_at y) t.item) l.2 ∙ l.3 in
    let p = and_parts (not (has_name c.item b.all)) (items_differ c.body (c.item ∷ b.all)) new.items_new in
    let out = not_true lib.structs (has_name c.item b.all) p.0 in
    record {
      inside = n.within;
      each = λ i y there. record {
        library = b.library;
        nested = n.one_less;
        seen = with_item b.seen c.item t.item;
        given = t.given;
        typed = t.body;
        agrees = agrees_both lib.structs b.seen.names (bound c.item t.item ∷ []) s.names (record { key = plain_key c.item; value = Some y } ∷ []) b.agrees
            (agrees_one lib.structs (bound c.item t.item) (Some y) (λ z e. value_at t.item y z e (one_fits lib.structs (items_in x) t.item i y fit there)))
            (one_apart lib.structs b.seen.names b.all c.item t.item (λ key u g. b.new.taken_all key.first (b.new.seen_taken key u g)) out);
        all = c.item ∷ b.all;
        taken = b.taken ++ c.item ∷ [];
        new = new_inside b.all b.taken b.seen c.item t.item c.body out p.1 (none_new b.all b.taken b.seen (stmt.Scatter c ∷ []) b.new) new.declared_all new.declared_new;
      };
    }
  where
    value_at : (u : Ty) (y z : Value) → (let o : Option Value = Some y in o ≡ Some z) → fits lib.structs y u ≡ true → fits lib.structs z u ≡ true
    value_at u y z e f = let same : y ≡ z = cc in subst (λ (w : Value). fits lib.structs w u ≡ true) same f

-- ---- conditions

-- what is typed of a condition
record IfTyped (lib : Library) (c : TIf Statement) (seen : Seen) : Type 0 where
  pub ty : Ty
  pub given : Seen
  pub cond : in_body lib.structs seen.names c.cond ≡ Some ty
  pub body : body_gives lib c.body seen ≡ Some given

if_typed : (lib : Library) (levels : ℕ) (c : TIf Statement) (s : Sight) (b : IsStatementReady lib levels (stmt.If c) s) → IfTyped lib c b.seen
if_typed lib levels c s b =
    let h = statement_typed lib levels (stmt.If c) s b (layer.If c) (stmt.outs-If c) in
    let p = then_parts (if_over (body_gives lib c.body) b.seen) (in_body lib.structs b.seen.names c.cond) h.0 h.1 in
    by_test p.0 p.1 (is_bool p.0) h.0 p.2
  where
    by_test : (t : Ty) → in_body lib.structs b.seen.names c.cond ≡ Some t → (bool : Bool) → (g : Seen)
        → chosen_of bool (option_and_then (λ i. Some (retyped optional i)) (body_gives lib c.body b.seen)) None ≡ Some g → IfTyped lib c b.seen
    by_test t typed true g h =
        let q = then_parts (λ i. Some (retyped optional i)) (body_gives lib c.body b.seen) g h in
        record { ty = t; given = q.0; cond = typed; body = q.1 }
    by_test t typed false g h = absurd (cc)

pub if_cond_ready : (lib : Library) (levels : ℕ) (c : TIf Statement) (s : Sight) → IsStatementReady lib levels (stmt.If c) s → IsDeclReady c.cond s
if_cond_ready lib levels c s b =
    let t = if_typed lib levels c s b in
    decl_ready lib.structs b.seen.names s c.cond t.ty t.cond b.agrees

pub if_body_ready : (lib : Library) (levels : ℕ) (c : TIf Statement) (s : Sight) → IsStatementReady lib levels (stmt.If c) s → IsBodyReady lib (levels - 1) c.body (inside s (segment.If c.number))
if_body_ready lib levels c s b =
    let t = if_typed lib levels c s b in
    let n = statement_nested lib levels (stmt.If c) s b (layer.If c) (stmt.outs-If c) refl in
    let new = block_new b.all b.taken b.seen (stmt.If c) (layer.If c) (stmt.outs-If c) b.new in
    record {
      library = b.library;
      nested = n.one_less;
      seen = b.seen;
      given = t.given;
      typed = t.body;
      agrees = b.agrees;
      all = b.all;
      taken = b.taken;
      new = record {
        seen_taken = b.new.seen_taken;
        taken_all = b.new.taken_all;
        declared_all = new.declared_all;
        declared_new = new.declared_new;
        items_new = new.items_new;
      };
    }

pub if_inside : (lib : Library) (levels : ℕ) (c : TIf Statement) (s : Sight) → IsStatementReady lib levels (stmt.If c) s → 0 < levels
if_inside lib levels c s b =
    let n = statement_nested lib levels (stmt.If c) s b (layer.If c) (stmt.outs-If c) refl in
    n.within
