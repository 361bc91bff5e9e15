-- In a well typed body each expression and each call is well typed where it stands, among names that are not of a given kind.
use Rattle.std.proofs.Common.{◌≡◌, ℕ, Bool, true, false, cond, not, ◌&&◌, List, [], ◌∷◌, ◌++◌, append_assoc, map, Option, Some, None, option_and_then, sym, ap, ◌∙◌, subst, refl}
use Rattle.std.specs.Prelude.{is_none}
use Rattle.std.specs.List.{list_all}
use Rattle.std.proofs.lemmas.Bool.{and_from, and_parts}
use Rattle.std.proofs.lemmas.List.Folds.{list_all-append}
use Rattle.std.proofs.lemmas.Option.{same_Some}
use Rattle.wdl_base.specs.declared.name.Key.{Key}
use Rattle.wdl_value.specs.declared.ty.Ty.{Ty, Ty-F, out-Ty}
use Rattle.wdl_value.specs.declared.ty.Ty.TheOpen as type
use Rattle.wdl_value.specs.declared.ty.Ty.TheVariants as ty
use Rattle.wdl_value.specs.Kinds.{is_bool}
use Rattle.wdl_typed.specs.declared.expr.TExpr.{TExpr}
use Rattle.wdl_typed.specs.declared.flow.Statement.{Statement, Statement-F, fold-roll-Statement, ind-Statement, map-Statement, roll-Statement}
use Rattle.wdl_typed.specs.declared.flow.Statement.TheOpen as layer
use Rattle.wdl_typed.specs.declared.flow.TCall.{TCall}
use Rattle.wdl_typed.specs.declared.scope.Bound.{Bound}
use Rattle.wdl_typed.specs.declared.task.TDecl.{TDecl}
use Rattle.wdl_typed.specs.Bodies.{Giving, Library, Seen, Signature, all_declared, all_given, all_seen, arg_names, args_typed, body_gives, body_step, call_by, call_gives, declared, gives, if_over, joined, names_step, optional, output_bound, retyped, scatter_over, signature, statement_step, with_item}
use Rattle.wdl_typed.specs.Declarations.{bound, in_body}
use Rattle.wdl_typed.specs.KnownTypes.{is_written}
use Rattle.wdl_typed.specs.Lists.{are_distinct}
use Rattle.wdl_typed.specs.Typing.{is_type}
use Rattle.leaf_image.specs.Inside.{Each, calls_in, calls_of, calls_step, exprs_in, exprs_of, exprs_step}
use Rattle.leaf_image.specs.Leaves.{items_in, items_of, items_step}
use Rattle.leaf_image.proofs.Eaches.{each_both}
use Rattle.record_laws.proofs.Bound.{some_typed}
use Rattle.wdl_base.proofs.Options.{then_parts}

when_some : {A : Type 0} (t : Bool) (a w : A) → (let o : Option A = cond t (Some a) None in o ≡ Some w) → (t ≡ true) × (a ≡ w)
when_some true a w h = (refl, cc)
when_some false a w h = absurd (cc)

module _ (lib : Library) (first : List Bound) (bad : List ℕ → Bool) where
  abbrev pub ok : Key → Bool
  ok key = not (is_none key.second && bad key.first)

  abbrev pub ok_bound : Bound → Bool
  ok_bound b = ok b.key

  abbrev good : List ℕ → Bool
  good name = not (bad name)

  -- the first names, and others of which none is bad
  abbrev pub Scope : List Bound → Type 0
  Scope names = (more : List Bound) × (names ≡ first ++ more) × (list_all ok_bound more ≡ true)

  pub record IsTyped (e : TExpr) : Type 0 where
    pub names : List Bound
    pub scope : Scope names
    pub ty : Ty
    pub typed : in_body lib.structs names e ≡ Some ty

  pub record IsCalled (c : TCall) : Type 0 where
    pub names : List Bound
    pub scope : Scope names
    pub target : Signature
    pub is : signature lib c.target ≡ Some target
    pub args : args_typed lib.structs names target.inputs c.args ≡ true
    pub given : all_given target.inputs (arg_names c.args) ≡ true

  more_scope : (names more : List Bound) → Scope names → list_all ok_bound more ≡ true → Scope (names ++ more)
  more_scope names more s h =
      (s.0 ++ more, ap (λ (bs : List Bound). bs ++ more) s.1 ∙ append_assoc first s.0 more, list_all-append ok_bound s.0 more ∙ and_from (list_all ok_bound s.0) (list_all ok_bound more) s.2 h)

  abbrev Good : List (List ℕ) → Type 0
  Good names = list_all good names ≡ true

  good_left : (ns ms : List (List ℕ)) → Good (ns ++ ms) → Good ns
  good_left ns ms h = (and_parts (list_all good ns) (list_all good ms) (sym (list_all-append good ns ms) ∙ h)).0

  good_right : (ns ms : List (List ℕ)) → Good (ns ++ ms) → Good ms
  good_right ns ms h = (and_parts (list_all good ns) (list_all good ms) (sym (list_all-append good ns ms) ∙ h)).1

  pub record Fine (es : List TExpr) (cs : List TCall) (gives_ : Seen) : Type 0 where
    pub exprs : Each IsTyped es
    pub calls : Each IsCalled cs
    pub names : list_all ok_bound gives_.names ≡ true

  abbrev Holds : Statement → Type 0
  Holds st = (seen given : Seen) → Scope seen.names → Good (declared st) → Good (items_in st) → gives lib st seen ≡ Some given → Fine (exprs_of st) (calls_of st) given

  abbrev Known : Type 0
  Known = (st : Statement) × Holds st

  abbrev firsts : List Known → List Statement
  firsts = map (λ (k : Known). k.0)

  abbrev plain : Statement-F Known → Statement-F Statement
  plain = map-Statement Known Statement (λ (k : Known). k.0)

  body_fine : (ks : List Known) (seen given : Seen) → Scope seen.names → Good (all_declared (firsts ks)) → Good (items_of (firsts ks)) → body_gives lib (firsts ks) seen ≡ Some given
      → Fine (exprs_in (firsts ks)) (calls_in (firsts ks)) given
  body_fine [] seen given scope d i h = record { exprs = tt; calls = tt; names = ap (λ (s : Seen). list_all ok_bound s.names) (sym (same_Some (record { names = []; calls = [] }) given h)) }
  body_fine (k ∷ ks) seen given scope d i h =
      let p = then_parts (λ one. option_and_then (λ rest. Some (joined one rest)) (body_gives lib (firsts ks) (joined seen one))) (gives lib k.0 seen) given h in
      let q = then_parts (λ rest. Some (joined p.0 rest)) (body_gives lib (firsts ks) (joined seen p.0)) given p.2 in
      let a = k.1 seen p.0 scope (good_left (declared k.0) (all_declared (firsts ks)) d) (good_left (items_in k.0) (items_of (firsts ks)) i) p.1 in
      let b =
      body_fine ks (joined seen p.0) q.0 (more_scope seen.names p.0.names scope a.names) (good_right (declared k.0) (all_declared (firsts ks)) d) (good_right (items_in k.0) (items_of (firsts ks)) i) q.1 in
      record {
        exprs = each_both IsTyped (exprs_of k.0) (exprs_in (firsts ks)) a.exprs b.exprs;
        calls = each_both IsCalled (calls_of k.0) (calls_in (firsts ks)) a.calls b.calls;
        names =
            ap (λ (s : Seen). list_all ok_bound s.names) (sym (same_Some (joined p.0 q.0) given q.2))
            ∙ list_all-append ok_bound p.0.names q.0.names ∙ and_from (list_all ok_bound p.0.names) (list_all ok_bound q.0.names) a.names b.names;
      }

  retyped_fine : (f : Ty → Ty) (bs : List Bound) → list_all ok_bound bs ≡ true → list_all ok_bound (map (λ (b : Bound). record { key = b.key; ty = f b.ty }) bs) ≡ true
  retyped_fine f [] h = refl
  retyped_fine f (b ∷ bs) h =
      let p = and_parts (ok_bound b) (list_all ok_bound bs) h in
      and_from (ok_bound b) (list_all ok_bound (map (λ (b : Bound). record { key = b.key; ty = f b.ty }) bs)) p.0 (retyped_fine f bs p.1)

  outputs_fine : (call : List ℕ) (ds : List TDecl) → list_all ok_bound (map (output_bound call) ds) ≡ true
  outputs_fine call [] = refl
  outputs_fine call (d ∷ ds) = outputs_fine call ds

  -- ---- form by form

  abbrev layer_gives : Statement-F Known → Giving
  layer_gives y = statement_step lib (map-Statement Statement Giving (gives lib) (plain y))

  abbrev FineLayer : Statement-F Known → Type 0
  FineLayer y = (seen given : Seen) → Scope seen.names → Good (names_step (map-Statement Statement (List (List ℕ)) declared (plain y))) → Good (items_step (map-Statement Statement (List (List ℕ)) items_in (plain y)))
      → layer_gives y seen ≡ Some given → Fine (exprs_step (map-Statement Statement (List TExpr) exprs_of (plain y))) (calls_step (map-Statement Statement (List TCall) calls_of (plain y))) given

  -- a body that is entered, whose names are then seen with other types
  block_fine : (ks : List Known) (f : Ty → Ty) (seen given : Seen) (e : TExpr) → IsTyped e → Scope seen.names → Good (all_declared (firsts ks)) → Good (items_of (firsts ks))
      → option_and_then (λ (s : Seen). Some (retyped f s)) (body_gives lib (firsts ks) seen) ≡ Some given → Fine (e ∷ exprs_in (firsts ks)) (calls_in (firsts ks)) given
  block_fine ks f seen given e typed scope d i h =
      let p = then_parts (λ (s : Seen). Some (retyped f s)) (body_gives lib (firsts ks) seen) given h in
      let b = body_fine ks seen p.0 scope d i p.1 in
      record {
        exprs = (typed, b.exprs);
        calls = b.calls;
        names = ap (λ (s : Seen). list_all ok_bound s.names) (sym (same_Some (retyped f p.0) given p.2)) ∙ retyped_fine f p.0.names b.names;
      }

  by_layer : (y : Statement-F Known) → FineLayer y
  by_layer (layer.Decl d) seen given scope n i h =
      let p = when_some (is_written lib.structs d.ty && is_type (in_body lib.structs seen.names d.value) d.ty) (record { names = bound d.name d.ty ∷ []; calls = [] }) given h in
      let t = some_typed (in_body lib.structs seen.names d.value) d.ty (and_parts (is_written lib.structs d.ty) (is_type (in_body lib.structs seen.names d.value) d.ty) p.0).1 in
      record {
        exprs = (record { names = seen.names; scope = scope; ty = t.0; typed = t.1 }, tt);
        calls = tt;
        names = ap (λ (s : Seen). list_all ok_bound s.names) (sym p.1) ∙ n;
      }
  by_layer (layer.Call c) seen given scope n i h =
      let p = then_parts (call_by lib.structs c seen) (signature lib c.target) given h in
      let s : Signature = p.0 in
      let q = when_some (args_typed lib.structs seen.names s.inputs c.args && are_distinct (arg_names c.args) && all_given s.inputs (arg_names c.args) && all_seen seen.calls c.after) (call_gives c.name s.outputs) given p.2 in
      let a = and_parts (args_typed lib.structs seen.names s.inputs c.args && are_distinct (arg_names c.args) && all_given s.inputs (arg_names c.args)) (all_seen seen.calls c.after) q.0 in
      let b = and_parts (args_typed lib.structs seen.names s.inputs c.args && are_distinct (arg_names c.args)) (all_given s.inputs (arg_names c.args)) a.0 in
      let d = and_parts (args_typed lib.structs seen.names s.inputs c.args) (are_distinct (arg_names c.args)) b.0 in
      record {
        exprs = tt;
        calls = (record { names = seen.names; scope = scope; target = s; is = p.1; args = d.0; given = b.1 }, tt);
        names = ap (λ (z : Seen). list_all ok_bound z.names) (sym q.1) ∙ outputs_fine c.name s.outputs;
      }
  by_layer (layer.Scatter s) seen given scope n i h =
      let p = then_parts (λ t. scatter_over s.item (body_step (map (gives lib) (firsts s.body))) seen (out-Ty t)) (in_body lib.structs seen.names s.over) given h in
      by_type p.0 p.1 (out-Ty p.0) p.2
    where
      by_type : (u : Ty) → in_body lib.structs seen.names s.over ≡ Some u → (t : Ty-F Ty) → scatter_over s.item (body_step (map (gives lib) (firsts s.body))) seen t ≡ Some given
          → Fine (s.over ∷ exprs_in (firsts s.body)) (calls_in (firsts s.body)) given
      by_type u e (type.Array t some) g =
          let q = and_parts (good s.item) (list_all good (items_of (firsts s.body))) i in
          block_fine s.body (λ w. ty.Array w some) (with_item seen s.item t) given s.over (record { names = seen.names; scope = scope; ty = u; typed = e })
          (more_scope seen.names (bound s.item t ∷ []) scope (and_from (good s.item) true q.0 refl)) n q.1 g
      by_type u e type.Bool g = absurd (cc)
      by_type u e type.Int g = absurd (cc)
      by_type u e type.Str g = absurd (cc)
      by_type u e type.File g = absurd (cc)
      by_type u e (type.Map a b) g = absurd (cc)
      by_type u e (type.Pair a b) g = absurd (cc)
      by_type u e (type.Struct a) g = absurd (cc)
      by_type u e (type.Opt a) g = absurd (cc)
      by_type u e type.Absent g = absurd (cc)
      by_type u e type.Empty g = absurd (cc)
  by_layer (layer.If s) seen given scope n i h =
      let p = then_parts (if_over (body_step (map (gives lib) (firsts s.body))) seen) (in_body lib.structs seen.names s.cond) given h in
      by_test (is_bool p.0) p.2
    where
      typed : IsTyped s.cond
      typed =
          let p = then_parts (if_over (body_step (map (gives lib) (firsts s.body))) seen) (in_body lib.structs seen.names s.cond) given h in
          record { names = seen.names; scope = scope; ty = p.0; typed = p.1 }

      by_test : (b : Bool) → cond b (option_and_then (λ (z : Seen). Some (retyped optional z)) (body_gives lib (firsts s.body) seen)) None ≡ Some given → Fine (s.cond ∷ exprs_in (firsts s.body)) (calls_in (firsts s.body)) given
      by_test true g = block_fine s.body optional seen given s.cond typed scope n i g
      by_test false g = absurd (cc)

  fine : (st : Statement) → Holds st
  fine = ind-Statement Holds (λ x y is. subst (λ (z : Statement-F Statement). Holds (roll-Statement z)) is (λ seen given scope n i h.
      let f =
      by_layer y seen given scope (ap (list_all good) (sym (fold-roll-Statement (List (List ℕ)) names_step (plain y))) ∙ n)
      (ap (list_all good) (sym (fold-roll-Statement (List (List ℕ)) items_step (plain y))) ∙ i)
      (ap (λ (g : Giving). g seen) (sym (fold-roll-Statement Giving (statement_step lib) (plain y))) ∙ h) in
      record {
        exprs = subst (Each IsTyped) (sym (fold-roll-Statement (List TExpr) exprs_step (plain y))) f.exprs;
        calls = subst (Each IsCalled) (sym (fold-roll-Statement (List TCall) calls_step (plain y))) f.calls;
        names = f.names;
      }))

  abbrev with_facts : List Statement → List Known
  with_facts [] = []
  with_facts (t ∷ ss) = (t, fine t) ∷ with_facts ss

  firsts_are : (ss : List Statement) → firsts (with_facts ss) ≡ ss
  firsts_are [] = refl
  firsts_are (t ∷ ss) = ap (λ (ts : List Statement). t ∷ ts) (firsts_are ss)

  -- What stands in a well typed body is well typed where it stands.
  pub all_fine : (ss : List Statement) (seen given : Seen) → Scope seen.names → Good (all_declared ss) → Good (items_of ss) → body_gives lib ss seen ≡ Some given
      → Fine (exprs_in ss) (calls_in ss) given
  all_fine ss =
      subst (λ (ts : List Statement). (seen given : Seen) → Scope seen.names → Good (all_declared ts) → Good (items_of ts) → body_gives lib ts seen ≡ Some given → Fine (exprs_in ts) (calls_in ts) given)
      (firsts_are ss) (body_fine (with_facts ss))
