-- In a checked form each statement sees all that it refers to, and the names that are seen differ.
use Rattle.std.proofs.Common.{◌≡◌, ℕ, ◌+◌, Bool, true, false, cond, not, ◌&&◌, ◌||◌, ◌⊎◌, inl, inr, List, [], ◌∷◌, ◌++◌, length, append_assoc, append-nil, Option, Some, None, option_and_then, sym, ap, ◌∙◌, subst, refl}
use Rattle.std.specs.List.{list_all}
use Rattle.std.specs.Str.{bytes_eq}
use Rattle.std.proofs.lemmas.Bool.{false≢true, and_from, and_parts, not-true, not_from_false, or_cases, or_from, or_left, or_parts, or_right}
use Rattle.std.proofs.lemmas.List.{map-append}
use Rattle.std.proofs.lemmas.List.Folds.{list_all-append}
use Rattle.std.proofs.lemmas.Option.{same_Some}
use Rattle.std.proofs.lemmas.Slice.Eq.{bytes_eq-Decides}
use Rattle.wdl_base.specs.declared.name.Key.{Key}
use Rattle.wdl_value.specs.declared.ty.Ty.{Ty, Ty-F, out-Ty}
use Rattle.wdl_value.specs.declared.ty.Ty.TheVariants as ty
use Rattle.wdl_value.specs.declared.ty.Ty.TheOpen as type
use Rattle.wdl_value.specs.Kinds.{is_bool}
use Rattle.wdl_typed.specs.declared.expr.TExpr.{TExpr}
use Rattle.wdl_typed.specs.declared.expr.TField.{TField}
use Rattle.wdl_typed.specs.declared.flow.FlowDef.{FlowDef}
use Rattle.wdl_typed.specs.declared.flow.Statement.{Statement, Statement-F, fold-Statement, fold_out-Statement, map-Statement, out-Statement}
use Rattle.wdl_typed.specs.declared.flow.Statement.TheOpen as layer
use Rattle.wdl_typed.specs.declared.flow.Statement.TheVariants as stmt
use Rattle.wdl_typed.specs.declared.flow.TIf.{TIf}
use Rattle.wdl_typed.specs.declared.flow.TScatter.{TScatter}
use Rattle.wdl_typed.specs.declared.scope.Bound.{Bound}
use Rattle.wdl_typed.specs.declared.task.TInput.{TInput}
use Rattle.wdl_typed.specs.Bodies.{Differing, Giving, Library, Seen, all_declared, all_seen, arg_typed, args_typed, body_gives, call_by, declared, gives, if_over, input_type, items_differ, items_step, joined, names_step, optional, retyped, scatter_over, signature, statement_step, with_item}
use Rattle.wdl_typed.specs.Declarations.{bound, decl_names, in_body, input_names, inputs_bound, plain_key}
use Rattle.wdl_typed.specs.Flow.{Names}
use Rattle.wdl_typed.specs.Kept.{flow_names, flow_typed, inputs_seen, outputs_typed}
use Rattle.wdl_typed.specs.KnownTypes.{is_some, is_written}
use Rattle.wdl_typed.specs.Lists.{are_distinct, has_name}
use Rattle.wdl_typed.specs.Scope.{names_of, same_key, type_in}
use Rattle.wdl_typed.specs.Typing.{is_type}
use Rattle.flow_laws.proofs.Checked.{IsKept, OutputsDiffer, flow_kept, has_name_append, names_left, outputs_differ}
use Rattle.flow_laws.proofs.Keys.{key_itself}
use Rattle.flow_laws.proofs.Owned.{Owned, has_either, owned_both, owned_nothing, owned_one, statements_owned}
use Rattle.net_laws.specs.Growing.{body_given}
use Rattle.net_laws.specs.Rules.{arg_keys}
use Rattle.plan_layout.specs.declared.layout.BodyLayout.{BodyLayout}
use Rattle.plan_layout.specs.declared.layout.FlowLayout.{FlowLayout}
use Rattle.plan_layout.specs.declared.layout.Layout.{Layout}
use Rattle.plan_layout.specs.declared.layout.Need.{Need}
use Rattle.plan_layout.specs.Laid.{Form, IsLaidAs, IsLayout, Laid, Stand, all, anything, behind_one, given_at, item_spot, laid_call, laid_decl, laid_if, laid_next, laid_none, laid_scatter, laid_whole, one, whole, with_inputs, with_plain}
use Rattle.plan_layout.specs.Sees.{AllSeen, Sees, after_at, keys_at, spot_keys}
use Rattle.plan_layout.specs.Spots.{find_spot, plain_keys, spots_from}
use Rattle.plan_layout.proofs.Bound.{names_bound, some_typed}
use Rattle.plan_layout.proofs.Called.{calls_owned, owned_more, owned_none}
use Rattle.plan_layout.proofs.Given.{bare, gives_named, keys_of, name_is, none}
use Rattle.wdl_base.proofs.Options.{all_at, then_parts}

-- ---- names of scopes

pub spots_keys : (level first : ℕ) (ks : List Key) → spot_keys (spots_from level first ks) ≡ ks
spots_keys level first [] = refl
spots_keys level first (k ∷ ks) = ap (λ xs. k ∷ xs) (spots_keys level (first + 1) ks)

typed_found : (seen : List Need) (bs : List Bound) (key : Key) → spot_keys seen ≡ keys_of bs → is_some (type_in bs key) ≡ true → is_some (find_spot seen key) ≡ true
typed_found [] [] key e h = absurd (false≢true h)
typed_found [] (b ∷ bs) key e h = cc
typed_found (s ∷ ss) [] key e h = absurd (false≢true h)
typed_found (s ∷ ss) (b ∷ bs) key e h =
    let same : s.key ≡ b.key = cc in
    let rest : spot_keys ss ≡ keys_of bs = cc in
    by_key (same_key s.key key) refl (same_key b.key key) refl (ap (λ k. same_key k key) same) (typed_found ss bs key rest) h
  where
    by_key : (p : Bool) → same_key s.key key ≡ p → (q : Bool) → same_key b.key key ≡ q → same_key s.key key ≡ same_key b.key key → (is_some (type_in bs key) ≡ true → is_some (find_spot ss key) ≡ true)
        → is_some (cond q (Some b.ty) (type_in bs key)) ≡ true → is_some (cond p (Some s) (find_spot ss key)) ≡ true
    by_key true d q e same_ rest i = refl
    by_key false d true e same_ rest i = absurd (false≢true (sym d ∙ same_ ∙ e))
    by_key false d false e same_ rest i = rest i

pub all_found : (seen : List Need) (bs : List Bound) (keys : List Key) → spot_keys seen ≡ keys_of bs → list_all (λ (k : Key). is_some (type_in bs k)) keys ≡ true → AllSeen seen keys
all_found seen bs [] e h = refl
all_found seen bs (k ∷ ks) e h =
    let p = and_parts (is_some (type_in bs k)) (list_all (λ (j : Key). is_some (type_in bs j)) ks) h in
    and_from (is_some (find_spot seen k)) (list_all (λ (j : Key). is_some (find_spot seen j)) ks) (typed_found seen bs k e p.0) (all_found seen bs ks e p.1)

call_found : (seen : List Need) (calls : List (List ℕ)) (name : List ℕ) → spot_keys seen ≡ plain_keys calls → has_name name calls ≡ true → is_some (find_spot seen (plain_key name)) ≡ true
call_found [] [] name e h = absurd (false≢true h)
call_found [] (c ∷ cs) name e h = cc
call_found (s ∷ ss) [] name e h = absurd (false≢true h)
call_found (s ∷ ss) (c ∷ cs) name e h =
    let same : s.key ≡ plain_key c = cc in
    let rest : spot_keys ss ≡ plain_keys cs = cc in
    by_name (or_cases (bytes_eq c name) (has_name name cs) h) same (call_found ss cs name rest) (same_key s.key (plain_key name)) refl
  where
    by_name : (bytes_eq c name ≡ true) ⊎ (has_name name cs ≡ true) → s.key ≡ plain_key c → (has_name name cs ≡ true → is_some (find_spot ss (plain_key name)) ≡ true) → (b : Bool) → same_key s.key (plain_key name) ≡ b
        → is_some (cond b (Some s) (find_spot ss (plain_key name))) ≡ true
    by_name p same rest true d = refl
    by_name (inr i) same rest false d = rest i
    by_name (inl i) same rest false d =
        absurd (false≢true (sym d ∙ ap (λ k. same_key k (plain_key name)) (same ∙ ap plain_key ((bytes_eq-Decides c name).0 i)) ∙ key_itself (plain_key name)))

calls_found : (seen : List Need) (calls names : List (List ℕ)) → spot_keys seen ≡ plain_keys calls → all_seen calls names ≡ true → AllSeen seen (plain_keys names)
calls_found seen calls [] e h = refl
calls_found seen calls (n ∷ ns) e h =
    let p = and_parts (has_name n calls) (all_seen calls ns) h in
    and_from (is_some (find_spot seen (plain_key n))) (list_all (λ (k : Key). is_some (find_spot seen k)) (plain_keys ns)) (call_found seen calls n e p.0) (calls_found seen calls ns e p.1)

-- ---- lists of names

names_between : (ns ms : List (List ℕ)) (x : List ℕ) → are_distinct (ns ++ ms) ≡ true → has_name x (ns ++ ms) ≡ false → are_distinct ((ns ++ x ∷ []) ++ ms) ≡ true
names_between [] ms x d h = and_from (not (has_name x ms)) (are_distinct ms) (not_from_false (has_name x ms) h) d
names_between (n ∷ ns) ms x d h =
    let p = and_parts (not (has_name n (ns ++ ms))) (are_distinct (ns ++ ms)) d in
    let q = or_parts (bytes_eq n x) (has_name x (ns ++ ms)) h in
    let a = has_name_append n ns ms (not-true (has_name n (ns ++ ms)) p.0) in
    let apart : has_name n ((ns ++ x ∷ []) ++ ms) ≡ false =
    has_either n (ns ++ x ∷ []) ms ∙ or_from (has_name n (ns ++ x ∷ [])) (has_name n ms) (has_either n ns (x ∷ []) ∙ or_from (has_name n ns) (bytes_eq x n || false) a.0 (other x n q.0)) a.1 in
    and_from (not (has_name n ((ns ++ x ∷ []) ++ ms))) (are_distinct ((ns ++ x ∷ []) ++ ms)) (not_from_false (has_name n ((ns ++ x ∷ []) ++ ms)) apart) (names_between ns ms x p.1 q.1)
  where
    other : (x n : List ℕ) → bytes_eq n x ≡ false → (bytes_eq x n || false) ≡ false
    other x n e = by_test (bytes_eq x n) refl
      where
        by_test : (b : Bool) → bytes_eq x n ≡ b → (b || false) ≡ false
        by_test false i = refl
        by_test true i = absurd (false≢true (sym e ∙ (bytes_eq-Decides n x).1 (sym ((bytes_eq-Decides x n).0 i))))

-- ---- statements

abbrev fold_items : Statement → Differing
fold_items = fold-Statement Differing items_step

seen_when : (t : Bool) (a w : Seen) → (let o : Option Seen = cond t (Some a) None in o ≡ Some w) → t ≡ true
seen_when true a w h = refl
seen_when false a w h = absurd (cc)

module _ (lib : Library) (outputs : OutputsDiffer lib) where
  -- the statements are well typed where these names and calls are seen, and what they declare is new
  pub record Right (ss : List Statement) (names calls : List Need) : Type 0 where
    pub seen : Seen
    pub given : Seen
    pub typed : body_gives lib ss seen ≡ Some given
    pub names_are : spot_keys names ≡ keys_of seen.names
    pub calls_are : spot_keys calls ≡ plain_keys seen.calls
    pub taken : List (List ℕ)
    pub owned : Owned taken (spot_keys names)
    pub called : Owned taken (spot_keys calls)
    pub distinct : are_distinct (taken ++ all_declared ss) ≡ true
    pub all_names : List (List ℕ)
    pub within : (name : List ℕ) → has_name name (taken ++ all_declared ss) ≡ true → has_name name all_names ≡ true
    pub items : items_differ ss all_names ≡ true

  one_owned : (st : Statement) → Owned (declared st) (given_at lib (out-Statement st)).keys
  one_owned st =
      let p = statements_owned (bare lib) (none lib) outputs (st ∷ []) in
      subst (λ (n : Names). Owned (declared st) n.keys) (name_is lib st)
      (subst (λ (ks : List Key). Owned (declared st) ks) (append-nil _) (subst (λ (ns : List (List ℕ)). Owned ns (body_given lib (st ∷ [])).keys) (append-nil (declared st)) p))

  behind_owned : (st : Statement) (a : Stand) (taken : List (List ℕ)) → Owned taken (spot_keys a.names) → Owned (taken ++ declared st) (spot_keys (behind_one lib st a).names)
  behind_owned st a taken h =
      let given = (given_at lib (out-Statement st)).keys in
      subst (λ (ks : List Key). Owned (taken ++ declared st) ks)
      (sym (map-append (λ (n : Need). n.key) a.names (spots_from (length a.path) a.next_name given) ∙ ap (λ ks. spot_keys a.names ++ ks) (spots_keys (length a.path) a.next_name given)))
      (owned_both taken (declared st) (spot_keys a.names) given h (one_owned st))

  behind_called : (st : Statement) (a : Stand) (taken : List (List ℕ)) → Owned taken (spot_keys a.calls) → Owned (taken ++ declared st) (spot_keys (behind_one lib st a).calls)
  behind_called st a taken h =
      let calls = plain_keys (given_at lib (out-Statement st)).calls in
      subst (λ (ks : List Key). Owned (taken ++ declared st) ks)
      (sym (map-append (λ (n : Need). n.key) a.calls (spots_from (length a.path) a.next_call calls) ∙ ap (λ ks. spot_keys a.calls ++ ks) (spots_keys (length a.path) a.next_call calls)))
      (owned_both taken (declared st) (spot_keys a.calls) calls h (calls_owned lib st))

  module _ (st : Statement) (ss : List Statement) (a : Stand) (r : Right (st ∷ ss) a.names a.calls) where
    record Split : Type 0 where
      pub first : Seen
      pub rest : Seen
      pub here : gives lib st r.seen ≡ Some first
      pub there : body_gives lib ss (joined r.seen first) ≡ Some rest
      pub whole : joined first rest ≡ r.given

    split : Split
    split =
        let p = then_parts (λ first. option_and_then (λ rest. Some (joined first rest)) (body_gives lib ss (joined r.seen first))) (gives lib st r.seen) r.given r.typed in
        let q = then_parts (λ rest. Some (joined p.0 rest)) (body_gives lib ss (joined r.seen p.0)) r.given p.2 in
        record { first = p.0; rest = q.0; here = p.1; there = q.1; whole = same_Some _ _ q.2 }

    all_distinct : are_distinct ((r.taken ++ declared st) ++ all_declared ss) ≡ true
    all_distinct = ap are_distinct (append_assoc r.taken (declared st) (all_declared ss)) ∙ r.distinct

    item_parts : (fold_items st r.all_names ≡ true) × (items_differ ss r.all_names ≡ true)
    item_parts = and_parts (fold_items st r.all_names) (items_differ ss r.all_names) r.items

    pub rest_right : Right ss (behind_one lib st a).names (behind_one lib st a).calls
    rest_right =
        let n = gives_named lib st r.seen split.first split.here in
        let given = given_at lib (out-Statement st) in
        record {
          seen = joined r.seen split.first;
          given = split.rest;
          typed = split.there;
          names_are =
              map-append (λ (x : Need). x.key) a.names (spots_from (length a.path) a.next_name given.keys)
              ∙ ap (λ ks. ks ++ spot_keys (spots_from (length a.path) a.next_name given.keys)) r.names_are
              ∙ ap (λ ks. keys_of r.seen.names ++ ks) (spots_keys (length a.path) a.next_name given.keys ∙ sym n.keys)
              ∙ sym (map-append (λ (x : Bound). x.key) r.seen.names split.first.names);
          calls_are =
              map-append (λ (x : Need). x.key) a.calls (spots_from (length a.path) a.next_call (plain_keys given.calls))
              ∙ ap (λ ks. ks ++ spot_keys (spots_from (length a.path) a.next_call (plain_keys given.calls))) r.calls_are
              ∙ ap (λ ks. plain_keys r.seen.calls ++ ks) (spots_keys (length a.path) a.next_call (plain_keys given.calls) ∙ ap plain_keys (sym n.calls))
              ∙ sym (map-append plain_key r.seen.calls split.first.calls);
          taken = r.taken ++ declared st;
          owned = behind_owned st a r.taken r.owned;
          called = behind_called st a r.taken r.called;
          distinct = all_distinct;
          all_names = r.all_names;
          within = λ name h. r.within name (ap (has_name name) (sym (append_assoc r.taken (declared st) (all_declared ss))) ∙ h);
          items = item_parts.1;
        }

    pub rest_names : rest_right.seen.names ++ rest_right.given.names ≡ r.seen.names ++ r.given.names
    unfolding rest_right
    rest_names = append_assoc r.seen.names split.first.names split.rest.names ∙ ap (λ (x : Seen). r.seen.names ++ x.names) split.whole

    pub rest_taken : rest_right.taken ≡ r.taken ++ declared st
    unfolding rest_right
    rest_taken = refl

    -- what is typed of a layer
    typed_at : (y : Statement-F Statement) → out-Statement st ≡ y → statement_step lib (map-Statement Statement Giving (gives lib) y) r.seen ≡ Some split.first
    typed_at y e =
        sym (ap (λ (f : Giving). f r.seen) (fold_out-Statement Giving (statement_step lib) st)
        ∙ ap (λ (z : Statement-F Statement). statement_step lib (map-Statement Statement Giving (gives lib) z) r.seen) e) ∙ split.here

    body_names_seen : (e : TExpr) (t : Ty) → in_body lib.structs r.seen.names e ≡ Some t → AllSeen a.names (names_of e)
    body_names_seen e t h = all_found a.names r.seen.names (names_of e) r.names_are (names_bound (record { structs = lib.structs; names = r.seen.names; outputs = false }) e false t h)

    arg_of : (o p : Option Ty) → arg_typed o p ≡ true → (u : Ty) × (p ≡ Some u)
    arg_of None p h = absurd (false≢true h)
    arg_of (Some t) p h = some_typed p t h

    args_seen : (inputs : List TInput) (as_ : List (TField TExpr)) → args_typed lib.structs r.seen.names inputs as_ ≡ true → AllSeen a.names (arg_keys as_)
    args_seen inputs [] h = refl
    args_seen inputs (x ∷ xs) h =
        let p = and_parts _ _ h in
        let t = arg_of (input_type inputs x.name) (in_body lib.structs r.seen.names x.value) p.0 in
        list_all-append (λ (k : Key). is_some (find_spot a.names k)) (names_of x.value) (arg_keys xs)
        ∙ and_from (list_all (λ (k : Key). is_some (find_spot a.names k)) (names_of x.value)) (list_all (λ (k : Key). is_some (find_spot a.names k)) (arg_keys xs)) (body_names_seen x.value t.0 t.1) (args_seen inputs xs p.1)

    layer_seen : (y : Statement-F Statement) → statement_step lib (map-Statement Statement Giving (gives lib) y) r.seen ≡ Some split.first → AllSeen a.names (keys_at y) × AllSeen a.calls (plain_keys (after_at y))
    layer_seen (layer.Decl d) h =
        let p = and_parts (is_written lib.structs d.ty) (is_type (in_body lib.structs r.seen.names d.value) d.ty) (seen_when _ _ split.first h) in
        let t = some_typed (in_body lib.structs r.seen.names d.value) d.ty p.1 in
        (body_names_seen d.value t.0 t.1, refl)
    layer_seen (layer.Call c) h =
        let p = then_parts (call_by lib.structs c r.seen) (signature lib c.target) split.first h in
        let q = seen_when _ _ split.first p.2 in
        let d = and_parts _ _ q in
        let e = and_parts _ _ d.0 in
        let f = and_parts _ _ e.0 in
        (args_seen p.0.inputs c.args f.0, calls_found a.calls r.seen.calls c.after r.calls_are d.1)
    layer_seen (layer.Scatter b) h =
        let p = then_parts (λ t. scatter_over b.item (body_gives lib b.body) r.seen (out-Ty t)) (in_body lib.structs r.seen.names b.over) split.first h in
        (body_names_seen b.over p.0 p.1, refl)
    layer_seen (layer.If b) h =
        let p = then_parts (if_over (body_gives lib b.body) r.seen) (in_body lib.structs r.seen.names b.cond) split.first h in
        (body_names_seen b.cond p.0 p.1, refl)

    pub sees : Sees lib st a
    sees =
        let p = layer_seen (out-Statement st) (typed_at (out-Statement st) refl) in
        record {
          names = p.0;
          calls = p.1;
          distinct = (behind_owned st a r.taken r.owned).distinct (names_left (r.taken ++ declared st) (all_declared ss) all_distinct);
          plain = (r.seen.calls, r.calls_are);
          calls_distinct = (behind_called st a r.taken r.called).distinct (names_left (r.taken ++ declared st) (all_declared ss) all_distinct);
        }

  -- ---- bodies of blocks

  module _ (x : TScatter Statement) (ss : List Statement) (a : Stand) (r : Right (stmt.Scatter x ∷ ss) a.names a.calls) where
    names_here : declared (stmt.Scatter x) ≡ all_declared x.body
    names_here = fold_out-Statement (List (List ℕ)) names_step (stmt.Scatter x) ∙ ap (λ (y : Statement-F Statement). names_step (map-Statement Statement (List (List ℕ)) declared y)) (stmt.outs-Scatter x)

    items_here : (fold_items (stmt.Scatter x) r.all_names) ≡ (not (has_name x.item r.all_names) && items_differ x.body (x.item ∷ r.all_names))
    items_here =
        ap (λ (f : Differing). f r.all_names)
        (fold_out-Statement Differing items_step (stmt.Scatter x) ∙ ap (λ (y : Statement-F Statement). items_step (map-Statement Statement Differing fold_items y)) (stmt.outs-Scatter x))

    item_new : (has_name x.item r.all_names ≡ false) × (items_differ x.body (x.item ∷ r.all_names) ≡ true)
    item_new =
        let p = and_parts (not (has_name x.item r.all_names)) (items_differ x.body (x.item ∷ r.all_names)) (sym items_here ∙ (item_parts (stmt.Scatter x) ss a r).0) in
        (not-true (has_name x.item r.all_names) p.0, p.1)

    inner_distinct : are_distinct (r.taken ++ all_declared x.body) ≡ true
    inner_distinct = ap (λ ns. are_distinct (r.taken ++ ns)) (sym names_here) ∙ names_left (r.taken ++ declared (stmt.Scatter x)) (all_declared ss) (all_distinct (stmt.Scatter x) ss a r)

    inner_within : (name : List ℕ) → has_name name (r.taken ++ all_declared x.body) ≡ true → has_name name r.all_names ≡ true
    inner_within name h =
        r.within name
        (ap (has_name name) (sym (append_assoc r.taken (declared (stmt.Scatter x)) (all_declared ss)))
        ∙ has_either name (r.taken ++ declared (stmt.Scatter x)) (all_declared ss)
        ∙ or_left (has_name name (r.taken ++ declared (stmt.Scatter x))) (has_name name (all_declared ss)) (ap (λ ns. has_name name (r.taken ++ ns)) names_here ∙ h))

    item_apart : has_name x.item (r.taken ++ all_declared x.body) ≡ false
    item_apart = by_test (has_name x.item (r.taken ++ all_declared x.body)) refl
      where
        by_test : (b : Bool) → has_name x.item (r.taken ++ all_declared x.body) ≡ b → b ≡ false
        by_test false e = refl
        by_test true e = absurd (false≢true (sym item_new.0 ∙ inner_within x.item e))

    record Inner : Type 0 where
      pub seen : Seen
      pub given : Seen
      pub typed : body_gives lib x.body seen ≡ Some given
      pub names : keys_of seen.names ≡ keys_of r.seen.names ++ plain_key x.item ∷ []
      pub calls : seen.calls ≡ r.seen.calls

    inner_of : (t : Ty-F Ty) (first : Seen) → scatter_over x.item (body_gives lib x.body) r.seen t ≡ Some first → Inner
    inner_of (type.Array t some) first h =
        let p = then_parts (λ s. Some (retyped (λ u. ty.Array u some) s)) (body_gives lib x.body (with_item r.seen x.item t)) first h in
        record { seen = with_item r.seen x.item t; given = p.0; typed = p.1; names = map-append (λ (b : Bound). b.key) r.seen.names (bound x.item t ∷ []); calls = refl }
    inner_of t first h = absurd (cc)

    inner : Inner
    inner =
        let s = split (stmt.Scatter x) ss a r in
        let p = then_parts (λ t. scatter_over x.item (body_gives lib x.body) r.seen (out-Ty t)) (in_body lib.structs r.seen.names x.over) s.first (typed_at (stmt.Scatter x) ss a r (layer.Scatter x) (stmt.outs-Scatter x)) in
        inner_of (out-Ty p.0) s.first p.2

    pub items_right : Right x.body (a.names ++ item_spot (a.path ++ a.index ∷ []) x.item ∷ []) a.calls
    items_right =
        let spot = item_spot (a.path ++ a.index ∷ []) x.item in
        let keys : spot_keys (a.names ++ spot ∷ []) ≡ spot_keys a.names ++ plain_key x.item ∷ [] = map-append (λ (n : Need). n.key) a.names (spot ∷ []) in
        record {
          seen = inner.seen;
          given = inner.given;
          typed = inner.typed;
          names_are = keys ∙ ap (λ ks. ks ++ plain_key x.item ∷ []) r.names_are ∙ sym inner.names;
          calls_are = r.calls_are ∙ ap plain_keys (sym inner.calls);
          taken = r.taken ++ x.item ∷ [];
          owned = subst (λ (ks : List Key). Owned (r.taken ++ x.item ∷ []) ks) (sym keys) (owned_both r.taken (x.item ∷ []) (spot_keys a.names) (plain_key x.item ∷ []) r.owned (owned_one x.item));
          called = owned_more r.taken (x.item ∷ []) (spot_keys a.calls) r.called;
          distinct = names_between r.taken (all_declared x.body) x.item inner_distinct item_apart;
          all_names = x.item ∷ r.all_names;
          within = λ name h. item_or name (or_cases (has_name name (r.taken ++ x.item ∷ [])) (has_name name (all_declared x.body)) (sym (has_either name (r.taken ++ x.item ∷ []) (all_declared x.body)) ∙ h));
          items = item_new.1;
        }
      where
        old_or : (name : List ℕ) → has_name name r.taken ≡ true → has_name name r.all_names ≡ true
        old_or name h = inner_within name (has_either name r.taken (all_declared x.body) ∙ or_left (has_name name r.taken) (has_name name (all_declared x.body)) h)

        one_or : (name : List ℕ) → (has_name name r.taken ≡ true) ⊎ (has_name name (x.item ∷ []) ≡ true) → has_name name (x.item ∷ r.all_names) ≡ true
        one_or name (inl h) = or_right (bytes_eq x.item name) (has_name name r.all_names) (old_or name h)
        one_or name (inr h) = by_case (or_cases (bytes_eq x.item name) false h)
          where
            by_case : (bytes_eq x.item name ≡ true) ⊎ (false ≡ true) → has_name name (x.item ∷ r.all_names) ≡ true
            by_case (inl e) = or_left (bytes_eq x.item name) (has_name name r.all_names) e
            by_case (inr e) = absurd (false≢true e)

        item_or : (name : List ℕ) → (has_name name (r.taken ++ x.item ∷ []) ≡ true) ⊎ (has_name name (all_declared x.body) ≡ true) → has_name name (x.item ∷ r.all_names) ≡ true
        item_or name (inl h) = one_or name (or_cases (has_name name r.taken) (has_name name (x.item ∷ [])) (sym (has_either name r.taken (x.item ∷ [])) ∙ h))
        item_or name (inr h) =
            or_right (bytes_eq x.item name) (has_name name r.all_names)
            (inner_within name (has_either name r.taken (all_declared x.body) ∙ or_right (has_name name r.taken) (has_name name (all_declared x.body)) h))

  module _ (x : TIf Statement) (ss : List Statement) (a : Stand) (r : Right (stmt.If x ∷ ss) a.names a.calls) where
    names_of_if : declared (stmt.If x) ≡ all_declared x.body
    names_of_if = fold_out-Statement (List (List ℕ)) names_step (stmt.If x) ∙ ap (λ (y : Statement-F Statement). names_step (map-Statement Statement (List (List ℕ)) declared y)) (stmt.outs-If x)

    items_of_if : (fold_items (stmt.If x) r.all_names) ≡ items_differ x.body r.all_names
    items_of_if =
        ap (λ (f : Differing). f r.all_names)
        (fold_out-Statement Differing items_step (stmt.If x) ∙ ap (λ (y : Statement-F Statement). items_step (map-Statement Statement Differing fold_items y)) (stmt.outs-If x))

    chosen : (t : Ty) (first : Seen) → if_over (body_gives lib x.body) r.seen t ≡ Some first → (s : Seen) × (body_gives lib x.body r.seen ≡ Some s)
    chosen t first h = by_test (is_bool t) h
      where
        by_test : (b : Bool) → cond b (option_and_then (λ s. Some (retyped optional s)) (body_gives lib x.body r.seen)) None ≡ Some first → (s : Seen) × (body_gives lib x.body r.seen ≡ Some s)
        by_test true j = let p = then_parts (λ s. Some (retyped optional s)) (body_gives lib x.body r.seen) first j in (p.0, p.1)
        by_test false j = absurd (cc)

    pub choice_right : Right x.body a.names a.calls
    choice_right =
        let s = split (stmt.If x) ss a r in
        let p = then_parts (if_over (body_gives lib x.body) r.seen) (in_body lib.structs r.seen.names x.cond) s.first (typed_at (stmt.If x) ss a r (layer.If x) (stmt.outs-If x)) in
        let g = chosen p.0 s.first p.2 in
        record {
          seen = r.seen;
          given = g.0;
          typed = g.1;
          names_are = r.names_are;
          calls_are = r.calls_are;
          taken = r.taken;
          owned = r.owned;
          called = r.called;
          distinct = ap (λ ns. are_distinct (r.taken ++ ns)) (sym names_of_if) ∙ names_left (r.taken ++ declared (stmt.If x)) (all_declared ss) (all_distinct (stmt.If x) ss a r);
          all_names = r.all_names;
          within = λ name h.
              r.within name
              (ap (has_name name) (sym (append_assoc r.taken (declared (stmt.If x)) (all_declared ss)))
              ∙ has_either name (r.taken ++ declared (stmt.If x)) (all_declared ss)
              ∙ or_left (has_name name (r.taken ++ declared (stmt.If x))) (has_name name (all_declared ss)) (ap (λ ns. has_name name (r.taken ++ ns)) names_of_if ∙ h));
          items = sym items_of_if ∙ (item_parts (stmt.If x) ss a r).0;
        }

  -- ---- forms

  module _ (flow : ℕ) (root : List Statement) (bodies : List BodyLayout) where
    abbrev Typed : Form → Type 0
    Typed (one x a l) = (ss : List Statement) → Right (x ∷ ss) a.names a.calls → Laid (Sees lib) lib flow root bodies (one x a l)
    Typed (all ss a ls) = Right ss a.names a.calls → Laid (Sees lib) lib flow root bodies (all ss a ls)
    Typed (whole ss names calls path before after b) = Right ss names calls → Laid (Sees lib) lib flow root bodies (whole ss names calls path before after b)

    pub typed_laid : {f : Form} → Laid anything lib flow root bodies f → Typed f
    typed_laid (laid_decl x a l s n) = λ ss r. laid_decl x a l s n
    typed_laid (laid_call x a l s n) = λ ss r. laid_call x a l s n
    typed_laid (laid_scatter x a l b s n t p) = λ ss r. laid_scatter x a l b s n t (typed_laid p (items_right x ss a r))
    typed_laid (laid_if x a l b s n t p) = λ ss r. laid_if x a l b s n t (typed_laid p (choice_right x ss a r))
    typed_laid (laid_none a) = λ r. laid_none a
    typed_laid (laid_next x xs a l ls f p q) = λ r. laid_next x xs a l ls (sees x xs a r) (typed_laid p xs r) (typed_laid q (rest_right x xs a r))
    typed_laid (laid_whole ss names calls path before after b r p) = λ g. laid_whole ss names calls path before after b r (typed_laid p g)

  -- ---- workflows

  inputs_keys : (seen : List Need) (is : List TInput) → spot_keys (with_inputs seen is) ≡ spot_keys seen ++ keys_of (inputs_bound is)
  inputs_keys seen [] = sym (append-nil (spot_keys seen))
  inputs_keys seen (i ∷ is) =
      inputs_keys (with_plain seen i.name) is
      ∙ ap (λ ks. ks ++ keys_of (inputs_bound is)) (map-append (λ (n : Need). n.key) seen (record { key = plain_key i.name; level = 0; slot = length seen } ∷ []))
      ∙ append_assoc (spot_keys seen) (plain_key i.name ∷ []) (keys_of (inputs_bound is))

  inputs_owned : (is : List TInput) → Owned (input_names is) (keys_of (inputs_bound is))
  inputs_owned [] = owned_nothing
  inputs_owned (i ∷ is) = owned_both (i.name ∷ []) (input_names is) (plain_key i.name ∷ []) (keys_of (inputs_bound is)) (owned_one i.name) (inputs_owned is)

  body_typed : (f : FlowDef) (o : Option Seen) → body_gives lib f.body (inputs_seen f) ≡ o → outputs_typed lib.structs f o ≡ true → (given : Seen) × (body_gives lib f.body (inputs_seen f) ≡ Some given)
  body_typed f None e h = absurd (false≢true h)
  body_typed f (Some given) e h = (given, e)

  pub flow_right : (f : FlowDef) → flow_typed lib f ≡ true → Right f.body (with_inputs [] f.inputs) []
  flow_right f h =
      let k = flow_kept lib f h in
      let t = body_typed f (body_gives lib f.body (inputs_seen f)) refl (and_parts _ _ h).1 in
      record {
        seen = inputs_seen f;
        given = t.0;
        typed = t.1;
        names_are = inputs_keys [] f.inputs;
        calls_are = refl;
        taken = input_names f.inputs;
        owned = subst (λ (ks : List Key). Owned (input_names f.inputs) ks) (sym (inputs_keys [] f.inputs)) (inputs_owned f.inputs);
        called = owned_none (input_names f.inputs);
        distinct = names_left (input_names f.inputs ++ all_declared f.body) (decl_names f.outputs) k.distinct;
        all_names = flow_names f;
        within = λ name i. has_either name (input_names f.inputs ++ all_declared f.body) (decl_names f.outputs) ∙ or_left (has_name name (input_names f.inputs ++ all_declared f.body)) (has_name name (decl_names f.outputs)) i;
        items = k.items;
      }

  pub flow_taken : (f : FlowDef) (h : flow_typed lib f ≡ true) → (flow_right f h).taken ≡ input_names f.inputs
  unfolding flow_right
  flow_taken f h = refl

  pub flow_seen : (f : FlowDef) (h : flow_typed lib f ≡ true) → (flow_right f h).seen ≡ inputs_seen f
  unfolding flow_right
  flow_seen f h = refl

  flow_sees : (bodies : List BodyLayout) (k : ℕ) (f : FlowDef) (l : FlowLayout) → flow_typed lib f ≡ true → IsLaidAs anything lib bodies k f l → IsLaidAs (Sees lib) lib bodies k f l
  flow_sees bodies k f l h p =
      record {
        body = p.body;
        there = p.there;
        inputs = p.inputs;
        laid = typed_laid k f.body bodies p.laid (flow_right f h);
        outputs = p.outputs;
        first_output = p.first_output;
      }

-- The layout of a checked form.
pub layout_sees : (lib : Library) (l : Layout) → IsKept lib → IsLayout anything lib l → IsLayout (Sees lib) lib l
layout_sees lib l h p =
    record {
      count = p.count;
      flows = λ k f there.
          let q = p.flows k f there in
          record {
            layout = q.layout;
            there = q.there;
            laid = flow_sees lib (outputs_differ lib h) l.bodies k f q.layout (all_at (flow_typed lib) lib.flows k f h.flows there) q.laid;
          };
    }
