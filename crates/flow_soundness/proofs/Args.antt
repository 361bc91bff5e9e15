-- The arguments of a well-typed call are the inputs of its target, and the outputs of a called workflow are those of the call.
use Rattle.std.proofs.Common.{◌≡◌, ℕ, Bool, true, false, cond, not, ◌&&◌, ◌||◌, List, [], ◌∷◌, ◌++◌, map, Option, Some, None, Ok, Err, sym, ap, ◌∙◌, subst, refl}
use Rattle.std.specs.List.{list_all}
use Rattle.std.specs.Str.{bytes_eq}
use Rattle.std.proofs.lemmas.Bool.{false≢true, and_parts, and_from, or_left, or_right}
use Rattle.std.proofs.lemmas.Slice.Eq.{bytes_eq-Decides}
use Rattle.wdl_base.specs.declared.name.Key.{Key}
use Rattle.wdl_value.specs.declared.env.Bind.{Bind}
use Rattle.wdl_value.specs.declared.ty.Ty.{Ty}
use Rattle.wdl_value.specs.declared.value.Value.{Value}
use Rattle.wdl_value.specs.Fits.{Structs, fits}
use Rattle.wdl_value.specs.Outcome.{Outcome}
use Rattle.wdl_typed.specs.declared.expr.TExpr.{TExpr}
use Rattle.wdl_typed.specs.declared.expr.TField.{TField}
use Rattle.wdl_typed.specs.declared.scope.Bound.{Bound}
use Rattle.wdl_typed.specs.declared.task.TDecl.{TDecl}
use Rattle.wdl_typed.specs.declared.task.TInput.{TInput}
use Rattle.wdl_typed.specs.Bodies.{all_given, arg_names, arg_typed, args_typed, input_type, is_required, output_bound}
use Rattle.wdl_typed.specs.Declarations.{decls_bound, in_body, plain_key}
use Rattle.wdl_typed.specs.Evaluation.{value_of}
use Rattle.wdl_typed.specs.Flow.{Known, all_known, arg_bind, args_known, args_met, bound_by, env_of, named_arg, output_of}
use Rattle.wdl_typed.specs.Journal.{is_given}
use Rattle.wdl_typed.specs.KnownTypes.{is_some}
use Rattle.wdl_typed.specs.Lists.{has_name}
use Rattle.wdl_typed.specs.Requests.{before, tried}
use Rattle.wdl_typed.specs.Scope.{is_among, lookup, same_key, type_in}
use Rattle.wdl_task.specs.Readiness.{are_given, is_for}
use Rattle.flow_soundness.specs.Readiness.{Agrees, AreArgsReady, FitsSome}
use Rattle.flow_soundness.proofs.Fitting.{decl_ready, value_fits}
use Rattle.wdl_flow.proofs.MarkLemmas.{same_key-true}
use Rattle.flow_soundness.proofs.NewNames.{among_type, keys_of}
use Rattle.flow_soundness.proofs.Fitting.{is_type-some}
use Rattle.wdl_task.proofs.TaskLaws.{tried_in as tried_ok}

-- ---- outcomes

named_ok : (name : List ℕ) (o : Outcome Value) (x : Value) → named_arg name o ≡ Ok x → o ≡ Ok x
named_ok name (Ok y) x h = let same : y ≡ x = cc in ap (λ z. Ok z) same
named_ok name (Err c) x h = absurd (cc)

-- the first argument and the others
record Met (env : List Bind) (a : TField TExpr) (as_ : List (TField TExpr)) (binds : List Bind) : Type 0 where
  pub value : Value
  pub more : List Bind
  pub here : value_of (before env) a.value ≡ Ok value
  pub there : args_met env as_ ≡ Ok more
  pub all : arg_bind a.name value ∷ more ≡ binds

met_parts : (env : List Bind) (a : TField TExpr) (as_ : List (TField TExpr)) (binds : List Bind) → args_met env (a ∷ as_) ≡ Ok binds → Met env a as_ binds
met_parts env a as_ binds h =
    let p = tried_ok (named_arg a.name (value_of (before env) a.value)) (λ x. tried (args_met env as_) (λ more. Ok (arg_bind a.name x ∷ more))) binds h in
    let q = tried_ok (args_met env as_) (λ more. Ok (arg_bind a.name p.0 ∷ more)) binds p.2 in
    record { value = p.0; more = q.0; here = named_ok a.name (value_of (before env) a.value) p.0 p.1; there = q.1; all = cc }

-- ---- arguments

same_names : (a b : List ℕ) → bytes_eq a b ≡ true → bytes_eq b a ≡ true
same_names a b h = (bytes_eq-Decides b a).1 (sym ((bytes_eq-Decides a b).0 h))

pub differ : (a b : List ℕ) → bytes_eq a b ≡ false → bytes_eq b a ≡ false
differ a b h = by_test (bytes_eq b a) refl
  where
    by_test : (t : Bool) → bytes_eq b a ≡ t → bytes_eq b a ≡ false
    by_test true e = absurd (false≢true (sym h ∙ same_names b a e))
    by_test false e = e

module _ (structs : Structs) where
  arg_for : (is : List TInput) (name : List ℕ) (x : Value) (t : Ty) → input_type is name ≡ Some t → fits structs x t ≡ true → is_for structs is (arg_bind name x) ≡ true
  arg_for [] name x t h fit = absurd (cc)
  arg_for (i ∷ is) name x t h fit = by_test (bytes_eq i.name name) refl h (λ g. arg_for is name x t g fit)
    where
      by_test : (b : Bool) → bytes_eq i.name name ≡ b → cond b (Some i.ty) (input_type is name) ≡ Some t → (input_type is name ≡ Some t → is_for structs is (arg_bind name x) ≡ true)
          → cond (bytes_eq name i.name && true) (fits structs x i.ty) (is_for structs is (arg_bind name x)) ≡ true
      by_test true e h rest =
          let same : i.ty ≡ t = cc in
          ap (λ s. cond (s && true) (fits structs x i.ty) (is_for structs is (arg_bind name x))) (same_names i.name name e) ∙ ap (fits structs x) same ∙ fit
      by_test false e h rest =
          ap (λ s. cond (s && true) (fits structs x i.ty) (is_for structs is (arg_bind name x))) (differ i.name name e) ∙ rest h

  typed_some : (o : Option Ty) (p : Option Ty) → arg_typed o p ≡ true → (t : Ty) × (o ≡ Some t) × (p ≡ Some t)
  typed_some None p h = absurd (false≢true h)
  typed_some (Some u) p h = (u, refl, is_type-some p u h)

  args_for : (is : List TInput) (names : List Bound) (ks : List Known) (args : List (TField TExpr)) (binds : List Bind) → args_typed structs names is args ≡ true → Agrees structs names ks
      → args_known ks args ≡ true → args_met (env_of ks) args ≡ Ok binds → list_all (is_for structs is) binds ≡ true
  args_for is names ks [] binds typed f known h = let same : (let none : List Bind = [] in none) ≡ binds = cc in ap (list_all (is_for structs is)) (sym same)
  args_for is names ks (a ∷ as_) binds typed f known h =
      let p = and_parts (arg_typed (input_type is a.name) (in_body structs names a.value)) (args_typed structs names is as_) typed in
      let q = typed_some (input_type is a.name) (in_body structs names a.value) p.0 in
      let k = and_parts (all_known ks a.value) (args_known ks as_) known in
      let m = met_parts (env_of ks) a as_ binds h in
      ap (list_all (is_for structs is)) (sym m.all)
      ∙ and_from (is_for structs is (arg_bind a.name m.value)) (list_all (is_for structs is) m.more)
      (arg_for is a.name m.value q.0 q.1 (value_fits structs names ks a.value q.0 m.value q.2 f k.0 m.here))
      (args_for is names ks as_ m.more p.1 f k.1 m.there)

  args_have : (env : List Bind) (args : List (TField TExpr)) (binds : List Bind) (n : List ℕ) → args_met env args ≡ Ok binds → has_name n (arg_names args) ≡ true
      → is_some (lookup binds (plain_key n)) ≡ true
  args_have env [] binds n h k = absurd (false≢true k)
  args_have env (a ∷ as_) binds n h k =
      let m = met_parts env a as_ binds h in
      ap (λ bs. is_some (lookup bs (plain_key n))) (sym m.all) ∙ by_test (bytes_eq a.name n) k m (λ g. args_have env as_ m.more n m.there g)
    where
      by_test : (b : Bool) → (b || has_name n (arg_names as_)) ≡ true → (m : Met env a as_ binds) → (has_name n (arg_names as_) ≡ true → is_some (lookup m.more (plain_key n)) ≡ true)
          → is_some (cond (b && true) (Some m.value) (lookup m.more (plain_key n))) ≡ true
      by_test true k m rest = refl
      by_test false k m rest = rest k

  args_given : (env : List Bind) (is : List TInput) (args : List (TField TExpr)) (binds : List Bind) → args_met env args ≡ Ok binds → all_given is (arg_names args) ≡ true
      → list_all (is_given binds) is ≡ true
  args_given env [] args binds h k = refl
  args_given env (i ∷ is) args binds h k =
      let p = and_parts (not (is_required i) || has_name i.name (arg_names args)) (all_given is (arg_names args)) k in
      and_from (is_given binds i) (list_all (is_given binds) is) (by_test (not (is_required i)) p.0) (args_given env is args binds h p.1)
    where
      by_test : (b : Bool) → (b || has_name i.name (arg_names args)) ≡ true → (b || is_some (lookup binds (plain_key i.name))) ≡ true
      by_test true k = refl
      by_test false k = args_have env args binds i.name h k

  -- The arguments of a call are the inputs of its target.
  pub args_are_given : (is : List TInput) (names : List Bound) (ks : List Known) (args : List (TField TExpr)) (binds : List Bind) → args_typed structs names is args ≡ true
      → all_given is (arg_names args) ≡ true → Agrees structs names ks → args_known ks args ≡ true → args_met (env_of ks) args ≡ Ok binds → are_given structs is binds ≡ true
  args_are_given is names ks args binds typed all f known h =
      and_from (list_all (is_for structs is) binds) (list_all (is_given binds) is) (args_for is names ks args binds typed f known h) (args_given (env_of ks) is args binds h all)

  pub args_ready : (is : List TInput) (names : List Bound) (ks : List Known) (args : List (TField TExpr)) → args_typed structs names is args ≡ true → Agrees structs names ks
      → args_known ks args ≡ true → AreArgsReady (env_of ks) args
  args_ready is names ks [] typed f known = tt
  args_ready is names ks (a ∷ as_) typed f known =
      let p = and_parts (arg_typed (input_type is a.name) (in_body structs names a.value)) (args_typed structs names is as_) typed in
      let q = typed_some (input_type is a.name) (in_body structs names a.value) p.0 in
      let k = and_parts (all_known ks a.value) (args_known ks as_) known in (
        decl_ready structs names (record { names = ks; calls = []; place = [] }) a.value q.0 q.2 f k.0,
        args_ready is names ks as_ p.1 f k.1,
      )

-- ---- outputs of a called workflow

output_type : (call : List ℕ) (ds : List TDecl) (name : List ℕ) → type_in (map (output_bound call) ds) (record { first = call; second = Some name }) ≡ type_in (decls_bound ds) (plain_key name)
output_type call [] name = refl
output_type call (d ∷ ds) name =
    ap (λ b. cond (b && bytes_eq d.name name) (Some d.ty) (type_in (map (output_bound call) ds) (record { first = call; second = Some name }))) ((bytes_eq-Decides call call).1 refl)
    ∙ by_test (bytes_eq d.name name) (output_type call ds name)
  where
    by_test : (b : Bool) → type_in (map (output_bound call) ds) (record { first = call; second = Some name }) ≡ type_in (decls_bound ds) (plain_key name)
        → cond b (Some d.ty) (type_in (map (output_bound call) ds) (record { first = call; second = Some name })) ≡ cond (b && true) (Some d.ty) (type_in (decls_bound ds) (plain_key name))
    by_test true rest = refl
    by_test false rest = rest

-- an output that has a value
record Given (names : List Known) (call : List ℕ) (key : Key) (x : Value) : Type 0 where
  pub name : List ℕ
  pub is : (let made : Key = record { first = call; second = Some name } in made) ≡ key
  pub value : lookup (env_of names) (plain_key name) ≡ Some x

output_given : (names : List Known) (call : List ℕ) (ds : List TDecl) (key : Key) (x : Value) → lookup (env_of (map (output_of names call) ds)) key ≡ Some x
    → Given names call key x × (is_among key (keys_of (map (output_bound call) ds)) ≡ true)
output_given names call [] key x h = absurd (cc)
output_given names call (d ∷ ds) key x h = by_value (lookup (env_of names) (plain_key d.name)) refl h (output_given names call ds key x)
  where
    later : Given names call key x × (is_among key (keys_of (map (output_bound call) ds)) ≡ true)
        → Given names call key x × ((same_key (record { first = call; second = Some d.name }) key || is_among key (keys_of (map (output_bound call) ds))) ≡ true)
    later p = (p.0, or_right (same_key (record { first = call; second = Some d.name }) key) (is_among key (keys_of (map (output_bound call) ds))) p.1)

    by_test : (y : Value) → lookup (env_of names) (plain_key d.name) ≡ Some y → (b : Bool) → same_key (record { first = call; second = Some d.name }) key ≡ b
        → cond b (Some y) (lookup (env_of (map (output_of names call) ds)) key) ≡ Some x
        → (lookup (env_of (map (output_of names call) ds)) key ≡ Some x → Given names call key x × (is_among key (keys_of (map (output_bound call) ds)) ≡ true))
        → Given names call key x × ((same_key (record { first = call; second = Some d.name }) key || is_among key (keys_of (map (output_bound call) ds))) ≡ true)
    by_test y e true s h rest =
        let same : y ≡ x = cc in (
          record { name = d.name; is = same_key-true (record { first = call; second = Some d.name }) key s; value = e ∙ ap (λ z. Some z) same },
          or_left (same_key (record { first = call; second = Some d.name }) key) (is_among key (keys_of (map (output_bound call) ds))) s,
        )
    by_test y e false s h rest = later (rest h)

    by_value : (o : Option Value) → lookup (env_of names) (plain_key d.name) ≡ o
        → lookup (bound_by (record { first = call; second = Some d.name }) o ++ env_of (map (output_of names call) ds)) key ≡ Some x
        → (lookup (env_of (map (output_of names call) ds)) key ≡ Some x → Given names call key x × (is_among key (keys_of (map (output_bound call) ds)) ≡ true))
        → Given names call key x × ((same_key (record { first = call; second = Some d.name }) key || is_among key (keys_of (map (output_bound call) ds))) ≡ true)
    by_value None e h rest = later (rest h)
    by_value (Some y) e h rest = by_test y e (same_key (record { first = call; second = Some d.name }) key) refl h rest

-- each output of a workflow that has a value has one that fits
abbrev pub OutputsFit : Structs → List TDecl → List Known → Type 0
OutputsFit structs ds ks =
    (name : List ℕ) (t : Ty) (x : Value) → type_in (decls_bound ds) (plain_key name) ≡ Some t → lookup (env_of ks) (plain_key name) ≡ Some x → fits structs x t ≡ true

pub outputs_agree : (structs : Structs) (call : List ℕ) (ds : List TDecl) (ks : List Known) → OutputsFit structs ds ks → Agrees structs (map (output_bound call) ds) (map (output_of ks call) ds)
outputs_agree structs call ds ks f key x h =
    let g = output_given ks call ds key x h in
    let q = among_type (map (output_bound call) ds) key g.1 in
    let typed = sym (output_type call ds g.0.name) ∙ ap (type_in (map (output_bound call) ds)) g.0.is ∙ q.1 in
    subst (λ (o : Option Ty). FitsSome structs o x) (sym q.1) (f g.0.name q.0 x typed g.0.value)
