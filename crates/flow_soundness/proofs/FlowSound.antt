-- Soundness of whole workflows, which call each other to a depth.
use Rattle.std.proofs.Common.{◌≡◌, ℕ, zero, suc, Bool, true, false, cond, not, ◌&&◌, ◌||◌, List, [], ◌∷◌, ◌++◌, Option, Some, None, append-nil, append_assoc, sym, ap, ◌∙◌, subst, refl}
use Rattle.std.specs.List.{list_all}
use Rattle.std.specs.Str.{bytes_eq}
use Rattle.std.proofs.lemmas.Bool.{false≢true, and_parts, or_left, or_right}
use Rattle.std.proofs.lemmas.Slice.Eq.{bytes_eq-Decides}
use Rattle.wdl_base.specs.declared.name.Key.{Key}
use Rattle.wdl_base.specs.declared.place.Segment.{Segment}
use Rattle.wdl_value.specs.declared.env.Bind.{Bind}
use Rattle.wdl_value.specs.declared.ty.Ty.{Ty, Ty-F, out-Ty, roll-Ty, roll-out-Ty}
use Rattle.wdl_value.specs.declared.ty.Ty.TheVariants as ty
use Rattle.wdl_value.specs.declared.ty.Ty.TheOpen as type
use Rattle.wdl_value.specs.declared.value.Value.{Value}
use Rattle.wdl_value.specs.declared.value.Value.TheVariants as v
use Rattle.wdl_value.specs.Bare.{is_optional}
use Rattle.wdl_value.specs.Fits.{Structs, fits}
use Rattle.wdl_value.proofs.FitsForms.{absent_fits}
use Rattle.wdl_typed.specs.declared.expr.TExpr.{TExpr}
use Rattle.wdl_typed.specs.declared.flow.FlowDef.{FlowDef}
use Rattle.wdl_typed.specs.declared.scope.Bound.{Bound}
use Rattle.wdl_typed.specs.declared.task.TDecl.{TDecl}
use Rattle.wdl_typed.specs.declared.task.TInput.{TInput}
use Rattle.wdl_typed.specs.Bodies.{Library, Seen, all_declared, body_gives, body_nests, is_numbered, is_required, items_differ}
use Rattle.wdl_typed.specs.Declarations.{bound, context, decl_names, decls_bound, decls_typed, default_typed, in_body, input_names, inputs_bound, inputs_typed, plain_key}
use Rattle.wdl_typed.specs.Flow as flow
use Rattle.wdl_typed.specs.Flow.{Flowing, Run, Sight, beginning, declaration, flow_run, input_of, inputs, outputs, seeing, statements}
use Rattle.wdl_typed.specs.Journal.{is_given}
use Rattle.wdl_typed.specs.Kept.{flow_names, flow_typed, inputs_seen, outputs_typed}
use Rattle.wdl_typed.specs.KnownTypes.{is_some, is_written}
use Rattle.wdl_typed.specs.Lists.{are_distinct, has_name}
use Rattle.wdl_typed.specs.Scope.{is_among, lookup, same_key, type_in}
use Rattle.wdl_typed.specs.Typing.{is_type, type_of}
use Rattle.wdl_names.specs.Fresh.{fresh}
use Rattle.wdl_names.proofs.FreshLemmas.{fresh-append, fresh-distinct}
use Rattle.wdl_task.specs.Readiness.{are_given, is_for}
use Rattle.flow_soundness.specs.Readiness.{Agrees, FitsSome, IsLibrary, IsNew}
use Rattle.flow_soundness.proofs.Args.{OutputsFit}
use Rattle.flow_soundness.proofs.Fitting.{agrees_both, agrees_one, declaration_agrees}
use Rattle.flow_soundness.proofs.GivenKeys.{all_gives_keys}
use Rattle.wdl_flow.proofs.MarkLemmas.{same_key-true}
use Rattle.flow_soundness.proofs.NewNames.{all_keys_declared, fresh_apart, name_left, name_one, name_right, same_key-refl, type_among}
use Rattle.flow_soundness.proofs.Sound.{CalleesSound, body_sound}
use Rattle.wdl_base.proofs.Options.{all_at}
use Rattle.flow_soundness.proofs.Fitting.{is_type-some}
use Rattle.wdl_task.proofs.Fit.{type_later as type_back}

-- ---- keys of declared names

input_keys : (js : List TInput) (key : Key) (t : Ty) → type_in (inputs_bound js) key ≡ Some t → has_name key.first (input_names js) ≡ true
input_keys [] key t h = absurd (cc)
input_keys (j ∷ js) key t h = by_test (same_key (plain_key j.name) key) refl h (input_keys js key t)
  where
    by_test : (b : Bool) → same_key (plain_key j.name) key ≡ b → cond b (Some j.ty) (type_in (inputs_bound js) key) ≡ Some t → (type_in (inputs_bound js) key ≡ Some t → has_name key.first (input_names js) ≡ true)
        → (bytes_eq j.name key.first || has_name key.first (input_names js)) ≡ true
    by_test true e h rest =
        or_left (bytes_eq j.name key.first) (has_name key.first (input_names js)) ((bytes_eq-Decides j.name key.first).1 (ap (λ (k : Key). k.first) (same_key-true (plain_key j.name) key e)))
    by_test false e h rest = or_right (bytes_eq j.name key.first) (has_name key.first (input_names js)) (rest h)

decl_keys : (ds : List TDecl) (key : Key) (t : Ty) → type_in (decls_bound ds) key ≡ Some t → has_name key.first (decl_names ds) ≡ true
decl_keys [] key t h = absurd (cc)
decl_keys (d ∷ ds) key t h = by_test (same_key (plain_key d.name) key) refl h (decl_keys ds key t)
  where
    by_test : (b : Bool) → same_key (plain_key d.name) key ≡ b → cond b (Some d.ty) (type_in (decls_bound ds) key) ≡ Some t → (type_in (decls_bound ds) key ≡ Some t → has_name key.first (decl_names ds) ≡ true)
        → (bytes_eq d.name key.first || has_name key.first (decl_names ds)) ≡ true
    by_test true e h rest =
        or_left (bytes_eq d.name key.first) (has_name key.first (decl_names ds)) ((bytes_eq-Decides d.name key.first).1 (ap (λ (k : Key). k.first) (same_key-true (plain_key d.name) key e)))
    by_test false e h rest = or_right (bytes_eq d.name key.first) (has_name key.first (decl_names ds)) (rest h)

-- ---- given inputs

module _ (structs : Structs) where
  bind_typed : (is : List TInput) (b : Bind) → is_for structs is b ≡ true → FitsSome structs (type_in (inputs_bound is) b.key) b.value
  bind_typed [] b h = absurd (false≢true h)
  bind_typed (i ∷ is) b h = by_test (same_key b.key (plain_key i.name)) refl (same_key (plain_key i.name) b.key) refl h (bind_typed is b)
    where
      by_test : (s : Bool) → same_key b.key (plain_key i.name) ≡ s → (r : Bool) → same_key (plain_key i.name) b.key ≡ r → cond s (fits structs b.value i.ty) (is_for structs is b) ≡ true
          → (is_for structs is b ≡ true → FitsSome structs (type_in (inputs_bound is) b.key) b.value) → FitsSome structs (cond r (Some i.ty) (type_in (inputs_bound is) b.key)) b.value
      by_test true e true k h rest = h
      by_test false e false k h rest = rest h
      by_test true e false k h rest =
          let same = same_key-true b.key (plain_key i.name) e in
          absurd (false≢true (sym k ∙ ap (λ z. same_key z b.key) (sym same) ∙ same_key-refl b.key))
      by_test false e true k h rest =
          let same = same_key-true (plain_key i.name) b.key k in
          absurd (false≢true (sym e ∙ ap (λ z. same_key z (plain_key i.name)) (sym same) ∙ same_key-refl (plain_key i.name)))

  pub given_typed : (is : List TInput) (given : List Bind) → list_all (is_for structs is) given ≡ true → (key : Key) (x : Value) → lookup given key ≡ Some x → FitsSome structs (type_in (inputs_bound is) key) x
  given_typed is [] h key x k = absurd (cc)
  given_typed is (b ∷ bs) h key x k =
      let p = and_parts (is_for structs is b) (list_all (is_for structs is) bs) h in
      by_test (same_key b.key key) refl k (given_typed is bs p.1 key x) (bind_typed is b p.0)
    where
      by_test : (s : Bool) → same_key b.key key ≡ s → cond s (Some b.value) (lookup bs key) ≡ Some x → (lookup bs key ≡ Some x → FitsSome structs (type_in (inputs_bound is) key) x)
          → FitsSome structs (type_in (inputs_bound is) b.key) b.value → FitsSome structs (type_in (inputs_bound is) key) x
      by_test true e k rest own =
          let same : b.value ≡ x = cc in
          subst (λ (y : Value). FitsSome structs (type_in (inputs_bound is) key) y) same (subst (λ (z : Key). FitsSome structs (type_in (inputs_bound is) z) b.value) (same_key-true b.key key e) own)
      by_test false e k rest own = rest k

  -- ---- defaults

  absent_at : (t : Ty) (z : Ty-F Ty) → out-Ty t ≡ z → is_optional z ≡ true → fits structs v.Absent t ≡ true
  absent_at t (type.Opt u) e h = subst (λ (w : Ty). fits structs v.Absent w ≡ true) (sym (sym (roll-out-Ty t) ∙ ap roll-Ty e ∙ ty.rolls-Opt u)) (absent_fits structs u)
  absent_at t z e h = absurd (false≢true h)

  not_not : (b : Bool) → not (not b) ≡ true → b ≡ true
  not_not true h = refl
  not_not false h = h

  left_out : (a b : Bool) → (a || b) ≡ true → b ≡ false → a ≡ true
  left_out true b h k = refl
  left_out false b h k = absurd (false≢true (sym k ∙ h))

  abbrev one : TInput → List Bound
  one i = bound i.name i.ty ∷ []

  default_agrees : (names : List Bound) (s : Sight) (i : TInput) (o : Option TExpr) → default_typed structs names i.ty o ≡ true → not (not (is_some o) && not (is_optional (out-Ty i.ty))) ≡ true
      → Agrees structs names s.names → Agrees structs (one i) (flow.default_of s i.name o).names
  default_agrees names s i (Some e) typed needed agrees =
      declaration_agrees structs names s i.name e i.ty (is_type-some (type_of (context structs names) e false) i.ty typed) agrees
  default_agrees names s i None typed needed agrees =
      agrees_one structs (bound i.name i.ty) (Some v.Absent) (λ x h. let same : v.Absent ≡ x = cc in
      subst (λ (y : Value). fits structs y i.ty ≡ true) same (absent_at i.ty (out-Ty i.ty) refl (not_not (is_optional (out-Ty i.ty)) needed)))

  -- names that are typed are taken
  abbrev pub Taken : List Bound → List (List ℕ) → Type 0
  Taken names taken = (key : Key) (t : Ty) → type_in names key ≡ Some t → has_name key.first taken ≡ true

  -- a new name has no type yet
  pub one_apart : (names : List Bound) (taken : List (List ℕ)) (name : List ℕ) (u : Ty) → Taken names taken → has_name name taken ≡ false → (key : Key) (t : Ty)
      → type_in (bound name u ∷ []) key ≡ Some t → type_in names key ≡ None
  one_apart names taken name u inside out key t h = by_test (same_key (plain_key name) key) refl h
    where
      by_type : same_key (plain_key name) key ≡ true → (o : Option Ty) → type_in names key ≡ o → type_in names key ≡ None
      by_type e None g = g
      by_type e (Some w) g =
          let first : name ≡ key.first = ap (λ (j : Key). j.first) (same_key-true (plain_key name) key e) in
          absurd (false≢true (sym out ∙ ap (λ z. has_name z taken) first ∙ inside key w g))

      by_test : (b : Bool) → same_key (plain_key name) key ≡ b → cond b (Some u) None ≡ Some t → type_in names key ≡ None
      by_test true e h = by_type e (type_in names key) refl
      by_test false e h = absurd (cc)

  pub one_taken : (names : List Bound) (taken : List (List ℕ)) (name : List ℕ) (u : Ty) → Taken names taken → Taken (names ++ bound name u ∷ []) (taken ++ name ∷ [])
  one_taken names taken name u inside key t h = by_type (type_in names key) refl h
    where
      by_test : (b : Bool) → same_key (plain_key name) key ≡ b → cond b (Some u) None ≡ Some t → has_name key.first (taken ++ name ∷ []) ≡ true
      by_test true e h =
          name_right key.first taken (name ∷ []) (subst (λ (n : List ℕ). has_name n (name ∷ []) ≡ true) (ap (λ (j : Key). j.first) (same_key-true (plain_key name) key e)) (name_one name))
      by_test false e h = absurd (cc)

      by_type : (o : Option Ty) → type_in names key ≡ o → type_in (names ++ bound name u ∷ []) key ≡ Some t → has_name key.first (taken ++ name ∷ []) ≡ true
      by_type (Some w) e h = name_left key.first taken (name ∷ []) (inside key w e)
      by_type None e h = by_test (same_key (plain_key name) key) refl (sym (type_back names (bound name u ∷ []) key e) ∙ h)

  pub not_true : (b : Bool) → not b ≡ true → b ≡ false
  not_true true h = absurd (false≢true h)
  not_true false h = refl

  own_type : (names rest : List Bound) (name : List ℕ) (u : Ty) → type_in names (plain_key name) ≡ None → type_in (names ++ bound name u ∷ rest) (plain_key name) ≡ Some u
  own_type names rest name u h = type_back names (bound name u ∷ rest) (plain_key name) h ∙ ap (λ b. cond b (Some u) (type_in rest (plain_key name))) (same_key-refl (plain_key name))

  none_typed : (names : List Bound) (taken : List (List ℕ)) (name : List ℕ) → Taken names taken → has_name name taken ≡ false → type_in names (plain_key name) ≡ None
  none_typed names taken name inside out = by_type (type_in names (plain_key name)) refl
    where
      by_type : (o : Option Ty) → type_in names (plain_key name) ≡ o → type_in names (plain_key name) ≡ None
      by_type None e = e
      by_type (Some w) e = absurd (false≢true (sym out ∙ inside (plain_key name) w e))

  module _ (all : List TInput) (given : List Bind) (fit : list_all (is_for structs all) given ≡ true) where
    pub input_agrees : (names rest : List Bound) (taken : List (List ℕ)) (s : Sight) (i : TInput) → inputs_bound all ≡ names ++ bound i.name i.ty ∷ rest → default_typed structs names i.ty i.value ≡ true
        → is_given given i ≡ true → Agrees structs names s.names → Taken names taken → has_name i.name taken ≡ false → (o : Option Value) → lookup given (plain_key i.name) ≡ o
        → Agrees structs (one i) (input_of s i o).names
    input_agrees names rest taken s i whole typed needed agrees inside out (Some x) e =
        let own = ap (λ bs. type_in bs (plain_key i.name)) whole ∙ own_type names rest i.name i.ty (none_typed names taken i.name inside out) in
        let fits_own : FitsSome structs (Some i.ty) x = subst (λ (o : Option Ty). FitsSome structs o x) own (given_typed all given fit (plain_key i.name) x e) in
        agrees_one structs (bound i.name i.ty) (Some x) (λ y h. let same : x ≡ y = cc in subst (λ (z : Value). fits structs z i.ty ≡ true) same fits_own)
    input_agrees names rest taken s i whole typed needed agrees inside out None e =
        default_agrees names s i i.value typed (left_out (not (is_required i)) (is_some (lookup given (plain_key i.name))) needed (ap is_some e)) agrees

    pub inputs_agree : (names : List Bound) (taken : List (List ℕ)) (is : List TInput) (s : Sight) → inputs_bound all ≡ names ++ inputs_bound is → inputs_typed structs names is ≡ true
        → list_all (is_given given) is ≡ true → Agrees structs names s.names → Taken names taken → fresh taken (input_names is) ≡ true → Agrees structs (inputs_bound is) (inputs given is s).names
    inputs_agree names taken [] s whole typed needed agrees inside new = λ key x h. absurd (cc)
    inputs_agree names taken (i ∷ is) s whole typed needed agrees inside new =
        let p = and_parts (is_written structs i.ty && default_typed structs names i.ty i.value) (inputs_typed structs (names ++ one i) is) typed in
        let q = and_parts (is_written structs i.ty) (default_typed structs names i.ty i.value) p.0 in
        let n = and_parts (is_given given i) (list_all (is_given given) is) needed in
        let f = and_parts (not (has_name i.name taken)) (fresh (taken ++ i.name ∷ []) (input_names is)) new in
        let out = not_true (has_name i.name taken) f.0 in
        let here = input_agrees names (inputs_bound is) taken s i whole q.1 n.0 agrees inside out (lookup given (plain_key i.name)) refl in
        let seen_there = agrees_both structs names (one i) s.names (input_of s i (lookup given (plain_key i.name))).names agrees here (one_apart names taken i.name i.ty inside out) in
        let there = inputs_agree (names ++ one i) (taken ++ i.name ∷ []) is (seeing s (input_of s i (lookup given (plain_key i.name)))) (whole ∙ sym (append_assoc names (one i) (inputs_bound is))) p.1 n.1 seen_there
        (one_taken names taken i.name i.ty inside) f.1 in
        agrees_both structs (one i) (inputs_bound is) (input_of s i (lookup given (plain_key i.name))).names (inputs given is (seeing s (input_of s i (lookup given (plain_key i.name))))).names here there
        (later (names ++ one i) (taken ++ i.name ∷ []) is i.name i.ty f.1)
      where
        later : (ns : List Bound) (ts : List (List ℕ)) (js : List TInput) (name : List ℕ) (u : Ty) → fresh (taken ++ name ∷ []) (input_names js) ≡ true → (key : Key) (t : Ty) → type_in (inputs_bound js) key ≡ Some t
            → type_in (bound name u ∷ []) key ≡ None
        later ns ts js name u new key t h = by_test (same_key (plain_key name) key) refl
          where
            by_test : (b : Bool) → same_key (plain_key name) key ≡ b → (let none : Option Ty = None in cond b (Some u) none ≡ None)
            by_test false e = refl
            by_test true e =
                let first : name ≡ key.first = ap (λ (k : Key). k.first) (same_key-true (plain_key name) key e) in
                absurd (fresh_apart key.first (taken ++ name ∷ []) (input_names js) new (input_keys js key t h)
                (name_right key.first taken (name ∷ []) (subst (λ (n : List ℕ). has_name n (name ∷ []) ≡ true) first (name_one name))))

  -- a name that is declared before new ones has no type among them
  front_apart : (taken more : List (List ℕ)) (bs : List Bound) (name : List ℕ) (u : Ty) → ((key : Key) (t : Ty) → type_in bs key ≡ Some t → has_name key.first more ≡ true)
      → fresh (taken ++ name ∷ []) more ≡ true → (key : Key) (t : Ty) → type_in bs key ≡ Some t → type_in (bound name u ∷ []) key ≡ None
  front_apart taken more bs name u inside new key t h = by_test (same_key (plain_key name) key) refl
    where
      by_test : (b : Bool) → same_key (plain_key name) key ≡ b → (let none : Option Ty = None in cond b (Some u) none ≡ None)
      by_test false e = refl
      by_test true e =
          let first : name ≡ key.first = ap (λ (k : Key). k.first) (same_key-true (plain_key name) key e) in
          absurd (fresh_apart key.first (taken ++ name ∷ []) more new (inside key t h)
          (name_right key.first taken (name ∷ []) (subst (λ (n : List ℕ). has_name n (name ∷ []) ≡ true) first (name_one name))))

  pub decls_agree : (names : List Bound) (taken : List (List ℕ)) (ds : List TDecl) (s : Sight) → decls_typed (in_body structs) structs names ds ≡ true → Agrees structs names s.names
      → Taken names taken → fresh taken (decl_names ds) ≡ true → Agrees structs (decls_bound ds) (outputs ds s).names
  decls_agree names taken [] s typed agrees inside new = λ key x h. absurd (cc)
  decls_agree names taken (d ∷ ds) s typed agrees inside new =
      let p = and_parts (is_written structs d.ty && is_type (in_body structs names d.value) d.ty) (decls_typed (in_body structs) structs (names ++ bound d.name d.ty ∷ []) ds) typed in
      let q = and_parts (is_written structs d.ty) (is_type (in_body structs names d.value) d.ty) p.0 in
      let f = and_parts (not (has_name d.name taken)) (fresh (taken ++ d.name ∷ []) (decl_names ds)) new in
      let out = not_true (has_name d.name taken) f.0 in
      let here = declaration_agrees structs names s d.name d.value d.ty (is_type-some (in_body structs names d.value) d.ty q.1) agrees in
      let seen_there = agrees_both structs names (bound d.name d.ty ∷ []) s.names (declaration s d.name d.value).names agrees here (one_apart names taken d.name d.ty inside out) in
      let there = decls_agree (names ++ bound d.name d.ty ∷ []) (taken ++ d.name ∷ []) ds (seeing s (declaration s d.name d.value)) p.1 seen_there (one_taken names taken d.name d.ty inside) f.1 in
      agrees_both structs (bound d.name d.ty ∷ []) (decls_bound ds) (declaration s d.name d.value).names (outputs ds (seeing s (declaration s d.name d.value))).names here there
      (front_apart taken (decl_names ds) (decls_bound ds) d.name d.ty (decl_keys ds) f.1)

-- ---- workflows

-- what is typed of a workflow
pub record Typed (lib : Library) (f : FlowDef) : Type 0 where
  pub given : Seen
  pub typed : body_gives lib f.body (inputs_seen f) ≡ Some given
  pub inputs_are : inputs_typed lib.structs [] f.inputs ≡ true
  pub outputs_are : decls_typed (in_body lib.structs) lib.structs (inputs_bound f.inputs ++ given.names) f.outputs ≡ true
  pub inputs_new : fresh [] (input_names f.inputs) ≡ true
  pub body_new : fresh (input_names f.inputs) (all_declared f.body) ≡ true
  pub outputs_new : fresh (input_names f.inputs ++ all_declared f.body) (decl_names f.outputs) ≡ true
  pub items_new : items_differ f.body (flow_names f) ≡ true
  pub nested : body_nests lib.flows 24 f.body ≡ true

pub is_typed : (lib : Library) (f : FlowDef) → flow_typed lib f ≡ true → Typed lib f
is_typed lib f h =
    let a = and_parts (are_distinct (flow_names f) && items_differ f.body (flow_names f) && is_numbered f.body && body_nests lib.flows 24 f.body && inputs_typed lib.structs [] f.inputs)
    (outputs_typed lib.structs f (body_gives lib f.body (inputs_seen f))) h in
    let b = and_parts (are_distinct (flow_names f) && items_differ f.body (flow_names f) && is_numbered f.body && body_nests lib.flows 24 f.body) (inputs_typed lib.structs [] f.inputs) a.0 in
    let c = and_parts (are_distinct (flow_names f) && items_differ f.body (flow_names f) && is_numbered f.body) (body_nests lib.flows 24 f.body) b.0 in
    let d = and_parts (are_distinct (flow_names f) && items_differ f.body (flow_names f)) (is_numbered f.body) c.0 in
    let e = and_parts (are_distinct (flow_names f)) (items_differ f.body (flow_names f)) d.0 in
    let n = fresh-distinct (flow_names f) ∙ e.0 in
    let m = and_parts (fresh [] (input_names f.inputs ++ all_declared f.body)) (fresh (input_names f.inputs ++ all_declared f.body) (decl_names f.outputs))
    (sym (fresh-append [] (input_names f.inputs ++ all_declared f.body) (decl_names f.outputs)) ∙ n) in
    let l = and_parts (fresh [] (input_names f.inputs)) (fresh (input_names f.inputs) (all_declared f.body)) (sym (fresh-append [] (input_names f.inputs) (all_declared f.body)) ∙ m.0) in
    by_given (body_gives lib f.body (inputs_seen f)) refl a.1 b.1 l.0 l.1 m.1 e.1 c.1
  where
    by_given : (o : Option Seen) → body_gives lib f.body (inputs_seen f) ≡ o → outputs_typed lib.structs f o ≡ true → inputs_typed lib.structs [] f.inputs ≡ true → fresh [] (input_names f.inputs) ≡ true
        → fresh (input_names f.inputs) (all_declared f.body) ≡ true → fresh (input_names f.inputs ++ all_declared f.body) (decl_names f.outputs) ≡ true → items_differ f.body (flow_names f) ≡ true
        → body_nests lib.flows 24 f.body ≡ true → Typed lib f
    by_given None e h i j k l m n = absurd (false≢true h)
    by_given (Some g) e h i j k l m n = record {
      given = g;
      typed = e;
      inputs_are = i;
      outputs_are = h;
      inputs_new = j;
      body_new = k;
      outputs_new = l;
      items_new = m;
      nested = n;
    }

module _ (lib : Library) (f : FlowDef) (t : Typed lib f) where
  pub body_is_new : IsNew (flow_names f) (input_names f.inputs) (inputs_seen f) f.body
  body_is_new = record {
    seen_taken = λ key u h. input_keys f.inputs key u h;
    taken_all = λ n h. name_left n (input_names f.inputs ++ all_declared f.body) (decl_names f.outputs) (name_left n (input_names f.inputs) (all_declared f.body) h);
    declared_all = λ n h. name_left n (input_names f.inputs ++ all_declared f.body) (decl_names f.outputs) (name_right n (input_names f.inputs) (all_declared f.body) h);
    declared_new = t.body_new;
    items_new = t.items_new;
  }

  -- the body gives out what it declares
  body_keys : (key : Key) (u : Ty) → type_in t.given.names key ≡ Some u → has_name key.first (all_declared f.body) ≡ true
  body_keys key u h =
      all_keys_declared lib.tasks lib.flows f.body key
      (ap (is_among key) (sym (all_gives_keys lib f.body (inputs_seen f) t.given t.typed)) ∙ type_among t.given.names key u h)

  body_apart : (key : Key) (u : Ty) → type_in t.given.names key ≡ Some u → type_in (inputs_bound f.inputs) key ≡ None
  body_apart key u h = by_type (type_in (inputs_bound f.inputs) key) refl
    where
      by_type : (o : Option Ty) → type_in (inputs_bound f.inputs) key ≡ o → type_in (inputs_bound f.inputs) key ≡ None
      by_type None e = e
      by_type (Some w) e = absurd (fresh_apart key.first (input_names f.inputs) (all_declared f.body) t.body_new (body_keys key u h) (input_keys f.inputs key w e))

  pub all_taken : Taken lib.structs (inputs_bound f.inputs ++ t.given.names) (input_names f.inputs ++ all_declared f.body)
  all_taken key u h = by_type (type_in (inputs_bound f.inputs) key) refl
    where
      by_type : (o : Option Ty) → type_in (inputs_bound f.inputs) key ≡ o → has_name key.first (input_names f.inputs ++ all_declared f.body) ≡ true
      by_type (Some w) e = name_left key.first (input_names f.inputs) (all_declared f.body) (input_keys f.inputs key w e)
      by_type None e = name_right key.first (input_names f.inputs) (all_declared f.body) (body_keys key u (sym (type_back (inputs_bound f.inputs) t.given.names key e) ∙ h))

  outputs_apart : (key : Key) (u : Ty) → type_in (decls_bound f.outputs) key ≡ Some u → type_in (inputs_bound f.inputs ++ t.given.names) key ≡ None
  outputs_apart key u h = by_type (type_in (inputs_bound f.inputs ++ t.given.names) key) refl
    where
      by_type : (o : Option Ty) → type_in (inputs_bound f.inputs ++ t.given.names) key ≡ o → type_in (inputs_bound f.inputs ++ t.given.names) key ≡ None
      by_type None e = e
      by_type (Some w) e = absurd (fresh_apart key.first (input_names f.inputs ++ all_declared f.body) (decl_names f.outputs) t.outputs_new (decl_keys f.outputs key u h) (all_taken key w e))

  module _ (r : Run) (same : r.library ≡ lib) (callee : flow.Callee) (kept : IsLibrary r.library) (callees : CalleesSound r.library callee) (given : List Bind)
      (fit : are_given lib.structs f.inputs given ≡ true) (place : List Segment) where
    abbrev start : Sight
    start = beginning place

    abbrev taken_in : Flowing
    taken_in = inputs given f.inputs start

    abbrev made : Flowing
    made = statements r callee f.body (seeing start taken_in)

    abbrev told : Flowing
    told = outputs f.outputs (seeing (seeing start taken_in) made)

    pub inputs_sound : Agrees lib.structs (inputs_bound f.inputs) taken_in.names
    inputs_sound =
        let p = and_parts (list_all (is_for lib.structs f.inputs) given) (list_all (is_given given) f.inputs) fit in
        inputs_agree lib.structs f.inputs given p.0 [] [] f.inputs start refl t.inputs_are p.1 (λ key x h. absurd (cc)) (λ key u h. absurd (cc)) t.inputs_new

    pub made_sound : Agrees lib.structs t.given.names made.names
    made_sound =
        subst (λ (l : Library). body_gives l f.body (inputs_seen f) ≡ Some t.given → Agrees l.structs (inputs_bound f.inputs) taken_in.names → Agrees l.structs t.given.names made.names) same
        (λ typed agrees. body_sound r callee kept callees f.body (inputs_seen f) t.given (seeing start taken_in) (flow_names f) (input_names f.inputs) typed agrees body_is_new) t.typed inputs_sound

    pub seen_sound : Agrees lib.structs (inputs_bound f.inputs ++ t.given.names) (taken_in.names ++ made.names)
    seen_sound = agrees_both lib.structs (inputs_bound f.inputs) t.given.names taken_in.names made.names inputs_sound made_sound body_apart

    told_sound : Agrees lib.structs (decls_bound f.outputs) told.names
    told_sound = decls_agree lib.structs (inputs_bound f.inputs ++ t.given.names) (input_names f.inputs ++ all_declared f.body) f.outputs (seeing (seeing start taken_in) made) t.outputs_are seen_sound all_taken t.outputs_new

    run_names : (flow_run r callee f given start).names ≡ (taken_in.names ++ made.names) ++ told.names
    run_names = ap (λ ks. taken_in.names ++ (made.names ++ ks)) (append-nil told.names) ∙ sym (append_assoc taken_in.names made.names told.names)

    pub flow_agrees : Agrees lib.structs ((inputs_bound f.inputs ++ t.given.names) ++ decls_bound f.outputs) (flow_run r callee f given start).names
    flow_agrees =
        subst (Agrees lib.structs ((inputs_bound f.inputs ++ t.given.names) ++ decls_bound f.outputs)) (sym run_names)
        (agrees_both lib.structs (inputs_bound f.inputs ++ t.given.names) (decls_bound f.outputs) (taken_in.names ++ made.names) told.names seen_sound told_sound outputs_apart)

    pub outputs_fit : OutputsFit lib.structs f.outputs (flow_run r callee f given start).names
    outputs_fit name u x h k =
        let own = type_back (inputs_bound f.inputs ++ t.given.names) (decls_bound f.outputs) (plain_key name) (outputs_apart (plain_key name) u h) ∙ h in
        let fits_own : FitsSome lib.structs (Some u) x = subst (λ (o : Option Ty). FitsSome lib.structs o x) own (flow_agrees (plain_key name) x k) in
        fits_own

-- workflows that are called, to any depth
pub callees_sound : (r : Run) → IsLibrary r.library → (depth : ℕ) → CalleesSound r.library (flow.flow r depth)
callees_sound r kept zero k f given place there fit = λ name u x h g. absurd (cc)
callees_sound r kept (suc depth) k f given place there fit =
    let t = is_typed r.library f (all_at (flow_typed r.library) r.library.flows k f kept.flows there) in
    subst (λ (o : Option FlowDef). OutputsFit r.library.structs f.outputs (flow.flow_at r (flow.flow r depth) o given place).names) (sym there)
    (outputs_fit r.library f t r refl (flow.flow r depth) kept (callees_sound r kept depth) given fit place)
