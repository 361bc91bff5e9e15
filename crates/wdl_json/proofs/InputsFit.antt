-- The inputs that are given fit the workflow.
use Rattle.std.proofs.Common.{◌≡◌, ℕ, nat_lt, Bool, true, false, not, cond, ◌&&◌, ◌||◌, List, [], ◌∷◌, ◌++◌, length, Option, Some, None, option_map, Result, Ok, Err, IfOk, bytes_eq, nat_cmp, Ordering, Less, Equal, Greater, refl, sym, ap, ◌∙◌, subst}
use Rattle.std.proofs.lemmas.Bool.{true≢false, and_parts, and_from, or_parts, or_from, not-true}
use Rattle.std.proofs.lemmas.Slice.Eq.{bytes_eq-Decides}
use Rattle.std.specs.Cmp.Lexicographic.{slice_cmp}
use Rattle.std.specs.List.{list_all}
use Rattle.std.specs.Ordering.{match_ordering}
use Rattle.std.specs.Str.{is_utf8}
use Rattle.std.proofs.lemmas.Option.{same_Some}
use Rattle.serde_json.specs.Data.{Data, null, boolean, number, string, array, object, Members, no_members, member}
use Rattle.serde_json.specs.Find.{as_object, get_member}
use Rattle.serde_json.specs.Read.{read}
use Rattle.wdl_base.specs.declared.name.Key.{Key}
use Rattle.wdl_value.specs.declared.env.Bind.{Bind}
use Rattle.wdl_value.specs.declared.ty.Ty.{Ty}
use Rattle.wdl_value.specs.declared.value.Value.{Value}
use Rattle.wdl_value.specs.Fits.{Structs, fits}
use Rattle.wdl_value.specs.Limits.{is_within}
use Rattle.wdl_typed.specs.declared.flow.FlowDef.{FlowDef}
use Rattle.wdl_typed.specs.declared.task.TInput.{TInput}
use Rattle.wdl_typed.specs.Bodies.{Library, is_required}
use Rattle.wdl_typed.specs.Declarations.{input_names, plain_key}
use Rattle.wdl_typed.specs.Journal.{keys, keys_distinct, value_fits, bind_fits, is_given, inputs_fit}
use Rattle.wdl_typed.specs.Kept.{flow_names, flow_typed, is_checked}
use Rattle.wdl_typed.specs.KnownTypes.{is_some}
use Rattle.wdl_typed.specs.Lists.{has_name, are_distinct}
use Rattle.wdl_typed.specs.Scope.{lookup, same_key, is_among}
use Rattle.json_values.specs.Ordered.{is_first, is_ordered, members_ordered}
use Rattle.json_values.specs.Reading.{reads}
use Rattle.json_values.proofs.OrderLemmas.{read_ordered}
use Rattle.json_values.proofs.ReadsFit.{reads_fits}
use Rattle.wdl_json.specs.declared.fault.InputFault.{InputFault}
use Rattle.wdl_json.specs.declared.given.GivenInput.{GivenInput}
use Rattle.wdl_json.specs.declared.given.GivenInput.TheVariants.{LeftOut, Fitting, Misfit}
use Rattle.wdl_json.specs.Inputs.{json_in, bad, Gives, member_name, unknown_fault, sooner, first_of, is_missing, missing_fault, named, fitting, given_as, given_of, is_misfit, misfits, misfit, misfit_fault, bind_of, binds, or_fault, from_members, from_object, from_json, inputs_in, main_of}
use Rattle.wdl_base.proofs.Options.{all_at, chosen_parts}

-- ---- the names of inputs differ

front_lacks : (name : List ℕ) (xs ys : List (List ℕ)) → has_name name (xs ++ ys) ≡ false → has_name name xs ≡ false
front_lacks name [] ys h = refl
front_lacks name (x ∷ xs) ys h = let p = or_parts (bytes_eq x name) (has_name name (xs ++ ys)) h in or_from (bytes_eq x name) (has_name name xs) p.0 (front_lacks name xs ys p.1)

front_distinct : (xs ys : List (List ℕ)) → are_distinct (xs ++ ys) ≡ true → are_distinct xs ≡ true
front_distinct [] ys h = refl
front_distinct (x ∷ xs) ys h =
    let p = and_parts (not (has_name x (xs ++ ys))) (are_distinct (xs ++ ys)) h in
    and_from (not (has_name x xs)) (are_distinct xs) (ap not (front_lacks x xs ys (not-true (has_name x (xs ++ ys)) p.0))) (front_distinct xs ys p.1)

main_at : (flows : List FlowDef) (main : Option ℕ) (f : FlowDef) (test : FlowDef → Bool) → list_all test flows ≡ true → main_of flows main ≡ Some f → test f ≡ true
main_at flows None f test h m = cc
main_at flows (Some k) f test h m = all_at test flows k f h m

pub inputs_distinct : (lib : Library) (main : Option ℕ) (f : FlowDef) → is_checked lib main ≡ true → main_of lib.flows main ≡ Some f → are_distinct (input_names f.inputs) ≡ true
inputs_distinct lib main f h m =
    let a = (and_parts _ _ h).0 in
    let b = (and_parts _ _ a).0 in
    let c = (and_parts _ _ b).1 in
    let typed : flow_typed lib f ≡ true = main_at lib.flows main f (flow_typed lib) c m in
    let d = (and_parts _ _ typed).0 in
    let e = (and_parts _ _ d).0 in
    let g = (and_parts _ _ e).0 in
    let i = (and_parts _ _ g).0 in
    let distinct : are_distinct (flow_names f) ≡ true = (and_parts _ _ i).0 in
    front_distinct (input_names f.inputs) _ (front_distinct (input_names f.inputs ++ _) _ distinct)

-- ---- keys

same_plain : (m n : List ℕ) → bytes_eq m n ≡ false → same_key (plain_key m) (plain_key n) ≡ false
same_plain m n h = ap (λ b. b && true) h

same_own : (n : List ℕ) → same_key (plain_key n) (plain_key n) ≡ true
same_own n = ap (λ b. b && true) ((bytes_eq-Decides n n).1 refl)

module _ (structs : Structs) (flow : List ℕ) (ms : Members) where
  abbrev given : TInput → GivenInput
  given = given_of structs flow ms

  abbrev bound : List TInput → List Bind
  bound = binds structs flow ms

  no_key : (n : List ℕ) (is : List TInput) → has_name n (input_names is) ≡ false → is_among (plain_key n) (keys (bound is)) ≡ false
  no_key n [] h = refl
  no_key n (i ∷ is) h =
      let p = or_parts (bytes_eq i.name n) (has_name n (input_names is)) h in
      by_given (given i) (same_plain i.name n p.0) (no_key n is p.1)
    where
      by_given : (g : GivenInput) → same_key (plain_key i.name) (plain_key n) ≡ false → is_among (plain_key n) (keys (bound is)) ≡ false → is_among (plain_key n) (keys (bind_of i g ++ bound is)) ≡ false
      by_given LeftOut other rest = rest
      by_given (Fitting x) other rest = or_from (same_key (plain_key i.name) (plain_key n)) (is_among (plain_key n) (keys (bound is))) other rest
      by_given Misfit other rest = rest

  keys_differ : (is : List TInput) → are_distinct (input_names is) ≡ true → keys_distinct (keys (bound is)) ≡ true
  keys_differ [] h = refl
  keys_differ (i ∷ is) h =
      let p = and_parts (not (has_name i.name (input_names is))) (are_distinct (input_names is)) h in
      by_given (given i) (no_key i.name is (not-true (has_name i.name (input_names is)) p.0)) (keys_differ is p.1)
    where
      by_given : (g : GivenInput) → is_among (plain_key i.name) (keys (bound is)) ≡ false → keys_distinct (keys (bound is)) ≡ true → keys_distinct (keys (bind_of i g ++ bound is)) ≡ true
      by_given LeftOut new rest = rest
      by_given (Fitting x) new rest = and_from (not (is_among (plain_key i.name) (keys (bound is)))) (keys_distinct (keys (bound is))) (ap not new) rest
      by_given Misfit new rest = rest

  -- ---- values

  member_ordered : (k : List ℕ) (ns : Members) (d : Data) → members_ordered ns ≡ true → get_member k ns ≡ Some d → is_ordered d ≡ true
  member_ordered k no_members d o h = cc
  member_ordered k (member l e ns) d o h =
      let p = and_parts (is_first l ns && is_ordered e) (members_ordered ns) o in
      by_order (slice_cmp nat_cmp k l) h (and_parts (is_first l ns) (is_ordered e) p.0).1 (member_ordered k ns d p.1)
    where
      by_order : (c : Ordering) → match_ordering c (get_member k ns) (Some e) (get_member k ns) ≡ Some d → is_ordered e ≡ true → (get_member k ns ≡ Some d → is_ordered d ≡ true) → is_ordered d ≡ true
      by_order Less g own more = more g
      by_order Equal g own more = ap is_ordered (sym (same_Some e d g)) ∙ own
      by_order Greater g own more = more g

  fitting_fits : (t : Ty) (o : Option Value) (x : Value) → ((y : Value) → o ≡ Some y → fits structs y t ≡ true) → fitting o ≡ Fitting x → value_fits structs t x ≡ true
  fitting_fits t None x sound h = cc
  fitting_fits t (Some y) x sound h = by_test (is_within y) refl h
    where
      by_test : (b : Bool) → is_within y ≡ b → cond b (Fitting y) Misfit ≡ Fitting x → value_fits structs t x ≡ true
      by_test true e k = let same : y ≡ x = cc in and_from (fits structs x t) (is_within x) (ap (λ z. fits structs z t) (sym same) ∙ sound y refl) (ap is_within (sym same) ∙ e)
      by_test false e k = cc

  given_fits : (i : TInput) (x : Value) → members_ordered ms ≡ true → given i ≡ Fitting x → value_fits structs i.ty x ≡ true
  given_fits i x o h = by_member (get_member (member_name flow i.name) ms) refl h
    where
      by_member : (m : Option Data) → get_member (member_name flow i.name) ms ≡ m → given_as structs i.ty m ≡ Fitting x → value_fits structs i.ty x ≡ true
      by_member None e k = cc
      by_member (Some d) e k = fitting_fits i.ty (reads structs d i.ty) x (λ y. reads_fits structs d (member_ordered (member_name flow i.name) ms d o e) i.ty y) k

  -- one more input of another name in front changes nothing
  fits_behind : (i : TInput) (is js : List TInput) → has_name i.name (input_names js) ≡ false → list_all (bind_fits structs is) (bound js) ≡ true → list_all (bind_fits structs (i ∷ is)) (bound js) ≡ true
  fits_behind i is [] h k = refl
  fits_behind i is (j ∷ js) h k =
      let p = or_parts (bytes_eq j.name i.name) (has_name i.name (input_names js)) h in
      by_given (given j) (same_plain j.name i.name p.0) k (fits_behind i is js p.1)
    where
      by_given : (g : GivenInput) → same_key (plain_key j.name) (plain_key i.name) ≡ false → list_all (bind_fits structs is) (bind_of j g ++ bound js) ≡ true
          → (list_all (bind_fits structs is) (bound js) ≡ true → list_all (bind_fits structs (i ∷ is)) (bound js) ≡ true) → list_all (bind_fits structs (i ∷ is)) (bind_of j g ++ bound js) ≡ true
      by_given LeftOut other all more = more all
      by_given (Fitting x) other all more =
          let b : Bind = record { key = plain_key j.name; value = x } in
          let q = and_parts (bind_fits structs is b) (list_all (bind_fits structs is) (bound js)) all in
          and_from (bind_fits structs (i ∷ is) b) (list_all (bind_fits structs (i ∷ is)) (bound js)) (ap (λ c. cond c (value_fits structs i.ty x) (bind_fits structs is b)) other ∙ q.0) (more q.1)
      by_given Misfit other all more = more all

  all_fit : (is : List TInput) → members_ordered ms ≡ true → are_distinct (input_names is) ≡ true → list_all (bind_fits structs is) (bound is) ≡ true
  all_fit [] o h = refl
  all_fit (i ∷ is) o h =
      let p = and_parts (not (has_name i.name (input_names is))) (are_distinct (input_names is)) h in
      by_given (given i) refl (fits_behind i is is (not-true (has_name i.name (input_names is)) p.0) (all_fit is o p.1))
    where
      by_given : (g : GivenInput) → given i ≡ g → list_all (bind_fits structs (i ∷ is)) (bound is) ≡ true → list_all (bind_fits structs (i ∷ is)) (bind_of i g ++ bound is) ≡ true
      by_given LeftOut e rest = rest
      by_given (Fitting x) e rest =
          let b : Bind = record { key = plain_key i.name; value = x } in
          and_from (bind_fits structs (i ∷ is) b) (list_all (bind_fits structs (i ∷ is)) (bound is))
          (ap (λ c. cond c (value_fits structs i.ty x) (bind_fits structs is b)) (same_own i.name) ∙ given_fits i x o e) rest
      by_given Misfit e rest = rest

  -- ---- required inputs

  abbrev NonePass : (TInput → Bool) → List TInput → Type 0
  NonePass test [] = Unit {0}
  NonePass test (i ∷ is) = (test i ≡ false) × NonePass test is

  none_pass : (test : TInput → Bool) (is : List TInput) → first_of test is ≡ None → NonePass test is
  none_pass test [] h = tt
  none_pass test (i ∷ is) h = by_test (test i) refl h (none_pass test is)
    where
      by_test : (b : Bool) → test i ≡ b → cond b (Some (sooner i (first_of test is))) (first_of test is) ≡ None → (first_of test is ≡ None → NonePass test is) → (test i ≡ false) × NonePass test is
      by_test true e k more = cc
      by_test false e k more = (e, more k)

  found_behind : (pre bs : List Bind) (key : Key) → is_some (lookup bs key) ≡ true → is_some (lookup (pre ++ bs) key) ≡ true
  found_behind [] bs key h = h
  found_behind (b ∷ pre) bs key h = by_test (same_key b.key key) (found_behind pre bs key h)
    where
      by_test : (c : Bool) → is_some (lookup (pre ++ bs) key) ≡ true → is_some (cond c (Some b.value) (lookup (pre ++ bs) key)) ≡ true
      by_test true k = refl
      by_test false k = k

  given_behind : (pre bs : List Bind) (is : List TInput) → list_all (is_given bs) is ≡ true → list_all (is_given (pre ++ bs)) is ≡ true
  given_behind pre bs [] h = refl
  given_behind pre bs (i ∷ is) h =
      let p = and_parts (is_given bs i) (list_all (is_given bs) is) h in
      and_from (is_given (pre ++ bs) i) (list_all (is_given (pre ++ bs)) is) (by_need (not (is_required i)) p.0) (given_behind pre bs is p.1)
    where
      by_need : (b : Bool) → b || is_some (lookup bs (plain_key i.name)) ≡ true → b || is_some (lookup (pre ++ bs) (plain_key i.name)) ≡ true
      by_need true k = refl
      by_need false k = found_behind pre bs (plain_key i.name) k

  own_given : (i : TInput) (bs : List Bind) → is_missing flow ms i ≡ false → misfits structs flow ms i ≡ false → is_given (bind_of i (given i) ++ bs) i ≡ true
  own_given i bs m n = by_need (is_required i) m
    where
      own : (x : Value) → is_some (lookup (bind_of i (Fitting x) ++ bs) (plain_key i.name)) ≡ true
      own x = ap (λ b. is_some (cond b (Some x) (lookup bs (plain_key i.name)))) (same_own i.name)

      fitted : (g : GivenInput) (o : Option Value) → fitting o ≡ g → is_misfit g ≡ false → is_some (lookup (bind_of i g ++ bs) (plain_key i.name)) ≡ true
      fitted (Fitting x) o e k = own x
      fitted Misfit o e k = absurd (true≢false k)
      fitted LeftOut None e k = cc
      fitted LeftOut (Some y) e k = never (is_within y) e
        where
          never : (b : Bool) → cond b (Fitting y) Misfit ≡ LeftOut → is_some (lookup bs (plain_key i.name)) ≡ true
          never true c = cc
          never false c = cc

      by_member : (o : Option Data) → not (is_some o) ≡ false → is_misfit (given_as structs i.ty o) ≡ false → is_some (lookup (bind_of i (given_as structs i.ty o) ++ bs) (plain_key i.name)) ≡ true
      by_member None c k = absurd (true≢false c)
      by_member (Some d) c k = fitted (fitting (reads structs d i.ty)) (reads structs d i.ty) refl k

      by_need : (b : Bool) → b && not (is_some (get_member (member_name flow i.name) ms)) ≡ false → not b || is_some (lookup (bind_of i (given i) ++ bs) (plain_key i.name)) ≡ true
      by_need false c = refl
      by_need true c = by_member (get_member (member_name flow i.name) ms) c n

  all_given : (is : List TInput) → NonePass (is_missing flow ms) is → NonePass (misfits structs flow ms) is → list_all (is_given (bound is)) is ≡ true
  all_given [] m n = refl
  all_given (i ∷ is) m n =
      and_from (is_given (bound (i ∷ is)) i) (list_all (is_given (bound (i ∷ is))) is) (own_given i (bound is) m.0 n.0) (given_behind (bind_of i (given i)) (bound is) is (all_given is m.1 n.1))

  binds_fit : (is : List TInput) → members_ordered ms ≡ true → are_distinct (input_names is) ≡ true → first_of (is_missing flow ms) is ≡ None → first_of (misfits structs flow ms) is ≡ None
      → inputs_fit structs is (bound is) ≡ true
  binds_fit is o d m n =
      and_from (keys_distinct (keys (bound is)) && list_all (bind_fits structs is) (bound is)) (list_all (is_given (bound is)) is)
      (and_from (keys_distinct (keys (bound is))) (list_all (bind_fits structs is) (bound is)) (keys_differ is d) (all_fit is o d))
      (all_given is (none_pass (is_missing flow ms) is m) (none_pass (misfits structs flow ms) is n))

-- ---- the whole reading

no_fault : (fault : Option InputFault) (outcome : Result (List Bind) InputFault) (env : List Bind) → or_fault fault outcome ≡ Ok env → (fault ≡ None) × (outcome ≡ Ok env)
no_fault None outcome env h = (refl, h)
no_fault (Some e) outcome env h = cc

none_found : {A B : Type 0} (f : A → B) (o : Option A) → option_map f o ≡ None → o ≡ None
none_found f None h = refl
none_found f (Some a) h = cc

members_fit : (structs : Structs) (f : FlowDef) (ms : Members) (env : List Bind) → members_ordered ms ≡ true → are_distinct (input_names f.inputs) ≡ true → from_members structs f ms ≡ Ok env
    → inputs_fit structs f.inputs env ≡ true
members_fit structs f ms env o d h =
    let p = no_fault (unknown_fault f.name f.inputs ms) _ env h in
    let q = no_fault (missing_fault f.name f.inputs ms) _ env p.1 in
    let r = no_fault (misfit_fault structs f.name f.inputs ms) _ env q.1 in
    let missing = none_found (named 404 f.name) (first_of (is_missing f.name ms) f.inputs) q.0 in
    let misfitting = none_found (misfit f.name ms) (first_of (misfits structs f.name ms) f.inputs) r.0 in
    let same : binds structs f.name ms f.inputs ≡ env = cc (r.1) in
    subst (λ (bs : List Bind). inputs_fit structs f.inputs bs ≡ true) same (binds_fit structs f.name ms f.inputs o d missing misfitting)

data_fit : (structs : Structs) (f : FlowDef) (d : Data) (env : List Bind) → is_ordered d ≡ true → are_distinct (input_names f.inputs) ≡ true → from_object structs f (as_object d) ≡ Ok env
    → inputs_fit structs f.inputs env ≡ true
data_fit structs f null env o d h = cc
data_fit structs f (boolean b) env o d h = cc
data_fit structs f (number n) env o d h = cc
data_fit structs f (string s) env o d h = cc
data_fit structs f (array ds) env o d h = cc
data_fit structs f (object ms) env o d h = members_fit structs f ms env o d h

json_fit : (structs : Structs) (f : FlowDef) (bytes : List ℕ) (o : Option Data) (env : List Bind) → json_in bytes ≡ o → are_distinct (input_names f.inputs) ≡ true → from_json structs f o ≡ Ok env
    → inputs_fit structs f.inputs env ≡ true
json_fit structs f bytes None env e d h = cc
json_fit structs f bytes (Some j) env e d h = data_fit structs f j env (read_ordered bytes j (chosen_parts (is_utf8 bytes) (read bytes) j e).1) d h

pub bytes_fit : (structs : Structs) (f : FlowDef) (bytes : List ℕ) (env : List Bind) → are_distinct (input_names f.inputs) ≡ true → inputs_in structs f bytes ≡ Ok env → inputs_fit structs f.inputs env ≡ true
bytes_fit structs f bytes env d h = by_length (nat_lt 1048576 (length bytes)) h
  where
    by_length : (b : Bool) → cond b (Err (bad 407 None)) (from_json structs f (json_in bytes)) ≡ Ok env → inputs_fit structs f.inputs env ≡ true
    by_length true k = cc
    by_length false k = json_fit structs f bytes (json_in bytes) env refl d k

-- what a call gives fits
given_fit : (lib : Library) (main : Option ℕ) (f g : FlowDef) (bytes : List ℕ) (env : List Bind) → is_checked lib main ≡ true → main_of lib.flows main ≡ Some f → main_of lib.flows main ≡ Some g
    → inputs_in lib.structs g bytes ≡ Ok env → inputs_fit lib.structs f.inputs env ≡ true
given_fit lib main f g bytes env checked at found h =
    let same : g ≡ f = same_Some g f (sym found ∙ at) in
    bytes_fit lib.structs f bytes env (inputs_distinct lib main f checked at) (ap (λ x. inputs_in lib.structs x bytes) (sym same) ∙ h)

pub answer_fits : (lib : Library) (main : Option ℕ) (f g : FlowDef) (bytes : List ℕ) (r : Result (List Bind) InputFault) → is_checked lib main ≡ true → main_of lib.flows main ≡ Some f
    → main_of lib.flows main ≡ Some g → Gives (inputs_in lib.structs g bytes) r → IfOk r (λ env. inputs_fit lib.structs f.inputs env ≡ true)
answer_fits lib main f g bytes (Ok env) checked at found h = given_fit lib main f g bytes env checked at found h
answer_fits lib main f g bytes (Err e) checked at found h = tt
