-- The arguments of a call, and the same with leaves in the places of struct inputs.
use Rattle.std.proofs.Common.{◌≡◌, ℕ, Bool, true, false, cond, not, ◌&&◌, List, [], ◌∷◌, ◌++◌, map, Option, Some, None, Ok, Err, sym, ap, ◌∙◌, subst, refl}
use Rattle.std.specs.Prelude.{is_none}
use Rattle.std.specs.List.{list_all}
use Rattle.std.proofs.lemmas.Bool.{false≢true, and_from, and_parts}
use Rattle.std.proofs.lemmas.Option.{same_Some}
use Rattle.wdl_base.specs.declared.name.Key.{Key}
use Rattle.wdl_value.specs.declared.env.Bind.{Bind}
use Rattle.wdl_value.specs.declared.ty.Ty.{Ty}
use Rattle.wdl_value.specs.declared.value.Value.{Value}
use Rattle.wdl_value.specs.Fits.{Structs, fits}
use Rattle.wdl_value.specs.Limits.{is_within}
use Rattle.wdl_value.specs.Outcome.{Outcome}
use Rattle.wdl_value.proofs.SameTypeLemmas.{same_type-true}
use Rattle.wdl_typed.specs.declared.expr.TExpr.{TExpr}
use Rattle.wdl_typed.specs.declared.expr.TExpr.TheVariants as e
use Rattle.wdl_typed.specs.declared.expr.TField.{TField}
use Rattle.wdl_typed.specs.declared.scope.Bound.{Bound}
use Rattle.wdl_typed.specs.declared.task.TInput.{TInput}
use Rattle.wdl_typed.specs.Bodies.{arg_typed, args_typed, input_type}
use Rattle.wdl_typed.specs.Declarations.{context, in_body, plain_key}
use Rattle.wdl_eval.specs.Nodes.{within}
use Rattle.wdl_typed.specs.Evaluation.{Met, found, settled, then_, value_of}
use Rattle.wdl_typed.specs.Flow.{Known, all_known, arg_bind, args_known, args_met, env_of, named_arg}
use Rattle.wdl_typed.specs.KnownTypes.{is_some}
use Rattle.wdl_typed.specs.Lists.{has_name}
use Rattle.wdl_typed.specs.Requests.{Tried, before, tried}
use Rattle.wdl_typed.specs.Scope.{lookup, names_of, type_in}
use Rattle.wdl_typed.specs.Typing.{is_type}
use Rattle.wdl_swaps.specs.declared.chain.Chain.{Chain}
use Rattle.wdl_swaps.specs.declared.chain.Hop.{Hop}
use Rattle.wdl_swaps.specs.Agreement.{is_fine, is_found, met_in}
use Rattle.wdl_swaps.specs.Chains.{along, chain_of, expr_of}
use Rattle.wdl_swaps.specs.Swaps.{swap_at, swapped}
use Rattle.wdl_swaps.proofs.Names.{names_agree, names_chain}
use Rattle.wdl_swaps.proofs.Values.{values_agree}
use Rattle.leaf_image.specs.declared.leaf.Leaf.{Leaf}
use Rattle.leaf_image.specs.Inside.{Each}
use Rattle.leaf_image.specs.Records.{Callee, Own, all_args, each_arg, farther, is_own, is_path, is_record_of, leaf_arg, leaf_args, member_hops, of_input, or_itself, plain_arg, swaps_of}
use Rattle.record_laws.specs.Given.{along_path, bind_met, leaf_binds}
use Rattle.record_laws.proofs.ChainLaws.{hops_more, is_chain, path_more, path_of, path_typed}
use Rattle.record_laws.proofs.Fine.{all_ok, left, names_ok}
use Rattle.record_laws.proofs.Giving.{Alike, Fitting, members, none, plain}
use Rattle.record_laws.proofs.LeafNames.{each_kept, leaf_names, own_inputs}
use Rattle.record_laws.proofs.Pairing.{LeavesOf, Paired, agrees, places, seen}
use Rattle.record_laws.proofs.Paths.{kept_value, met_along, met_get, path_leads}
use Rattle.record_laws.proofs.Places.{OfRecord}

-- ---- lists of arguments

typed_left : (structs : Structs) (names : List Bound) (is : List TInput) (xs ys : List (TField TExpr)) → args_typed structs names is (xs ++ ys) ≡ true → args_typed structs names is xs ≡ true
typed_left structs names is [] ys h = refl
typed_left structs names is (x ∷ xs) ys h =
    let p = and_parts (arg_typed (input_type is x.name) (in_body structs names x.value)) (args_typed structs names is (xs ++ ys)) h in
    and_from (arg_typed (input_type is x.name) (in_body structs names x.value)) (args_typed structs names is xs) p.0 (typed_left structs names is xs ys p.1)

typed_right : (structs : Structs) (names : List Bound) (is : List TInput) (xs ys : List (TField TExpr)) → args_typed structs names is (xs ++ ys) ≡ true → args_typed structs names is ys ≡ true
typed_right structs names is [] ys h = h
typed_right structs names is (x ∷ xs) ys h =
    typed_right structs names is xs ys (and_parts (arg_typed (input_type is x.name) (in_body structs names x.value)) (args_typed structs names is (xs ++ ys)) h).1

-- an argument of exactly the type of an input
arg_type : (i o : Option Ty) → arg_typed i o ≡ true → (u : Ty) × (i ≡ Some u) × (o ≡ Some u)
arg_type None o h = absurd (false≢true h)
arg_type (Some u) o h = by_type o h
  where
    by_type : (o : Option Ty) → is_type o u ≡ true → (w : Ty) × (Some u ≡ Some w) × (o ≡ Some w)
    by_type None h = absurd (false≢true h)
    by_type (Some t) h = (u, refl, ap Some (same_type-true t u h))

-- the arguments of both, or the same failure
abbrev pub ArgsSame : Structs → List TInput → List Leaf → Tried (List Bind) → Tried (List Bind) → Type 0
ArgsSame structs cis cls (Ok bs) (Ok cs) = Alike structs cis cls bs cs
ArgsSame structs cis cls (Ok bs) (Err f) = ⊥
ArgsSame structs cis cls (Err e) (Ok cs) = ⊥
ArgsSame structs cis cls (Err e) (Err f) = e ≡ f

-- arguments that are known where the others are, with the same outcome
pub record ArgsMet (structs : Structs) (cis : List TInput) (cls : List Leaf) (old now : List Known) (as_ bs : List (TField TExpr)) : Type 0 where
  pub known : args_known old as_ ≡ args_known now bs
  pub met : ArgsSame structs cis cls (args_met (env_of old) as_) (args_met (env_of now) bs)

module _ (structs : Structs) (is : List TInput) (ls : List Leaf) (fine : LeavesOf is ls) (old now : List Known) (paired : Paired is ls (env_of old) (env_of now))
    (record_known : (n : List ℕ) → is_record_of is n ≡ true → (x : Value) × (lookup (env_of old) (plain_key n) ≡ Some x) × Fitting structs is ls n x)
    (nb mb : List Bound) (ob : all_ok (seen ls) nb) (on : all_ok (left is) mb)
    (typed_as : (n : List ℕ) (t : Ty) → is_record_of is n ≡ true → input_type is n ≡ Some t → type_in nb (plain_key n) ≡ Some t)
    (cis : List TInput) (cls : List Leaf) (of : Each (λ (l : Leaf). OfRecord structs cis l.input l.path l.ty) cls)
    (oi ni : List TInput) (own_type : (n : List ℕ) (t : Ty) → is_record_of cis n ≡ true → input_type oi n ≡ Some t → input_type cis n ≡ Some t)
    (no_leaf : (n : List ℕ) (t : Ty) → input_type oi n ≡ Some t → has_name n (leaf_names cls) ≡ false)
    (gone : (n : List ℕ) → is_record_of cis n ≡ true → input_type ni n ≡ None) where
  abbrev own : Own
  own = record { inputs = is; swaps = swaps_of ls }

  abbrev callee : Callee
  callee = record { inputs = cis; leaves = cls }

  abbrev ArgsAgree : Tried (List Bind) → Tried (List Bind) → Type 0
  ArgsAgree = ArgsSame structs cis cls

  abbrev Agree : List (TField TExpr) → List (TField TExpr) → Type 0
  Agree = ArgsMet structs cis cls old now

  -- ---- an argument that stays

  abbrev one_more : List ℕ → Outcome Value → Tried (List Bind) → Tried (List Bind)
  one_more name o r = tried (named_arg name o) (λ x. tried r (λ more. Ok (arg_bind name x ∷ more)))

  plain_agrees : (name : List ℕ) (o : Outcome Value) (r q : Tried (List Bind)) → is_record_of cis name ≡ false → has_name name (leaf_names cls) ≡ false → ArgsAgree r q → ArgsAgree (one_more name o r) (one_more name o q)
  plain_agrees name (Err c) r q not_own leaf h = refl
  plain_agrees name (Ok x) (Ok bs) (Ok cs) not_own leaf h = plain (arg_bind name x) not_own leaf h
  plain_agrees name (Ok x) (Ok bs) (Err f) not_own leaf h = absurd h
  plain_agrees name (Ok x) (Err e) (Ok cs) not_own leaf h = absurd h
  plain_agrees name (Ok x) (Err e) (Err f) not_own leaf h = h

  plain_step : (a : TField TExpr) (as_ bs : List (TField TExpr)) → is_record_of cis a.name ≡ false → arg_typed (input_type oi a.name) (in_body structs nb a.value) ≡ true
      → args_typed structs mb ni (plain_arg (swaps_of ls) a ∷ []) ≡ true → Agree as_ bs → Agree (a ∷ as_) (plain_arg (swaps_of ls) a ∷ bs)
  plain_step a as_ bs not_record typed again rest =
      let t = arg_type (input_type oi a.name) (in_body structs nb a.value) typed in
      let u = arg_type (input_type ni a.name) (in_body structs mb (swapped (swaps_of ls) a.value)) (and_parts (arg_typed (input_type ni a.name) (in_body structs mb (swapped (swaps_of ls) a.value))) true again).0 in
      let ok : is_fine (swaps_of ls) (seen ls) (is_own is) a.value ≡ true =
      and_from (list_all (seen ls) (names_of a.value)) (list_all (left is) (names_of (swapped (swaps_of ls) a.value))) (names_ok (seen ls) structs nb ob a.value t.0 t.2)
      (names_ok (left is) structs mb on (swapped (swaps_of ls) a.value) u.0 u.2) in
      let agree = agrees is ls fine (env_of old) (env_of now) paired in
      let known_places = places is ls fine (env_of old) (env_of now) paired in
      let value : value_of (before (env_of old)) a.value ≡ value_of (before (env_of now)) (swapped (swaps_of ls) a.value) =
      ap settled (sym (values_agree (swaps_of ls) (env_of old) (env_of now) (seen ls) (is_own is) agree a.value ok)) in
      record {
        known =
            ap (λ b. b && args_known old as_) (sym (names_agree (swaps_of ls) (env_of old) (env_of now) (seen ls) (is_own is) agree known_places a.value ok))
            ∙ ap (λ b. all_known now (swapped (swaps_of ls) a.value) && b) rest.known;
        met =
            subst (λ (o : Outcome Value). ArgsAgree (one_more a.name (value_of (before (env_of old)) a.value) (args_met (env_of old) as_)) (one_more a.name o (args_met (env_of now) bs))) value
            (plain_agrees a.name (value_of (before (env_of old)) a.value) (args_met (env_of old) as_) (args_met (env_of now) bs) not_record (no_leaf a.name t.0 t.1) rest.met);
      }

  -- ---- members of a struct input

  module _ (a : TField TExpr) (as_ bs : List (TField TExpr)) (c : Chain) (path : List (List ℕ)) (is_record : is_record_of cis a.name ≡ true) (own_key : is_own is c.key ≡ true)
      (value_is : a.value ≡ expr_of c) (path_is : c.hops ≡ member_hops path) (typed : arg_typed (input_type oi a.name) (in_body structs nb a.value) ≡ true)
      (again : args_typed structs mb ni (map (leaf_arg (swaps_of ls) c) (of_input a.name cls)) ≡ true) (rest : Agree as_ bs) where
    plain_is : (k : Key) → is_own is k ≡ true → k ≡ plain_key k.first
    plain_is k h = by_second k.second refl (and_parts (is_none k.second) (is_record_of is k.first) h).0
      where
        by_second : (o : Option (List ℕ)) → k.second ≡ o → is_none o ≡ true → k ≡ plain_key k.first
        by_second None e g = ap (λ (x : Option (List ℕ)). let key : Key = record { first = k.first; second = x } in key) e
        by_second (Some s) e g = absurd (false≢true g)

    root : c.key ≡ plain_key c.key.first
    root = plain_is c.key own_key

    root_record : is_record_of is c.key.first ≡ true
    root_record = (and_parts (is_none c.key.second) (is_record_of is c.key.first) own_key).1

    at : (x : Value) × (lookup (env_of old) (plain_key c.key.first) ≡ Some x) × Fitting structs is ls c.key.first x
    at = record_known c.key.first root_record

    of_type : (u : Ty) × (input_type oi a.name ≡ Some u) × (in_body structs nb a.value ≡ Some u)
    of_type = arg_type (input_type oi a.name) (in_body structs nb a.value) typed

    root_met : met_in (env_of old) (e.Get c.key) ≡ Ok at.0
    root_met =
        ap (λ (k : Key). met_in (env_of old) (e.Get k)) root
        ∙ met_get (before (env_of old)) (plain_key c.key.first)
        ∙ ap (λ (o : Option Value). within (found o)) at.1
        ∙ kept_value at.0 at.2.3

    leads : (y : Value) × (along_path path at.0 ≡ Ok y) × (fits structs y of_type.0 ≡ true) × (is_within y ≡ true)
    leads =
        path_leads structs path at.0 at.2.0 of_type.0 at.2.2 at.2.3
        (path_typed (context structs nb) false c.key path at.2.0 of_type.0 (ap (type_in nb) root ∙ typed_as c.key.first at.2.0 root_record at.2.1)
        (ap (λ (hs : List Hop). in_body structs nb (along (e.Get c.key) hs)) (sym path_is) ∙ ap (in_body structs nb) (sym value_is) ∙ of_type.2))

    old_met : value_of (before (env_of old)) a.value ≡ Ok leads.0
    old_met =
        ap (value_of (before (env_of old))) value_is
        ∙ ap (λ (hs : List Hop). value_of (before (env_of old)) (along (e.Get c.key) hs)) path_is
        ∙ ap settled (met_along (before (env_of old)) path (e.Get c.key) at.0 root_met at.2.3 ∙ leads.1)

    old_known : all_known old a.value ≡ true
    old_known =
        ap (all_known old) value_is ∙ ap (list_all (is_found (env_of old))) (names_chain c)
        ∙ and_from (is_found (env_of old) c.key) true (ap (is_found (env_of old)) root ∙ ap is_some at.1) refl

    -- the argument for one leaf of it
    record MetAs (l : Leaf) (x : TExpr) : Type 0 where
      value : Value
      leads_to : along_path l.path leads.0 ≡ Ok value
      met : value_of (before (env_of now)) x ≡ Ok value
      known : all_known now x ≡ true

    abbrev LeafMet : Leaf → Type 0
    LeafMet l = MetAs l (leaf_arg (swaps_of ls) c l).value

    -- the value of the leaf in the argument
    end : (l : Leaf) → OfRecord structs cis l.input l.path l.ty → l.input ≡ a.name → (z : Value) × (along_path l.path leads.0 ≡ Ok z) × (is_within z ≡ true)
    end l o i =
        let same : o.of ≡ of_type.0 = same_Some _ _ (sym o.type_is ∙ ap (input_type cis) i ∙ own_type a.name of_type.0 is_record of_type.1) in
        let p = path_leads structs l.path leads.0 o.of l.ty (subst (λ (u : Ty). fits structs leads.0 u ≡ true) (sym same) leads.2) leads.3 o.path_is in
        (p.0, p.1, p.3)

    -- the whole path from the struct input
    whole : (l : Leaf) → met_in (env_of old) (along (e.Get c.key) (c.hops ++ member_hops l.path)) ≡ along_path l.path leads.0
    whole l =
        ap (λ (hs : List Hop). met_in (env_of old) (along (e.Get c.key) hs)) (ap (λ (hs : List Hop). hs ++ member_hops l.path) path_is ∙ sym (hops_more path l.path))
        ∙ met_along (before (env_of old)) (path ++ l.path) (e.Get c.key) at.0 root_met at.2.3
        ∙ path_more path l.path at.0
        ∙ ap (λ (r : Met Value). then_ r (along_path l.path)) leads.1

    by_place : (l : Leaf) → OfRecord structs cis l.input l.path l.ty → l.input ≡ a.name → (o : Option Chain) → swap_at (swaps_of ls) c.key (c.hops ++ member_hops l.path) ≡ o
        → list_all (left is) (names_of (expr_of (or_itself (farther c l.path) o))) ≡ true → MetAs l (expr_of (or_itself (farther c l.path) o))
    by_place l o i None at_ named =
        absurd (false≢true (ap not (sym own_key) ∙ (and_parts (left is c.key) true (sym (ap (list_all (left is)) (names_chain (farther c l.path))) ∙ named)).0))
    by_place l o i (Some d) at_ named =
        let z = end l o i in
        let value : met_in (env_of now) (expr_of d) ≡ Ok z.0 = (agrees is ls fine (env_of old) (env_of now) paired).values c.key (c.hops ++ member_hops l.path) d at_ ∙ whole l ∙ z.1 in
        record {
          value = z.0;
          leads_to = z.1;
          met = ap settled value;
          known =
              ap (list_all (is_found (env_of now))) (names_chain d)
              ∙ and_from (is_found (env_of now) d.key) true
              (places is ls fine (env_of old) (env_of now) paired c.key (c.hops ++ member_hops l.path) d at_ ∙ ap (is_found (env_of old)) root ∙ ap is_some at.1) refl;
        }

    each_leaf : (bl : List Leaf) → Each (λ (l : Leaf). OfRecord structs cis l.input l.path l.ty) bl → Each (λ (l : Leaf). l.input ≡ a.name) bl
        → args_typed structs mb ni (map (leaf_arg (swaps_of ls) c) bl) ≡ true → Each LeafMet bl
    each_leaf [] o i t = tt
    each_leaf (l ∷ bl) o i t =
        let x : TExpr = (leaf_arg (swaps_of ls) c l).value in
        let p = and_parts (arg_typed (input_type ni l.name) (in_body structs mb x)) (args_typed structs mb ni (map (leaf_arg (swaps_of ls) c) bl)) t in
        let u = arg_type (input_type ni l.name) (in_body structs mb x) p.0 in
        (by_place l o.0 i.0 (swap_at (swaps_of ls) c.key (c.hops ++ member_hops l.path)) refl (names_ok (left is) structs mb on x u.0 u.2), each_leaf bl o.1 i.1 p.1)

    leaves_known : (bl : List Leaf) → Each LeafMet bl → args_known now (map (leaf_arg (swaps_of ls) c) bl ++ bs) ≡ args_known now bs
    leaves_known [] h = refl
    leaves_known (l ∷ bl) h = ap (λ b. b && args_known now (map (leaf_arg (swaps_of ls) c) bl ++ bs)) h.0.known ∙ leaves_known bl h.1

    abbrev leaves_before : List Leaf → Tried (List Bind) → Tried (List Bind)
    leaves_before bl r = tried r (λ more. Ok (leaf_binds leads.0 bl ++ more))

    leaves_met : (bl : List Leaf) → Each LeafMet bl → args_met (env_of now) (map (leaf_arg (swaps_of ls) c) bl ++ bs) ≡ leaves_before bl (args_met (env_of now) bs)
    leaves_met [] h = itself (args_met (env_of now) bs)
      where
        itself : (r : Tried (List Bind)) → r ≡ leaves_before [] r
        itself (Ok cs) = refl
        itself (Err x) = refl
    leaves_met (l ∷ bl) h =
        ap (λ (o : Outcome Value). one_more l.name o (args_met (env_of now) (map (leaf_arg (swaps_of ls) c) bl ++ bs))) h.0.met
        ∙ ap (λ (r : Tried (List Bind)). tried r (λ more. Ok (arg_bind l.name h.0.value ∷ more))) (leaves_met bl h.1)
        ∙ both (args_met (env_of now) bs)
        ∙ ap (λ (r : Met Value). tried (args_met (env_of now) bs) (λ more. Ok ((bind_met l.name r ++ leaf_binds leads.0 bl) ++ more))) (sym h.0.leads_to)
      where
        both : (r : Tried (List Bind)) → tried (leaves_before bl r) (λ more. Ok (arg_bind l.name h.0.value ∷ more)) ≡ tried r (λ more. Ok ((arg_bind l.name h.0.value ∷ leaf_binds leads.0 bl) ++ more))
        both (Ok cs) = refl
        both (Err x) = refl

    both_agree : (r q : Tried (List Bind)) → ArgsAgree r q → ArgsAgree (one_more a.name (Ok leads.0) r) (leaves_before (of_input a.name cls) q)
    both_agree (Ok xs) (Ok ys) h = members a.name leads.0 of_type.0 is_record (own_type a.name of_type.0 is_record of_type.1) leads.2 leads.3 h
    both_agree (Ok xs) (Err f) h = absurd h
    both_agree (Err x) (Ok ys) h = absurd h
    both_agree (Err x) (Err f) h = h

    record_step : Agree (a ∷ as_) (map (leaf_arg (swaps_of ls) c) (of_input a.name cls) ++ bs)
    record_step =
        let each = each_leaf (of_input a.name cls) (each_kept (λ (l : Leaf). OfRecord structs cis l.input l.path l.ty) cls a.name of) (own_inputs a.name cls) again in
        record {
          known = ap (λ b. b && args_known old as_) old_known ∙ rest.known ∙ sym (leaves_known (of_input a.name cls) each);
          met =
              subst (λ (o : Outcome Value). ArgsAgree (one_more a.name o (args_met (env_of old) as_)) (args_met (env_of now) (map (leaf_arg (swaps_of ls) c) (of_input a.name cls) ++ bs))) (sym old_met)
              (subst (λ (r : Tried (List Bind)). ArgsAgree (one_more a.name (Ok leads.0) (args_met (env_of old) as_)) r) (sym (leaves_met (of_input a.name cls) each))
              (both_agree (args_met (env_of old) as_) (args_met (env_of now) bs) rest.met));
        }

  -- ---- all arguments

  abbrev Step : TField TExpr → List (TField TExpr) → List (TField TExpr) → List (TField TExpr) → Type 0
  Step a as_ xs bs = args_typed structs mb ni xs ≡ true → Agree (a ∷ as_) (xs ++ bs)

  stays_absurd : (a : TField TExpr) (P : Type 0) → is_record_of cis a.name ≡ true → args_typed structs mb ni (plain_arg (swaps_of ls) a ∷ []) ≡ true → P
  stays_absurd a P r h =
      let p = and_parts (arg_typed (input_type ni a.name) (in_body structs mb (swapped (swaps_of ls) a.value))) true h in
      absurd (false≢true (ap (λ (o : Option Ty). arg_typed o (in_body structs mb (swapped (swaps_of ls) a.value))) (sym (gone a.name r)) ∙ p.0))

  by_chain : (a : TField TExpr) (as_ bs : List (TField TExpr)) → is_record_of cis a.name ≡ true → arg_typed (input_type oi a.name) (in_body structs nb a.value) ≡ true → Agree as_ bs
      → (o : Option Chain) → chain_of a.value ≡ o → Step a as_ (leaf_args own cls a o) bs
  by_chain a as_ bs r t rest None seen_as again = stays_absurd a (Agree (a ∷ as_) (plain_arg (swaps_of ls) a ∷ bs)) r again
  by_chain a as_ bs r t rest (Some c) seen_as again = by_test (is_own is c.key && is_path c.hops) refl again
    where
      by_test : (b : Bool) → (is_own is c.key && is_path c.hops) ≡ b → Step a as_ (cond b (map (leaf_arg (swaps_of ls) c) (of_input a.name cls)) (plain_arg (swaps_of ls) a ∷ [])) bs
      by_test true h again =
          let p = and_parts (is_own is c.key) (is_path c.hops) h in
          let path = path_of c.hops p.1 in
          record_step a as_ bs c path.0 r p.0 (is_chain a.value c seen_as) path.1 t again rest
      by_test false h again = stays_absurd a (Agree (a ∷ as_) (plain_arg (swaps_of ls) a ∷ bs)) r again

  one_step : (a : TField TExpr) (as_ bs : List (TField TExpr)) → arg_typed (input_type oi a.name) (in_body structs nb a.value) ≡ true → Agree as_ bs → (b : Bool) → is_record_of cis a.name ≡ b
      → Step a as_ (cond b (leaf_args own cls a (chain_of a.value)) (plain_arg (swaps_of ls) a ∷ [])) bs
  one_step a as_ bs t rest true r again = by_chain a as_ bs r t rest (chain_of a.value) refl again
  one_step a as_ bs t rest false r again = plain_step a as_ bs r t again rest

  -- The arguments of a call agree, where the call is well typed before and now.
  pub all_agree : (as_ : List (TField TExpr)) → args_typed structs nb oi as_ ≡ true → args_typed structs mb ni (all_args own callee as_) ≡ true → Agree as_ (all_args own callee as_)
  all_agree [] t u = record { known = refl; met = none }
  all_agree (a ∷ as_) t u =
      let p = and_parts (arg_typed (input_type oi a.name) (in_body structs nb a.value)) (args_typed structs nb oi as_) t in
      one_step a as_ (all_args own callee as_) p.0 (all_agree as_ p.1 (typed_right structs mb ni (each_arg own callee a) (all_args own callee as_) u)) (is_record_of cis a.name) refl
      (typed_left structs mb ni (each_arg own callee a) (all_args own callee as_) u)
