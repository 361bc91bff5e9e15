-- What is gathered, item by item.
use Rattle.std.proofs.Common.{◌≡◌, ℕ, ◌+◌, Bool, true, ◌&&◌, List, [], ◌∷◌, ◌++◌, length, map, Option, Some, option_and_then, sym, ap, ◌∙◌, subst, refl, arith}
use Rattle.std.specs.List.{list_all}
use Rattle.std.proofs.lemmas.List.{map-append}
use Rattle.wdl_base.specs.declared.name.Key.{Key}
use Rattle.wdl_value.specs.declared.value.Value.{Value}
use Rattle.wdl_value.specs.declared.value.Value.TheVariants as v
use Rattle.wdl_typed.specs.Flow as flow
use Rattle.wdl_typed.specs.Flow.{Flowing, Names, Runner, Sight, all_together, each_item, nothing, too_many, together, with_names}
use Rattle.wdl_typed.specs.Scope.{lookup}
use Rattle.wdl_plain.specs.declared.flowing.Flowing.{Flowing as Made}
use Rattle.wdl_plain.specs.declared.gathering.Gathering.{Gathering}
use Rattle.wdl_plain.specs.declared.known.Ended.{Ended}
use Rattle.wdl_plain.specs.declared.known.Known.{Known}
use Rattle.wdl_plain.specs.Gathered as code
use Rattle.wdl_plain.specs.Gathers.{IsGathered, calls_in, names_in}
use Rattle.wdl_plain.specs.Views.{endeds_of, flowing_of, knowns_of}
use Rattle.wdl_plain.specs.Flows.{quiet}
use Rattle.wdl_plain.proofs.Limits.{many_left, many_right}
use Rattle.wdl_plain.proofs.Turns.{counted_zero, together_assoc, together_nothing}

fused : {A B C : Type 0} (f : A → B) (g : B → C) (xs : List A) → map g (map f xs) ≡ map (λ x. g (f x)) xs
fused f g [] = refl
fused f g (x ∷ xs) = ap (λ ys. g (f x) ∷ ys) (fused f g xs)

pub values_same : (key : Key) (items : List (List Known)) (fs : List Flowing) → map knowns_of items ≡ names_in fs → map (code.value_at key) items ≡ map (flow.value_in key) fs
values_same key items fs h =
    let look : List flow.Known → Option Value = λ ns. lookup (flow.env_of ns) key in
    sym (fused knowns_of look items) ∙ ap (map look) h ∙ fused (λ (f : Flowing). f.names) look fs

pub ended_same : (call : List ℕ) (items : List (List Ended)) (fs : List Flowing) → map endeds_of items ≡ calls_in fs
    → code.have_all_ended items call ≡ list_all (λ (f : Flowing). flow.has_ended f.calls call) fs
ended_same call items fs h =
    let look : List flow.Ended → Bool = λ es. flow.has_ended es call in
    sym (all_fused endeds_of look items) ∙ ap (list_all look) h ∙ all_fused (λ (f : Flowing). f.calls) look fs
  where
    all_fused : {A B : Type 0} (f : A → B) (g : B → Bool) (xs : List A) → list_all g (map f xs) ≡ list_all (λ x. g (f x)) xs
    all_fused f g [] = refl
    all_fused f g (x ∷ xs) = ap (λ b. g (f x) && b) (all_fused f g xs)

pub gathered_names_same : (items : List (List Known)) (fs : List Flowing) → map knowns_of items ≡ names_in fs → (keys : List Key) → map (code.gathered_name items) keys ≡ map (flow.gathered_name fs) keys
gathered_names_same items fs h [] = refl
gathered_names_same items fs h (k ∷ ks) =
    let named : Option (List Value) → flow.Known = λ o. record { key = k; value = option_and_then (λ xs. Some (v.List xs)) o } in
    ap (λ (z : flow.Known). z ∷ map (code.gathered_name items) ks) (ap (λ os. named (flow.all_values os)) (values_same k items fs h))
    ∙ ap (λ zs. flow.gathered_name fs k ∷ zs) (gathered_names_same items fs h ks)

pub gathered_calls_same : (items : List (List Ended)) (fs : List Flowing) → map endeds_of items ≡ calls_in fs → (calls : List (List ℕ)) → map (code.gathered_call items) calls ≡ map (flow.gathered_call fs) calls
gathered_calls_same items fs h [] = refl
gathered_calls_same items fs h (c ∷ cs) =
    let named : Bool → flow.Ended = λ b. record { call = c; ended = b } in
    ap (λ (z : flow.Ended). z ∷ map (code.gathered_call items) cs) (ap named (ended_same c items fs h))
    ∙ ap (λ zs. flow.gathered_call fs c ∷ zs) (gathered_calls_same items fs h cs)

-- ---- one item more

pub together_push : (fs : List Flowing) (f : Flowing) → all_together (fs ++ f ∷ []) ≡ together (all_together fs) f
together_push [] f = together_nothing f ∙ sym (nothing_together f)
  where
    nothing_together : (g : Flowing) → together nothing g ≡ g
    nothing_together g = counted_zero g
together_push (g ∷ gs) f = ap (together g) (together_push gs f) ∙ sym (together_assoc g (all_together gs) f)

pub each_push : (body : Runner) (s : Sight) (k : ℕ) (item : List ℕ) (i : ℕ) (xs : List Value) (x : Value)
    → each_item body s k item i (xs ++ x ∷ []) ≡ each_item body s k item i xs ++ body (flow.item_sight s k item (i + length xs) x) ∷ []
each_push body s k item i [] x = ap (λ n. body (flow.item_sight s k item n x) ∷ []) (let e : i ≡ i + 0 = omega arith in e)
each_push body s k item i (y ∷ ys) x =
    ap (λ fs. body (flow.item_sight s k item i y) ∷ fs) (each_push body s k item (i + 1) ys x)
    ∙ ap (λ n. body (flow.item_sight s k item i y) ∷ (each_item body s k item (i + 1) ys ++ body (flow.item_sight s k item n x) ∷ [])) (let e : i + 1 + length ys ≡ i + length (y ∷ ys) = omega arith in e)

-- the flows of all items, those that are past a limit among them
pub many_pushed : (fs gs : List Flowing) (f : Flowing) → too_many f ≡ true → too_many (all_together (fs ++ f ∷ gs)) ≡ true
many_pushed [] gs f h = many_left f (all_together gs) h
many_pushed (g ∷ fs) gs f h = many_right g (all_together (fs ++ f ∷ gs)) (many_pushed fs gs f h)

pub many_front : (fs gs : List Flowing) → too_many (all_together fs) ≡ true → too_many (all_together (fs ++ gs)) ≡ true
many_front fs gs h = subst (λ (z : Flowing). too_many z ≡ true) (sym (together_append fs gs)) (many_left (all_together fs) (all_together gs) h)
  where
    together_append : (as_ bs : List Flowing) → all_together (as_ ++ bs) ≡ together (all_together as_) (all_together bs)
    together_append [] bs = sym (counted_zero (all_together bs))
    together_append (a ∷ as_) bs = ap (together a) (together_append as_ bs) ∙ sym (together_assoc a (all_together as_) (all_together bs))

-- ---- what the code holds

-- what is given by no names and no calls is quiet
pub quieted : (total : Flowing) (item : Made) (ns : List Known) (es : List Ended) → ns ≡ [] → es ≡ []
    → together total (flowing_of (record { names = ns; calls = es; jobs = item.jobs; faults = item.faults; waits = item.waits; count = item.count })) ≡ together total (quiet (flowing_of item))
quieted total item ns es none_named none_called =
    ap (λ (xs : List Known). together total (with_names (flowing_of item) (knowns_of xs) (endeds_of es))) none_named
    ∙ ap (λ (xs : List Ended). together total (with_names (flowing_of item) [] (endeds_of xs))) none_called

pub gathered_with : (g g' : Gathering) (item : Made) (ns : List Known) (es : List Ended) → g'.names ≡ g.names ++ ns ∷ [] → ns ≡ item.names → g'.calls ≡ g.calls ++ es ∷ [] → es ≡ item.calls
    → flowing_of g'.total ≡ together (flowing_of g.total) (quiet (flowing_of item)) → (fs : List Flowing) → IsGathered g fs → IsGathered g' (fs ++ flowing_of item ∷ [])
gathered_with g g' item ns es named named_is called called_is total fs is = record {
  names =
      ap (map knowns_of) (named ∙ ap (λ (xs : List Known). g.names ++ xs ∷ []) named_is)
      ∙ map-append knowns_of g.names (item.names ∷ [])
      ∙ ap (λ xs. xs ++ knowns_of item.names ∷ []) is.names
      ∙ sym (map-append (λ (f : Flowing). f.names) fs (flowing_of item ∷ []));
  calls =
      ap (map endeds_of) (called ∙ ap (λ (xs : List Ended). g.calls ++ xs ∷ []) called_is)
      ∙ map-append endeds_of g.calls (item.calls ∷ [])
      ∙ ap (λ xs. xs ++ endeds_of item.calls ∷ []) is.calls
      ∙ sym (map-append (λ (f : Flowing). f.calls) fs (flowing_of item ∷ []));
  total =
      total
      ∙ ap (λ (z : Flowing). together z (quiet (flowing_of item))) is.total
      ∙ sym (ap quiet (together_push fs (flowing_of item)));
}

pub gathered_is : (g : Gathering) (given : Names) (ns : List Known) (es : List Ended) (fs : List Flowing) → IsGathered g fs
    → knowns_of ns ≡ map (code.gathered_name g.names) given.keys → endeds_of es ≡ map (code.gathered_call g.calls) given.calls
    → with_names (flowing_of g.total) (knowns_of ns) (endeds_of es) ≡ flow.gathered given fs
gathered_is g given ns es fs is named called =
    ap (λ (t : Flowing). with_names t (knowns_of ns) (endeds_of es)) is.total
    ∙ ap (λ x. with_names (all_together fs) x (endeds_of es)) (named ∙ gathered_names_same g.names fs is.names given.keys)
    ∙ ap (λ x. with_names (all_together fs) (map (flow.gathered_name fs) given.keys) x) (called ∙ gathered_calls_same g.calls fs is.calls given.calls)
