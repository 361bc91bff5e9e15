-- Scatters and conditions, over a table and over one that answers more.
use Rattle.std.proofs.Common.{◌≡◌, ℕ, ◌+◌, Bool, true, false, List, [], ◌∷◌, ◌++◌, map, Option, Some, None, option_and_then, Ok, Err, codes, sym, ap, ◌∙◌, subst, refl}
use Rattle.std.specs.List.{list_all}
use Rattle.std.proofs.lemmas.Bool.{and_from, and_parts}
use Rattle.wdl_base.specs.declared.name.Key.{Key}
use Rattle.wdl_base.specs.declared.place.Segment.{Segment}
use Rattle.wdl_base.specs.declared.place.Segment.TheVariants as segment
use Rattle.wdl_value.specs.declared.value.Value.{Value}
use Rattle.wdl_value.specs.declared.value.Value.TheVariants as v
use Rattle.wdl_value.specs.Outcome.{Outcome}
use Rattle.wdl_value.specs.Parts.{bool_in, items_in}
use Rattle.wdl_typed.specs.declared.expr.TExpr.{TExpr}
use Rattle.wdl_typed.specs.Declarations.{plain_key}
use Rattle.wdl_typed.specs.Evaluation.{value_of}
use Rattle.wdl_typed.specs.Flow.{Ended, Flowing, Known, Names, Runner, Sight, all_known, all_together, all_values, chosen, conditional, each_item, env_of, fault_at, gathered, gathered_call, gathered_name, giving, has_ended, if_run, inside, is_clean, item_sight, missing, nothing, scatter_run, scattered, value_in, with_fault}
use Rattle.wdl_typed.specs.Journal.{keys_distinct}
use Rattle.wdl_typed.specs.Lists.{has_name}
use Rattle.wdl_typed.specs.Requests.{before}
use Rattle.flow_laws.specs.Below.{Stays}
use Rattle.flow_laws.proofs.Agree.{value_same}
use Rattle.flow_laws.proofs.Clean.{clean_parts}
use Rattle.flow_laws.proofs.Guarded.{fresh_stays, guarded_good}
use Rattle.flow_laws.proofs.Keys.{distinct_right}
use Rattle.flow_laws.proofs.KnownNames.{NamesStay, calls_of, keys_of, known_agree, known_expr_stays, lookup_stays, names_stay_both, names_stay_same}
use Rattle.flow_laws.proofs.Runners.{Fresh, Good, fresh_item, sight}
use Rattle.flow_laws.proofs.Under.{CallsStay, Gives, Under, ended_stays, giving_gives, keys_append, missing_gives, under_itself, under_together}

-- ---- what the items give

pub gathered_keys : (fs : List Flowing) (ks : List Key) → keys_of (map (gathered_name fs) ks) ≡ ks
gathered_keys fs [] = refl
gathered_keys fs (k ∷ ks) = ap (λ z. k ∷ z) (gathered_keys fs ks)

pub gathered_calls : (fs : List Flowing) (cs : List (List ℕ)) → calls_of (map (gathered_call fs) cs) ≡ cs
gathered_calls fs [] = refl
gathered_calls fs (c ∷ cs) = ap (λ z. c ∷ z) (gathered_calls fs cs)

gathered_gives : (n : Names) (fs : List Flowing) → Gives n (gathered n fs)
gathered_gives n fs = record { keys = gathered_keys fs n.keys; calls = gathered_calls fs n.calls }

module _ (n : Names) where
  -- item by item, over the first table and over the second one
  abbrev Items : List Flowing → List Flowing → Type 0
  Items [] [] = Unit {0}
  Items [] (g ∷ gs) = ⊥
  Items (f ∷ fs) [] = ⊥
  Items (f ∷ fs) (g ∷ gs) = Gives n f × Under f g × Items fs gs

  values_stay : keys_distinct n.keys ≡ true → (key : Key) (fs gs : List Flowing) → Items fs gs → Stays (all_values (map (value_in key) fs)) (all_values (map (value_in key) gs))
  values_stay d key [] [] h xs e = e
  values_stay d key [] (g ∷ gs) h xs e = absurd h
  values_stay d key (f ∷ fs) [] h xs e = absurd h
  values_stay d key (f ∷ fs) (g ∷ gs) h xs e =
      both (value_in key f) (value_in key g) (all_values (map (value_in key) fs)) (all_values (map (value_in key) gs))
      (lookup_stays f.names g.names h.1.names (ap keys_distinct h.0.keys ∙ d) key) (values_stay d key fs gs h.2) e
    where
      both : (o p : Option Value) (q r : Option (List Value)) → Stays o p → Stays q r → option_and_then (λ x. option_and_then (λ ys. Some (x ∷ ys)) q) o ≡ Some xs
          → option_and_then (λ x. option_and_then (λ ys. Some (x ∷ ys)) r) p ≡ Some xs
      both (Some x) p (Some ys) r s t e =
          ap (option_and_then (λ x. option_and_then (λ ys. Some (x ∷ ys)) r)) (s x refl)
          ∙ ap (option_and_then (λ ys. Some (x ∷ ys))) (t ys refl) ∙ e
      both (Some x) p None r s t e = cc
      both None p q r s t e = cc

  names_stay : keys_distinct n.keys ≡ true → (fs gs : List Flowing) → Items fs gs → (ks : List Key) → NamesStay (map (gathered_name fs) ks) (map (gathered_name gs) ks)
  names_stay d fs gs h [] = tt
  names_stay d fs gs h (k ∷ ks) = (record { key = refl; value = listed (all_values (map (value_in k) fs)) (all_values (map (value_in k) gs)) (values_stay d k fs gs h) }, names_stay d fs gs h ks)
    where
      listed : (q r : Option (List Value)) → Stays q r → Stays (option_and_then (λ xs. Some (v.List xs)) q) (option_and_then (λ xs. Some (v.List xs)) r)
      listed (Some xs) r s x e = ap (option_and_then (λ ys. Some (v.List ys))) (s xs refl) ∙ e
      listed None r s x e = cc

  call_stays : (call : List ℕ) (fs gs : List Flowing) → Items fs gs → list_all (λ (f : Flowing). has_ended f.calls call) fs ≡ true → list_all (λ (f : Flowing). has_ended f.calls call) gs ≡ true
  call_stays call [] [] h e = refl
  call_stays call [] (g ∷ gs) h e = absurd h
  call_stays call (f ∷ fs) [] h e = absurd h
  call_stays call (f ∷ fs) (g ∷ gs) h e =
      let p = and_parts (has_ended f.calls call) (list_all (λ (x : Flowing). has_ended x.calls call) fs) e in
      and_from (has_ended g.calls call) (list_all (λ (x : Flowing). has_ended x.calls call) gs) (ended_stays f.calls g.calls h.1.calls call p.0) (call_stays call fs gs h.2 p.1)

  calls_stay : (fs gs : List Flowing) → Items fs gs → (cs : List (List ℕ)) → CallsStay (map (gathered_call fs) cs) (map (gathered_call gs) cs)
  calls_stay fs gs h [] = tt
  calls_stay fs gs h (c ∷ cs) = (record { call = refl; ended = call_stays c fs gs h }, calls_stay fs gs h cs)

  together_stay : (fs gs : List Flowing) → Items fs gs → Under (all_together fs) (all_together gs)
  together_stay [] [] h = under_itself nothing
  together_stay [] (g ∷ gs) h = absurd h
  together_stay (f ∷ fs) [] h = absurd h
  together_stay (f ∷ fs) (g ∷ gs) h = under_together f g (all_together fs) (all_together gs) h.1 (together_stay fs gs h.2)

  gathered_under : keys_distinct n.keys ≡ true → (fs gs : List Flowing) → Items fs gs → Under (gathered n fs) (gathered n gs)
  gathered_under d fs gs h =
      let all = together_stay fs gs h in
      record { names = names_stay d fs gs h n.keys; calls = calls_stay fs gs h n.calls; jobs = all.jobs; size = all.size; faults = all.faults; count = all.count }

-- ---- scatters

module _ (taken : List (List ℕ)) (n : Names) (f g : Runner) (k : ℕ) (item : List ℕ) (free : has_name item taken ≡ false) (good : Good (item ∷ taken) n f g) where
  scattered_gives : (h : Runner) (s : Sight) (r : Outcome Value) → Gives n (scattered n h s k item r)
  scattered_gives h s (Ok x) = gathered_gives n (each_item h s k item 0 (items_in x))
  scattered_gives h s (Err c) = let m = missing_gives n in record { keys = m.keys; calls = m.calls }

  items_stay : (p : List Segment) (ks ls : List Known) (cs ds : List Ended) → NamesStay ks ls → CallsStay cs ds → Fresh taken (keys_of ks ++ n.keys)
      → (i : ℕ) (xs : List Value) → Items n (each_item f (sight p ks cs) k item i xs) (each_item g (sight p ls ds) k item i xs)
  items_stay p ks ls cs ds u w fresh i [] = tt
  items_stay p ks ls cs ds u w fresh i (x ∷ xs) =
      let one : List Known = record { key = plain_key item; value = Some x } ∷ [] in
      let place = (p ++ segment.Scatter k ∷ []) ++ segment.Index i ∷ [] in
      let names = names_stay_both ks ls one one u (names_stay_same one) in
      let inner = subst (λ (z : List Key). Fresh (item ∷ taken) (z ++ n.keys)) (sym (keys_append ks one)) (fresh_item taken item (keys_of ks) n.keys free fresh) in
      (good.left (item_sight (sight p ks cs) k item i x), good.under place (ks ++ one) (ls ++ one) cs ds names w inner, items_stay p ks ls cs ds u w fresh (i + 1) xs)

  items_same : (s : Sight) (i : ℕ) (xs : List Value) → is_clean (all_together (each_item f s k item i xs)) ≡ true → each_item f s k item i xs ≡ each_item g s k item i xs
  items_same s i [] h = refl
  items_same s i (x ∷ xs) h =
      let p = clean_parts (f (item_sight s k item i x)) (all_together (each_item f s k item (i + 1) xs)) h in
      ap (λ (y : Flowing). y ∷ each_item f s k item (i + 1) xs) (good.same (item_sight s k item i x) p.0)
      ∙ ap (λ (ys : List Flowing). g (item_sight s k item i x) ∷ ys) (items_same s (i + 1) xs p.1)

  scattered_under : (p : List Segment) (ks ls : List Known) (cs ds : List Ended) → NamesStay ks ls → CallsStay cs ds → Fresh taken (keys_of ks ++ n.keys) → (r : Outcome Value)
      → Under (scattered n f (sight p ks cs) k item r) (scattered n g (sight p ls ds) k item r)
  scattered_under p ks ls cs ds u w fresh (Ok x) =
      gathered_under n (distinct_right (keys_of ks) n.keys fresh.distinct) (each_item f (sight p ks cs) k item 0 (items_in x)) (each_item g (sight p ls ds) k item 0 (items_in x))
      (items_stay p ks ls cs ds u w fresh 0 (items_in x))
  scattered_under p ks ls cs ds u w fresh (Err c) = under_itself (with_fault (fault_at (p ++ segment.Scatter k ∷ []) item c) (missing n))

  scattered_same : (s : Sight) (r : Outcome Value) → is_clean (scattered n f s k item r) ≡ true → scattered n f s k item r ≡ scattered n g s k item r
  scattered_same s (Ok x) h = ap (gathered n) (items_same s 0 (items_in x) h)
  scattered_same s (Err c) h = refl

  pub scatter_good : (over : TExpr) → Good taken n (scatter_run n f k item over) (scatter_run n g k item over)
  scatter_good over =
      guarded_good taken n (λ (s : Sight). all_known s.names over) (over_items f) (over_items g)
      (λ s. scattered_gives f s (value_of (before (env_of s.names)) over))
      (λ s. scattered_gives g s (value_of (before (env_of s.names)) over))
      (λ p ks ls cs ds u w fresh h. known_expr_stays ks ls (fresh_stays taken n.keys ks ls u fresh) over h)
      (λ p ks ls cs ds u w fresh h.
      subst (λ (r : Outcome Value). Under (over_items f (sight p ks cs)) (scattered n g (sight p ls ds) k item r))
      (value_same (env_of ks) (env_of ls) over (known_agree ks ls (fresh_stays taken n.keys ks ls u fresh) over h))
      (scattered_under p ks ls cs ds u w fresh (value_of (before (env_of ks)) over)))
      (λ s h. scattered_same s (value_of (before (env_of s.names)) over) h)
    where
      over_items : Runner → Runner
      over_items h s = scattered n h s k item (value_of (before (env_of s.names)) over)

-- ---- conditions

module _ (taken : List (List ℕ)) (n : Names) (f g : Runner) (k : ℕ) (good : Good taken n f g) where
  chosen_gives : (h : Runner) → ((s : Sight) → Gives n (h s)) → (s : Sight) (b : Bool) → Gives n (chosen n h s k b)
  chosen_gives h gives s true = gives (inside s (segment.If k))
  chosen_gives h gives s false = giving_gives (Some v.Absent) true n

  conditional_gives : (h : Runner) → ((s : Sight) → Gives n (h s)) → (s : Sight) (r : Outcome Value) → Gives n (conditional n h s k r)
  conditional_gives h gives s (Ok x) = chosen_gives h gives s (bool_in x)
  conditional_gives h gives s (Err c) = let m = missing_gives n in record { keys = m.keys; calls = m.calls }

  chosen_under : (p : List Segment) (ks ls : List Known) (cs ds : List Ended) → NamesStay ks ls → CallsStay cs ds → Fresh taken (keys_of ks ++ n.keys) → (b : Bool)
      → Under (chosen n f (sight p ks cs) k b) (chosen n g (sight p ls ds) k b)
  chosen_under p ks ls cs ds u w fresh true = good.under (p ++ segment.If k ∷ []) ks ls cs ds u w fresh
  chosen_under p ks ls cs ds u w fresh false = under_itself (giving (Some v.Absent) true n)

  conditional_under : (p : List Segment) (ks ls : List Known) (cs ds : List Ended) → NamesStay ks ls → CallsStay cs ds → Fresh taken (keys_of ks ++ n.keys) → (r : Outcome Value)
      → Under (conditional n f (sight p ks cs) k r) (conditional n g (sight p ls ds) k r)
  conditional_under p ks ls cs ds u w fresh (Ok x) = chosen_under p ks ls cs ds u w fresh (bool_in x)
  conditional_under p ks ls cs ds u w fresh (Err c) = under_itself (with_fault (fault_at (p ++ segment.If k ∷ []) (codes "if") c) (missing n))

  chosen_same : (s : Sight) (b : Bool) → is_clean (chosen n f s k b) ≡ true → chosen n f s k b ≡ chosen n g s k b
  chosen_same s true h = good.same (inside s (segment.If k)) h
  chosen_same s false h = refl

  conditional_same : (s : Sight) (r : Outcome Value) → is_clean (conditional n f s k r) ≡ true → conditional n f s k r ≡ conditional n g s k r
  conditional_same s (Ok x) h = chosen_same s (bool_in x) h
  conditional_same s (Err c) h = refl

  pub if_good : (cond : TExpr) → Good taken n (if_run n f k cond) (if_run n g k cond)
  if_good cond =
      guarded_good taken n (λ (s : Sight). all_known s.names cond) (on_cond f) (on_cond g)
      (λ s. conditional_gives f good.left s (value_of (before (env_of s.names)) cond))
      (λ s. conditional_gives g good.right s (value_of (before (env_of s.names)) cond))
      (λ p ks ls cs ds u w fresh h. known_expr_stays ks ls (fresh_stays taken n.keys ks ls u fresh) cond h)
      (λ p ks ls cs ds u w fresh h.
      subst (λ (r : Outcome Value). Under (on_cond f (sight p ks cs)) (conditional n g (sight p ls ds) k r))
      (value_same (env_of ks) (env_of ls) cond (known_agree ks ls (fresh_stays taken n.keys ks ls u fresh) cond h))
      (conditional_under p ks ls cs ds u w fresh (value_of (before (env_of ks)) cond)))
      (λ s h. conditional_same s (value_of (before (env_of s.names)) cond) h)
    where
      on_cond : Runner → Runner
      on_cond h s = conditional n h s k (value_of (before (env_of s.names)) cond)
