-- What two runs give that are the same but for names that are hidden.
use Rattle.std.proofs.Common.{◌≡◌, ℕ, ◌+◌, Bool, true, false, cond, ◌&&◌, ◌||◌, List, [], ◌∷◌, ◌++◌, map, append-nil, append_assoc, arith, Option, Some, None, option_and_then, sym, ap, ◌∙◌, refl}
use Rattle.std.specs.List.{list_all}
use Rattle.std.proofs.lemmas.List.{map-append}
use Rattle.wdl_base.specs.declared.fault.Fault.{Fault}
use Rattle.wdl_base.specs.declared.name.Key.{Key}
use Rattle.wdl_base.specs.declared.place.Segment.{Segment}
use Rattle.wdl_base.specs.declared.request.Request.{Request}
use Rattle.wdl_value.specs.declared.env.Bind.{Bind}
use Rattle.wdl_value.specs.declared.value.Value.{Value}
use Rattle.wdl_value.specs.declared.value.Value.TheVariants as v
use Rattle.wdl_typed.specs.declared.flow.Statement.{Statement}
use Rattle.wdl_typed.specs.declared.task.TDecl.{TDecl}
use Rattle.wdl_typed.specs.Flow.{Ended, Flowing, Known, Names, Part, Runner, Sight, all_given, all_together, all_values, bound_by, each_call, each_key, env_of, flow_ended, gathered, gathered_call, gathered_name, giving, has_ended, in_turn, is_empty, missing, nothing, run_of_part, seeing, together, value_in, with_count, with_fault}
use Rattle.wdl_typed.specs.Requests.{Successes}
use Rattle.wdl_typed.specs.Scope.{is_among, lookup, same_key}
use Rattle.flow_laws.proofs.Keys.{among_append, key_same}
use Rattle.leaf_image.specs.Leaves.{or_else}
use Rattle.record_laws.proofs.Lookups.{names_append}

-- ---- all but names and calls

pub record Told : Type 0 where
  pub jobs : List Request
  pub codes : List Successes
  pub faults : List Fault
  pub waits : List (List Segment)

abbrev pub told : Flowing → Told
told f = record { jobs = f.jobs; codes = f.codes; faults = f.faults; waits = f.waits }

abbrev told_both : Told → Told → Told
told_both a b = record { jobs = a.jobs ++ b.jobs; codes = a.codes ++ b.codes; faults = a.faults ++ b.faults; waits = a.waits ++ b.waits }

abbrev told_fault : Fault → Told → Told
told_fault x a = record { jobs = a.jobs; codes = a.codes; faults = x ∷ a.faults; waits = a.waits }

-- ---- looking up what is given

given_at : (x : Value) (keys : List Key) (key : Key) → lookup (env_of (each_key (Some x) keys)) key ≡ cond (is_among key keys) (Some x) None
given_at x [] key = refl
given_at x (k ∷ keys) key = by_key (same_key k key) (given_at x keys key)
  where
    by_key : (b : Bool) → lookup (env_of (each_key (Some x) keys)) key ≡ cond (is_among key keys) (Some x) None
        → cond b (Some x) (lookup (env_of (each_key (Some x) keys)) key) ≡ cond (b || is_among key keys) (Some x) None
    by_key true rest = refl
    by_key false rest = rest

none_given : (keys : List Key) → env_of (each_key None keys) ≡ []
none_given [] = refl
none_given (k ∷ keys) = none_given keys

-- the list of a name's values
abbrev list_in : List Flowing → Key → Option Value
list_in fs key = option_and_then (λ (xs : List Value). Some (v.List xs)) (all_values (map (value_in key) fs))

gathered_at : (fs : List Flowing) (keys : List Key) (key : Key) → lookup (env_of (map (gathered_name fs) keys)) key ≡ cond (is_among key keys) (list_in fs key) None
gathered_at fs [] key = refl
gathered_at fs (k ∷ keys) key = by_key (same_key k key) refl (gathered_at fs keys key)
  where
    rest_of : List Bind
    rest_of = env_of (map (gathered_name fs) keys)

    at_first : (o : Option Value) (c : Bool) → same_key k key ≡ c → (b : Bool) → lookup rest_of key ≡ cond b (list_in fs key) None → (c ≡ true → o ≡ list_in fs key)
        → lookup (bound_by k o ++ rest_of) key ≡ cond (c || b) (list_in fs key) None
    at_first (Some x) true e b rest own = ap (λ c. cond c (Some x) (lookup rest_of key)) e ∙ own refl
    at_first (Some x) false e b rest own = ap (λ c. cond c (Some x) (lookup rest_of key)) e ∙ rest
    at_first None true e true rest own = rest
    at_first None true e false rest own = rest ∙ own refl
    at_first None false e b rest own = rest

    by_key : (c : Bool) → same_key k key ≡ c → lookup rest_of key ≡ cond (is_among key keys) (list_in fs key) None
        → lookup (bound_by k (list_in fs k) ++ rest_of) key ≡ cond (same_key k key || is_among key keys) (list_in fs key) None
    by_key c e rest =
        at_first (list_in fs k) c e (is_among key keys) rest (λ t. ap (list_in fs) (key_same k key (e ∙ t)))
        ∙ ap (λ b. cond (b || is_among key keys) (list_in fs key) None) (sym e)

module _ (hidden : Key → Bool) where
  -- The same but for hidden names, and for how many statements were entered.
  pub record SameStep (f g : Flowing) : Type 0 where
    pub names : (key : Key) → hidden key ≡ false → lookup (env_of f.names) key ≡ lookup (env_of g.names) key
    pub calls : f.calls ≡ g.calls
    pub told : told f ≡ told g

  pub record SameNames (m n : Names) : Type 0 where
    pub keys : (key : Key) → hidden key ≡ false → is_among key m.keys ≡ is_among key n.keys
    pub calls : m.calls ≡ n.calls

  abbrev pub AllSame : List Flowing → List Flowing → Type 0
  AllSame [] [] = Unit {0}
  AllSame [] (g ∷ gs) = ⊥
  AllSame (f ∷ fs) [] = ⊥
  AllSame (f ∷ fs) (g ∷ gs) = SameStep f g × AllSame fs gs

  pub same_step : (f g : Flowing) → f ≡ g → SameStep f g
  same_step f g e = record { names = λ key h. ap (λ (z : Flowing). lookup (env_of z.names) key) e; calls = ap (λ (z : Flowing). z.calls) e; told = ap told e }

  pub same_names : (m n : Names) → m ≡ n → SameNames m n
  same_names m n e = record { keys = λ key h. ap (λ (z : Names). is_among key z.keys) e; calls = ap (λ (z : Names). z.calls) e }

  -- ---- one after the other

  pub names_behind : (ks ls ms ns : List Known) (key : Key) → lookup (env_of ks) key ≡ lookup (env_of ms) key → lookup (env_of ls) key ≡ lookup (env_of ns) key
      → lookup (env_of (ks ++ ls)) key ≡ lookup (env_of (ms ++ ns)) key
  names_behind ks ls ms ns key e f =
      names_append ks ls key ∙ ap (λ o. or_else o (lookup (env_of ls) key)) e ∙ ap (or_else (lookup (env_of ms) key)) f ∙ sym (names_append ms ns key)

  pub same_together : (f g a b : Flowing) → SameStep f a → SameStep g b → SameStep (together f g) (together a b)
  same_together f g a b h j = record {
    names = λ key s. names_behind f.names g.names a.names b.names key (h.names key s) (j.names key s);
    calls = ap (λ cs. cs ++ g.calls) h.calls ∙ ap (λ cs. a.calls ++ cs) j.calls;
    told = ap (λ t. told_both t (told g)) h.told ∙ ap (told_both (told a)) j.told;
  }

  told_alone : (g : Flowing) → told g ≡ told_both (told g) (told nothing)
  told_alone g =
      let made : List Request → List Successes → List Fault → List (List Segment) → Told = λ a b c d. record { jobs = a; codes = b; faults = c; waits = d } in
      sym (ap (λ xs. made xs (g.codes ++ []) (g.faults ++ []) (g.waits ++ [])) (append-nil g.jobs)
      ∙ ap (λ xs. made g.jobs xs (g.faults ++ []) (g.waits ++ [])) (append-nil g.codes)
      ∙ ap (λ xs. made g.jobs g.codes xs (g.waits ++ [])) (append-nil g.faults)
      ∙ ap (made g.jobs g.codes g.faults) (append-nil g.waits))

  -- with nothing behind it
  pub same_alone : (f g : Flowing) → SameStep f g → SameStep f (together g nothing)
  same_alone f g h = record {
    names = λ key s. h.names key s ∙ ap (λ ks. lookup (env_of ks) key) (sym (append-nil g.names));
    calls = h.calls ∙ sym (append-nil g.calls);
    told = h.told ∙ told_alone g;
  }

  pub names_alone : (m n : Names) → SameNames m n → SameNames m (all_given (n ∷ []))
  names_alone m n h = record {
    keys = λ key s. h.keys key s ∙ ap (is_among key) (sym (append-nil n.keys));
    calls = h.calls ∙ sym (append-nil n.calls);
  }

  pub names_both : (m n a b : Names) → SameNames m a → SameNames n b
      → SameNames (record { keys = m.keys ++ n.keys; calls = m.calls ++ n.calls }) (record { keys = a.keys ++ b.keys; calls = a.calls ++ b.calls })
  names_both m n a b h j = record {
    keys = λ key s.
        among_append key m.keys n.keys ∙ ap (λ t. t || is_among key n.keys) (h.keys key s) ∙ ap (λ t. is_among key a.keys || t) (j.keys key s) ∙ sym (among_append key a.keys b.keys);
    calls = ap (λ cs. cs ++ n.calls) h.calls ∙ ap (λ cs. a.calls ++ cs) j.calls;
  }

  pub same_counted : (f g : Flowing) (i j : ℕ) → SameStep f g → SameStep (with_count i f) (with_count j g)
  same_counted f g i j h = record { names = h.names; calls = h.calls; told = h.told }

  -- ---- names without values, and faults

  each_call_same : (b : Bool) (m n : Names) → SameNames m n → each_call b m.calls ≡ each_call b n.calls
  each_call_same b m n h = ap (each_call b) h.calls

  pub same_missing : (m n : Names) → SameNames m n → SameStep (missing m) (missing n)
  same_missing m n h = record {
    names = λ key s. ap (λ env. lookup env key) (none_given m.keys ∙ sym (none_given n.keys));
    calls = each_call_same false m n h;
    told = refl;
  }

  pub same_giving : (x : Value) (m n : Names) → SameNames m n → SameStep (giving (Some x) true m) (giving (Some x) true n)
  same_giving x m n h = record {
    names = λ key s. given_at x m.keys key ∙ ap (λ b. cond b (Some x) None) (h.keys key s) ∙ sym (given_at x n.keys key);
    calls = each_call_same true m n h;
    told = refl;
  }

  pub same_fault : (x : Fault) (f g : Flowing) → SameStep f g → SameStep (with_fault x f) (with_fault x g)
  same_fault x f g h = record { names = h.names; calls = h.calls; told = ap (told_fault x) h.told }

  -- ---- scatters

  all_told : (fs gs : List Flowing) → AllSame fs gs → told (all_together fs) ≡ told (all_together gs)
  all_told [] [] h = refl
  all_told [] (g ∷ gs) h = absurd h
  all_told (f ∷ fs) [] h = absurd h
  all_told (f ∷ fs) (g ∷ gs) h = ap (λ t. told_both t (told (all_together fs))) h.0.told ∙ ap (told_both (told g)) (all_told fs gs h.1)

  all_values_same : (key : Key) → hidden key ≡ false → (fs gs : List Flowing) → AllSame fs gs → map (value_in key) fs ≡ map (value_in key) gs
  all_values_same key s [] [] h = refl
  all_values_same key s [] (g ∷ gs) h = absurd h
  all_values_same key s (f ∷ fs) [] h = absurd h
  all_values_same key s (f ∷ fs) (g ∷ gs) h = ap (λ o. o ∷ map (value_in key) fs) (h.0.names key s) ∙ ap (λ os. value_in key g ∷ os) (all_values_same key s fs gs h.1)

  all_ended_same : (call : List ℕ) (fs gs : List Flowing) → AllSame fs gs → list_all (λ (f : Flowing). has_ended f.calls call) fs ≡ list_all (λ (f : Flowing). has_ended f.calls call) gs
  all_ended_same call [] [] h = refl
  all_ended_same call [] (g ∷ gs) h = absurd h
  all_ended_same call (f ∷ fs) [] h = absurd h
  all_ended_same call (f ∷ fs) (g ∷ gs) h =
      ap (λ cs. has_ended cs call && list_all (λ (f : Flowing). has_ended f.calls call) fs) h.0.calls ∙ ap (λ b. has_ended g.calls call && b) (all_ended_same call fs gs h.1)

  all_calls_same : (fs gs : List Flowing) → AllSame fs gs → (calls : List (List ℕ)) → map (gathered_call fs) calls ≡ map (gathered_call gs) calls
  all_calls_same fs gs h [] = refl
  all_calls_same fs gs h (c ∷ calls) =
      ap (λ b. record { call = c; ended = b } ∷ map (gathered_call fs) calls) (all_ended_same c fs gs h) ∙ ap (λ (es : List Ended). gathered_call gs c ∷ es) (all_calls_same fs gs h calls)

  pub same_gathered : (m n : Names) (fs gs : List Flowing) → SameNames m n → AllSame fs gs → SameStep (gathered m fs) (gathered n gs)
  same_gathered m n fs gs h j = record {
    names = λ key s.
        gathered_at fs m.keys key ∙ ap (λ b. cond b (list_in fs key) None) (h.keys key s)
        ∙ ap (λ (os : List (Option Value)). cond (is_among key n.keys) (option_and_then (λ (xs : List Value). Some (v.List xs)) (all_values os)) None) (all_values_same key s fs gs j)
        ∙ sym (gathered_at gs n.keys key);
    calls = all_calls_same fs gs j m.calls ∙ ap (map (gathered_call gs)) h.calls;
    told = all_told fs gs j;
  }

  -- ---- calls of workflows

  abbrev told_clean : Told → Bool
  told_clean t = is_empty t.faults && is_empty t.waits

  -- what is known of the outputs is given
  pub same_ended : (call : List ℕ) (ds es : List TDecl) (f g : Flowing) → (flow_ended call ds f).names ≡ (flow_ended call es g).names → told f ≡ told g
      → SameStep (flow_ended call ds f) (flow_ended call es g)
  same_ended call ds es f g e h = record {
    names = λ key s. ap (λ ks. lookup (env_of ks) key) e;
    calls = ap (λ t. record { call = call; ended = told_clean t } ∷ []) h;
    told = h;
  }

-- ---- runners

-- the runners of two lists, one after the other
pub turns_append : (fs gs : List Runner) (names : List Known) (calls : List Ended) (place : List Segment)
    → (let s : Sight = record { names = names; calls = calls; place = place } in in_turn (fs ++ gs) s ≡ together (in_turn fs s) (in_turn gs (seeing s (in_turn fs s))))
turns_append [] gs names calls place =
    ap (λ ks. in_turn gs (record { names = ks; calls = calls; place = place })) (sym (append-nil names))
    ∙ ap (λ cs. in_turn gs (record { names = names ++ []; calls = cs; place = place })) (sym (append-nil calls))
    ∙ in_front (in_turn gs (record { names = names ++ []; calls = calls ++ []; place = place }))
  where
    in_front : (f : Flowing) → f ≡ together nothing f
    in_front f = ap (λ (n : ℕ). record { names = f.names; calls = f.calls; jobs = f.jobs; codes = f.codes; faults = f.faults; waits = f.waits; count = n }) (zero_plus f.count)
      where
        zero_plus : (n : ℕ) → n ≡ 0 + n
        zero_plus n = omega arith
turns_append (f ∷ fs) gs names calls place =
    let s : Sight = record { names = names; calls = calls; place = place } in
    let a : Flowing = f s in
    let b : Flowing = in_turn fs (seeing s a) in
    ap (together a) (turns_append fs gs (names ++ a.names) (calls ++ a.calls) place)
    ∙ ap (λ ks. together a (together b (in_turn gs (record { names = ks; calls = (calls ++ a.calls) ++ b.calls; place = place })))) (append_assoc names a.names b.names)
    ∙ ap (λ cs. together a (together b (in_turn gs (record { names = names ++ (a.names ++ b.names); calls = cs; place = place })))) (append_assoc calls a.calls b.calls)
    ∙ three a b (in_turn gs (record { names = names ++ (a.names ++ b.names); calls = calls ++ (a.calls ++ b.calls); place = place }))
  where
    three : (a b c : Flowing) → together a (together b c) ≡ together (together a b) c
    three a b c =
        let made : List Known → List Ended → List Request → List Successes → List Fault → List (List Segment) → ℕ → Flowing =
        λ ks cs js ss fs ws n. record { names = ks; calls = cs; jobs = js; codes = ss; faults = fs; waits = ws; count = n } in
        let ks = (a.names ++ b.names) ++ c.names in
        let cs = (a.calls ++ b.calls) ++ c.calls in
        let js = (a.jobs ++ b.jobs) ++ c.jobs in
        let ss = (a.codes ++ b.codes) ++ c.codes in
        let fs = (a.faults ++ b.faults) ++ c.faults in
        sym (ap (λ n. made ks cs js ss fs ((a.waits ++ b.waits) ++ c.waits) n) (sum a.count b.count c.count)
        ∙ ap (λ ws. made ks cs js ss fs ws (a.count + (b.count + c.count))) (append_assoc a.waits b.waits c.waits)
        ∙ ap (λ xs. made ks cs js ss xs (a.waits ++ (b.waits ++ c.waits)) (a.count + (b.count + c.count))) (append_assoc a.faults b.faults c.faults)
        ∙ ap (λ xs. made ks cs js xs (a.faults ++ (b.faults ++ c.faults)) (a.waits ++ (b.waits ++ c.waits)) (a.count + (b.count + c.count))) (append_assoc a.codes b.codes c.codes)
        ∙ ap (λ xs. made ks cs xs (a.codes ++ (b.codes ++ c.codes)) (a.faults ++ (b.faults ++ c.faults)) (a.waits ++ (b.waits ++ c.waits)) (a.count + (b.count + c.count))) (append_assoc a.jobs b.jobs c.jobs)
        ∙ ap (λ xs. made ks xs (a.jobs ++ (b.jobs ++ c.jobs)) (a.codes ++ (b.codes ++ c.codes)) (a.faults ++ (b.faults ++ c.faults)) (a.waits ++ (b.waits ++ c.waits)) (a.count + (b.count + c.count))) (append_assoc a.calls b.calls c.calls)
        ∙ ap (λ xs. made xs (a.calls ++ (b.calls ++ c.calls)) (a.jobs ++ (b.jobs ++ c.jobs)) (a.codes ++ (b.codes ++ c.codes)) (a.faults ++ (b.faults ++ c.faults)) (a.waits ++ (b.waits ++ c.waits)) (a.count + (b.count + c.count))) (append_assoc a.names b.names c.names))
      where
        sum : (i j k : ℕ) → (i + j) + k ≡ i + (j + k)
        sum i j k = omega arith

-- the parts of two lists of statements, one after the other
pub parts_append : (f : Statement → Part) (xs ys : List Statement) (names : List Known) (calls : List Ended) (place : List Segment)
    → (let s : Sight = record { names = names; calls = calls; place = place } in
    let a : Flowing = in_turn (map run_of_part (map f xs)) s in in_turn (map run_of_part (map f (xs ++ ys))) s ≡ together a (in_turn (map run_of_part (map f ys)) (seeing s a)))
parts_append f xs ys names calls place =
    let s : Sight = record { names = names; calls = calls; place = place } in
    ap (λ (ps : List Part). in_turn (map run_of_part ps) s) (map-append f xs ys)
    ∙ ap (λ (fs : List Runner). in_turn fs s) (map-append run_of_part (map f xs) (map f ys)) ∙ turns_append (map run_of_part (map f xs)) (map run_of_part (map f ys)) names calls place
