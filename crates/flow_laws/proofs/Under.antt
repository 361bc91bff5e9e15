-- What a statement gives over a table, against what it gives over a table that answers more: name by name and call by call.
use Rattle.std.proofs.Common.{◌≡◌, ℕ, ◌≤◌, Bool, true, false, cond, List, [], ◌∷◌, ◌++◌, Option, None, length, length-append, arith, sym, ap, ◌∙◌, subst, refl}
use Rattle.std.specs.List.{list_all}
use Rattle.std.specs.Str.{bytes_eq}
use Rattle.std.proofs.lemmas.Bool.{false≢true, and_parts, and_from}
use Rattle.wdl_base.specs.declared.name.Key.{Key}
use Rattle.wdl_base.specs.declared.request.Request.{Request}
use Rattle.wdl_value.specs.declared.value.Value.{Value}
use Rattle.wdl_typed.specs.Flow.{Ended, Flowing, Known, Names, each_call, each_key, has_ended, giving, missing, together, with_count, with_jobs}
use Rattle.wdl_typed.specs.Requests.{Successes}
use Rattle.flow_laws.specs.Below.{IsWithin}
use Rattle.flow_laws.proofs.KnownNames.{NamesStay, calls_of, keys_of, names_stay_both, names_stay_same}
use Rattle.flow_laws.proofs.Within.{within_both, within_itself, within_more, within_nothing}

-- ---- calls

pub record CallStays (c d : Ended) : Type 0 where
  pub call : c.call ≡ d.call
  pub ended : c.ended ≡ true → d.ended ≡ true

abbrev pub CallsStay : List Ended → List Ended → Type 0
CallsStay [] [] = Unit {0}
CallsStay [] (d ∷ ds) = ⊥
CallsStay (c ∷ cs) [] = ⊥
CallsStay (c ∷ cs) (d ∷ ds) = CallStays c d × CallsStay cs ds

pub calls_stay_same : (cs : List Ended) → CallsStay cs cs
calls_stay_same [] = tt
calls_stay_same (c ∷ cs) = (record { call = refl; ended = λ h. h }, calls_stay_same cs)

pub calls_stay_both : (cs ds es gs : List Ended) → CallsStay cs ds → CallsStay es gs → CallsStay (cs ++ es) (ds ++ gs)
calls_stay_both [] [] es gs h j = j
calls_stay_both [] (d ∷ ds) es gs h j = absurd h
calls_stay_both (c ∷ cs) [] es gs h j = absurd h
calls_stay_both (c ∷ cs) (d ∷ ds) es gs h j = (h.0, calls_stay_both cs ds es gs h.1 j)

pub ended_stays : (cs ds : List Ended) → CallsStay cs ds → (call : List ℕ) → has_ended cs call ≡ true → has_ended ds call ≡ true
ended_stays [] [] h call e = e
ended_stays [] (d ∷ ds) h call e = absurd h
ended_stays (c ∷ cs) [] h call e = absurd h
ended_stays (c ∷ cs) (d ∷ ds) h call e = by_name (ended_stays cs ds h.1 call) (bytes_eq c.call call) refl e
  where
    by_name : (has_ended cs call ≡ true → has_ended ds call ≡ true) → (b : Bool) → bytes_eq c.call call ≡ b → cond b c.ended (has_ended cs call) ≡ true → has_ended (d ∷ ds) call ≡ true
    by_name rest true s e = ap (λ b. cond b d.ended (has_ended ds call)) (ap (λ n. bytes_eq n call) (sym h.0.call) ∙ s) ∙ h.0.ended e
    by_name rest false s e = ap (λ b. cond b d.ended (has_ended ds call)) (ap (λ n. bytes_eq n call) (sym h.0.call) ∙ s) ∙ rest e

pub all_ended_stay : (cs ds : List Ended) → CallsStay cs ds → (calls : List (List ℕ)) → list_all (has_ended cs) calls ≡ true → list_all (has_ended ds) calls ≡ true
all_ended_stay cs ds h [] e = refl
all_ended_stay cs ds h (c ∷ calls) e =
    let p = and_parts (has_ended cs c) (list_all (has_ended cs) calls) e in
    and_from (has_ended ds c) (list_all (has_ended ds) calls) (ended_stays cs ds h c p.0) (all_ended_stay cs ds h calls p.1)

-- ---- what is given

pub record Under (f g : Flowing) : Type 0 where
  pub names : NamesStay f.names g.names
  pub calls : CallsStay f.calls g.calls
  pub jobs : IsWithin f.jobs g.jobs
  pub size : length f.jobs ≤ length g.jobs
  pub faults : IsWithin f.faults g.faults
  pub count : f.count ≤ g.count

-- the keys and the calls that are given, in order
pub record Gives (n : Names) (f : Flowing) : Type 0 where
  pub keys : keys_of f.names ≡ n.keys
  pub calls : calls_of f.calls ≡ n.calls

pub under_itself : (f : Flowing) → Under f f
under_itself f =
    record {
      names = names_stay_same f.names;
      calls = calls_stay_same f.calls;
      jobs = within_itself f.jobs;
      size = omega arith;
      faults = within_itself f.faults;
      count = omega arith;
    }

pub under_equal : (f g : Flowing) → f ≡ g → Under f g
under_equal f g e = subst (Under f) e (under_itself f)

pub under_together : (f g h j : Flowing) → Under f g → Under h j → Under (together f h) (together g j)
under_together f g h j a b =
    record {
      names = names_stay_both f.names g.names h.names j.names a.names b.names;
      calls = calls_stay_both f.calls g.calls h.calls j.calls a.calls b.calls;
      jobs = within_both f.jobs g.jobs h.jobs j.jobs a.jobs b.jobs;
      size = omega (arith, a.size, b.size, length-append f.jobs h.jobs, length-append g.jobs j.jobs);
      faults = within_both f.faults g.faults h.faults j.faults a.faults b.faults;
      count = omega (arith, a.count, b.count);
    }

pub under_count : (n : ℕ) (f g : Flowing) → Under f g → Under (with_count n f) (with_count n g)
under_count n f g a = record { names = a.names; calls = a.calls; jobs = a.jobs; size = a.size; faults = a.faults; count = omega (arith, a.count) }

pub under_jobs : (r : Request) (c : Successes) (f g : Flowing) → Under f g → Under (with_jobs (r ∷ []) (c ∷ []) f) (with_jobs (r ∷ []) (c ∷ []) g)
under_jobs r c f g a = record { names = a.names; calls = a.calls; jobs = within_more r f.jobs g.jobs a.jobs; size = omega (arith, a.size); faults = a.faults; count = a.count }

-- ---- nothing is known yet

missing_names : (ls : List Known) → NamesStay (each_key None (keys_of ls)) ls
missing_names [] = tt
missing_names (l ∷ ls) = (record { key = refl; value = λ x h. cc }, missing_names ls)

missing_calls : (ds : List Ended) → CallsStay (each_call false (calls_of ds)) ds
missing_calls [] = tt
missing_calls (d ∷ ds) = (record { call = refl; ended = λ h. absurd (false≢true h) }, missing_calls ds)

-- Missing names are under whatever gives the same names.
pub under_missing : (n : Names) (g : Flowing) → Gives n g → Under (missing n) g
under_missing n g a =
    record {
      names = subst (λ (ks : List Key). NamesStay (each_key None ks) g.names) a.keys (missing_names g.names);
      calls = subst (λ (cs : List (List ℕ)). CallsStay (each_call false cs) g.calls) a.calls (missing_calls g.calls);
      jobs = within_nothing g.jobs;
      size = omega arith;
      faults = within_nothing g.faults;
      count = omega arith;
    }

-- ---- the names that are given

each_key_keys : (x : Option Value) (ks : List Key) → keys_of (each_key x ks) ≡ ks
each_key_keys x [] = refl
each_key_keys x (k ∷ ks) = ap (λ z. k ∷ z) (each_key_keys x ks)

each_call_calls : (b : Bool) (cs : List (List ℕ)) → calls_of (each_call b cs) ≡ cs
each_call_calls b [] = refl
each_call_calls b (c ∷ cs) = ap (λ z. c ∷ z) (each_call_calls b cs)

pub giving_gives : (x : Option Value) (b : Bool) (n : Names) → Gives n (giving x b n)
giving_gives x b n = record { keys = each_key_keys x n.keys; calls = each_call_calls b n.calls }

pub missing_gives : (n : Names) → Gives n (missing n)
missing_gives n = giving_gives None false n

pub keys_append : (ks ls : List Known) → keys_of (ks ++ ls) ≡ keys_of ks ++ keys_of ls
keys_append [] ls = refl
keys_append (k ∷ ks) ls = ap (λ z. k.key ∷ z) (keys_append ks ls)

pub calls_append : (cs ds : List Ended) → calls_of (cs ++ ds) ≡ calls_of cs ++ calls_of ds
calls_append [] ds = refl
calls_append (c ∷ cs) ds = ap (λ z. c.call ∷ z) (calls_append cs ds)
