-- What waits for its names: a runner behind a test, and declarations.
use Rattle.std.proofs.Common.{◌≡◌, ℕ, Bool, true, false, cond, List, [], ◌∷◌, ◌++◌, map, Option, Some, None, Ok, Err, sym, ap, ◌∙◌, refl}
use Rattle.std.proofs.lemmas.Bool.{false≢true}
use Rattle.wdl_base.specs.declared.name.Key.{Key}
use Rattle.wdl_base.specs.declared.place.Segment.{Segment}
use Rattle.wdl_value.specs.declared.env.Bind.{Bind}
use Rattle.wdl_value.specs.declared.value.Value.{Value}
use Rattle.wdl_value.specs.declared.value.Value.TheVariants as v
use Rattle.wdl_value.specs.Outcome.{Outcome}
use Rattle.wdl_typed.specs.declared.expr.TExpr.{TExpr}
use Rattle.wdl_typed.specs.declared.task.TDecl.{TDecl}
use Rattle.wdl_typed.specs.declared.task.TInput.{TInput}
use Rattle.wdl_typed.specs.Declarations.{plain_key}
use Rattle.wdl_typed.specs.Evaluation.{value_of}
use Rattle.wdl_typed.specs.Flow.{Ended, Known, Names, Runner, Sight, all_given, all_known, declaration, declared_as, default_of, env_of, input_of, inputs, is_clean, known, missing, named, outputs}
use Rattle.wdl_typed.specs.Requests.{before}
use Rattle.wdl_typed.specs.Scope.{lookup}
use Rattle.flow_laws.specs.Below.{Stays}
use Rattle.flow_laws.proofs.Agree.{value_same}
use Rattle.flow_laws.proofs.KnownNames.{NamesStay, keys_of, known_agree, known_expr_stays, lookup_stays}
use Rattle.flow_laws.proofs.Runners.{AllGood, Fresh, Good, fresh_left, good_in_turn, no_more, one_more, sight}
use Rattle.flow_laws.proofs.Under.{CallsStay, Gives, Under, missing_gives, under_equal, under_itself, under_missing}

-- Where keys differ, what is looked up stays.
pub fresh_stays : (taken : List (List ℕ)) (more : List Key) (ks ls : List Known) → NamesStay ks ls → Fresh taken (keys_of ks ++ more) → (key : Key) → Stays (lookup (env_of ks) key) (lookup (env_of ls) key)
fresh_stays taken more ks ls u free = lookup_stays ks ls u (fresh_left taken (keys_of ks) more free).distinct

-- what holds wherever the second sight knows what the first one knows
abbrev pub AtSights : List (List ℕ) → Names → (Sight → Sight → Type 0) → Type 0
AtSights taken n P = (p : List Segment) (ks ls : List Known) (cs ds : List Ended) → NamesStay ks ls → CallsStay cs ds → Fresh taken (keys_of ks ++ n.keys) → P (sight p ks cs) (sight p ls ds)

module _ (taken : List (List ℕ)) (n : Names) (test : Sight → Bool) (f g : Runner) where
  abbrev guarded : Runner → Runner
  guarded h s = cond (test s) (h s) (missing n)

  guarded_gives : (h : Runner) → ((s : Sight) → Gives n (h s)) → (s : Sight) → Gives n (guarded h s)
  guarded_gives h gives s = by_test (test s)
    where
      by_test : (b : Bool) → Gives n (cond b (h s) (missing n))
      by_test true = gives s
      by_test false = missing_gives n

  pub guarded_good : ((s : Sight) → Gives n (f s)) → ((s : Sight) → Gives n (g s)) → AtSights taken n (λ s t. test s ≡ true → test t ≡ true) → AtSights taken n (λ s t. test s ≡ true → Under (f s) (g t))
      → ((s : Sight) → is_clean (f s) ≡ true → f s ≡ g s) → Good taken n (guarded f) (guarded g)
  guarded_good left right stays under same =
      record {
        left = guarded_gives f left;
        right = guarded_gives g right;
        under = λ p ks ls cs ds u v free. at_tests p ks ls cs ds u v free (test (sight p ks cs)) (test (sight p ls ds)) refl refl;
        same = λ s h. same_at s (test s) h;
      }
    where
      at_tests : (p : List Segment) (ks ls : List Known) (cs ds : List Ended) → NamesStay ks ls → CallsStay cs ds → Fresh taken (keys_of ks ++ n.keys)
          → (b c : Bool) → test (sight p ks cs) ≡ b → test (sight p ls ds) ≡ c → Under (cond b (f (sight p ks cs)) (missing n)) (cond c (g (sight p ls ds)) (missing n))
      at_tests p ks ls cs ds u v free true true i j = under p ks ls cs ds u v free i
      at_tests p ks ls cs ds u v free true false i j = absurd (false≢true (sym j ∙ stays p ks ls cs ds u v free i))
      at_tests p ks ls cs ds u v free false true i j = under_missing n (g (sight p ls ds)) (right (sight p ls ds))
      at_tests p ks ls cs ds u v free false false i j = under_itself (missing n)

      same_at : (s : Sight) (b : Bool) → is_clean (cond b (f s) (missing n)) ≡ true → cond b (f s) (missing n) ≡ cond b (g s) (missing n)
      same_at s true h = same s h
      same_at s false h = refl

-- ---- declarations

abbrev pub only : List ℕ → Names
only name = record { keys = plain_key name ∷ []; calls = [] }

module _ (taken : List (List ℕ)) (name : List ℕ) (e : TExpr) where
  declared_gives : (place : List Segment) (r : Outcome Value) → Gives (only name) (declared_as place name r)
  declared_gives place (Ok x) = record { keys = refl; calls = refl }
  declared_gives place (Err c) = record { keys = refl; calls = refl }

  pub declaration_good : Good taken (only name) (λ s. declaration s name e) (λ s. declaration s name e)
  declaration_good =
      guarded_good taken (only name) (λ (s : Sight). all_known s.names e) valued valued
      (λ s. declared_gives s.place (value_of (before (env_of s.names)) e))
      (λ s. declared_gives s.place (value_of (before (env_of s.names)) e))
      (λ p ks ls cs ds u v free h. known_expr_stays ks ls (fresh_stays taken (plain_key name ∷ []) ks ls u free) e h)
      (λ p ks ls cs ds u v free h.
      under_equal (valued (sight p ks cs)) (valued (sight p ls ds))
      (ap (declared_as p name) (value_same (env_of ks) (env_of ls) e (known_agree ks ls (fresh_stays taken (plain_key name ∷ []) ks ls u free) e h))))
      (λ s h. refl)
    where
      valued : Runner
      valued s = declared_as s.place name (value_of (before (env_of s.names)) e)

-- ---- inputs and outputs of a workflow

settled_good : (taken : List (List ℕ)) (name : List ℕ) (x : Value) → Good taken (only name) (λ s. named (known name (Some x))) (λ s. named (known name (Some x)))
settled_good taken name x =
    record {
      left = λ s. record { keys = refl; calls = refl };
      right = λ s. record { keys = refl; calls = refl };
      under = λ p ks ls cs ds u v free. under_itself (named (known name (Some x)));
      same = λ s h. refl;
    }

default_good : (taken : List (List ℕ)) (name : List ℕ) (default : Option TExpr) → Good taken (only name) (λ s. default_of s name default) (λ s. default_of s name default)
default_good taken name None = settled_good taken name v.Absent
default_good taken name (Some e) = declaration_good taken name e

input_good : (taken : List (List ℕ)) (i : TInput) (o : Option Value) → Good taken (only i.name) (λ s. input_of s i o) (λ s. input_of s i o)
input_good taken i (Some x) = settled_good taken i.name x
input_good taken i None = default_good taken i.name i.value

abbrev pub input_names_of : List TInput → List Names
input_names_of = map (λ (i : TInput). only i.name)

abbrev pub output_names_of : List TDecl → List Names
output_names_of = map (λ (d : TDecl). only d.name)

abbrev input_runners : List Bind → List TInput → List Runner
input_runners given = map (λ (i : TInput) (s : Sight). input_of s i (lookup given (plain_key i.name)))

abbrev output_runners : List TDecl → List Runner
output_runners = map (λ (d : TDecl) (s : Sight). declaration s d.name d.value)

inputs_all : (taken : List (List ℕ)) (given : List Bind) (is : List TInput) → AllGood taken (input_names_of is) (input_runners given is) (input_runners given is)
inputs_all taken given [] = no_more
inputs_all taken given (i ∷ is) = one_more (input_good taken i (lookup given (plain_key i.name))) (inputs_all taken given is)

pub inputs_good : (taken : List (List ℕ)) (given : List Bind) (is : List TInput) → Good taken (all_given (input_names_of is)) (inputs given is) (inputs given is)
inputs_good taken given is = good_in_turn (inputs_all taken given is)

outputs_all : (taken : List (List ℕ)) (ds : List TDecl) → AllGood taken (output_names_of ds) (output_runners ds) (output_runners ds)
outputs_all taken [] = no_more
outputs_all taken (d ∷ ds) = one_more (declaration_good taken d.name d.value) (outputs_all taken ds)

pub outputs_good : (taken : List (List ℕ)) (ds : List TDecl) → Good taken (all_given (output_names_of ds)) (outputs ds) (outputs ds)
outputs_good taken ds = good_in_turn (outputs_all taken ds)
