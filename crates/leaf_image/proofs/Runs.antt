-- What runs give after other names.
use Rattle.std.proofs.Common.{◌≡◌, ℕ, ◌+◌, Bool, true, false, cond, List, [], ◌∷◌, ◌++◌, Some, None, Ok, Err, refl, ap, sym, ◌∙◌, append_assoc}
use Rattle.wdl_base.specs.declared.name.Key.{Key}
use Rattle.wdl_base.specs.declared.place.Segment.{Segment}
use Rattle.wdl_base.specs.declared.place.Segment.TheVariants as segment
use Rattle.wdl_value.specs.declared.value.Value.{Value}
use Rattle.wdl_value.specs.Outcome.{Outcome}
use Rattle.wdl_value.specs.Parts.{bool_in, items_in}
use Rattle.wdl_typed.specs.declared.expr.TExpr.{TExpr}
use Rattle.wdl_typed.specs.Evaluation.{settled, value_of}
use Rattle.wdl_typed.specs.Flow.{Ended, Flowing, Known, Names, Runner, Sight, all_known, chosen, conditional, declaration, declared_as, each_item, env_of, gathered, if_run, in_turn, known, missing, named, scatter_run, scattered, seeing, together}
use Rattle.wdl_typed.specs.Declarations.{plain_key}
use Rattle.wdl_typed.specs.Requests.{before}
use Rattle.wdl_swaps.specs.declared.swap.Swap.{Swap}
use Rattle.wdl_swaps.specs.Agreement.{Agrees, PlacesFound, is_fine}
use Rattle.wdl_swaps.specs.Swaps.{swapped}
use Rattle.wdl_swaps.proofs.Names.{names_agree}
use Rattle.wdl_swaps.proofs.Values.{values_agree}
use Rattle.leaf_image.specs.Agreement.{RunsAgree, sight}

-- ---- one declaration

pub declaration_same : (ss : List Swap) (seen gone : Key → Bool) (old now : List Known) → Agrees ss (env_of old) (env_of now) seen gone → PlacesFound ss (env_of old) (env_of now)
    → (calls : List Ended) (place : List Segment) (name : List ℕ) (a : TExpr) → is_fine ss seen gone a ≡ true
    → declaration (record { names = old; calls = calls; place = place }) name a ≡ declaration (record { names = now; calls = calls; place = place }) name (swapped ss a)
declaration_same ss seen gone old now values places calls place name a fine =
    let as_before : Bool → Outcome Value → Flowing = λ b o. cond b (declared_as place name o) (named (known name None)) in
    ap (λ b. as_before b (value_of (before (env_of old)) a)) (sym (names_agree ss (env_of old) (env_of now) seen gone values places a fine))
    ∙ ap (λ o. as_before (all_known now (swapped ss a)) (settled o)) (sym (values_agree ss (env_of old) (env_of now) seen gone values a fine))

module _ (old now : List Known) where
  -- what came since, with more behind it
  farther : (first rest more : List Known) (calls : List Ended) (place : List Segment)
      → record { names = (first ++ rest) ++ more; calls = calls; place = place } ≡ sight first (rest ++ more) calls place
  farther first rest more calls place = ap (λ (ks : List Known). record { names = ks; calls = calls; place = place }) (append_assoc first rest more)

  abbrev pub AllAgree : List Runner → List Runner → Type 0
  AllAgree [] [] = Unit {0}
  AllAgree [] (g ∷ gs) = ⊥
  AllAgree (f ∷ fs) [] = ⊥
  AllAgree (f ∷ fs) (g ∷ gs) = RunsAgree old now f g × AllAgree fs gs

  pub turns_agree : (fs gs : List Runner) → AllAgree fs gs → RunsAgree old now (in_turn fs) (in_turn gs)
  turns_agree [] [] all rest calls place = refl
  turns_agree [] (g ∷ gs) all rest calls place = absurd all
  turns_agree (f ∷ fs) [] all rest calls place = absurd all
  turns_agree (f ∷ fs) (g ∷ gs) all rest calls place =
      let here : f (sight old rest calls place) ≡ g (sight now rest calls place) = all.0 rest calls place in
      let a : Flowing = g (sight now rest calls place) in
      ap (λ (x : Flowing). together x (in_turn fs (seeing (sight old rest calls place) x))) here
      ∙ ap (λ (s : Sight). together a (in_turn fs s)) (farther old rest a.names (calls ++ a.calls) place)
      ∙ ap (together a) (turns_agree fs gs all.1 (rest ++ a.names) (calls ++ a.calls) place)
      ∙ sym (ap (λ (s : Sight). together a (in_turn gs s)) (farther now rest a.names (calls ++ a.calls) place))

  -- ---- blocks

  items_agree : (body other : Runner) → RunsAgree old now body other → (rest : List Known) (calls : List Ended) (place : List Segment) (k : ℕ) (item : List ℕ) (i : ℕ) (xs : List Value)
      → each_item body (sight old rest calls place) k item i xs ≡ each_item other (sight now rest calls place) k item i xs
  items_agree body other agree rest calls place k item i [] = refl
  items_agree body other agree rest calls place k item i (x ∷ xs) =
      let more : List Known = record { key = plain_key item; value = Some x } ∷ [] in
      let at : List Segment = (place ++ segment.Scatter k ∷ []) ++ segment.Index i ∷ [] in
      let here : Flowing = other (sight now (rest ++ more) calls at) in
      ap (λ (s : Sight). body s ∷ each_item body (sight old rest calls place) k item (i + 1) xs) (farther old rest more calls at)
      ∙ ap (λ (f : Flowing). f ∷ each_item body (sight old rest calls place) k item (i + 1) xs) (agree (rest ++ more) calls at)
      ∙ ap (λ (fs : List Flowing). here ∷ fs) (items_agree body other agree rest calls place k item (i + 1) xs)
      ∙ sym (ap (λ (s : Sight). other s ∷ each_item other (sight now rest calls place) k item (i + 1) xs) (farther now rest more calls at))

  scattered_agree : (n : Names) (body other : Runner) → RunsAgree old now body other → (rest : List Known) (calls : List Ended) (place : List Segment) (k : ℕ) (item : List ℕ) (o : Outcome Value)
      → scattered n body (sight old rest calls place) k item o ≡ scattered n other (sight now rest calls place) k item o
  scattered_agree n body other agree rest calls place k item (Ok x) = ap (gathered n) (items_agree body other agree rest calls place k item 0 (items_in x))
  scattered_agree n body other agree rest calls place k item (Err c) = refl

  chosen_agree : (n : Names) (body other : Runner) → RunsAgree old now body other → (rest : List Known) (calls : List Ended) (place : List Segment) (k : ℕ) (b : Bool)
      → chosen n body (sight old rest calls place) k b ≡ chosen n other (sight now rest calls place) k b
  chosen_agree n body other agree rest calls place k true = agree rest calls (place ++ segment.If k ∷ [])
  chosen_agree n body other agree rest calls place k false = refl

  conditional_agree : (n : Names) (body other : Runner) → RunsAgree old now body other → (rest : List Known) (calls : List Ended) (place : List Segment) (k : ℕ) (o : Outcome Value)
      → conditional n body (sight old rest calls place) k o ≡ conditional n other (sight now rest calls place) k o
  conditional_agree n body other agree rest calls place k (Ok x) = chosen_agree n body other agree rest calls place k (bool_in x)
  conditional_agree n body other agree rest calls place k (Err c) = refl

  -- ---- expressions

  module _ (ss : List Swap) (seen gone : Key → Bool) (values : (rest : List Known) → Agrees ss (env_of (old ++ rest)) (env_of (now ++ rest)) seen gone)
      (places : (rest : List Known) → PlacesFound ss (env_of (old ++ rest)) (env_of (now ++ rest))) where
    known_same : (a : TExpr) → is_fine ss seen gone a ≡ true → (rest : List Known) → all_known (old ++ rest) a ≡ all_known (now ++ rest) (swapped ss a)
    known_same a fine rest = sym (names_agree ss (env_of (old ++ rest)) (env_of (now ++ rest)) seen gone (values rest) (places rest) a fine)

    value_same : (a : TExpr) → is_fine ss seen gone a ≡ true → (rest : List Known) → value_of (before (env_of (old ++ rest))) a ≡ value_of (before (env_of (now ++ rest))) (swapped ss a)
    value_same a fine rest = ap settled (sym (values_agree ss (env_of (old ++ rest)) (env_of (now ++ rest)) seen gone (values rest) a fine))

    pub declaration_agrees : (name : List ℕ) (a : TExpr) → is_fine ss seen gone a ≡ true
        → RunsAgree old now (λ s. declaration s name a) (λ s. declaration s name (swapped ss a))
    declaration_agrees name a fine rest calls place =
        declaration_same ss seen gone (old ++ rest) (now ++ rest) (values rest) (places rest) calls place name a fine

    pub scatter_agrees : (n : Names) (body other : Runner) (k : ℕ) (item : List ℕ) (a : TExpr) → is_fine ss seen gone a ≡ true → RunsAgree old now body other
        → RunsAgree old now (scatter_run n body k item a) (scatter_run n other k item (swapped ss a))
    scatter_agrees n body other k item a fine agree rest calls place =
        let was : Bool → Outcome Value → Flowing = λ b o. cond b (scattered n body (sight old rest calls place) k item o) (missing n) in
        ap (λ b. was b (value_of (before (env_of (old ++ rest))) a)) (known_same a fine rest)
        ∙ ap (was (all_known (now ++ rest) (swapped ss a))) (value_same a fine rest)
        ∙ ap (λ (f : Flowing). cond (all_known (now ++ rest) (swapped ss a)) f (missing n))
        (scattered_agree n body other agree rest calls place k item (value_of (before (env_of (now ++ rest))) (swapped ss a)))

    pub if_agrees : (n : Names) (body other : Runner) (k : ℕ) (a : TExpr) → is_fine ss seen gone a ≡ true → RunsAgree old now body other
        → RunsAgree old now (if_run n body k a) (if_run n other k (swapped ss a))
    if_agrees n body other k a fine agree rest calls place =
        let was : Bool → Outcome Value → Flowing = λ b o. cond b (conditional n body (sight old rest calls place) k o) (missing n) in
        ap (λ b. was b (value_of (before (env_of (old ++ rest))) a)) (known_same a fine rest)
        ∙ ap (was (all_known (now ++ rest) (swapped ss a))) (value_same a fine rest)
        ∙ ap (λ (f : Flowing). cond (all_known (now ++ rest) (swapped ss a)) f (missing n))
        (conditional_agree n body other agree rest calls place k (value_of (before (env_of (now ++ rest))) (swapped ss a)))
