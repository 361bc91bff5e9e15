-- Statements of bodies, over a table and over one that answers more: by an induction whose step is one layer.
use Rattle.std.proofs.Common.{◌≡◌, ℕ, true, not, List, [], ◌∷◌, ◌++◌, map, length, sym, ap, ◌∙◌, subst, refl}
use Rattle.std.proofs.lemmas.Bool.{and_parts, not-true}
use Rattle.std.proofs.lemmas.List.{length-map}
use Rattle.wdl_value.specs.Tables.{Row}
use Rattle.wdl_typed.specs.declared.flow.Statement.{Statement, Statement-F, fold-Statement, fold-roll-Statement, ind-Statement, map-Statement, roll-Statement}
use Rattle.wdl_typed.specs.declared.flow.Statement.TheOpen as layer
use Rattle.wdl_typed.specs.Bodies.{Differing, Library, all_differ, items_differ, items_step}
use Rattle.wdl_typed.specs.Flow.{Callee, Flowing, Names, Part, Runner, body_names, body_run, if_run, in_turn, is_clean, names_of_part, run_of_part, scatter_run, statement_step, statements, with_count}
use Rattle.wdl_typed.specs.Lists.{has_name}
use Rattle.flow_laws.specs.Below.{AnswersStay}
use Rattle.flow_laws.specs.Laws.{run_with}
use Rattle.flow_laws.proofs.Blocks.{if_good, scatter_good}
use Rattle.flow_laws.proofs.Called.{CalleesBelow, call_good}
use Rattle.flow_laws.proofs.Guarded.{declaration_good}
use Rattle.flow_laws.proofs.Runners.{AllGood, Good, good_in_turn, no_more, one_more}
use Rattle.flow_laws.proofs.Under.{under_count}

-- ---- counted statements

clean_count : (n : ℕ) (f g : Flowing) → (is_clean f ≡ true → f ≡ g) → is_clean (with_count n f) ≡ true → with_count n f ≡ with_count n g
clean_count n f g e h = ap (with_count n) (e h)

counted_good : (taken : List (List ℕ)) (n : Names) (f g : Runner) (k m : ℕ) → k ≡ m → Good taken n f g → Good taken n (λ s. with_count k (f s)) (λ s. with_count m (g s))
counted_good taken n f g k m e good =
    subst (λ (j : ℕ). Good taken n (λ s. with_count k (f s)) (λ s. with_count j (g s))) e
    (record {
      left = λ s. record { keys = (good.left s).keys; calls = (good.left s).calls };
      right = λ s. record { keys = (good.right s).keys; calls = (good.right s).calls };
      under = λ p ks ls cs ds u v fresh. under_count k (f _) (g _) (good.under p ks ls cs ds u v fresh);
      same = λ s h. clean_count k (f s) (g s) (good.same s) h;
    })

-- ---- statements

module _ (lib : Library) (site : List ℕ) (a b : List Row) (stay : AnswersStay a b) (f g : Callee) (below : CalleesBelow f g) where
  abbrev left : Statement → Part
  left = fold-Statement Part (statement_step (run_with lib site a) f)

  abbrev right : Statement → Part
  right = fold-Statement Part (statement_step (run_with lib site b) g)

  abbrev differing : Statement → Differing
  differing = fold-Statement Differing items_step

  -- Where the items of its scatters have names of their own, it gives no less over the second table.
  abbrev Fine : Part → Part → Differing → Type 0
  Fine p q d = (p.names ≡ q.names) × ((taken : List (List ℕ)) → d taken ≡ true → Good taken p.names p.run q.run)

  abbrev Holds : Statement → Type 0
  Holds s = Fine (left s) (right s) (differing s)

  abbrev Known : Type 0
  Known = (s : Statement) × Holds s

  abbrev plain : Statement-F Known → Statement-F Statement
  plain = map-Statement Known Statement (λ (k : Known). k.0)

  abbrev firsts : List Known → List Statement
  firsts = map (λ (k : Known). k.0)

  names_same : (ks : List Known) → body_names (map left (firsts ks)) ≡ body_names (map right (firsts ks))
  names_same [] = refl
  names_same (k ∷ ks) =
      ap (λ (n : Names). record { keys = n.keys ++ (body_names (map left (firsts ks))).keys; calls = n.calls ++ (body_names (map left (firsts ks))).calls }) k.1.0
      ∙ ap (λ (n : Names). record { keys = (right k.0).names.keys ++ n.keys; calls = (right k.0).names.calls ++ n.calls }) (names_same ks)

  body_all : (ks : List Known) (taken : List (List ℕ)) → all_differ (map differing (firsts ks)) taken ≡ true
      → AllGood taken (map names_of_part (map left (firsts ks))) (map run_of_part (map left (firsts ks))) (map run_of_part (map right (firsts ks)))
  body_all [] taken h = no_more
  body_all (k ∷ ks) taken h =
      let p = and_parts (differing k.0 taken) (all_differ (map differing (firsts ks)) taken) h in
      one_more (k.1.1 taken p.0) (body_all ks taken p.1)

  body_good : (ks : List Known) (taken : List (List ℕ)) → all_differ (map differing (firsts ks)) taken ≡ true
      → Good taken (body_names (map left (firsts ks))) (body_run (map left (firsts ks))) (body_run (map right (firsts ks)))
  body_good ks taken h =
      counted_good taken (body_names (map left (firsts ks))) (in_turn (map run_of_part (map left (firsts ks)))) (in_turn (map run_of_part (map right (firsts ks))))
      (length (map left (firsts ks))) (length (map right (firsts ks))) (length-map (firsts ks) left ∙ sym (length-map (firsts ks) right))
      (good_in_turn (body_all ks taken h))

  layer_fine : (y : Statement-F Known) → Fine (statement_step (run_with lib site a) f (map-Statement Statement Part left (plain y))) (statement_step (run_with lib site b) g (map-Statement Statement Part right (plain y)))
      (items_step (map-Statement Statement Differing differing (plain y)))
  layer_fine (layer.Decl d) = (refl, λ taken h. declaration_good taken d.name d.value)
  layer_fine (layer.Call c) = (refl, λ taken h. call_good lib site a b stay f g below c taken)
  layer_fine (layer.Scatter s) = (
    names_same s.body,
    λ taken h.
        let p = and_parts (not (has_name s.item taken)) (all_differ (map differing (firsts s.body)) (s.item ∷ taken)) h in
        let ps = map left (firsts s.body) in
        let qs = map right (firsts s.body) in
        subst (λ (n : Names). Good taken (body_names ps) (scatter_run (body_names ps) (body_run ps) s.number s.item s.over) (scatter_run n (body_run qs) s.number s.item s.over)) (names_same s.body)
        (scatter_good taken (body_names ps) (body_run ps) (body_run qs) s.number s.item (not-true (has_name s.item taken) p.0) (body_good s.body (s.item ∷ taken) p.1) s.over),
  )
  layer_fine (layer.If i) = (
    names_same i.body,
    λ taken h.
        let ps = map left (firsts i.body) in
        let qs = map right (firsts i.body) in
        subst (λ (n : Names). Good taken (body_names ps) (if_run (body_names ps) (body_run ps) i.number i.cond) (if_run n (body_run qs) i.number i.cond)) (names_same i.body)
        (if_good taken (body_names ps) (body_run ps) (body_run qs) i.number (body_good i.body taken h) i.cond),
  )

  statement_fine : (s : Statement) → Holds s
  statement_fine = ind-Statement Holds (λ x y is. subst (λ (z : Statement-F Statement). Holds (roll-Statement z)) is
      (subst (λ (d : Differing). Fine (left (roll-Statement (plain y))) (right (roll-Statement (plain y))) d) (sym (fold-roll-Statement Differing items_step (plain y)))
      (subst (λ (q : Part). Fine (left (roll-Statement (plain y))) q (items_step (map-Statement Statement Differing differing (plain y)))) (sym (fold-roll-Statement Part (statement_step (run_with lib site b) g) (plain y)))
      (subst (λ (p : Part). Fine p (statement_step (run_with lib site b) g (map-Statement Statement Part right (plain y))) (items_step (map-Statement Statement Differing differing (plain y))))
      (sym (fold-roll-Statement Part (statement_step (run_with lib site a) f) (plain y))) (layer_fine y)))))

  abbrev known : List Statement → List Known
  known = map (λ (s : Statement). (s, statement_fine s))

  firsts_known : (ss : List Statement) → firsts (known ss) ≡ ss
  firsts_known [] = refl
  firsts_known (s ∷ ss) = ap (λ (rest : List Statement). s ∷ rest) (firsts_known ss)

  pub statements_good : (ss : List Statement) (taken : List (List ℕ)) → items_differ ss taken ≡ true
      → Good taken (body_names (map left ss)) (statements (run_with lib site a) f ss) (statements (run_with lib site b) g ss)
  statements_good ss taken h =
      subst (λ (xs : List Statement). Good taken (body_names (map left xs)) (body_run (map left xs)) (body_run (map right xs))) (firsts_known ss)
      (body_good (known ss) taken (ap (λ (xs : List Statement). items_differ xs taken) (firsts_known ss) ∙ h))
