-- The stop among the steps, and the room for it.
use Rattle.std.proofs.Common.{◌≡◌, ◌≤◌, Bool, true, false, cond, ◌||◌, List, [], ◌∷◌, ◌++◌, arith, ap, ◌∙◌, refl}
use Rattle.std.proofs.lemmas.Bool.{or_right}
use Rattle.std.proofs.lemmas.List.Folds.{list_any-append}
use Rattle.std.proofs.Math.Bool.{or-false}
use Rattle.wdl_base.specs.declared.step.Step.{Step}
use Rattle.wdl_base.specs.declared.step.Step.TheVariants.{Stopped}
use Rattle.ready_core.specs.Cores.{has_stopped, is_stopped, with_stop}
use Rattle.ready_core.specs.Logs.{spare}

pub other_step : (steps : List Step) (s : Step) → is_stopped s ≡ false → has_stopped (steps ++ s ∷ []) ≡ has_stopped steps
other_step steps s e = list_any-append is_stopped steps (s ∷ []) ∙ ap (λ b. has_stopped steps || (b || false)) e ∙ or-false (has_stopped steps)

pub stop_step : (steps : List Step) → has_stopped (steps ++ Stopped ∷ []) ≡ true
stop_step steps = list_any-append is_stopped steps (Stopped ∷ []) ∙ or_right (has_stopped steps) true refl

-- ---- with the stop

pub stop_there : (steps : List Step) → has_stopped steps ≡ true → with_stop steps ≡ steps
stop_there steps e = ap (λ b. cond b steps (steps ++ Stopped ∷ [])) e

pub stop_new : (steps : List Step) → has_stopped steps ≡ false → with_stop steps ≡ steps ++ Stopped ∷ []
stop_new steps e = ap (λ b. cond b steps (steps ++ Stopped ∷ [])) e

-- ---- the room for it

pub spare_most : (steps : List Step) → spare steps ≤ 1
unfolding spare
spare_most steps = by_test (has_stopped steps)
  where
    by_test : (b : Bool) → cond b 0 1 ≤ 1
    by_test true = omega arith
    by_test false = omega arith

pub spare_other : (steps more : List Step) (s : Step) → is_stopped s ≡ false → more ≡ steps ++ s ∷ [] → spare more ≡ spare steps
unfolding spare
spare_other steps more s e is = ap (λ b. cond b 0 1) (ap has_stopped is ∙ other_step steps s e)

pub spare_new : (steps more : List Step) → has_stopped steps ≡ false → more ≡ steps ++ Stopped ∷ [] → (spare steps ≡ 1) × (spare more ≡ 0)
unfolding spare
spare_new steps more e is = (ap (λ b. cond b 0 1) e, ap (λ b. cond b 0 1) (ap has_stopped is ∙ stop_step steps))
