-- Runs of names and calls whose cells are all alike.
use Rattle.std.proofs.Common.{◌≡◌, ℕ, suc, ◌+◌, ◌<◌, List, [], ◌∷◌, map, length, Option, arith, sym, ap, ◌∙◌, refl}
use Rattle.wdl_base.specs.declared.name.Key.{Key}
use Rattle.wdl_value.specs.declared.value.Value.{Value}
use Rattle.wdl_typed.specs.Flow.{Ended, Known, each_call, each_key}
use Rattle.wdl_typed.specs.KnownTypes.{is_some}
use Rattle.net_laws.specs.Net.{Cells, ended_in, known_in}
use Rattle.plan_growth.proofs.Runs.{run_marks, run_slots}

module _ (cells : Cells) (o : Option Value) where
  pub names_alike : (c : ℕ) (ks : List Key) → ((j d : ℕ) → d ≡ c + j → j < length ks → cells d ≡ o) → each_key o ks ≡ map (known_in cells) (run_slots c ks)
  names_alike c [] h = refl
  names_alike c (k ∷ ks) h =
      ap (λ (z : Option Value). record { key = k; value = z } ∷ each_key o ks) (sym (h 0 c (omega arith) (omega arith)))
      ∙ ap (λ (xs : List Known). record { key = k; value = cells c } ∷ xs) (names_alike (c + 1) ks (λ j d e lt. h (suc j) d (omega (arith, e)) (omega (arith, lt))))

  pub calls_alike : (c : ℕ) (xs : List (List ℕ)) → ((j d : ℕ) → d ≡ c + j → j < length xs → cells d ≡ o) → each_call (is_some o) xs ≡ map (ended_in cells) (run_marks c xs)
  calls_alike c [] h = refl
  calls_alike c (x ∷ xs) h =
      ap (λ (z : Option Value). record { call = x; ended = is_some z } ∷ each_call (is_some o) xs) (sym (h 0 c (omega arith) (omega arith)))
      ∙ ap (λ (ys : List Ended). record { call = x; ended = is_some (cells c) } ∷ ys) (calls_alike (c + 1) xs (λ j d e lt. h (suc j) d (omega (arith, e)) (omega (arith, lt))))
