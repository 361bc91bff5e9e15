-- The cells of a call's outputs, the last one first.
use Rattle.std.proofs.Common.{◌≡◌, ◌<◌, ℕ, ◌+◌, List, [], ◌∷◌, ◌++◌, Some, length, ap, ◌∙◌, refl, arith}
use Rattle.std.proofs.lemmas.List.{length-append, length-set}
use Rattle.wdl_value.specs.declared.env.Bind.{Bind}
use Rattle.plan_growth.specs.Entering.{Sown}
use Rattle.plan_steps.specs.Arriving.{with_outputs}

-- the outputs whose cells are set, behind those that are left
pub record IsSet (all left : List Bind) (first : ℕ) (old new : Sown) : Type 0 where
  pub gone : List Bind
  pub is : all ≡ left ++ gone
  pub set : new ≡ with_outputs (first + length left) gone old

outputs_keep : (first : ℕ) (bs : List Bind) (net : Sown) → length (with_outputs first bs net).values ≡ length net.values
outputs_keep first [] net = refl
outputs_keep first (b ∷ bs) net = length-set (with_outputs (first + 1) bs net).values first (Some b.value) ∙ outputs_keep (first + 1) bs net

pub set_count : (all left : List Bind) (first : ℕ) (old new : Sown) → IsSet all left first old new → length new.values ≡ length old.values
set_count all left first old new h = ap (λ (v : Sown). length v.values) h.set ∙ outputs_keep (first + length left) h.gone old

-- the one that is taken has a number below those that there are
pub popped_count : (all left rest : List Bind) (b : Bind) (first : ℕ) (old new : Sown) → IsSet all left first old new → left ≡ rest ++ b ∷ [] → length rest < length all
popped_count all left rest b first old new h e =
    omega (arith, ap (λ (xs : List Bind). length xs) h.is, length-append left h.gone, ap (λ (xs : List Bind). length xs) e, length-append rest (b ∷ []))
