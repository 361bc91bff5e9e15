-- Functions of numbers fit the results of their rows.
use Rattle.std.proofs.Common.{◌≡◌, ℕ, zero, suc, ◌+◌, ◌≤◌, ◌^◌, true, false, cond, map, ℤ, pos, negsuc, refl, arith}
use Rattle.std.proofs.lemmas.Bool.{and_from}
use Rattle.std.specs.Int.{int_min, int_max}
use Rattle.std.specs.List.{range_with_len}
use lib.Signed.{lt_z}
use Rattle.wdl_value.specs.declared.ty.Ty.TheVariants as ty
use Rattle.wdl_value.specs.declared.value.Value.{Value}
use Rattle.wdl_value.specs.declared.value.Value.TheVariants as v
use Rattle.wdl_value.specs.Fits.{Structs, is_int, fits}
use Rattle.wdl_value.specs.Functions.{least, greatest, numbers_below, range_to, range_of}
use Rattle.wdl_value.specs.Parts.{int_in}
use Rattle.wdl_value.proofs.FitsForms.{int_fits}
use Rattle.wdl_stdlib.specs.Laws.{IsOfType}
use Rattle.wdl_stdlib.proofs.Numerals.{pos_from, pos_to}
use Rattle.wdl_stdlib.proofs.PartsFit.{AllFit, Fits, array, number_fits}

module _ (structs : Structs) where
  pub least_fits : (x y : Value) → Fits structs x ty.Int → Fits structs y ty.Int → IsOfType structs ty.Int (least x y)
  least_fits x y h k =
      int_fits structs (int_min (int_in x) (int_in y)) (elim (lt_z (int_in y) (int_in x)) as (λ b. is_int (cond b (int_in y) (int_in x)) ≡ true) [ true ↦ number_fits structs y k | false ↦ number_fits structs x h ])

  pub greatest_fits : (x y : Value) → Fits structs x ty.Int → Fits structs y ty.Int → IsOfType structs ty.Int (greatest x y)
  greatest_fits x y h k =
      int_fits structs (int_max (int_in x) (int_in y)) (elim (lt_z (int_in y) (int_in x)) as (λ b. is_int (cond b (int_in x) (int_in y)) ≡ true) [ true ↦ number_fits structs x h | false ↦ number_fits structs y k ])

  numbers_fit : (a n : ℕ) → a + n ≤ 2 ^ 63 → AllFit structs (map (λ k. v.Int (pos k)) (range_with_len a n)) ty.Int
  numbers_fit a zero h = refl
  numbers_fit a (suc n) h = and_from (fits structs (v.Int (pos a)) ty.Int) _ (int_fits structs (pos a) (pos_from a (omega arith))) (numbers_fit (a + 1) n (omega arith))

  pub range_fits : (x : Value) → Fits structs x ty.Int → IsOfType structs (ty.Array ty.Int false) (range_of x)
  range_fits x h = by_sign (int_in x) (number_fits structs x h)
    where
      by_sign : (z : ℤ) → is_int z ≡ true → IsOfType structs (ty.Array ty.Int false) (range_to z)
      by_sign (pos n) h = let k = pos_to n h in array structs (numbers_below n) ty.Int (numbers_fit 0 n (omega arith))
      by_sign (negsuc n) h = tt
