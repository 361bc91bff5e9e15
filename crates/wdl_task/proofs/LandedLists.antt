-- What is landed of lists and maps, by their layers.
use Rattle.std.proofs.Common.{◌≡◌, ℕ, Bool, List, sym, ap, ◌∙◌}
use Rattle.wdl_base.specs.declared.answer.Answer.{Answer}
use Rattle.wdl_value.specs.declared.ty.Ty.{Ty, Ty-F, out-Ty}
use Rattle.wdl_value.specs.declared.ty.Ty.TheVariants as ty
use Rattle.wdl_value.specs.declared.ty.Ty.TheOpen as type
use Rattle.wdl_value.specs.declared.value.MapRow.{MapRow}
use Rattle.wdl_value.specs.declared.value.Value.{Value, Value-F, out-Value, map-Value, fold_out-Value}
use Rattle.wdl_value.specs.declared.value.Value.TheVariants as v
use Rattle.wdl_value.specs.declared.value.Value.TheOpen as layer
use Rattle.wdl_value.specs.Bare.{bare, is_optional}
use Rattle.wdl_value.specs.Fits.{Structs}
use Rattle.wdl_value.specs.Outcome.{Outcome}
use Rattle.wdl_typed.specs.Requests.{Lander, land_at, landed}
use Rattle.wdl_task.specs.Members.{landed_list, landed_map}

module _ (structs : Structs) (dir : List ℕ) (answer : Answer) where
  abbrev at_layers : Value-F Value → Bool → Ty-F Ty → Outcome Value
  at_layers l absent z = land_at structs dir answer (map-Value Value Lander (λ (x : Value). landed structs dir answer x) l) absent z

  pub landed_out : (x : Value) (t : Ty) (l : Value-F Value) (z : Ty-F Ty) → out-Value x ≡ l → out-Ty (bare t) ≡ z → landed structs dir answer x t ≡ at_layers l (is_optional (out-Ty t)) z
  landed_out x t l z is kind =
      ap (λ (f : Lander). f t) (fold_out-Value Lander (λ m u. land_at structs dir answer m (is_optional (out-Ty u)) (out-Ty (bare u))) x)
      ∙ ap (λ (m : Value-F Value). at_layers m (is_optional (out-Ty t)) (out-Ty (bare t))) is
      ∙ ap (at_layers l (is_optional (out-Ty t))) kind

  pub list_is_landed : (x : Value) (t u w : Ty) (some : Bool) (xs ys : List Value) → x ≡ v.List xs → bare t ≡ ty.Array u some → ys ≡ xs → w ≡ u → landed_list structs dir answer ys w ≡ landed structs dir answer x t
  list_is_landed x t u w some xs ys is kind items item =
      ap (λ zs. landed_list structs dir answer zs w) items ∙ ap (landed_list structs dir answer xs) item
      ∙ sym (landed_out x t (layer.List xs) (type.Array u some) (ap out-Value is ∙ v.outs-List xs) (ap out-Ty kind ∙ ty.outs-Array u some))

  pub map_is_landed : (x : Value) (t k u j w : Ty) (rows more : List (MapRow Value)) → x ≡ v.Map rows → bare t ≡ ty.Map k u → more ≡ rows → j ≡ k → w ≡ u → landed_map structs dir answer more j w ≡ landed structs dir answer x t
  map_is_landed x t k u j w rows more is kind same key item =
      ap (λ rs. landed_map structs dir answer rs j w) same ∙ ap (λ i. landed_map structs dir answer rows i w) key ∙ ap (landed_map structs dir answer rows k) item
      ∙ sym (landed_out x t (layer.Map rows) (type.Map k u) (ap out-Value is ∙ v.outs-Map rows) (ap out-Ty kind ∙ ty.outs-Map k u))
