-- Defaults of the subset.
use Rattle.std.proofs.Common.{◌≡◌, Bool, true, List, [], ◌∷◌, map, sym, ap, ◌∙◌, subst, refl}
use Rattle.std.proofs.lemmas.Bool.{false≢true, and_from, and_parts}
use Rattle.std.specs.List.{list_all}
use Rattle.wdl_value.specs.declared.ty.Ty.{Ty, Ty-F, fold-roll-Ty, ind-Ty, map-Ty, roll-Ty}
use Rattle.wdl_value.specs.declared.ty.Ty.TheOpen as type
use Rattle.wdl_value.specs.declared.ty.Ty.TheVariants as ty
use Rattle.wdl_value.specs.declared.value.Value.{Value, fold-roll-Value}
use Rattle.wdl_value.specs.declared.value.Value.TheOpen as value
use Rattle.wdl_value.specs.declared.value.Value.TheVariants as v
use Rattle.wdl_value.specs.Fits.{Structs, fits}
use Rattle.wdl_value.proofs.FitsForms.{a_bool, a_list, a_str, all_fit, an_int}
use Rattle.cwl_image.specs.Expressions.{default_step, takes_default}
use Rattle.cwl_emit.specs.Formed.{value_formed, value_formed_at}
use Rattle.cwl_formed.specs.Plain.{value_plain, value_plain_at}

module _ (structs : Structs) where
  abbrev Formed : Ty → Type 0
  Formed t = takes_default t ≡ true → (x : Value) → fits structs x t ≡ true → value_plain x ≡ true → value_formed x ≡ true

  abbrev KnownFormed : Type 0
  KnownFormed = (t : Ty) × Formed t

  abbrev plain : Ty-F KnownFormed → Ty-F Ty
  plain = map-Ty KnownFormed Ty (λ (k : KnownFormed). k.0)

  each_formed : (k : KnownFormed) → takes_default k.0 ≡ true → (xs : List Value) → all_fit structs xs k.0 ≡ true → list_all (λ b. b) (map value_plain xs) ≡ true → list_all (λ b. b) (map value_formed xs) ≡ true
  each_formed k s [] h p = refl
  each_formed k s (x ∷ xs) h p =
      let a = and_parts (fits structs x k.0) (all_fit structs xs k.0) h in
      let b = and_parts (value_plain x) (list_all (λ b. b) (map value_plain xs)) p in
      and_from (value_formed x) (list_all (λ b. b) (map value_formed xs)) (k.1 s x a.0 b.0) (each_formed k s xs a.1 b.1)

  layer_formed : (y : Ty-F KnownFormed) → default_step (map-Ty Ty Bool takes_default (plain y)) ≡ true → (x : Value) → fits structs x (roll-Ty (plain y)) ≡ true → value_plain x ≡ true → value_formed x ≡ true
  layer_formed type.Bool s x h p =
      let a = a_bool structs x (subst (λ t. fits structs x t ≡ true) ty.rolls-Bool h) in
      ap value_formed a.1 ∙ ap value_formed (sym (v.rolls-Bool a.0)) ∙ fold-roll-Value Bool value_formed_at (value.Bool a.0)
  layer_formed type.Int s x h p =
      let a = an_int structs x (subst (λ t. fits structs x t ≡ true) ty.rolls-Int h) in
      ap value_formed a.1 ∙ ap value_formed (sym (v.rolls-Int a.0)) ∙ fold-roll-Value Bool value_formed_at (value.Int a.0) ∙ a.2
  layer_formed type.Str s x h p =
      let a = a_str structs x (subst (λ t. fits structs x t ≡ true) ty.rolls-Str h) in
      ap value_formed a.1 ∙ ap value_formed (sym (v.rolls-Str a.0)) ∙ fold-roll-Value Bool value_formed_at (value.Str a.0)
      ∙ sym (ap value_plain a.1 ∙ ap value_plain (sym (v.rolls-Str a.0)) ∙ fold-roll-Value Bool value_plain_at (value.Str a.0)) ∙ p
  layer_formed (type.Array k some) s x h p =
      let a = a_list structs x k.0 some (subst (λ t. fits structs x t ≡ true) (ty.rolls-Array k.0 some) h) in
      ap value_formed a.1 ∙ ap value_formed (sym (v.rolls-List a.0)) ∙ fold-roll-Value Bool value_formed_at (value.List a.0)
      ∙ each_formed k s a.0 a.3 (sym (ap value_plain a.1 ∙ ap value_plain (sym (v.rolls-List a.0)) ∙ fold-roll-Value Bool value_plain_at (value.List a.0)) ∙ p)
  layer_formed y s x h p = absurd (false≢true s)

  -- What fits the type of a default is written as JSON that is read back, where it holds no NUL.
  pub fits_formed : (t : Ty) → takes_default t ≡ true → (x : Value) → fits structs x t ≡ true → value_plain x ≡ true → value_formed x ≡ true
  fits_formed = ind-Ty Formed (λ a y is. subst (λ (z : Ty-F Ty). Formed (roll-Ty z)) is (λ s x h p. layer_formed y (sym (fold-roll-Ty Bool default_step (plain y)) ∙ s) x h p))
