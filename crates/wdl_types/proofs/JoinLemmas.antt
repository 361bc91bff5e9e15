-- The join of a type that is no optional, not Absent and not Empty.
use Rattle.std.proofs.Common.{◌≡◌, sym, ap, ◌∙◌, refl}
use Rattle.wdl_value.specs.declared.ty.Ty.{Ty, Ty-F, out-Ty, roll-Ty, roll-out-Ty, map-Ty}
use Rattle.wdl_value.specs.declared.ty.Ty.TheVariants as ty
use Rattle.wdl_value.specs.declared.ty.Ty.TheOpen as type
use Rattle.wdl_value.specs.Join.{Joiner, join, join_out, join_at, right_join}

pub join-plain : (t u : Ty) → ((s : Ty) → t ≡ ty.Opt s → ⊥) → (t ≡ ty.Absent → ⊥) → (t ≡ ty.Empty → ⊥) → join t u ≡ right_join t (map-Ty Ty Joiner join (out-Ty t)) u
join-plain t u o a e = join_out t u ∙ by_layer (out-Ty t) refl
  where
    by_layer : (y : Ty-F Ty) → out-Ty t ≡ y → join_at t (map-Ty Ty Joiner join y) u ≡ right_join t (map-Ty Ty Joiner join y) u
    by_layer (type.Opt s) is = absurd (o s (sym (roll-out-Ty t) ∙ ap roll-Ty is ∙ ty.rolls-Opt s))
    by_layer type.Absent is = absurd (a (sym (roll-out-Ty t) ∙ ap roll-Ty is ∙ ty.rolls-Absent))
    by_layer type.Empty is = absurd (e (sym (roll-out-Ty t) ∙ ap roll-Ty is ∙ ty.rolls-Empty))
    by_layer y is = refl
