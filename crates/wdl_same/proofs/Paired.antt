-- Tasks and their partners: a task that is called is the same as the one that stands for it.
use Rattle.std.proofs.Common.{◌≡◌, ℕ, zero, suc, true, ◌<◌, List, [], ◌∷◌, Option, Some, None, length, slice_get, subst, refl, arith}
use Rattle.std.proofs.lemmas.Bool.{eqb-true, false≢true, and_parts}
use Rattle.wdl_typed.specs.declared.task.TaskDef.{TaskDef}
use Rattle.wdl_same.specs.Partners.{all_paired, is_number, is_partner, same_called, same_partner, same_partners}

-- Without calls on the one side no task gets a partner.
pub none_paired : (partners : List (Option ℕ)) (ks js : List ℕ) → length js < 1 → all_paired partners ks js ≡ partners
none_paired partners [] js h = refl
none_paired partners (k ∷ ks) [] h = refl
none_paired partners (k ∷ ks) (j ∷ js) h = absurd (omega (arith, h))

module _ (others : List TaskDef) where
  first_called : (t : TaskDef) (o : Option ℕ) (j : ℕ) → same_partner others t o ≡ true → is_number (Some o) j ≡ true → same_called (Some t) (slice_get others j) ≡ true
  first_called t None j h p = absurd (false≢true p)
  first_called t (Some i) j h p = subst (λ (k : ℕ). same_called (Some t) (slice_get others k) ≡ true) (eqb-true i j p) h

  pub partner_called : (tasks : List TaskDef) (partners : List (Option ℕ)) → same_partners others tasks partners ≡ true → (k j : ℕ) → is_partner partners k j ≡ true
      → same_called (slice_get tasks k) (slice_get others j) ≡ true
  partner_called [] [] h k j p = absurd (false≢true p)
  partner_called [] (o ∷ os) h k j p = absurd (false≢true h)
  partner_called (t ∷ ts) [] h k j p = absurd (false≢true h)
  partner_called (t ∷ ts) (o ∷ os) h zero j p = first_called t o j (and_parts (same_partner others t o) (same_partners others ts os) h).0 p
  partner_called (t ∷ ts) (o ∷ os) h (suc k) j p = partner_called ts os (and_parts (same_partner others t o) (same_partners others ts os) h).1 k j p
