-- The place of what follows a tree.
use Rattle.std.proofs.Common.{◌≡◌, ℕ, ◌-◌, ◌+◌, ◌≤◌, [], ◌∷◌, length, take, drop, ap, sym, ◌∙◌, refl, subst, arith, length-append, length-drop}
use Rattle.std.proofs.Math.Seq.{drop-append_seam}
use Rattle.std.proofs.lemmas.List.{drop-drop}
use Rattle.wdl_ast.specs.Words.{Words}
use Rattle.library_calls.specs.Parsing.{Fronts, IsLongest}

module _ {A : Type 0} (Is : A → Type 0) (spelled : A → Words) (ts : Words) (at : ℕ) (x : A) (rest : Words) (f : Fronts Is spelled (drop at ts) x rest) where
  pub left_fits : length rest ≤ length ts
  left_fits = omega (arith, ap length f.text, length-append (spelled x) rest, length-drop at ts)

  -- what follows stands at the place that its length gives
  pub place : at ≤ length ts → drop (length ts - length rest) ts ≡ rest
  place fits =
      let n : length ts - length rest ≡ at + length (spelled x) = omega (arith, ap length f.text, length-append (spelled x) rest, length-drop at ts) in
      ap (λ k. drop k ts) n ∙ sym (drop-drop (length (spelled x)) at ts) ∙ ap (drop (length (spelled x))) f.text ∙ drop-append_seam (spelled x) rest

  pub front_at : at ≤ length ts → Fronts Is spelled (drop at ts) x (drop (length ts - length rest) ts)
  front_at fits = subst (Fronts Is spelled (drop at ts) x) (sym (place fits)) f

  pub longest_at : at ≤ length ts → IsLongest Is spelled (drop at ts) x rest → IsLongest Is spelled (drop at ts) x (drop (length ts - length rest) ts)
  longest_at fits l = subst (λ z. IsLongest Is spelled (drop at ts) x z) (sym (place fits)) l

whole : (a : Words) → take (length a) a ≡ a
whole [] = refl
whole (x ∷ a) = ap (λ z. x ∷ z) (whole a)

-- a slice up to the end
pub to_end : (ts : Words) (at : ℕ) → take (length ts - at) (drop at ts) ≡ drop at ts
to_end ts at = ap (λ n. take n (drop at ts)) (sym (length-drop at ts)) ∙ whole (drop at ts)
