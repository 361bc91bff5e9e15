-- The documents that are being read when a circle closes are determined, and so is the import that closes it.
use Rattle.std.proofs.Common.{◌≡◌, ℕ, ◌<◌, List, [], ◌∷◌, length, Some, sym, ap, ◌∙◌, subst, arith, inl, inr}
use Rattle.std.specs.Prelude.{Contains}
use Rattle.std.proofs.lemmas.Bool.{cases_lt}
use Rattle.wdl_base.specs.declared.span.Span.{Span}
use Rattle.wdl_library.specs.declared.doc.Doc.{Doc}
use Rattle.wdl_links.specs.Circles.{AreBeingRead, IsCircle, ReadsNext}
use Rattle.library_laws.specs.Laws.{OneCircle}

module _ (docs : List Doc) where
  next_same : (j k l : ℕ) (s t : Span) → ReadsNext docs j k s → ReadsNext docs j l t → (k ≡ l) × (s ≡ t)
  next_same j k l s t a b = pair (k, s) (l, t) (sym a ∙ b)
    where
      pair : (p q : ℕ × Span) → Some p ≡ Some q → (p.0 ≡ q.0) × (p.1 ≡ q.1)
      pair p q e = let same : p ≡ q = cc in (ap (λ (x : ℕ × Span). x.0) same, ap (λ (x : ℕ × Span). x.1) same)

  head_same : (k l : ℕ) (ks ls : List ℕ) → k ∷ ks ≡ l ∷ ls → k ≡ l
  head_same k l ks ls e = cc

  -- as many documents that are being read are the same
  same_length : (ks ls : List ℕ) → length ks ≡ length ls → AreBeingRead docs ks → AreBeingRead docs ls → ks ≡ ls
  same_length [] ls e a b = absurd a
  same_length (k ∷ ks) [] e a b = absurd b
  same_length (k ∷ []) (l ∷ []) e a b = ap (λ x. x ∷ []) (a ∙ sym b)
  same_length (k ∷ []) (l ∷ m ∷ ms) e a b = absurd (omega (arith, e))
  same_length (k ∷ j ∷ js) (l ∷ []) e a b = absurd (omega (arith, e))
  same_length (k ∷ j ∷ js) (l ∷ m ∷ ms) e a b =
      let rest = same_length (j ∷ js) (m ∷ ms) (omega (arith, e)) a.2 b.2 in
      let next = (next_same m k l a.0.0 b.0.0 (subst (λ x. ReadsNext docs x k a.0.0) (head_same j m js ms rest) a.0.1) b.0.1).0 in
      ap (λ x. x ∷ j ∷ js) next ∙ ap (λ xs. l ∷ xs) rest

  -- No more are being read than where a circle closes.
  no_more : (k j : ℕ) (ks ls : List ℕ) (s : Span) → AreBeingRead docs (k ∷ ks) → ReadsNext docs k j s → Contains (k ∷ ks) j → AreBeingRead docs ls → length (k ∷ ks) < length ls → ⊥
  no_more k j ks [] s a n c b below = absurd b
  no_more k j ks (l ∷ []) s a n c b below = omega (arith, below)
  no_more k j ks (l ∷ m ∷ ms) s a n c b below =
      elim (cases_lt (length (k ∷ ks)) (length (m ∷ ms))) as (λ x. ⊥) [
        | inl more ↦ no_more k j ks (m ∷ ms) s a n c b.2 more
        | inr most ↦
            let e : length (k ∷ ks) ≡ length (m ∷ ms) = omega (arith, below, most) in
            let same = same_length (k ∷ ks) (m ∷ ms) e a b.2 in
            let next = (next_same m j l s b.0.0 (subst (λ x. ReadsNext docs x j s) (head_same k m ks ms same) n) b.0.1).0 in
            b.1 (subst (λ x. Contains (m ∷ ms) x) next (subst (λ xs. Contains xs j) same c))
      ]

  as_many : (s t : Span) (a : IsCircle docs s) (b : IsCircle docs t) → length (a.importing ∷ a.outer) ≡ length (b.importing ∷ b.outer)
  as_many s t a b =
      elim (cases_lt (length (a.importing ∷ a.outer)) (length (b.importing ∷ b.outer))) as (λ x. length (a.importing ∷ a.outer) ≡ length (b.importing ∷ b.outer)) [
        | inl less ↦ absurd (no_more a.importing a.imported a.outer (b.importing ∷ b.outer) s a.reading a.next a.again b.reading less)
        | inr most ↦
            elim (cases_lt (length (b.importing ∷ b.outer)) (length (a.importing ∷ a.outer))) as (λ x. length (a.importing ∷ a.outer) ≡ length (b.importing ∷ b.outer)) [
              | inl less ↦ absurd (no_more b.importing b.imported b.outer (a.importing ∷ a.outer) t b.reading b.next b.again a.reading less)
              | inr least ↦ omega (arith, most, least)
            ]
      ]

pub one_circle : OneCircle
one_circle docs s t a b =
    let same = same_length docs (a.importing ∷ a.outer) (b.importing ∷ b.outer) (as_many docs s t a b) a.reading b.reading in
    let importing = head_same docs a.importing b.importing a.outer b.outer same in
    (next_same docs b.importing a.imported b.imported s t (subst (λ x. ReadsNext docs x a.imported s) importing a.next) b.next).1
