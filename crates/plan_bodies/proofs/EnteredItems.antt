-- The items of a scatter while they are entered one after the other.
use Rattle.std.proofs.Common.{◌≡◌, ◌≤◌, ℕ, ◌+◌, List, [], ◌∷◌, ◌++◌, length, reverse, append_assoc, append-nil, ap, sym, ◌∙◌, subst, arith}
use Rattle.std.proofs.lemmas.List.{length-append, reverse-append, reverse-reverse}
use Rattle.wdl_base.specs.declared.place.Segment.{Segment}
use Rattle.wdl_base.specs.declared.place.Segment.TheVariants as segment
use Rattle.wdl_value.specs.declared.value.Value.{Value}
use Rattle.value_net.specs.Nets.{IsSound, view}
use Rattle.plan_layout.specs.declared.layout.BodyLayout.{BodyLayout}
use Rattle.plan_bodies.specs.declared.entered.Entered.{Entered}
use Rattle.plan_growth.specs.Entering.{Plot, firsts_of, with_item, with_items}
use Rattle.plan_bodies.specs.Plots.{plot}
use Rattle.plan_bodies.proofs.Counts.{item_count}

-- the items that are left, the last one first, come behind those that were entered
pub record IsOn (all left : List Value) (body : ℕ) (outer : List ℕ) (place : List Segment) (layout : BodyLayout) (old : Plot) (new : Entered) (firsts : List ℕ) : Type 0 where
  pub sound : IsSound new.net
  pub more : length old.net.values ≤ length (view new.net).values
  pub entered : with_items body outer place layout (length firsts) (reverse left) (plot new) ≡ with_items body outer place layout 0 all old
  pub first_cells : firsts ++ firsts_of body outer place layout (length firsts) (reverse left) (plot new) ≡ firsts_of body outer place layout 0 all old

module _ (all : List Value) (body : ℕ) (outer : List ℕ) (place : List Segment) (layout : BodyLayout) (old : Plot) where
  abbrev Entering : List Value → Entered → List ℕ → Type 0
  Entering left new firsts = IsOn all left body outer place layout old new firsts

  abbrev one : ℕ → Value → Plot → Plot
  one i x p = with_item body outer (place ++ segment.Index i ∷ []) layout x p

  abbrev behind : ℕ → List Value → Plot → Plot
  behind i xs p = with_items body outer place layout i xs p

  abbrev firsts_behind : ℕ → List Value → Plot → List ℕ
  firsts_behind i xs p = firsts_of body outer place layout i xs p

  pub begins_on : (left : List Value) (new : Entered) (firsts : List ℕ) → left ≡ reverse all → firsts ≡ [] → IsSound new.net → plot new ≡ old → Entering left new firsts
  begins_on left new firsts is none sound same =
      let turned : reverse left ≡ all = ap reverse is ∙ reverse-reverse all in
      subst (λ (fs : List ℕ). Entering left new fs) (sym none)
      (record {
        sound = sound;
        more = let e = ap (λ (p : Plot). length p.net.values) same in omega (arith, e);
        entered = ap (λ (xs : List Value). behind 0 xs (plot new)) turned ∙ ap (behind 0 all) same;
        first_cells = ap (λ (xs : List Value). firsts_behind 0 xs (plot new)) turned ∙ ap (firsts_behind 0 all) same;
      })

  pub goes_on : (left rest : List Value) (new newer : Entered) (firsts later : List ℕ) (first : ℕ) (x : Value) → Entering left new firsts → left ≡ rest ++ x ∷ [] → later ≡ firsts ++ first ∷ [] → first ≡ length (view new.net).values
      → IsSound newer.net → plot newer ≡ one (length firsts) x (plot new) → Entering rest newer later
  goes_on left rest new newer firsts later first x h is pushed at sound now =
      let turned : reverse left ≡ x ∷ reverse rest = ap reverse is ∙ reverse-append rest (x ∷ []) in
      let size : length (firsts ++ first ∷ []) ≡ length firsts + 1 = length-append firsts (first ∷ []) in
      let mid : Plot = one (length firsts) x (plot new) in
      subst (λ (fs : List ℕ). Entering rest newer fs) (sym pushed)
      (record {
        sound = sound;
        more =
            let e = ap (λ (p : Plot). length p.net.values) now in
            let own = item_count body outer (place ++ segment.Index (length firsts) ∷ []) layout x (plot new) in
            let before = h.more in
            omega (arith, e, own, before);
        entered =
            ap (λ (n : ℕ). behind n (reverse rest) (plot newer)) size ∙ ap (behind (length firsts + 1) (reverse rest)) now ∙ sym (ap (λ (xs : List Value). behind (length firsts) xs (plot new)) turned)
            ∙ h.entered;
        first_cells =
            ap (λ (n : ℕ). (firsts ++ first ∷ []) ++ firsts_behind n (reverse rest) (plot newer)) size
            ∙ ap (λ (p : Plot). (firsts ++ first ∷ []) ++ firsts_behind (length firsts + 1) (reverse rest) p) now
            ∙ append_assoc firsts (first ∷ []) (firsts_behind (length firsts + 1) (reverse rest) mid)
            ∙ ap (λ (n : ℕ). firsts ++ n ∷ firsts_behind (length firsts + 1) (reverse rest) mid) at
            ∙ sym (ap (λ (xs : List Value). firsts ++ firsts_behind (length firsts) xs (plot new)) turned) ∙ h.first_cells;
      })

  pub all_entered : (left : List Value) (new : Entered) (firsts : List ℕ) → Entering left new firsts → left ≡ [] → plot new ≡ behind 0 all old
  all_entered left new firsts h none = sym (ap (λ (xs : List Value). behind (length firsts) (reverse xs) (plot new)) none) ∙ h.entered

  pub all_firsts : (left : List Value) (new : Entered) (firsts : List ℕ) → Entering left new firsts → left ≡ [] → firsts ≡ firsts_behind 0 all old
  all_firsts left new firsts h none =
      sym (append-nil firsts) ∙ sym (ap (λ (xs : List Value). firsts ++ firsts_behind (length firsts) (reverse xs) (plot new)) none) ∙ h.first_cells
