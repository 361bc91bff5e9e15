-- What moves of the net below come to in the view with values and rules.
use Rattle.std.proofs.Common.{◌≡◌, ℕ, zero, suc, ◌+◌, ◌&&◌, Bool, true, false, List, [], ◌∷◌, ◌++◌, Option, Some, None, length, map, get_or, ap, refl, sym, ◌∙◌}
use Rattle.std.specs.Prelude.{is_some, replicate}
use Rattle.std.specs.List.{list_all, slice_set}
use Rattle.std.proofs.lemmas.List.{append-nil, append_assoc, length-set, map-append, map-set, replicate_more}
use Rattle.step_net.specs.Views as step
use Rattle.step_net.specs.Views.{Wants}
use Rattle.value_net.specs.Nets.{Popped, View, are_set, is_set, view_of, with_cells}

-- ---- what taking a step leaves

pub popped_cells : (a b : step.View) (o : Option ℕ) → step.Popped a o b → b.cells ≡ a.cells
popped_cells a b None p = ap (λ (v : step.View). v.cells) p.0
popped_cells a b (Some s) p = ap (λ (v : step.View). v.cells) p.now

pub popped_count : (a b : step.View) (o : Option ℕ) → step.Popped a o b → length b.steps ≡ length a.steps
popped_count a b None p = ap (λ (v : step.View). length v.steps) p.0
popped_count a b (Some s) p = ap (λ (v : step.View). length v.steps) p.now ∙ length-set a.steps s (record { needs = p.step.needs; is_taken = true })

module _ {V : Type 0} where
  -- a cell is set where it has a value
  same_set : (values : List (Option V)) (c : ℕ) → get_or (map is_some values) c false ≡ is_set values c
  same_set [] zero = refl
  same_set [] (suc c) = refl
  same_set (x ∷ xs) zero = refl
  same_set (x ∷ xs) (suc c) = same_set xs c

  same_all : (values : List (Option V)) (cs : List ℕ) → list_all (λ c. get_or (map is_some values) c false) cs ≡ are_set values cs
  same_all values [] = refl
  same_all values (c ∷ cs) =
      ap (λ b. b && list_all (λ d. get_or (map is_some values) d false) cs) (same_set values c) ∙ ap (λ b. is_set values c && b) (same_all values cs)

  pub set_more : (values : List (Option V)) (cells : List Bool) → cells ≡ map is_some values → cells ++ false ∷ [] ≡ map is_some (values ++ None ∷ [])
  set_more values cells e = ap (λ bs. bs ++ false ∷ []) e ∙ sym (map-append is_some values (None ∷ []))

  pub set_now : (values : List (Option V)) (cells : List Bool) (c : ℕ) (x : V) → cells ≡ map is_some values → slice_set cells c true ≡ map is_some (slice_set values c (Some x))
  set_now values cells c x e = ap (λ bs. slice_set bs c true) e ∙ sym (map-set is_some values c (Some x))

  -- ---- cells more

  pub no_cells : {R : Type 0} (v : View V R) → v ≡ with_cells v 0
  no_cells v = ap (λ (xs : List (Option V)). view_of xs v.rules v.steps) (sym (append-nil v.values))

  pub more_cells : {R : Type 0} (u v w : View V R) (n : ℕ) → v ≡ with_cells u n → w ≡ with_cells v 1 → w ≡ with_cells u (n + 1)
  more_cells {R = R} u v w n e f =
      f ∙ ap (λ (x : View V R). with_cells x 1) e
      ∙ ap (λ (xs : List (Option V)). view_of xs u.rules u.steps) (append_assoc u.values (replicate n None) (None ∷ []) ∙ ap (λ (xs : List (Option V)). u.values ++ xs) (replicate_more n None))

  -- ---- a step is taken

  ready_here : (values : List (Option V)) (v : step.View) (w : Wants) → v.cells ≡ map is_some values → step.is_ready v w ≡ are_set values w.needs
  ready_here values v w e = ap (λ (bs : List Bool). list_all (λ c. get_or bs c false) w.needs) e ∙ same_all values w.needs

  pub popped : {R : Type 0} (values : List (Option V)) (rules : List R) (a b : step.View) (o : Option ℕ) → a.cells ≡ map is_some values → step.Popped a o b
      → Popped (view_of values rules a.steps) o (view_of values rules b.steps)
  popped values rules a b None e p = (ap (λ (v : step.View). view_of values rules v.steps) p.0, λ t w h fresh. sym (ready_here values a w e) ∙ p.1 t w h fresh)
  popped values rules a b (Some s) e p =
      record {
        step = p.step;
        there = p.there;
        fresh = p.fresh;
        ready = sym (ready_here values a p.step e) ∙ p.ready;
        now = ap (λ (v : step.View). view_of values rules v.steps) p.now;
      }
