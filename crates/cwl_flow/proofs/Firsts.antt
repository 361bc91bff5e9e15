-- References at their first use, whatever the order in which the earlier ones are kept.
use Rattle.std.proofs.Common.{◌≡◌, Bool, true, false, cond, ◌||◌, List, [], ◌∷◌, ◌++◌, append_assoc, sym, ap, ◌∙◌, refl}
use Rattle.wdl_base.specs.declared.name.Key.{Key}
use Rattle.wdl_typed.specs.Scope.{is_among, same_key}
use Rattle.cwl_image.specs.Image.{firsts}
use Rattle.wdl_names.proofs.FreshLemmas.{or_assoc}

abbrev Alike : List Key → List Key → Type 0
Alike bs cs = (j : Key) → is_among j bs ≡ is_among j cs

firsts_alike : (bs cs ks : List Key) → Alike bs cs → firsts bs ks ≡ firsts cs ks
firsts_alike bs cs [] h = refl
firsts_alike bs cs (k ∷ ks) h =
    ap (λ b. cond b (firsts bs ks) (k ∷ firsts (k ∷ bs) ks)) (h k)
    ∙ ap (λ fs. cond (is_among k cs) fs (k ∷ firsts (k ∷ bs) ks)) (firsts_alike bs cs ks h)
    ∙ ap (λ fs. cond (is_among k cs) (firsts cs ks) (k ∷ fs)) (firsts_alike (k ∷ bs) (k ∷ cs) ks (λ j. ap (λ b. same_key k j || b) (h j)))

or_last : (a b : Bool) → (a || b) ≡ (b || (a || false))
or_last true true = refl
or_last true false = refl
or_last false true = refl
or_last false false = refl

among_both : (j : Key) (bs cs : List Key) → is_among j (bs ++ cs) ≡ (is_among j bs || is_among j cs)
among_both j [] cs = refl
among_both j (b ∷ bs) cs = ap (λ t. same_key b j || t) (among_both j bs cs) ∙ or_assoc (same_key b j) (is_among j bs) (is_among j cs)

-- a new reference
pub one_new : (fs gs ks all : List Key) (k : Key) → gs ≡ fs ++ k ∷ [] → is_among k fs ≡ false → fs ++ firsts fs (k ∷ ks) ≡ all → gs ++ firsts gs ks ≡ all
one_new fs gs ks all k more new h =
    ap (λ hs. hs ++ firsts hs ks) more
    ∙ append_assoc fs (k ∷ []) (firsts (fs ++ k ∷ []) ks)
    ∙ ap (λ hs. fs ++ k ∷ hs) (sym (firsts_alike (k ∷ fs) (fs ++ k ∷ []) ks (λ j. or_last (same_key k j) (is_among j fs) ∙ sym (among_both j fs (k ∷ [])))))
    ∙ sym (ap (λ b. fs ++ cond b (firsts fs ks) (k ∷ firsts (k ∷ fs) ks)) new)
    ∙ h

-- one that came before
pub one_old : (fs gs ks all : List Key) (k : Key) → gs ≡ fs → is_among k fs ≡ true → fs ++ firsts fs (k ∷ ks) ≡ all → gs ++ firsts gs ks ≡ all
one_old fs gs ks all k same old h =
    ap (λ hs. hs ++ firsts hs ks) same ∙ sym (ap (λ b. fs ++ cond b (firsts fs ks) (k ∷ firsts (k ∷ fs) ks)) old) ∙ h
