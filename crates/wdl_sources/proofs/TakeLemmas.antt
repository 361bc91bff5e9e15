-- Why a step is not taken.
use Rattle.std.proofs.Common.{◌≡◌, ℕ, ◌+◌, ◌-◌, ◌*◌, ◌^◌, ◌<◌, ◌≤◌, List, [], ◌∷◌, ◌++◌, length, reverse, false, refl, sym, ap, ◌∙◌, subst, arith, inl, inr, Option, Some, None, Ok, Err, take}
use Rattle.std.proofs.lemmas.List.{length-append, reverse-append}
use Rattle.wdl_base.specs.Names.{is_among}
use Rattle.wdl_port.specs.Causes.{Rose}
use Rattle.wdl_port.specs.Files.{read_limit}
use Rattle.wdl_links.specs.declared.fault.LinkFault.TheVariants as fault
use Rattle.wdl_links.specs.Wants.{wants_of}
use Rattle.wdl_library.specs.Sections.{imports_of}
use Rattle.wdl_sources.specs.declared.source.Source.{Source}
use Rattle.wdl_sources.specs.declared.walk.Step.{Step}
use Rattle.wdl_sources.specs.declared.fault.ImportFault.{ImportFault}
use Rattle.wdl_sources.specs.declared.fault.ImportFault.TheVariants as import
use Rattle.wdl_sources.specs.Reading.{IsRead, IsTextFault}
use Rattle.wdl_sources.specs.Walks.{most_documents, IsSource, Imports, IsUntaken, Takes, HasRead, Gathers, paths, first_step}
use Rattle.wdl_sources.proofs.WalkLemmas.{has_first, has_reached, has_stopped}

told_or : Option (List ℕ) → List ℕ
told_or None = []
told_or (Some all) = take read_limit all

-- a document too many
pub too_many : (told : Option (List ℕ)) (step : Step) (number : ℕ) → 64 ≤ number → IsUntaken told step number 205 step.base step.span
unfolding told_or most_documents
too_many told step number h = record {
  bytes = told_or told;
  file = λ all e. ap told_or e;
  stopped = inl (refl, h, refl, refl);
}

-- no source
pub no_source : (told : Option (List ℕ)) (refused rose : Type 0) (step : Step) (old new : List Source) (waiting next : List Step) (number : ℕ) (e : ImportFault)
    → number ≡ length old → IsSource told refused rose step.path number (Err e) → Takes told refused rose step old new waiting next (Err e)
no_source told refused rose step old new waiting next number (import.Read p) n h = h
no_source told refused rose step old new waiting next number (import.Bad code p s) n h = record {
  bytes = h.1.0;
  file = h.1.1;
  stopped = inr (h.0, inl (subst (λ (m : ℕ). IsTextFault m h.1.0 code s) n h.1.2));
}
no_source told refused rose step old new waiting next number import.NoMemory n h = tt

-- a source with an import that is wrong
pub no_wants : (told : Option (List ℕ)) (refused rose : Type 0) (step : Step) (old new : List Source) (waiting next : List Step) (number : ℕ) (source : Source) (e : ImportFault)
    → number ≡ length old → IsSource told refused rose step.path number (Ok source) → Imports source (Err e) → Takes told refused rose step old new waiting next (Err e)
no_wants told refused rose step old new waiting next number source (import.Read p) n h k = absurd k
no_wants told refused rose step old new waiting next number source (import.Bad code p s) n h k = record {
  bytes = h.1.0;
  file = h.1.1;
  stopped = inr (
    k.0 ∙ h.0,
    inr (record {
      document = source.document;
      is_read = subst (λ (m : ℕ). IsRead m h.1.0 source.document) n h.1.2;
      refused = subst (λ (q : List ℕ). wants_of q [] (imports_of source.document) ≡ Err (fault.Bad code s)) (sym k.0) k.1;
    }),
  );
}
no_wants told refused rose step old new waiting next number source import.NoMemory n h k = tt

-- one source more
pub one_more : (old new : List Source) (s : Source) (number : ℕ) → number ≡ length old → number < 64 → new ≡ old ++ s ∷ [] → length new ≤ most_documents
unfolding most_documents
one_more old new s number n h e = let k = ap length e ∙ length-append old (s ∷ []) in omega (arith, n, h, k)

-- ---- the end of a walk

pub rose_later : (a b c : ℕ) → a ≤ b → Rose b c → Rose a c
rose_later a b c h r = grind (arith, h, r)

pub popped : (waiting left : List Step) (step : Step) → waiting ≡ left ++ step ∷ [] → reverse waiting ≡ step ∷ reverse left
popped waiting left step e = ap reverse e ∙ reverse-append left (step ∷ [])

pub nothing_left : (waiting : List Step) → length waiting ≡ 0 → reverse waiting ≡ []
nothing_left [] h = refl
nothing_left (s ∷ ss) h = absurd (omega (arith, h))

-- the walk ends at a step that is not taken
pub ends : (tells : List ℕ → Option (List ℕ)) (refuses : List ℕ → Type 0) (rose refused rises : Type 0) (root : List ℕ) (sources new : List Source) (step : Step)
    (waiting next : List Step) (e : ImportFault) → HasRead tells root sources (step ∷ waiting) → is_among step.path (paths sources) ≡ false
    → Takes (tells step.path) refused rises step sources new waiting next (Err e) → (refused → refuses step.path) → (rises → rose)
    → Gathers tells refuses rose root (Err e)
ends tells refuses rose refused rises root sources new step waiting next (import.Read p) h n t f r =
    (has_reached tells root sources step waiting p h n t.0, subst refuses (sym t.0) (f t.1), r t.2)
ends tells refuses rose refused rises root sources new step waiting next (import.Bad code p s) h n t f r = has_stopped tells root sources step waiting code p s h n t
ends tells refuses rose refused rises root sources new step waiting next import.NoMemory h n t f r = tt

pub starts : (tells : List ℕ → Option (List ℕ)) (root : List ℕ) (sources : List Source) (waiting : List Step) (step : Step)
    → sources ≡ [] → waiting ≡ step ∷ [] → step ≡ first_step root → HasRead tells root sources (reverse waiting)
starts tells root sources waiting step e w s =
    subst (λ (ss : List Source). HasRead tells root ss (reverse waiting)) (sym e)
    (subst (λ (ws : List Step). HasRead tells root [] (reverse ws)) (sym w)
    (subst (λ (x : Step). HasRead tells root [] (x ∷ [])) (sym s) (has_first tells root)))

pub none_yet : (sources : List Source) → sources ≡ [] → length sources ≤ most_documents
unfolding most_documents
none_yet sources e = let k = ap length e in omega (arith, k)

-- a document more, or as many and a step less
pub shorter : (old new : List Source) (s : Source) (waiting next : ℕ) → new ≡ old ++ s ∷ [] → length new ≤ most_documents → next < 2 ^ 64
    → (most_documents - length new) * 2 ^ 64 + next < (most_documents - length old) * 2 ^ 64 + waiting
shorter old new s waiting next e most small =
    let k = ap length e ∙ length-append old (s ∷ []) in omega (arith, k, most, small)
