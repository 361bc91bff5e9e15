-- The paths of a walk: each is read once, each that an import names is read, and each but the first is named by an import before it.
use Rattle.std.proofs.Common.{◌≡◌, ◌⊎◌, ℕ, zero, suc, ◌<◌, Bool, true, false, ◌||◌, List, [], ◌∷◌, ◌++◌, map, slice_get, Some, Ok, refl, sym, ap, ◌∙◌, arith, inl, inr, append_assoc}
use Rattle.std.specs.Prelude.{if◌then◌else◌}
use Rattle.std.specs.Str.{bytes_eq}
use Rattle.std.proofs.lemmas.Bool.{true≢false, and_parts, and_from, or_parts, or_cases, or_left, or_right}
use Rattle.std.proofs.lemmas.Slice.Eq.{bytes_eq-Decides}
use Rattle.std.proofs.lemmas.Option.{same_Some, none-some}
use Rattle.wdl_base.specs.Names.{is_among}
use Rattle.wdl_links.specs.declared.want.Want.{Want}
use Rattle.wdl_sources.specs.declared.source.Source.{Source}
use Rattle.wdl_sources.specs.declared.walk.Step.{Step}
use Rattle.wdl_imports.specs.LinksTo.{Paths, all_among, or_none, wants_at, named_by, AreNamed}
use Rattle.wdl_sources.specs.Walks.{Files, paths, unread, steps_from, first_step, Walk, IsWhole}

-- ---- paths among paths

pub among_append : (p : List ℕ) (ps qs : Paths) → is_among p (ps ++ qs) ≡ (is_among p ps || is_among p qs)
among_append p [] qs = refl
among_append p (q ∷ ps) qs = ap (λ b. bytes_eq q p || b) (among_append p ps qs) ∙ or_assoc (bytes_eq q p) (is_among p ps) (is_among p qs)
  where
    or_assoc : (a b c : Bool) → a || (b || c) ≡ (a || b) || c
    or_assoc true b c = refl
    or_assoc false b c = refl

among_front : (p : List ℕ) (ps qs : Paths) → is_among p ps ≡ true → is_among p (ps ++ qs) ≡ true
among_front p ps qs h = among_append p ps qs ∙ or_left (is_among p ps) (is_among p qs) h

among_back : (p : List ℕ) (ps qs : Paths) → is_among p qs ≡ true → is_among p (ps ++ qs) ≡ true
among_back p ps qs h = among_append p ps qs ∙ or_right (is_among p ps) (is_among p qs) h

among_here : (p : List ℕ) (ps qs : Paths) → is_among p (ps ++ p ∷ qs) ≡ true
among_here p ps qs = among_back p ps (p ∷ qs) (or_left (bytes_eq p p) (is_among p qs) ((bytes_eq-Decides p p).1 refl))

not_front : (p : List ℕ) (ps qs : Paths) → is_among p (ps ++ qs) ≡ false → is_among p ps ≡ false
not_front p ps qs h = (or_parts (is_among p ps) (is_among p qs) (sym (among_append p ps qs) ∙ h)).0

pub steps_paths : List Step → Paths
steps_paths ws = map (λ w. w.path) ws

all_append : (all ps qs : Paths) → all_among all (ps ++ qs) ≡ true → (all_among all ps ≡ true) × (all_among all qs ≡ true)
all_append all [] qs h = (refl, h)
all_append all (p ∷ ps) qs h =
    let b = and_parts (is_among p all) (all_among all (ps ++ qs)) h in
    let r = all_append all ps qs b.1 in
    (and_from (is_among p all) (all_among all ps) b.0 r.0, r.1)

-- ---- each path once

abbrev pub Fresh : Paths → Paths → Type 0
Fresh read [] = Unit {0}
Fresh read (p ∷ ps) = (is_among p read ≡ false) × Fresh (read ++ p ∷ []) ps

not_read : (read : Paths) (ws behind : List Step) (step : Step) → unread read ws ≡ step ∷ behind → is_among step.path read ≡ false
not_read read [] behind step h = absurd (none_left h)
  where
    none_left : [] ≡ step ∷ behind → ⊥
    none_left e = cc
not_read read (w ∷ ws) behind step h = on (λ g. not_read read ws behind step g) (is_among w.path read) refl h
  where
    head : w ∷ ws ≡ step ∷ behind → w ≡ step
    head e = cc

    on : (unread read ws ≡ step ∷ behind → is_among step.path read ≡ false) → (b : Bool) → is_among w.path read ≡ b → (if b then unread read ws else w ∷ ws) ≡ step ∷ behind
        → is_among step.path read ≡ false
    on more true e g = more g
    on more false e g = ap (λ (x : Step). is_among x.path read) (sym (head g)) ∙ e

module _ (files : Files) where
  pub walk_fresh : (read : Paths) (waiting : List Step) (ss : List Source) (rest : List Step) → Walk files read waiting ss rest → Fresh read (paths ss)
  walk_fresh read waiting [] rest w = tt
  walk_fresh read waiting (s ∷ ss) rest w =
      (ap (λ p. is_among p read) w.1.path ∙ not_read read waiting w.1.behind w.1.step w.1.first, walk_fresh (read ++ s.path ∷ []) w.0 ss rest w.2)

fresh_at : (read ps : Paths) (k : ℕ) (p : List ℕ) → Fresh read ps → slice_get ps k ≡ Some p → is_among p read ≡ false
fresh_at read [] k p f h = absurd (none-some p h)
fresh_at read (q ∷ ps) zero p f h = ap (λ x. is_among x read) (sym (same_Some q p h)) ∙ f.0
fresh_at read (q ∷ ps) (suc k) p f h = not_front p read (q ∷ []) (fresh_at (read ++ q ∷ []) ps k p f.1 h)

-- a path has one number
pub one_number : (read ps : Paths) (j k : ℕ) (p : List ℕ) → Fresh read ps → slice_get ps j ≡ Some p → slice_get ps k ≡ Some p → j ≡ k
one_number read [] j k p f h g = absurd (none-some p h)
one_number read (q ∷ ps) zero zero p f h g = refl
one_number read (q ∷ ps) zero (suc k) p f h g =
    absurd (true≢false (sym (ap (λ x. is_among x (read ++ q ∷ [])) (sym (same_Some q p h)) ∙ among_here q read []) ∙ fresh_at (read ++ q ∷ []) ps k p f.1 g))
one_number read (q ∷ ps) (suc j) zero p f h g =
    absurd (true≢false (sym (ap (λ x. is_among x (read ++ q ∷ [])) (sym (same_Some q p g)) ∙ among_here q read []) ∙ fresh_at (read ++ q ∷ []) ps j p f.1 h))
one_number read (q ∷ ps) (suc j) (suc k) p f h g = ap suc (one_number (read ++ q ∷ []) ps j k p f.1 h g)

-- ---- what imports name is read

steps_append : (base : List ℕ) (ws : List Want) (behind : List Step) → steps_paths (steps_from base ws ++ behind) ≡ map (λ w. w.path) ws ++ steps_paths behind
unfolding steps_paths
steps_append base [] behind = refl
steps_append base (w ∷ ws) behind = ap (λ r. w.path ∷ r) (steps_append base ws behind)

-- nothing that waits is unread
none_waits : (all : Paths) (ws : List Step) → unread all ws ≡ [] → all_among all (steps_paths ws) ≡ true
unfolding steps_paths
none_waits all [] h = refl
none_waits all (w ∷ ws) h = on (λ g. none_waits all ws g) (is_among w.path all) refl h
  where
    none_left : w ∷ ws ≡ [] → ⊥
    none_left e = cc

    on : (unread all ws ≡ [] → all_among all (steps_paths ws) ≡ true) → (b : Bool) → is_among w.path all ≡ b → (if b then unread all ws else w ∷ ws) ≡ [] → all_among all (steps_paths (w ∷ ws)) ≡ true
    on more true e g = and_from (is_among w.path all) (all_among all (steps_paths ws)) e (more g)
    on more false e g = absurd (none_left g)

-- what waits is read already, is the next step, or waits behind it
waits_on : (all read : Paths) (ws behind : List Step) (step : Step) → ((p : List ℕ) → is_among p read ≡ true → is_among p all ≡ true) → unread read ws ≡ step ∷ behind
    → is_among step.path all ≡ true → all_among all (steps_paths behind) ≡ true → all_among all (steps_paths ws) ≡ true
unfolding steps_paths
waits_on all read [] behind step more h s b = refl
waits_on all read (w ∷ ws) behind step more h s b = on (λ g. waits_on all read ws behind step more g s b) (is_among w.path read) refl h
  where
    head : w ∷ ws ≡ step ∷ behind → (w ≡ step) × (ws ≡ behind)
    head e = ((cc), (cc))

    on : (unread read ws ≡ step ∷ behind → all_among all (steps_paths ws) ≡ true) → (x : Bool) → is_among w.path read ≡ x → (if x then unread read ws else w ∷ ws) ≡ step ∷ behind → all_among all (steps_paths (w ∷ ws)) ≡ true
    on later true e g = and_from (is_among w.path all) (all_among all (steps_paths ws)) (more w.path e) (later g)
    on later false e g = let q = head g in
        and_from (is_among w.path all) (all_among all (steps_paths ws)) (ap (λ (x : Step). is_among x.path all) q.0 ∙ s) (ap (λ (x : List Step). all_among all (steps_paths x)) q.1 ∙ b)

module _ (files : Files) where
  walk_named : (all read : Paths) (waiting : List Step) (ss : List Source) (rest : List Step) → all ≡ read ++ paths ss → Walk files read waiting ss rest → unread all rest ≡ []
      → (all_among all (steps_paths waiting) ≡ true) × AreNamed all ss
  walk_named all read waiting [] rest e w h = (ap (λ (ws : List Step). all_among all (steps_paths ws)) (sym w) ∙ none_waits all rest h, tt)
  walk_named all read waiting (s ∷ ss) rest e w h =
      let step = w.1 in
      let r = walk_named all (read ++ s.path ∷ []) w.0 ss rest (e ∙ sym (append_assoc read (s.path ∷ []) (paths ss))) w.2 h in
      let wants : wants_at s ≡ step.wants = ap or_none step.imports in
      let split = all_append all (map (λ (x : Want). x.path) step.wants) (steps_paths step.behind)
      (sym (ap (all_among all) (steps_append s.path step.wants step.behind)) ∙ ap (λ (ws : List Step). all_among all (steps_paths ws)) (sym step.then_) ∙ r.0) in
      let here : is_among s.path all ≡ true = ap (is_among s.path) e ∙ among_here s.path read (paths ss) in (
        waits_on all read waiting step.behind step.step (λ p q. ap (is_among p) e ∙ among_front p read (s.path ∷ paths ss) q) step.first
            (ap (λ p. is_among p all) (sym step.path) ∙ here) split.1,
        ((ap (λ (ws : List Want). all_among all (map (λ (x : Want). x.path) ws)) wants ∙ split.0, step.imports ∙ ap (λ (ws : List Want). Ok ws) (sym wants)), r.1),
      )

  pub whole_named : (root : List ℕ) (ss : List Source) → IsWhole files root ss → AreNamed (paths ss) ss
  whole_named root ss h = (walk_named (paths ss) [] (first_step root ∷ []) ss h.rest refl h.front h.whole).1

  pub whole_fresh : (root : List ℕ) (ss : List Source) → IsWhole files root ss → Fresh [] (paths ss)
  whole_fresh root ss h = walk_fresh files [] (first_step root ∷ []) ss h.rest h.front

-- ---- each is named before

-- each path is among those, or is named by a document before it
abbrev pub Reach : Paths → List Source → Type 0
Reach from [] = Unit {0}
Reach from (s ∷ ss) = (is_among s.path from ≡ true) × Reach (from ++ named_by s) ss

abbrev Covers : Paths → Paths → Type 0
Covers more less = (p : List ℕ) → is_among p less ≡ true → is_among p more ≡ true

covers_append : (more less ps : Paths) → Covers more less → Covers (more ++ ps) (less ++ ps)
covers_append more less ps c p h = elim (or_cases (is_among p less) (is_among p ps) (sym (among_append p less ps) ∙ h)) as (λ x. is_among p (more ++ ps) ≡ true) [
  | inl l ↦ among_front p more ps (c p l)
  | inr r ↦ among_back p more ps r
]

reach_more : (more less : Paths) (ss : List Source) → Covers more less → Reach less ss → Reach more ss
reach_more more less [] c r = tt
reach_more more less (s ∷ ss) c r = (c s.path r.0, reach_more (more ++ named_by s) (less ++ named_by s) ss (covers_append more less (named_by s) c) r.1)

waiting_step : (read : Paths) (ws behind : List Step) (step : Step) → unread read ws ≡ step ∷ behind
    → (is_among step.path (steps_paths ws) ≡ true) × Covers (steps_paths ws) (steps_paths behind)
unfolding steps_paths
waiting_step read [] behind step h = absurd (none_left h)
  where
    none_left : [] ≡ step ∷ behind → ⊥
    none_left e = cc
waiting_step read (w ∷ ws) behind step h = on (λ g. waiting_step read ws behind step g) (is_among w.path read) h
  where
    head : w ∷ ws ≡ step ∷ behind → (w ≡ step) × (ws ≡ behind)
    head e = ((cc), (cc))

    on : (unread read ws ≡ step ∷ behind → (is_among step.path (steps_paths ws) ≡ true) × Covers (steps_paths ws) (steps_paths behind)) → (x : Bool)
        → (if x then unread read ws else w ∷ ws) ≡ step ∷ behind → (is_among step.path (steps_paths (w ∷ ws)) ≡ true) × Covers (steps_paths (w ∷ ws)) (steps_paths behind)
    on more true g = let r = more g in
        (or_right (bytes_eq w.path step.path) (is_among step.path (steps_paths ws)) r.0, λ p q. or_right (bytes_eq w.path p) (is_among p (steps_paths ws)) (r.1 p q))
    on more false g = let q = head g in (
      or_left (bytes_eq w.path step.path) (is_among step.path (steps_paths ws)) ((bytes_eq-Decides w.path step.path).1 (ap (λ (x : Step). x.path) q.0)),
      λ p r. or_right (bytes_eq w.path p) (is_among p (steps_paths ws)) (ap (λ (x : List Step). is_among p (steps_paths x)) q.1 ∙ r),
    )

module _ (files : Files) where
  walk_reach : (read : Paths) (waiting : List Step) (ss : List Source) (rest : List Step) → Walk files read waiting ss rest → Reach (steps_paths waiting) ss
  walk_reach read waiting [] rest w = tt
  walk_reach read waiting (s ∷ ss) rest w =
      let step = w.1 in
      let wants : wants_at s ≡ step.wants = ap or_none step.imports in
      let first = waiting_step read waiting step.behind step.step step.first in
      let next : steps_paths w.0 ≡ named_by s ++ steps_paths step.behind =
      ap steps_paths step.then_ ∙ steps_append s.path step.wants step.behind ∙ ap (λ (ws : List Want). map (λ (x : Want). x.path) ws ++ steps_paths step.behind) (sym wants) in (
        ap (λ p. is_among p (steps_paths waiting)) step.path ∙ first.0,
        reach_more (steps_paths waiting ++ named_by s) (steps_paths w.0) ss (λ p h. turned p first.1 (sym (ap (is_among p) next) ∙ h)) (walk_reach (read ++ s.path ∷ []) w.0 ss rest w.2),
      )
    where
      turned : (p : List ℕ) → Covers (steps_paths waiting) (steps_paths w.1.behind) → is_among p (named_by s ++ steps_paths w.1.behind) ≡ true
          → is_among p (steps_paths waiting ++ named_by s) ≡ true
      turned p c h = elim (or_cases (is_among p (named_by s)) (is_among p (steps_paths w.1.behind)) (sym (among_append p (named_by s) (steps_paths w.1.behind)) ∙ h))
          as (λ x. is_among p (steps_paths waiting ++ named_by s) ≡ true) [
            | inl l ↦ among_back p (steps_paths waiting) (named_by s) l
            | inr r ↦ among_front p (steps_paths waiting) (named_by s) (c p r)
          ]

  pub whole_reach : (root : List ℕ) (ss : List Source) → IsWhole files root ss → Reach (root ∷ []) ss
  unfolding steps_paths
  whole_reach root ss h = walk_reach [] (first_step root ∷ []) ss h.rest h.front

-- the document at a number is named by one before it, or its path is among the first ones
pub reached : (from : Paths) (ss : List Source) (k : ℕ) (s : Source) → Reach from ss → slice_get ss k ≡ Some s
    → (is_among s.path from ≡ true) ⊎ ((j : ℕ) × (t : Source) × (j < k) × (slice_get ss j ≡ Some t) × (is_among s.path (named_by t) ≡ true))
reached from [] k s r h = absurd (none-some s h)
reached from (x ∷ ss) zero s r h = inl (ap (λ (y : Source). is_among y.path from) (sym (same_Some x s h)) ∙ r.0)
reached from (x ∷ ss) (suc k) s r h = elim (reached (from ++ named_by x) ss k s r.1 h)
    as (λ c. (is_among s.path from ≡ true) ⊎ ((j : ℕ) × (t : Source) × (j < suc k) × (slice_get (x ∷ ss) j ≡ Some t) × (is_among s.path (named_by t) ≡ true))) [
      | inl l ↦ elim (or_cases (is_among s.path from) (is_among s.path (named_by x)) (sym (among_append s.path from (named_by x)) ∙ l))
          as (λ c. (is_among s.path from ≡ true) ⊎ ((j : ℕ) × (t : Source) × (j < suc k) × (slice_get (x ∷ ss) j ≡ Some t) × (is_among s.path (named_by t) ≡ true))) [
            | inl f ↦ inl f
            | inr n ↦ inr (0, x, omega arith, refl, n)
          ]
      | inr q ↦ inr (suc q.0, q.1, omega (arith, q.2), q.3, q.4)
    ]
