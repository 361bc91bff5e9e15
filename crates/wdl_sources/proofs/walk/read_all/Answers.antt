use Rattle.std.proofs.Common.{◌≡◌, ◌∷◌, ◌∙◌, ℕ, List, Option, subst, false, reverse, length, arith, rules, refl, Err}
use Rattle.wdl_base.specs.Names.{is_among}
use Rattle.wdl_port.specs.Causes.{Rose}
use Rattle.wdl_sources.specs.declared.walk.Step.{Step}
use Rattle.wdl_sources.specs.Walks.{HasRead, IsTaken, Takes, paths}
use Rattle.wdl_sources.proofs.WalkLemmas.{has_more}
use Rattle.wdl_sources.proofs.TakeLemmas.{popped, ends, rose_later, starts, none_yet, shorter}
use Rattle.wdl_sources.proofs.walk.read_all.Goals as goal

pub walk-preserved : goal.walk-preserved
walk-preserved g c =
    let l = c.walk in
    let step = c.in-Some.step in
    let tells = g.F.Shelf.tells c.args.shelf.now in
    let root = c.args.path.now in
    let read : HasRead tells root l.sources (step ∷ reverse c.pop.new.self.items) =
    subst (λ (w : List Step). HasRead tells root l.sources w) (popped l.waiting.items c.pop.new.self.items step c.in-Some.ensures.items) l.invariant.0 in
    let fresh : is_among step.path (paths l.sources) ≡ false = search rules in
    let taken : IsTaken (tells step.path) step l.sources c.take.new.sources (reverse c.pop.new.self.items) (reverse c.take.new.waiting.items) =
    subst (λ (o : Option (List ℕ)). IsTaken o step l.sources c.take.new.sources (reverse c.pop.new.self.items) (reverse c.take.new.waiting.items)) (l.invariant.3 step.path) c.in_ok-take.ensures.outcome in (
      has_more tells root l.sources c.take.new.sources step (reverse c.pop.new.self.items) (reverse c.take.new.waiting.items) read fresh taken,
      c.in_ok-take.ensures.most,
      omega (arith, l.invariant.2, c.in_ok-take.ensures.later),
      λ p. c.in_ok-take.ensures.same_files p ∙ l.invariant.3 p,
      λ p. (λ x. (l.invariant.4 p).0 ((c.in_ok-take.ensures.same_refusals p).0 x), λ x. (c.in_ok-take.ensures.same_refusals p).1 ((l.invariant.4 p).1 x)),
      c.in_ok-take.ensures.counted ∙ l.invariant.5,
    )

pub walk-smaller : goal.walk-smaller
walk-smaller g c =
    let l = c.walk in
    let t = c.in_ok-take.ensures.outcome in
    let ok = c.take.new.waiting.ok in
    let small = c.take.new.waiting.small in
    shorter l.sources c.take.new.sources t.source (length l.waiting.items) (length c.take.new.waiting.items) t.sources c.in_ok-take.ensures.most (omega (arith, ok, small))

pub walk-init : goal.walk-init
walk-init g c = (
  starts (g.F.Shelf.tells c.args.shelf.now) c.args.path.now c.empty-sources.result c.push.new.self.items c.in_ok-first_step.field-0 c.empty-sources.ensures
      (search rules) c.in_ok-first_step.ensures,
  none_yet c.empty-sources.result c.empty-sources.ensures,
  omega arith,
  λ p. refl,
  λ p. (λ x. x, λ x. x),
  refl,
)

pub returns-in_err-take-clause-outcome : goal.returns-in_err-take-clause-outcome
returns-in_err-take-clause-outcome g c =
    let l = c.walk in
    let step = c.in-Some.step in
    let tells = g.F.Shelf.tells c.args.shelf.now in
    let root = c.args.path.now in
    let e = c.in_err-take.field-0.0 in
    let read : HasRead tells root l.sources (step ∷ reverse c.pop.new.self.items) =
    subst (λ (w : List Step). HasRead tells root l.sources w) (popped l.waiting.items c.pop.new.self.items step c.in-Some.ensures.items) l.invariant.0 in
    let fresh : is_among step.path (paths l.sources) ≡ false = search rules in
    let rises = Rose (g.F.Shelf.faults l.shelf) (g.F.Shelf.faults c.take.new.shelf) in
    let taken = subst (λ (o : Option (List ℕ)). Takes o (g.F.Shelf.refuses l.shelf step.path) rises step l.sources c.take.new.sources (reverse c.pop.new.self.items) (reverse c.take.new.waiting.items) (Err e))
    (l.invariant.3 step.path) c.in_err-take.ensures.outcome in
    let gone : c.from_residual-in_err-take.result ≡ Err e = grind arith in
    rw gone (ends tells (g.F.Shelf.refuses c.args.shelf.now) (Rose (g.F.Shelf.faults c.args.shelf.now) (g.F.Shelf.faults c.take.new.shelf)) (g.F.Shelf.refuses l.shelf step.path) rises
    root l.sources c.take.new.sources step (reverse c.pop.new.self.items) (reverse c.take.new.waiting.items) e read fresh taken (l.invariant.4 step.path).0
    (rose_later (g.F.Shelf.faults c.args.shelf.now) (g.F.Shelf.faults l.shelf) (g.F.Shelf.faults c.take.new.shelf) l.invariant.2))
