use Rattle.std.proofs.Common.{◌≡◌, ◌<◌, ℕ, true, false, List, length, sym, ap, ◌∙◌, arith}
use Rattle.wdl_base.specs.declared.place.Segment.{Segment}
use Rattle.wdl_base.specs.Same.{same_place}
use Rattle.wdl_names.specs.Marks.{first_place}
use Rattle.wdl_flow.specs.Marks.{place_mark}
use Rattle.plan_steps.proofs.Asks.{found_here, none_at_all, none_before, none_below_more}
use Rattle.plan_steps.proofs.asking.Asking.find.Goals as goal

pub loop-at-init : goal.loop-at-init
loop-at-init c =
    let q = c.args.self.now in
    none_before q.asked.items q.marks c.args.place.now c.place-from.result c.requires.marks_are
    (c.place-from.ensures.place ∙ ap (λ (n : ℕ). first_place n q.marks) (c.place_mark.ensures ∙ ap (place_mark 0) c.as_slice.ensures))

pub returns-then-same_place : goal.returns-then-same_place
returns-then-same_place c =
    let q = c.args.self.now in
    let inside : c.loop-at.at < length q.asked.items = omega (arith, c.loop-at-test.true, c.len-at-end.ensures, q.asked.ok.0) in
    let same : same_place c.index.result.now.place c.args.place.now ≡ true =
    ap (λ (p : List Segment). same_place p c.args.place.now) (sym c.as_slice-in-loop-at.ensures)
    ∙ ap (λ (p : List Segment). same_place c.as_slice-in-loop-at.result.now p) (sym c.as_slice-in-loop-at-2.ensures) ∙ sym c.same_place.ensures ∙ c.if-same_place.true in
    found_here q.asked.items c.loop-at.at c.index.result.now c.args.place.now inside c.index.ensures same

pub loop-at-preserved : goal.loop-at-preserved
loop-at-preserved c =
    let q = c.args.self.now in
    let inside : c.loop-at.at < length q.asked.items = omega (arith, c.loop-at-test.true, c.len-at-end.ensures, q.asked.ok.0) in
    let differ : same_place c.index.result.now.place c.args.place.now ≡ false =
    ap (λ (p : List Segment). same_place p c.args.place.now) (sym c.as_slice-in-loop-at.ensures)
    ∙ ap (λ (p : List Segment). same_place c.as_slice-in-loop-at.result.now p) (sym c.as_slice-in-loop-at-2.ensures) ∙ sym c.same_place.ensures ∙ c.if-same_place.false in
    none_below_more q.asked.items c.loop-at.at c.index.result.now c.args.place.now inside c.index.ensures differ c.loop-at.invariant

pub returns : goal.returns
returns c =
    let q = c.args.self.now in
    none_at_all q.asked.items c.loop-at.at c.args.place.now (omega (arith, c.loop-at-test.false, c.len-at-end.ensures, q.asked.ok.0)) c.loop-at.invariant
