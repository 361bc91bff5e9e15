use Rattle.std.proofs.Common.{◌≡◌, ◌≢◌, ◌++◌, true, Err, codes, rules, arith, sym, ap, subst, ◌∙◌}
use Rattle.std.proofs.lemmas.Slice.Eq.{bytes_eq-Decides}
use Rattle.std.proofs.lemmas.Str.Pattern.{split_parts}
use Rattle.std.specs.Str.{bytes_eq}
use Rattle.wdl_base.specs.Places.{place_text}
use Rattle.wdl_base.specs.PlaceReading.{IsPlace}
use Rattle.wdl_base.proofs.PlaceLemmas.{front_text, first_refuses, last_refuses, front_more, place-push, IsPlace-push}
use Rattle.wdl_base.proofs.place_reading.place_of.Goals as goal

pub returns-in_err-segment_of : goal.returns-in_err-segment_of
returns-in_err-segment_of c =
    let l = c.segments in
    let cut = rw c.in-Some.is at (split_parts 47 l.rest.now c.split_once.result c.split_once.ensures.cases (omega arith)) in
    let other : c.args.s.now ≢ codes "." = λ e. let k : bytes_eq c.args.s.now (codes ".") ≡ true = (bytes_eq-Decides c.args.s.now (codes ".")).1 e in grind arith in
    let gone : c.from_residual.result ≡ Err c.in_err-segment_of.field-0.0 = grind arith in
    record { value = rw gone (first_refuses l.place l.rest.now c.args.s.now c.in-Some.first.now c.in-Some.more.now c.in_err-segment_of.field-0.0 l.invariant.0 l.invariant.1 cut other c.in_err-segment_of.ensures) }

pub segments-preserved : goal.segments-preserved
segments-preserved c =
    let l = c.segments in
    let cut = rw c.in-Some.is at (split_parts 47 l.rest.now c.split_once.result c.split_once.ensures.cases (omega arith)) in
    let g = c.in_ok-segment_of.field-0 in
    let read = c.in_ok-segment_of.ensures in (
      subst IsPlace (sym c.in_ok-push.ensures.ok) (IsPlace-push l.place g l.invariant.0 read.0),
      ap (λ p. front_text p ++ c.in-Some.more.now) c.in_ok-push.ensures.ok ∙ front_more l.place g l.rest.now c.args.s.now c.in-Some.first.now c.in-Some.more.now l.invariant.1 cut.0 read.1,
      search rules,
    )

pub returns-in_err-segment_of-2 : goal.returns-in_err-segment_of-2
returns-in_err-segment_of-2 c =
    let l = c.segments in
    let none = rw c.in_default.is at (split_parts 47 l.rest.now c.split_once.result c.split_once.ensures.cases (omega arith)) in
    let other : c.args.s.now ≢ codes "." = λ e. let k : bytes_eq c.args.s.now (codes ".") ≡ true = (bytes_eq-Decides c.args.s.now (codes ".")).1 e in grind arith in
    let gone : c.from_residual-in_err-segment_of-2.result ≡ Err c.in_err-segment_of-2.field-0.0 = grind arith in
    record { value = rw gone (last_refuses l.place l.rest.now c.args.s.now c.in_err-segment_of-2.field-0.0 l.invariant.0 l.invariant.1 none other c.in_err-segment_of-2.ensures) }

pub returns : goal.returns
returns c =
    let l = c.segments in
    let g = c.in_ok-segment_of-2.field-0 in
    let read = c.in_ok-segment_of-2.ensures in
    record {
      value = (
        subst IsPlace (sym c.in_ok-push-2.ensures.ok) (IsPlace-push l.place g l.invariant.0 read.0),
        ap place_text c.in_ok-push-2.ensures.ok ∙ place-push l.place g ∙ ap (λ x. front_text l.place ++ x) read.1 ∙ l.invariant.1,
      );
    }
