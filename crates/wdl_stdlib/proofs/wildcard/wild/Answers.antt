use Rattle.std.proofs.Common.{◌≡◌, ◌∷◌, ◌+◌, drop, false, sym, ap, ◌∙◌, arith}
use Rattle.std.proofs.lemmas.List.{drop_more, length-map, drop_all}
use Rattle.wdl_value.specs.Paths.{wild}
use Rattle.wdl_stdlib.proofs.Matching.{any_from, any_first, any_next, any_last, length_next}
use Rattle.wdl_stdlib.proofs.wildcard.wild.Goals as goal

pub loop-p-init : goal.loop-p-init
loop-p-init c =
    let name = c.args.name.now in
    rw c.in_ok-row.ensures (omega (arith, length-map name (λ c. false)), any_first (wild c.args.pattern.now) name)

pub loop-p-preserved : goal.loop-p-preserved
loop-p-preserved c =
    let name = c.args.name.now in
    let pattern = c.args.pattern.now in
    let row = c.loop-p.row.items in
    let i = c.loop-p.p-index in
    let p = c.p-item.result in
    let sizes = c.loop-p.invariant.0 in
    let next : drop i pattern ≡ p ∷ drop (i + 1) pattern = drop_more pattern i p c.loop-p-test.true ∙ ap (λ z. z ∷ drop (i + 1) pattern) (sym c.p-item.is) in
    let step = any_next p (drop (i + 1) pattern) row name sizes in
    rw (c.in_ok-row-2.ensures, c.as_slice.ensures.value) (length_next p row name sizes, step ∙ ap (λ z. any_from row (wild z) name) (sym next) ∙ c.loop-p.invariant.1)

pub returns : goal.returns
returns c =
    let row = c.loop-p.row.items in
    let name = c.args.name.now in
    c.index.ensures ∙ sym (any_last row name c.index.result.now c.loop-p.invariant.0)
    ∙ ap (λ z. any_from row (wild z) name) (sym (drop_all c.loop-p.p-index c.args.pattern.now c.loop-p-test.false)) ∙ c.loop-p.invariant.1
