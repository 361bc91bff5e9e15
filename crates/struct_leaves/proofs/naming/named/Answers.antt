use Rattle.std.proofs.Common.{◌≡◌, ◌+◌, [], ◌∷◌, ◌++◌, drop, sym, ap, ◌∙◌}
use Rattle.std.proofs.lemmas.List.{drop_more}
use Rattle.struct_leaves.proofs.NamingLaws.{goes_on}
use Rattle.struct_leaves.proofs.naming.named.Goals as goal

pub loop-place-preserved : goal.loop-place-preserved
loop-place-preserved c =
    let rest = drop (c.loop-place.place-index + 1) c.args.places.now in
    let cut : drop c.loop-place.place-index c.args.places.now ≡ c.place-item.result ∷ rest =
    drop_more c.args.places.now c.loop-place.place-index c.place-item.result c.loop-place-test.true ∙ ap (λ p. p ∷ rest) (sym c.place-item.is) in
    goes_on c.loop-place.leaves c.push_leaf.new.leaves c.place-item.result rest _ c.loop-place.taken c.enter.new.self c.in-Some.name _ cut
    (sym c.in_ok-name.ensures ∙ c.in-Some.is) (c.in_ok-enter.ensures.ok ∙ ap (λ n. c.loop-place.taken ++ n ∷ []) c.in_ok-copy.ensures)
    c.in_ok-push_leaf.ensures c.loop-place.invariant
