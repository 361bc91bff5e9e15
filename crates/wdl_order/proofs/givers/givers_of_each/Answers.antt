use Rattle.std.proofs.Common.{rules, ◌≡◌, ◌+◌, ◌<◌, ◌++◌, List, ℕ, [], ◌∷◌, None, Some, length, drop, sym, ap, ◌∙◌, append_assoc}
use Rattle.std.proofs.lemmas.List.{drop_more}
use Rattle.std.proofs.lemmas.List.Concat.{flat_map-cons}
use Rattle.std.specs.BTreeMap.{get_by_text}
use Rattle.std.specs.List.{flat_map}
use Rattle.std.specs.Option.{option_copied, option_map_or}
use Rattle.wdl_order.specs.Names.{givers_of}
use Rattle.wdl_order.proofs.givers.givers_of_each.Goals as goal

pub loop-name-preserved-in_default : goal.loop-name-preserved-in_default
loop-name-preserved-in_default c =
    let l : c.loop-name.name-index < length c.args.names.now = search rules in
    let rest : List (List ℕ) = drop (c.loop-name.name-index + 1) c.args.names.now in
    let found : get_by_text c.args.givers.now c.as_str.result.now ≡ None = sym c.get.ensures.value ∙ ap option_copied c.in_default.is in
    let none : givers_of c.args.givers.now c.name-item.result ≡ [] =
    ap (givers_of c.args.givers.now) (sym c.as_str.ensures.value) ∙ ap (λ o. option_map_or (λ m. m.items) o []) found in
    let cut : flat_map (givers_of c.args.givers.now) (drop c.loop-name.name-index c.args.names.now) ≡ flat_map (givers_of c.args.givers.now) rest =
    ap (flat_map (givers_of c.args.givers.now))
    (drop_more c.args.names.now c.loop-name.name-index c.name-item.result l ∙ ap (λ n. n ∷ rest) (sym c.name-item.is))
    ∙ flat_map-cons (givers_of c.args.givers.now) c.name-item.result rest
    ∙ ap (λ ns. ns ++ flat_map (givers_of c.args.givers.now) rest) none in
    ap (λ ns. c.loop-name.members.items ++ ns) (sym cut) ∙ c.loop-name.invariant

pub loop-name-preserved : goal.loop-name-preserved
loop-name-preserved c =
    let l : c.loop-name.name-index < length c.args.names.now = search rules in
    let rest : List (List ℕ) = drop (c.loop-name.name-index + 1) c.args.names.now in
    let found : get_by_text c.args.givers.now c.as_str.result.now ≡ Some c.in-Some.more.now = sym c.get.ensures.value ∙ ap option_copied c.in-Some.is in
    let some : givers_of c.args.givers.now c.name-item.result ≡ c.in-Some.more.now.items =
    ap (givers_of c.args.givers.now) (sym c.as_str.ensures.value) ∙ ap (λ o. option_map_or (λ m. m.items) o []) found in
    let cut : flat_map (givers_of c.args.givers.now) (drop c.loop-name.name-index c.args.names.now)
    ≡ c.in-Some.more.now.items ++ flat_map (givers_of c.args.givers.now) rest =
    ap (flat_map (givers_of c.args.givers.now))
    (drop_more c.args.names.now c.loop-name.name-index c.name-item.result l ∙ ap (λ n. n ∷ rest) (sym c.name-item.is))
    ∙ flat_map-cons (givers_of c.args.givers.now) c.name-item.result rest
    ∙ ap (λ ns. ns ++ flat_map (givers_of c.args.givers.now) rest) some in
    ap (λ ns. ns ++ flat_map (givers_of c.args.givers.now) rest)
    (c.in_ok-extend_from_slice.ensures.items ∙ ap (λ ns. c.loop-name.members.items ++ ns) c.as_slice.ensures.value)
    ∙ append_assoc c.loop-name.members.items c.in-Some.more.now.items (flat_map (givers_of c.args.givers.now) rest)
    ∙ ap (λ ns. c.loop-name.members.items ++ ns) (sym cut) ∙ c.loop-name.invariant
