use Rattle.std.proofs.Common.{rules, ◌≡◌, ◌+◌, ◌<◌, ◌==◌, ◌||◌, ◌&&◌, List, ℕ, ◌∷◌, length, drop, sym, ap, ◌∙◌}
use Rattle.std.proofs.lemmas.List.{drop_more}
use Rattle.std.specs.Str.{bytes_eq}
use Rattle.wdl_order.proofs.Names.{added}
use Rattle.wdl_order.specs.Names.{givers_of}
use Rattle.wdl_typed.specs.Lists.{has_name, has_number}
use Rattle.wdl_order.proofs.givers.add_all.Goals as goal

pub loop-name-preserved : goal.loop-name-preserved
loop-name-preserved c =
    let l : c.loop-name.name-index < length c.args.names.now = search rules in
    let rest : List (List ℕ) = drop (c.loop-name.name-index + 1) c.args.names.now in
    let cut : drop c.loop-name.name-index c.args.names.now ≡ c.name-item.result ∷ rest =
    drop_more c.args.names.now c.loop-name.name-index c.name-item.result l ∙ ap (λ n. n ∷ rest) (sym c.name-item.is) in
    λ x q.
    added (givers_of c.loop-name.givers x) (givers_of c.add.new.givers x) c.args.member q (bytes_eq c.name-item.result x) (has_name x rest)
    (c.in_ok-add.ensures x)
    ∙ ap (λ ns. has_number q (givers_of c.loop-name.givers x) || (has_name x ns && (c.args.member == q))) (sym cut)
    ∙ c.loop-name.invariant x q
