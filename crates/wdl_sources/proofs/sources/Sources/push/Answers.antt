use Rattle.std.proofs.Common.{◌≡◌, ◌∷◌, ◌++◌, ◌∙◌, [], ap, rules, string_bytes, subst, sym}
use Rattle.std.specs.Map.{values_of}
use Rattle.std.proofs.lemmas.List.{map-append}
use Rattle.wdl_base.specs.Names.{is_among}
use Rattle.wdl_sources.specs.Walks.{paths}
use Rattle.wdl_sources.proofs.PathLemmas.{AreByPath, goes_last, one_more}
use Rattle.wdl_sources.proofs.sources.Sources.push.Goals as goal

pub invariant_of-self-2 : goal.invariant_of-self-2
invariant_of-self-2 c =
    let map = c.self.inside.by_path in
    let key = c.in_ok-path.path in
    let source = c.args.source in
    let same : string_bytes key ≡ source.path = search rules in
    let fresh = ap (λ ss. is_among source.path (paths ss)) c.self.view_is ∙ c.requires in
    subst AreByPath (sym (goes_last map c.insert.new.self.entries key source c.self.invariant same fresh c.in_ok-insert.ensures.entries))
    (one_more key source map.entries c.self.invariant same)

pub returns : goal.returns
returns c =
    let map = c.self.inside.by_path in
    let key = c.in_ok-path.path in
    let source = c.args.source in
    let same : string_bytes key ≡ source.path = search rules in
    let fresh = ap (λ ss. is_among source.path (paths ss)) c.self.view_is ∙ c.requires in
    ap values_of (goes_last map c.insert.new.self.entries key source c.self.invariant same fresh c.in_ok-insert.ensures.entries)
    ∙ map-append (λ x. x.1) map.entries ((key, source) ∷ []) ∙ ap (λ ss. ss ++ source ∷ []) c.self.view_is
