use Rattle.std.proofs.Common.{is_some, sym, ap, ◌∙◌}
use Rattle.std.specs.List.{find}
use Rattle.wdl_base.specs.declared.name.Key.{Key}
use Rattle.wdl_typed.specs.Scope.{same_key}
use Rattle.wdl_names.specs.KeyTexts.{place_of}
use Rattle.wdl_names.proofs.FirstLemmas.{finds_grown}
use Rattle.wdl_names.proofs.NameLemmas.{key_added}
use Rattle.wdl_names.proofs.index.Index.add.Goals as goal

pub invariant_of-self-in_err-push : goal.invariant_of-self-in_err-push
invariant_of-self-in_err-push g c =
    let keyed = g.T.Keyed.keyed in
    let more = c.put_new.new.self in
    finds_grown (λ (k : Key) x. same_key (keyed x) k) (place_of more.alone more.outputs) c.push.result c.self.inside.items c.push.new.self c.args.item
    (key_added keyed (place_of c.self.inside.places.alone c.self.inside.places.outputs) (place_of more.alone more.outputs) c.self.inside.items c.args.item
    c.key.result.now c.key-2.result.now c.len-place.result c.has-known.result c.self.invariant c.len-place.ensures c.key.ensures c.key-2.ensures
    (c.has-known.ensures ∙ ap (λ xs. is_some (find (λ x. same_key (keyed x) c.key.result.now) xs)) (sym c.self.view_is))
    c.in_ok-put_new.ensures.ok)
    c.push.ensures.ok c.push.ensures.err

pub invariant_of-self-2 : goal.invariant_of-self-2
invariant_of-self-2 g c =
    let keyed = g.T.Keyed.keyed in
    let more = c.put_new.new.self in
    finds_grown (λ (k : Key) x. same_key (keyed x) k) (place_of more.alone more.outputs) c.push.result c.self.inside.items c.push.new.self c.args.item
    (key_added keyed (place_of c.self.inside.places.alone c.self.inside.places.outputs) (place_of more.alone more.outputs) c.self.inside.items c.args.item
    c.key.result.now c.key-2.result.now c.len-place.result c.has-known.result c.self.invariant c.len-place.ensures c.key.ensures c.key-2.ensures
    (c.has-known.ensures ∙ ap (λ xs. is_some (find (λ x. same_key (keyed x) c.key.result.now) xs)) (sym c.self.view_is))
    c.in_ok-put_new.ensures.ok)
    c.push.ensures.ok c.push.ensures.err
