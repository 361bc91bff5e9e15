use Rattle.std.proofs.Common.{ℕ, List, sym, ap, ◌∙◌}
use Rattle.std.specs.BTreeMap.{get_by_text}
use Rattle.std.specs.Str.{bytes_eq}
use Rattle.wdl_typed.specs.Lists.{has_name}
use Rattle.wdl_names.proofs.FirstLemmas.{finds_grown}
use Rattle.wdl_names.proofs.NameLemmas.{name_added}
use Rattle.wdl_names.proofs.name_stack.NameStack.enter.Goals as goal

pub invariant_of-self-in_err-push : goal.invariant_of-self-in_err-push
invariant_of-self-in_err-push c =
    let more = c.put_new.new.self in
    finds_grown (λ (q n : List ℕ). bytes_eq n q) (get_by_text more.places) c.push.result c.self.inside.names c.push.new.self c.args.name
    (name_added (get_by_text c.self.inside.places.places) (get_by_text more.places) c.self.inside.names c.args.name c.len-place.result c.has-known.result
    c.self.invariant c.len-place.ensures (c.has-known.ensures ∙ ap (has_name c.args.name) (sym c.self.view_is)) c.in_ok-put_new.ensures.ok)
    c.push.ensures.ok c.push.ensures.err

pub invariant_of-self-2 : goal.invariant_of-self-2
invariant_of-self-2 c =
    let more = c.put_new.new.self in
    finds_grown (λ (q n : List ℕ). bytes_eq n q) (get_by_text more.places) c.push.result c.self.inside.names c.push.new.self c.args.name
    (name_added (get_by_text c.self.inside.places.places) (get_by_text more.places) c.self.inside.names c.args.name c.len-place.result c.has-known.result
    c.self.invariant c.len-place.ensures (c.has-known.ensures ∙ ap (has_name c.args.name) (sym c.self.view_is)) c.in_ok-put_new.ensures.ok)
    c.push.ensures.ok c.push.ensures.err
