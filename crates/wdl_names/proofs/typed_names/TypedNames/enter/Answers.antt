use Rattle.std.proofs.Common.{sym, ap, ◌∙◌}
use Rattle.std.specs.BTreeMap.{get_by_text}
use Rattle.wdl_names.specs.Names.{is_call_of, is_known}
use Rattle.wdl_names.proofs.FirstLemmas.{finds_grown}
use Rattle.wdl_names.proofs.NameLemmas.{call_added}
use Rattle.wdl_names.proofs.typed_names.TypedNames.enter.Goals as goal

pub invariant_of-self-2 : goal.invariant_of-self-2
invariant_of-self-2 c =
    let bound = c.args.bound in
    let more = c.put_new.new.self in
    finds_grown is_call_of (get_by_text more.places) c.add.result c.self.inside.bounds c.add.new.self bound
    (call_added (get_by_text c.self.inside.calls.places) (get_by_text more.places) c.self.inside.bounds bound c.len-place.result c.is_known-known.result
    c.self.invariant c.len-place.ensures (c.is_known-known.ensures ∙ ap (λ bs. is_known bs bound.key.first bound.key.second) (sym c.self.view_is)) c.in_ok-put_new.ensures.ok)
    c.add.ensures.ok c.add.ensures.err
