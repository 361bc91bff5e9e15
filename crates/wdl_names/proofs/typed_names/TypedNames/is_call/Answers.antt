use Rattle.std.proofs.Common.{sym, ◌∙◌}
use Rattle.std.specs.BTreeMap.{get_by_text}
use Rattle.wdl_names.specs.Names.{is_call_of}
use Rattle.wdl_names.proofs.FirstLemmas.{looked_for}
use Rattle.wdl_names.proofs.NameLemmas.{is_call-find}
use Rattle.wdl_names.proofs.typed_names.TypedNames.is_call.Goals as goal

pub returns : goal.returns
returns c =
    looked_for is_call_of (get_by_text c.self.inside.calls.places) c.args.name.now
    c.stands.result c.as_slice.result.now c.self.inside.bounds c.args.self.now c.get-place.result
    c.stands.ensures c.as_slice.ensures c.self.view_is c.get-place.ensures c.self.invariant
    ∙ sym (is_call-find c.args.name.now c.args.self.now)
