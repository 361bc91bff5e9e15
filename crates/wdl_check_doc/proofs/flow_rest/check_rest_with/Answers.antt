use Rattle.wdl_check_doc.proofs.flow_rest.check_rest_with.Goals as goal

pub returns : goal.returns
returns c = rw (c.in_ok-own.ensures, c.in_ok-namespaces.ensures, c.empty-calls.ensures, c.as_slice.ensures) at c.check_rest.ensures
