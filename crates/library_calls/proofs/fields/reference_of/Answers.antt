use Rattle.std.proofs.Common.{◌≡◌, Err, codes, arith}
use Rattle.library_calls.proofs.FieldLoops.{suffix_is, no_inputs, no_path, no_input, name_fault}
use Rattle.library_calls.proofs.fields.reference_of.Goals as goal
use Rattle.wdl_base.proofs.PlaceLemmas.{stripped as prefix_is}

pub returns-in_default : goal.returns-in_default
returns-in_default c = no_inputs c.args.word.now (rw c.in_default.is at c.strip_prefix.ensures.cases)

pub returns-in_err-name_of-in-Some-strip_suffix : goal.returns-in_err-name_of-in-Some-strip_suffix
returns-in_err-name_of-in-Some-strip_suffix c =
    let word = c.args.word.now in
    let path = c.in-Some.path.now in
    let name = c.in-Some-strip_suffix.name.now in
    let fault = c.in_err-name_of-in-Some-strip_suffix.field-0.0 in
    let gone : c.from_residual.result ≡ Err fault = grind arith in
    let at = prefix_is (codes "inputs.") word path c.in-Some.ensures.cases in
    let end = suffix_is (codes ".path") path name c.in-Some-strip_suffix.ensures.cases in
    rw gone (name_fault word name fault c.in_err-name_of-in-Some-strip_suffix.ensures (no_path word path name at end))

pub returns-in_err-name_of-in-None : goal.returns-in_err-name_of-in-None
returns-in_err-name_of-in-None c =
    let word = c.args.word.now in
    let path = c.in-Some.path.now in
    let fault = c.in_err-name_of-in-None.field-0.0 in
    let gone : c.from_residual-in_err-name_of-in-None.result ≡ Err fault = grind arith in
    let at = prefix_is (codes "inputs.") word path c.in-Some.ensures.cases in
    rw gone (name_fault word path fault c.in_err-name_of-in-None.ensures (no_input word path at c.in-None.ensures.cases))
