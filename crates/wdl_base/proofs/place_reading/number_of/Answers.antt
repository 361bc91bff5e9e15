use Rattle.std.proofs.Common.{◌≡◌, true, rules}
use Rattle.wdl_base.specs.PlaceReading.{starts_plainly}
use Rattle.wdl_base.proofs.PlaceLemmas.{not_plain, parsed}
use Rattle.wdl_base.proofs.place_reading.number_of.Goals as goal

pub returns-then-not-starts_plainly : goal.returns-then-not-starts_plainly
returns-then-not-starts_plainly c = not_plain c.args.s.now (search rules)

pub returns : goal.returns
returns c =
    let e : starts_plainly c.args.s.now ≡ true = search rules in
    rw c.ok.ensures.value (parsed c.args.s.now c.parse.result e c.parse.ensures.value.0)
