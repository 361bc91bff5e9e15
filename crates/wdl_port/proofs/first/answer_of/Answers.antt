use Rattle.std.proofs.Common.{◌≡◌, sym, arith, Some}
use Rattle.wdl_base.specs.Places.{place_text}
use Rattle.wdl_port.specs.Table.{first_at}
use Rattle.wdl_port.proofs.TableLemmas.{no_row, from_row}
use Rattle.wdl_port.proofs.first.answer_of.Goals as goal

pub returns-in-Some : goal.returns-in-Some
returns-in-Some c =
    let place = c.args.place.now in
    let found : first_at 0 c.args.rows.now (place_text place) ≡ Some c.in-Some.at = grind (arith, c.requires (place_text place)) in
    let from = from_row 0 c.args.rows.now place c.args.attempt c.in-Some.at found in
    grind (arith, from.1)

pub returns-in-None : goal.returns-in-None
returns-in-None c =
    let place = c.args.place.now in
    sym (no_row 0 c.args.rows.now place c.args.attempt (grind (arith, c.requires (place_text place))))
