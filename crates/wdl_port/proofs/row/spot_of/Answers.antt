use Rattle.std.proofs.Common.{◌≡◌, ◌+◌, ◌-◌, ◌/◌, ◌<◌, ◌++◌, suc, length, get_or, take, drop, arith, rules, ap, ◌∙◌}
use Rattle.std.specs.declared.cmp.Ordering.TheVariants.{Equal, Greater}
use Rattle.std.specs.Ordering.{is_lt}
use Rattle.wdl_port.specs.Rows.{put_row, row_order}
use Rattle.wdl_port.proofs.RowLemmas.{at_row, upto, past}
use Rattle.wdl_port.proofs.row.spot_of.Goals as goal

pub returns-in-Equal : goal.returns-in-Equal
returns-in-Equal c =
    let row = c.args.row.now in
    let rows = c.args.rows.now in
    let i = c.loop-low.low + (c.loop-low.high - c.loop-low.low) / 2 in
    let next = c.index-rows-middle.result in
    let within : i < length rows = search rules in
    let same : row_order row (get_or rows i next) ≡ Equal = search rules in
    (within, at_row row rows i next within (upto row next rows i within c.requires (ap is_lt same)) same)

pub loop-low-preserved : goal.loop-low-preserved
loop-low-preserved c = record {
  order = search rules;
  within = c.loop-low.invariant.within;
  behind =
      let row = c.args.row.now in
      let rows = c.args.rows.now in
      let i = c.loop-low.low + (c.loop-low.high - c.loop-low.low) / 2 in
      let next = c.index-rows-middle.result in
      let within : i < length rows = search rules in
      let same : row_order row (get_or rows i next) ≡ Greater = search rules in
      let more : suc i ≡ i + 1 = omega arith in
      past row next rows i within c.requires same ∙ ap (λ n. take n rows ++ put_row row (drop n rows)) more;
  before = c.loop-low.invariant.before;
}
