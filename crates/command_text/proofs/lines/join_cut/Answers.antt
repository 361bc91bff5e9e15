use Rattle.std.proofs.Common.{[]}
use Rattle.command_text.proofs.LineLaws.{join_rest, rest_fits}
use Rattle.command_text.proofs.lines.join_cut.Goals as goal

pub append_cut-requires : goal.append_cut-requires
append_cut-requires c = rest_fits c.args.width c.args.lines.now c.requires

pub returns-in_ok-append_cut-in-len1-up : goal.returns-in_ok-append_cut-in-len1-up
returns-in_ok-append_cut-in-len1-up c =
    let whole = join_rest c.args.width c.args.lines.now (record { ref_ptr = (0, 0); now = [] }) c.in-len1-up.len_at_least in
    cc (c.in_ok-text-in-len1-up.ensures.ok, c.cut.ensures, c.in_ok-append_cut-in-len1-up.ensures)
