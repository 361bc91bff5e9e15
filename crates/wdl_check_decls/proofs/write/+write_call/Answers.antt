use Rattle.std.proofs.Common.{ap, sym}
use Rattle.wdl_check_decls.specs.Writes.{write_among}
use Rattle.wdl_check_decls.proofs.WriteLaws.{whole_other}
use Rattle.wdl_check_decls.proofs.write.+write_call.Goals as goal

pub returns-in_default : goal.returns-in_default
returns-in_default t c = sym (ap write_among (whole_other c.args.e.now c.in_default.not-Call c.in_default.not-Group))
