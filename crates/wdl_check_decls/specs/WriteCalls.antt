-- A call of a function that writes a file, as code has it.
use Rattle.wdl_check_decls.specs.declared.write.WriteCall.{WriteCall as Held}
use Rattle.wdl_check_decls.specs.Writes.{WriteCall}

abbrev pub call_of : Held → WriteCall
call_of c = record { func = c.func; arguments = c.arguments.now; span = c.span }
