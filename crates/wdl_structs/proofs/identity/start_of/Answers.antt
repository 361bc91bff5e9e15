use Rattle.std.proofs.Common.{ℕ, ◌<◌, sym, ap, subst, ◌∙◌, length}
use Rattle.wdl_structs.proofs.NodeLaws.{starts_length, start_read}
use Rattle.wdl_structs.proofs.identity.start_of.Goals as goal

pub bounds-starts-number : goal.bounds-starts-number
bounds-starts-number c = subst (λ (n : ℕ). c.args.number < n) (sym (ap length c.requires.starts ∙ starts_length 0 c.args.tables.now)) c.requires.within

pub returns : goal.returns
returns c = start_read c.args.tables.now c.args.starts.now c.args.number c.requires.starts c.requires.within
