use Rattle.std.proofs.Common.{refl}
use Rattle.command_text.proofs.Returns.{replaced_is}
use Rattle.command_text.proofs.dedenting.without_returns.Goals as goal

pub returns : goal.returns
returns c =
    let made = c.in_ok-replace.ensures.ok in
    replaced_is made.0 _ c.args.text.now _ refl made.1
