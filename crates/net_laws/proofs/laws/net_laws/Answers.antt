use Rattle.net_laws.proofs.Grown.{answer_elsewhere, call_rows_same}
use Rattle.net_laws.proofs.Whole.{entered, planned_shows}
use Rattle.net_laws.proofs.laws.net_laws.Goals as goal

pub returns : goal.returns
returns c =
    record {
      show = λ cells lib site table callee ss s g w p. entered cells lib site table callee ss s g w (planned_shows cells lib site table callee p);
      rows = call_rows_same;
      elsewhere = answer_elsewhere;
    }
