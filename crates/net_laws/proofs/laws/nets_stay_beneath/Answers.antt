use Rattle.net_laws.specs.Laws.{ruled}
use Rattle.net_laws.proofs.Beneath.{flow_beneath}
use Rattle.net_laws.proofs.laws.nets_stay_beneath.Goals as goal

pub returns : goal.returns
returns c lib site table rules st depth k f found given place g ds p = flow_beneath lib site table (ruled rules) st depth k f found given place g ds p
