use Rattle.net_laws.specs.Laws.{ruled}
use Rattle.net_laws.proofs.Moves.{leaves, moved, spends, weighed}
use Rattle.net_laws.proofs.laws.nets_move.Goals as goal

pub returns : goal.returns
returns c lib site rows later rules more a b t grows others turn depth f p runs same_rows =
    record {
      grown = moved lib site rows later (ruled rules) (ruled more) a b t grows others turn p runs same_rows;
      weighs = λ weight is_weight old new adds. weighed lib site rows later (ruled rules) (ruled more) a b t grows others turn weight is_weight old new adds p runs same_rows;
      leaves = λ v k old new adds. leaves lib site rows later (ruled rules) (ruled more) a b t grows others turn v k old new adds p runs same_rows;
      spends = λ task old new adds. spends lib site rows later (ruled rules) (ruled more) a b t grows others turn task old new adds p runs same_rows;
    }
