use Rattle.leaf_image.proofs.Bodies.{bodies_agree}
use Rattle.leaf_image.proofs.laws.bodies_agree.Goals as goal

pub returns : goal.returns
returns c = record { law = bodies_agree }
