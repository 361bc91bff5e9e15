use Rattle.std.proofs.Common.{true}
use Rattle.cwl_image.specs.Image.{image}
use Rattle.cwl_emit.proofs.Formed.{formed_processes_stand}
use Rattle.cwl_formed.proofs.Whole.{images_are_formed}
use Rattle.cwl_formed.proofs.laws.images_stand.Goals as goal

pub returns : goal.returns
returns c =
    record {
      formed = images_are_formed;
      stand = λ lib main h s n p. formed_processes_stand true (image lib main) (images_are_formed lib main h s n p);
    }
