use Rattle.std.proofs.Common.{◌≡◌, drop}
use Rattle.cwl_image.specs.Image.{is_code}
use Rattle.cwl_tool.proofs.codes.is_among.Given as goal

abbrev pub invariant-loop-number : goal.invariant-loop-number
invariant-loop-number l = is_code (drop l.number-index l.numbers) l.status ≡ is_code l.numbers l.status
