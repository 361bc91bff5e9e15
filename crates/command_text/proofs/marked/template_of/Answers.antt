use Rattle.std.proofs.Common.{◌∙◌}
use Rattle.command_text.proofs.Zeros.{plain_end, template_end, template_step, utf8_after, zeros_step}
use Rattle.command_text.proofs.marked.template_of.Goals as goal

pub loop-hole-preserved : goal.loop-hole-preserved
loop-hole-preserved c = record {
  text = utf8_after c.loop-hole.rest.now c.around_hole.result.0.now c.around_hole.result.1.now c.around_hole.ensures.value c.loop-hole.invariant.text;
  counted = zeros_step c.loop-hole.rest.now c.around_hole.result.0.now c.around_hole.result.1.now c.args.holes.now c.loop-hole.hole-index
      c.around_hole.ensures.value c.around_hole.ensures.plain c.loop-hole-test.true c.loop-hole.invariant.counted;
  parts = template_step c.loop-hole.parts c.push_text.new.parts c.push.new.self c.loop-hole.rest.now c.around_hole.result.0.now
      c.around_hole.result.1.now c.args.holes.now c.loop-hole.hole-index c.around_hole.ensures.value c.around_hole.ensures.plain
      c.loop-hole-test.true c.in_ok-push_text.ensures c.in_ok-push.ensures.ok ∙ c.loop-hole.invariant.parts;
}

pub push_text-requires-2 : goal.push_text-requires-2
push_text-requires-2 c =
    plain_end c.loop-hole.rest.now c.args.holes.now c.loop-hole.hole-index c.loop-hole-test.false c.loop-hole.invariant.counted

pub returns : goal.returns
returns c =
    template_end c.loop-hole.parts c.push_text-2.new.parts c.loop-hole.rest.now c.args.holes.now c.loop-hole.hole-index
    c.loop-hole-test.false (plain_end c.loop-hole.rest.now c.args.holes.now c.loop-hole.hole-index c.loop-hole-test.false c.loop-hole.invariant.counted)
    c.in_ok-push_text-2.ensures ∙ c.loop-hole.invariant.parts
