use Rattle.std.proofs.Common.{◌≡◌, ◌++◌, Bool, cond, Ok, sym, subst}
use Rattle.wdl_typed.specs.Evaluation.{hole_text, then_, value_met}
use Rattle.wdl_value.specs.declared.value.Value.{out-Value}
use Rattle.wdl_typed.specs.declared.expr.TExpr.{TExpr}
use Rattle.wdl_eval.specs.Found.{held}
use Rattle.wdl_eval.specs.Meets.{Meets}
use Rattle.wdl_eval.specs.Nodes.{setting_of}
use Rattle.wdl_eval.proofs.Choices.{chosen_meets}
use Rattle.wdl_eval.proofs.Pieces.{chars_next, hole_next}
use Rattle.wdl_eval.proofs.evaluation.+evaluate.Goals as goal
use Rattle.wdl_eval.proofs.evaluation.+evaluate.Goals.{text-in-Chars+in_ok-text-in-Chars, text-in-Hole+in_ok-value-in-Hole+in_ok-text-in-Hole}

pub text-loop-part-preserved : goal.text-loop-part-preserved
text-loop-part-preserved t c =
    let s = setting_of c.args.setting.now in
    let i = c.loop-part.part-index in
    elim c.match-part.branch [
      | text-in-Chars+in_ok-text-in-Chars w ↦ let is = w.text-is in
          let made = w.in_ok-text-in-Chars.ensures in
          let next : c.match-part.text ≡ c.loop-part.text ++ w.in-Chars.chars = cc in
          chars_next s c.args.parts.now i c.part-item.result c.loop-part.text c.match-part.text c.part-item.is c.loop-part-test.true c.loop-part.invariant w.in-Chars.chars w.in-Chars.is next
      | text-in-Hole+in_ok-value-in-Hole+in_ok-text-in-Hole w ↦ let is = w.text-is in
          let made = w.in_ok-text-in-Hole.ensures in
          let next : then_ (hole_text w.in-Hole.hole.choice (out-Value (held w.in_ok-value-in-Hole.value))) (λ x. Ok (c.loop-part.text ++ x)) ≡ Ok c.match-part.text = cc in
          hole_next s c.args.parts.now i c.part-item.result c.loop-part.text c.match-part.text c.part-item.is c.loop-part-test.true c.loop-part.invariant w.in-Hole.hole (held w.in_ok-value-in-Hole.value) w.in-Hole.is w.in_ok-value-in-Hole.ensures next
    ]

pub evaluate-returns-in-Bool-true : goal.evaluate-returns-in-Bool-true
evaluate-returns-in-Bool-true t c =
    let s = setting_of c.args.setting.now in
    let first = c.in-Choose.a in
    let second = c.in-Choose.b in
    let asked : value_met s c.in-Choose.c ≡ Ok c.in_ok-evaluate-in-Choose.field-0 = rw c.get-in-Choose.ensures at c.in_ok-evaluate-in-Choose.ensures in
    let given : Meets (value_met s c.in-Choose.a) c.evaluate-in-Bool-true.result = subst (λ (x : TExpr). Meets (value_met s x) c.evaluate-in-Bool-true.result) c.get-in-Bool-true.ensures c.evaluate-in-Bool-true.ensures in
    chosen_meets s c.args.e.now c.in-Choose.c first second c.in_ok-evaluate-in-Choose.field-0 c.in-Bool-true.field-0 c.evaluate-in-Bool-true.result c.in-Choose.is asked c.in-Bool-true.is
    (subst (λ (b : Bool). Meets (cond b (value_met s first) (value_met s second)) c.evaluate-in-Bool-true.result) (sym c.in-Bool-true.field-0-test) given)

pub evaluate-returns-in-Bool-false : goal.evaluate-returns-in-Bool-false
evaluate-returns-in-Bool-false t c =
    let s = setting_of c.args.setting.now in
    let first = c.in-Choose.a in
    let second = c.in-Choose.b in
    let asked : value_met s c.in-Choose.c ≡ Ok c.in_ok-evaluate-in-Choose.field-0 = rw c.get-in-Choose.ensures at c.in_ok-evaluate-in-Choose.ensures in
    let given : Meets (value_met s c.in-Choose.b) c.evaluate-in-Bool-false.result = subst (λ (x : TExpr). Meets (value_met s x) c.evaluate-in-Bool-false.result) c.get-in-Bool-false.ensures c.evaluate-in-Bool-false.ensures in
    chosen_meets s c.args.e.now c.in-Choose.c first second c.in_ok-evaluate-in-Choose.field-0 c.in-Bool-false.field-0 c.evaluate-in-Bool-false.result c.in-Choose.is asked c.in-Bool-false.is
    (subst (λ (b : Bool). Meets (cond b (value_met s first) (value_met s second)) c.evaluate-in-Bool-false.result) (sym c.in-Bool-false.field-0-test) given)
