use Rattle.std.proofs.Common.{◌≡◌, ℕ, ◌+◌, ◌-◌, ◌<◌, nat_lt, length, drop, ap, sym, ◌∙◌, arith}
use Rattle.std.proofs.lemmas.Bool.{cond-true, lt-ltb}
use Rattle.std.proofs.lemmas.List.{drop_more}
use Rattle.wdl_ast.specs.Spelled.Classes.{Bytes}
use Rattle.wdl_ast.specs.Spelled.Chars.{Inside}
use Rattle.wdl_lex.specs.Reading.Code.{rest}
use Rattle.wdl_lex.specs.Reading.Chars.{inside, chars_from}
use Rattle.wdl_lex.proofs.chars.chars.Goals as goal

skipped : (i : Inside) (skip n : ℕ) (out z : Bytes) → n < length z → 0 < skip → chars_from i skip out n (drop n z) ≡ chars_from i (skip - 1) out (n + 1) (drop (n + 1) z)
skipped i skip n out z h s = ap (chars_from i skip out n) (drop_more z n 0 h) ∙ cond-true (nat_lt 0 skip) _ _ (lt-ltb 0 skip s)

rest_is : (n : ℕ) (z here : Bytes) → n < length z → here ≡ drop n z → rest here ≡ drop (n + 1) z
rest_is n z here h e = ap rest (e ∙ drop_more z n 0 h)

pub loop-at-preserved-then-skip-gt0 : goal.loop-at-preserved-then-skip-gt0
loop-at-preserved-then-skip-gt0 c =
    c.loop-at.invariant ∙ skipped (inside c.args.inside) c.loop-at.skip c.loop-at.at c.loop-at.out.items c.args.z.now c.loop-at-test.true c.if-skip-gt0.true

pub loop-at-preserved : goal.loop-at-preserved
loop-at-preserved c =
    let i = inside c.args.inside in
    let none : c.loop-at.skip ≡ 0 = omega arith in
    c.loop-at.invariant
    ∙ ap (λ k. chars_from i k c.loop-at.out.items c.loop-at.at (drop c.loop-at.at c.args.z.now)) none
    ∙ ap (chars_from i 0 c.loop-at.out.items c.loop-at.at) (sym c.behind-here.ensures)
    ∙ c.in_ok-skip.ensures.ok
    ∙ ap (chars_from i c.in_ok-skip.skip c.push_unit.new.out.items (c.loop-at.at + 1)) (rest_is c.loop-at.at c.args.z.now c.behind-here.result.now c.loop-at-test.true c.behind-here.ensures)
