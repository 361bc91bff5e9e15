use Rattle.std.proofs.Common.{◌≡◌, sym, subst, to_z, of_z}
use Rattle.std.proofs.lemmas.Int.{to_z-of_z}
use mir.Syntax.{w64}
use mir.Val.{SFits}
use Rattle.wdl_stdlib.proofs.Ints.{quotient-fits}
use Rattle.wdl_stdlib.proofs.operators.quotient.Goals as goal

pub returns-in-Some : goal.returns-in-Some
returns-in-Some c =
    let m : to_z w64 (of_z w64 c.args.m) ≡ c.args.m = to_z-of_z w64 c.args.m c.ranges.m in
    let n : to_z w64 (of_z w64 c.args.n) ≡ c.args.n = to_z-of_z w64 c.args.n c.ranges.n in
    let h = simp (m, n) at c.in-Some.ensures in
    let q : to_z w64 (of_z w64 c.in-Some.n) ≡ c.in-Some.n = to_z-of_z w64 c.in-Some.n (subst (SFits w64) (sym h.1) h.0.1) in
    rw q (quotient-fits c.args.m c.args.n c.in-Some.n c.if-n-eq0.false h)
