use Rattle.std.proofs.Common.{◌≡◌, Ok, inl, ap, arith}
use Rattle.run_keeper.proofs.AnswerLemmas.{same_answer}
use Rattle.run_keeper.proofs.member.answer_in.Goals as goal

pub returns-in-Ok : goal.returns-in-Ok
returns-in-Ok c = λ a is has.
    let answer = c.in-Ok.answer in
    let status : answer.status ≡ a.status = grind (arith, is.status, has.status) in
    let out : answer.out ≡ a.out = grind (arith, is.out, has.out) in
    let err : answer.err ≡ a.err = grind (arith, is.err, has.err) in
    let files : answer.files ≡ a.files = grind (arith, is.files, has.files) in
    inl (ap Ok (same_answer answer a status out err files))
