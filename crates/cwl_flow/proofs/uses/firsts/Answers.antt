use Rattle.std.proofs.Common.{◌≡◌, ◌+◌, [], ◌∷◌, ◌++◌, drop, sym, ap, ◌∙◌}
use Rattle.std.proofs.lemmas.List.{drop_more}
use Rattle.cwl_image.specs.Image.{firsts}
use Rattle.cwl_flow.proofs.Firsts.{one_new, one_old}
use Rattle.cwl_flow.proofs.uses.firsts.Goals as goal
use Rattle.cwl_flow.proofs.uses.firsts.Goals.{then-not-has+in_ok-copy+in_ok-push, else-not-has}

pub loop-key-preserved : goal.loop-key-preserved
loop-key-preserved c =
    let fs = c.loop-key.firsts in
    let rest = drop (c.loop-key.key-index + 1) c.args.keys.now in
    let cut : drop c.loop-key.key-index c.args.keys.now ≡ c.key-item.result ∷ rest =
    drop_more c.args.keys.now c.loop-key.key-index c.key-item.result c.loop-key-test.true ∙ ap (λ k. k ∷ rest) (sym c.key-item.is) in
    let before : fs ++ firsts fs (c.key-item.result ∷ rest) ≡ firsts [] c.args.keys.now = sym (ap (λ ks. fs ++ firsts fs ks) cut) ∙ c.loop-key.invariant in
    elim c.if-not-has.branch [
      | then-not-has+in_ok-copy+in_ok-push w ↦
          one_new fs c.if-not-has.firsts rest (firsts [] c.args.keys.now) c.key-item.result (w.firsts-is ∙ w.in_ok-push.ensures ∙ ap (λ k. fs ++ k ∷ []) w.in_ok-copy.ensures)
          (sym c.has.ensures ∙ w.if-not-has.true) before
      | else-not-has w ↦ one_old fs c.if-not-has.firsts rest (firsts [] c.args.keys.now) c.key-item.result w.firsts-is (sym c.has.ensures ∙ w.if-not-has.false) before
    ]
