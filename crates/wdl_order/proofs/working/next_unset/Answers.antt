use Rattle.std.proofs.Common.{rules, ◌≡◌, ℕ, true, inl, inr, sym, ap, ◌∙◌, subst}
use Rattle.wdl_typed.specs.Lists.{has_number}
use Rattle.wdl_order.specs.Rows.{is_set}
use Rattle.wdl_order.proofs.Numbers.{has_front, has_last, has_pushed}
use Rattle.wdl_order.proofs.working.next_unset.Goals as goal

pub bounds-flags-number : goal.bounds-flags-number
bounds-flags-number c =
    c.loop-number.invariant.within c.in-Some.number (ap (has_number c.in-Some.number) c.in-Some.ensures ∙ has_last c.in-Some.number c.pop.new.self)

pub returns-then-not-flags-number-clause-next : goal.returns-then-not-flags-number-clause-next
returns-then-not-flags-number-clause-next c =
    (ap (has_number c.in-Some.number) c.in_ok-push.ensures.ok ∙ has_last c.in-Some.number c.pop.new.self, search rules)

pub loop-number-preserved : goal.loop-number-preserved
loop-number-preserved c =
    let back : (q : ℕ) → has_number q c.pop.new.self ≡ true → has_number q c.loop-number.numbers ≡ true = λ q h.
    ap (has_number q) c.in-Some.ensures ∙ has_front q c.in-Some.number c.pop.new.self h in
    let flagged : is_set c.args.flags.now c.in-Some.number ≡ true = search rules in
    record {
      within = λ q h. c.loop-number.invariant.within q (back q h);
      less = λ q h. c.loop-number.invariant.less q (back q h);
      lost = λ q h. elim (c.loop-number.invariant.lost q h) [
        | inl y ↦ inl y
        | inr y ↦ elim (has_pushed q c.in-Some.number c.pop.new.self (ap (has_number q) (sym c.in-Some.ensures) ∙ y)) [
          | inl z ↦ inr z
          | inr e ↦ inl (subst (λ x. is_set c.args.flags.now x ≡ true) e flagged)
        ]
      ];
    }
