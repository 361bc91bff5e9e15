use Rattle.std.proofs.Common.{rules}
use Rattle.wdl_value.specs.declared.ty.Ty.{Ty}
use Rattle.wdl_value.specs.declared.ty.Ty.TheVariants as ty
use Rattle.wdl_check_rules.specs.Spans.{joined}
use Rattle.wdl_check_rules.specs.Locals.{stands_for}
use Rattle.wdl_check_types.specs.Outcome.{done, then_}
use Rattle.wdl_check_types.specs.Written.{map_written, written}
use Rattle.wdl_check_types.proofs.OutcomeLaws.{then_ok}
use Rattle.wdl_check_types.proofs.WrittenLaws.{written_out}
use Rattle.wdl_check_types.proofs.written.+written.Goals as goal

pub after_key-returns : goal.after_key-returns
after_key-returns t c = then_ok _ _ _ _ c.in_ok-value.ensures c.map.ensures

pub base-returns-in_ok-key-in-Map : goal.base-returns-in_ok-key-in-Map
base-returns-in_ok-key-in-Map t c =
    rw c.in-Map.is
    (then_ok (written (stands_for c.args.locals.now) c.in-Map.key)
    (λ (k : Ty). then_ (written (stands_for c.args.locals.now) c.in-Map.value) (λ (v : Ty). map_written (joined c.in-Map.word c.in-Map.closing) k v)) _ _
    (rw c.get-in-Map.ensures at c.in_ok-key-in-Map.ensures)
    (rw (c.get-in-Map-2.ensures, c.from_to.ensures) at c.after_key.ensures))

pub base-returns-in_ok-left-in-Pair : goal.base-returns-in_ok-left-in-Pair
base-returns-in_ok-left-in-Pair t c =
    rw c.in-Pair.is
    (then_ok (written (stands_for c.args.locals.now) c.in-Pair.left)
    (λ (l : Ty). then_ (written (stands_for c.args.locals.now) c.in-Pair.right) (λ (r : Ty). done (ty.Pair l r))) _ _
    (rw c.get-in-Pair.ensures at c.in_ok-left-in-Pair.ensures)
    (rw c.get-in-Pair-2.ensures at c.after_left.ensures))

pub written_type-returns : goal.written_type-returns
written_type-returns t c = rw written_out (search rules)
