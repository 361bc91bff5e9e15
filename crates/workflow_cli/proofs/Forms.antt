-- A checked form is its parts.
use Rattle.std.proofs.Common.{◌≡◌, true, ap, subst}
use Rattle.std.proofs.Math.Bool.{Bool-set}
use Rattle.wdl_typed.specs.declared.checked.Checked.{Checked}
use Rattle.wdl_typed.specs.declared.checked.CheckedParts.{CheckedParts}
use Rattle.wdl_typed.specs.Bodies.{library}
use Rattle.wdl_typed.specs.Kept.{is_checked}
use Rattle.wdl_check_doc.specs.Checked.{parts_of}

abbrev IsKept : CheckedParts → Type 0
IsKept p = is_checked (library p.structs p.tasks p.flows) p.main ≡ true

abbrev form : (p : CheckedParts) → IsKept p → Checked
form p k = record { structs = p.structs; tasks = p.tasks; flows = p.flows; main = p.main; kept = k }

same_form : (p q : CheckedParts) → p ≡ q → (k : IsKept p) (l : IsKept q) → form p k ≡ form q l
same_form p q e =
    subst (λ (x : CheckedParts). (k : IsKept p) (l : IsKept x) → form p k ≡ form x l) e
    (λ k l. ap (form p) (Bool-set (is_checked (library p.structs p.tasks p.flows) p.main) true k l))

pub one_form : (c d : Checked) → parts_of c ≡ parts_of d → c ≡ d
one_form c d e = same_form (parts_of c) (parts_of d) e c.kept d.kept
