-- One workflow without its aliases after another.
use Rattle.std.proofs.Common.{◌≡◌, Bool, List, [], ◌∷◌, ◌++◌, append_assoc, sym, ap, ◌∙◌}
use Rattle.wdl_typed.specs.declared.flow.FlowDef.{FlowDef}
use Rattle.wdl_typed.specs.Bodies.{Library}
use Rattle.cwl_records.specs.Lowered.{unaliased_if, unaliased_where}

-- the next workflow, with its mark
pub flow_goes : (lib : Library) (done now whole : List FlowDef) (f : FlowDef) (fs all : List FlowDef) (b : Bool) (bs marks : List Bool)
    → all ≡ f ∷ fs → marks ≡ b ∷ bs → now ≡ done ++ unaliased_if b lib f ∷ []
    → done ++ unaliased_where lib all marks ≡ whole → now ++ unaliased_where lib fs bs ≡ whole
flow_goes lib done now whole f fs all b bs marks split marked pushed rest =
    ap (λ (xs : List FlowDef). xs ++ unaliased_where lib fs bs) pushed
    ∙ append_assoc done (unaliased_if b lib f ∷ []) (unaliased_where lib fs bs)
    ∙ sym (ap (λ (ms : List Bool). done ++ unaliased_where lib (f ∷ fs) ms) marked)
    ∙ sym (ap (λ (xs : List FlowDef). done ++ unaliased_where lib xs marks) split)
    ∙ rest
