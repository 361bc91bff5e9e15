-- A bundle has the main workflow of its documents.
use Rattle.std.proofs.Common.{ℕ, List, ap, sym, ◌∙◌}
use Rattle.wdl_typed.specs.declared.checked.Checked.{Checked}
use Rattle.wdl_typed.specs.declared.flow.FlowDef.{FlowDef}
use Rattle.wdl_json.specs.Inputs.{main_of}
use Rattle.wdl_same.specs.Forms.{same_but_names}
use Rattle.wdl_same.proofs.SameForms.{forms_agree}
use Rattle.workflow_stages.specs.Documents.{HasMain, Tells}
use Rattle.workflow_texts.specs.Bundling.{IsSameForm}
use Rattle.workflow_texts.specs.Translating.{library_of}
use Rattle.workflow_cli.specs.Meaning.{BundlesAgree, HasTwin}
use Rattle.workflow_cli.proofs.Simulated.{main_is}

-- what has the same form has the same main workflow
twin : (tells : Tells) (file : List ℕ) (c : Checked) (number : ℕ) (f : FlowDef) (paths : List (List ℕ)) → HasMain tells file c number f paths
    → (text : List ℕ) → IsSameForm c file text → HasTwin file text c number f
twin tells file c number f paths m text s =
    let d = s.form in
    let same = sym (ap (λ o. same_but_names (library_of c) o (library_of d) d.main) m.numbered) ∙ s.same in
    let a = forms_agree (library_of c) number f (library_of d) d.main (main_is tells file c number f paths m) same in
    let agree = a.4 in
    record {
      form = d;
      has = s.has;
      other = a.0;
      numbered = a.2;
      flow = a.1;
      main = ap (main_of d.flows) a.2 ∙ a.3;
      name = sym agree.name;
      inputs = sym agree.inputs;
      fit = λ given. sym (agree.fit given);
      same = λ given site table. sym (agree.flow given site table);
      outputs = λ flowing. sym (agree.outputs flowing);
    }

pub bundles_agree : BundlesAgree
bundles_agree tells file text b = twin tells file b.checked b.number b.flow b.paths b.source text b.same
