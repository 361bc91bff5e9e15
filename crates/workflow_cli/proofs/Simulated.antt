-- The documents that are written mean what the flow gives.
use Rattle.std.proofs.Common.{◌≡◌, ℕ, true, List, Some, Ok, sym, ap, ◌∙◌}
use Rattle.std.specs.List.{slice_get}
use Rattle.wdl_typed.specs.declared.checked.Checked.{Checked}
use Rattle.wdl_typed.specs.declared.flow.FlowDef.{FlowDef}
use Rattle.wdl_typed.specs.Kept.{is_checked}
use Rattle.wdl_json.specs.Inputs.{main_of}
use Rattle.cwl_image.specs.Image.{image}
use Rattle.cwl_emit.specs.Objects.{object_json}
use Rattle.wdl_json.proofs.InputsFit.{answer_fits}
use Rattle.lowering_laws.proofs.Simulated.{forms_simulated}
use Rattle.wide_formed.specs.Forms.{document_json}
use Rattle.wide_formed.proofs.Meant.{lowered_simulates}
use Rattle.wide_formed.proofs.Objects.{plain_objects_stand}
use Rattle.wide_formed.proofs.Plain.{plain_simulates}
use Rattle.wide_formed.proofs.Standing.{lowered_stands}
use Rattle.workflow_stages.specs.Documents.{HasMain, Tells}
use Rattle.workflow_texts.specs.Translating.{library_of, lowered}
use Rattle.workflow_cli.specs.Meaning.{DocumentsMean, DocumentsRead, FormsMean, ObjectsMean, ObjectsRead, PlainDocumentsMean}

checked_is : (tells : Tells) (file : List ℕ) (c : Checked) (number : ℕ) (f : FlowDef) (paths : List (List ℕ)) → HasMain tells file c number f paths → is_checked (library_of c) (Some number) ≡ true
checked_is tells file c number f paths m = sym (ap (is_checked (library_of c)) m.numbered) ∙ c.kept

-- the number of the main workflow
pub main_is : (tells : Tells) (file : List ℕ) (c : Checked) (number : ℕ) (f : FlowDef) (paths : List (List ℕ)) → HasMain tells file c number f paths → slice_get c.flows number ≡ Some f
main_is tells file c number f paths m = sym (ap (main_of c.flows) m.numbered) ∙ m.main

pub documents_read : DocumentsRead
documents_read tells file text d =
    let l = lowered d.checked d.number in
    record {
      json = document_json l.records l.source l.lib.structs (image l.lib d.number);
      stands = lowered_stands (library_of d.checked) d.number (checked_is tells file d.checked d.number d.flow d.paths d.source) d.in_subset d.named d.says.plain d.says.named;
      says = d.says.written;
    }

pub documents_mean : DocumentsMean
documents_mean tells file text d given site table fit small =
    lowered_simulates (library_of d.checked) d.number d.flow given site table (checked_is tells file d.checked d.number d.flow d.paths d.source) d.in_subset d.named
    (main_is tells file d.checked d.number d.flow d.paths d.source) fit small

pub forms_mean : FormsMean
forms_mean tells file text d given site table fit small files =
    forms_simulated (library_of d.checked) d.number d.flow given site table (checked_is tells file d.checked d.number d.flow d.paths d.source) d.in_subset d.named
    (main_is tells file d.checked d.number d.flow d.paths d.source) fit small files

pub plain_documents_mean : PlainDocumentsMean
plain_documents_mean tells file text d same =
    plain_simulates (library_of d.checked) d.number d.flow same (checked_is tells file d.checked d.number d.flow d.paths d.source) d.in_subset d.named
    (main_is tells file d.checked d.number d.flow d.paths d.source)

pub objects_mean : ObjectsMean
objects_mean tells file inputs text o site table small =
    lowered_simulates (library_of o.checked) o.number o.flow o.given site table (checked_is tells file o.checked o.number o.flow o.paths o.source) o.in_subset o.named
    (main_is tells file o.checked o.number o.flow o.paths o.source)
    (answer_fits (library_of o.checked) o.checked.main o.flow o.flow o.read (Ok o.given) o.checked.kept o.source.main o.source.main o.reads) small

pub objects_read : ObjectsRead
objects_read tells file inputs text o none =
    let stands = plain_objects_stand (library_of o.checked) o.number o.flow o.read o.given (checked_is tells file o.checked o.number o.flow o.paths o.source) o.in_subset
    (main_is tells file o.checked o.number o.flow o.paths o.source) none o.reads in
    record { json = object_json o.given; ordered = stands.0; reads = stands.1; says = o.says }
