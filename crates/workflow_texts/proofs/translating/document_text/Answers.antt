use Rattle.std.proofs.Common.{◌++◌, ap, ◌∙◌, sym, codes}
use Rattle.serde_json.specs.Written.{compact_text}
use Rattle.wdl_typed.specs.declared.checked.Checked.{Checked}
use Rattle.cwl_formed.specs.Plain.{texts_are_plain}
use Rattle.wide_formed.specs.Forms.{are_named, document_json}
use Rattle.workflow_texts.proofs.Excluded.{image_is, is_workflow}
use Rattle.workflow_texts.proofs.translating.document_text.Goals as goal

pub process_line-requires : goal.process_line-requires
process_line-requires c = is_workflow c.args.subset.now.checked c.in_ok-process.process c.in_ok-process.ensures

pub returns : goal.returns
returns c = record {
  value = λ number m.
      let checked = c.args.subset.now.checked in
      let records = c.args.records.now in
      let source = c.args.source.now in
      let process = c.in_ok-process.process in
      let own = c.checked.ensures.checked in
      let same = image_is checked process c.in_ok-process.ensures number m in
      record {
        plain = ap texts_are_plain (sym same) ∙ c.see_texts.ensures;
        named =
            ap (are_named records source checked.structs) (sym same) ∙ ap (λ (x : Checked). are_named records source x.structs process) (sym own) ∙ c.in_ok-text.ensures.named;
        written =
            c.in_ok-push_ascii.ensures.ok
            ∙ ap (λ t. t ++ codes "\n")
            (c.in_ok-text.ensures.written ∙ ap (λ (x : Checked). compact_text (document_json records source x.structs process)) own
            ∙ ap (λ p. compact_text (document_json records source checked.structs p)) same);
      };
}
