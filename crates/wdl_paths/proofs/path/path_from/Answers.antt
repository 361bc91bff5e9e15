use Rattle.std.proofs.Common.{sym, ap, subst, ◌∙◌, ◌≡◌, false}
use Rattle.wdl_paths.specs.Keeping.{any_nul, texts}
use Rattle.wdl_paths.proofs.SegmentLemmas.{KeepsAll, path_kept, path_plain, path_joined}
use Rattle.wdl_paths.proofs.path.path_from.Goals as goal

kept : (c : goal.After-as_slice) → KeepsAll c.args.base.now c.args.uri.now c.file_name.result.now c.new-kept.result.items c.put_folder.new.kept.items c.put_folder-2.new.kept.items c.put.new.kept.items
kept c = record {
  none = c.new-kept.ensures.items;
  first = c.in_ok-put_folder.ensures;
  second = c.in_ok-put_folder-2.ensures;
  named = c.file_name.ensures.name;
  last = c.in_ok-put.ensures;
}

pub joined-requires : goal.joined-requires
joined-requires c =
    subst (λ k. any_nul (texts k) ≡ false) (sym c.as_slice.ensures.value) (path_plain _ _ _ _ _ _ _ (kept c) c.requires.base c.requires.uri)

pub returns : goal.returns
returns c =
    path_joined c.args.base.now c.args.uri.now c.as_slice.result.now c.joined.result
    (ap texts c.as_slice.ensures.value ∙ path_kept _ _ _ c.new-kept.result.items c.put_folder.new.kept.items c.put_folder-2.new.kept.items _
    (record {
      none = c.new-kept.ensures.items;
      first = c.in_ok-put_folder.ensures;
      second = c.in_ok-put_folder-2.ensures;
      named = c.file_name.ensures.name;
      last = c.in_ok-put.ensures;
    }))
    c.joined.ensures
