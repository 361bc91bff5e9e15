-- What is written of the document that the words name, and which workflows have no such text.
use Rattle.std.specs.Prelude.{◌⊎◌, ℕ, List, Option}
use Rattle.wdl_base.specs.declared.span.Span.{Span}
use Rattle.workflow_stages.specs.Documents.{Tells}
use Rattle.workflow_texts.specs.Bundling.{HasUnbundled, IsBundleText}
use Rattle.workflow_texts.specs.Forming.{IsFormText}
use Rattle.workflow_texts.specs.Translating.{HasOutside, IsCwlText}
use Rattle.workflow_cli.specs.Asking.{IsBundleOf, IsCwlOf, IsFormOf, Words}

module _ (tells : Tells) (words : Words) where
  -- the form of the inputs of the document that is named
  pub record IsFormed (text : List ℕ) : Type 0 where
    pub file : List ℕ
    pub asked : IsFormOf words file
    pub is_text : IsFormText tells file text

  -- the CWL document of the document that is named, or the CWL input object of its inputs
  pub record IsTranslated (text : List ℕ) : Type 0 where
    pub file : List ℕ
    pub inputs : Option (List ℕ)
    pub asked : IsCwlOf words file inputs
    pub is_text : IsCwlText tells file inputs text

  -- the main workflow of the document that is named is not in the subset
  pub record IsOutside (rule : ℕ) (span : Span) (paths : List (List ℕ)) : Type 0 where
    pub file : List ℕ
    pub inputs : Option (List ℕ)
    pub asked : IsCwlOf words file inputs
    pub outside : HasOutside tells file inputs rule span paths

  -- the bundle of the document that is named
  pub record IsBundled (text : List ℕ) : Type 0 where
    pub file : List ℕ
    pub asked : IsBundleOf words file
    pub is_text : IsBundleText tells file text

  -- the main workflow of the document that is named has no bundle
  pub record IsUnbundled (rule : ℕ) (span : Span) (paths : List (List ℕ)) : Type 0 where
    pub file : List ℕ
    pub asked : IsBundleOf words file
    pub unbundled : HasUnbundled tells file rule span paths

  -- the main workflow of the document that is named has no CWL document, or no bundle, as the words ask for the one or the other
  abbrev pub IsRuledOut : ℕ → Span → List (List ℕ) → Type 0
  IsRuledOut rule span paths = IsOutside rule span paths ⊎ IsUnbundled rule span paths
