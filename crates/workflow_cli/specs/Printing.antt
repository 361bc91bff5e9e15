-- What is written of the program itself.
use Rattle.std.specs.Prelude.{◌≡◌, ℕ, List, ⊤}
use Rattle.report_text.specs.declared.status.Status.TheVariants as status
use Rattle.help_text.specs.Help.{help_of, version_text}
use Rattle.workflow_stages.specs.declared.ended.Work.{Work}
use Rattle.workflow_stages.specs.declared.ended.Work.TheVariants as work
use Rattle.workflow_cli.specs.declared.asking.Page.{Page}
use Rattle.workflow_cli.specs.declared.asking.Page.TheVariants as page
use Rattle.workflow_cli.specs.Asking.{IsPrintOf, Words}

-- The text of a page. Nothing is said of the words on a code.
abbrev pub Says : Page → List ℕ → Type 0
Says (page.Help about) text = text ≡ help_of about
Says page.Version text = text ≡ version_text
Says (page.Code number) text = ⊤

-- the text, or want of memory
abbrev pub Prints : Page → Work → Type 0
Prints p (work.Text text) = Says p text
Prints p (work.Stop stop) = stop.status ≡ status.NoMemory

-- ---- by the words

-- the help, the version, or what is said of the code that the words ask for
pub record IsPrinted (words : Words) (text : List ℕ) : Type 0 where
  pub page : Page
  pub asked : IsPrintOf words page
  pub says : Says page text
