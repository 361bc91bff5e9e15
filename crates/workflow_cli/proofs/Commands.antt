-- What words ask for: one thing at most.
use Rattle.std.proofs.Common.{◌≡◌, inl, inr, ℕ, List, [], Option, Some, None, ap, sym, ◌∙◌, refl}
use Rattle.wdl_words.specs.declared.wants.Wants.{Wants}
use Rattle.workflow_cli.specs.declared.asking.Command.{Command}
use Rattle.workflow_cli.specs.declared.asking.Command.TheVariants as command
use Rattle.workflow_cli.specs.declared.asking.Page.{Page}
use Rattle.workflow_cli.specs.declared.asking.RunOptions.{RunOptions}
use Rattle.workflow_cli.specs.Asking.{IsCheckOf, IsCommand, IsCwlOf, IsForFlow, IsForInputs, IsForMain, IsPrintOf, IsRunOf, Words, asked, command_of}
use Rattle.workflow_cli.specs.Causes.{Names}

-- words ask for one thing
same_wants : (words : Words) (v w : Wants) → asked words ≡ Some v → asked words ≡ Some w → v ≡ w
same_wants words v w e h = let p = sym e ∙ h in cc

pub same_command : (words : Words) (c d : Command) → IsCommand words c → IsCommand words d → c ≡ d
same_command words c d h k = sym h.is ∙ ap command_of (same_wants words h.wants k.wants h.asked k.asked) ∙ k.is

pub no_check : (words : Words) (file other : List ℕ) (inputs : Option (List ℕ)) → IsCheckOf words file → IsForMain words other inputs → ⊥
no_check words file other inputs h (inl k) = let e = same_command words (command.Check file) (command.Run other inputs k.0) h k.1 in cc
no_check words file other inputs h (inr (inl k)) = let e = same_command words (command.Check file) (command.Cwl other inputs) h k in cc
no_check words file other inputs h (inr (inr (is, inl k))) = let e = same_command words (command.Check file) (command.Inputs other) h k in cc
no_check words file other inputs h (inr (inr (is, inr k))) = let e = same_command words (command.Check file) (command.Bundle other) h k in cc

pub no_run : (words : Words) (file other : List ℕ) (inputs others : Option (List ℕ)) (options : RunOptions) → IsCwlOf words file inputs → IsRunOf words other others options → ⊥
no_run words file other inputs others options h k = let e = same_command words (command.Cwl file inputs) (command.Run other others options) h k in cc

pub readable : (words : Words) (c : Command) → IsCommand words c → asked words ≡ None → ⊥
readable words c h e = let p = sym h.asked ∙ e in cc

-- the file that a command names
abbrev pub file_of : Command → List ℕ
file_of (command.Run file inputs options) = file
file_of (command.Check file) = file
file_of (command.Cwl file inputs) = file
file_of (command.Inputs file) = file
file_of (command.Bundle file) = file
file_of (command.Load number) = []
file_of (command.Print p) = []

-- the inputs that it names
abbrev pub inputs_of : Command → Option (List ℕ)
inputs_of (command.Run file inputs options) = inputs
inputs_of (command.Check file) = None
inputs_of (command.Cwl file inputs) = inputs
inputs_of (command.Inputs file) = None
inputs_of (command.Bundle file) = None
inputs_of (command.Load number) = None
inputs_of (command.Print p) = None

-- a command of these words, which names this file and these inputs
pub record IsNaming (words : Words) (file : List ℕ) (inputs : Option (List ℕ)) : Type 0 where
  pub command : Command
  pub is_command : IsCommand words command
  pub names : file_of command ≡ file
  pub reads : inputs_of command ≡ inputs

pub main_naming : (words : Words) (file : List ℕ) (inputs : Option (List ℕ)) → IsForMain words file inputs → IsNaming words file inputs
main_naming words file inputs (inl h) = record { command = command.Run file inputs h.0; is_command = h.1; names = refl; reads = refl }
main_naming words file inputs (inr (inl h)) = record { command = command.Cwl file inputs; is_command = h; names = refl; reads = refl }
main_naming words file inputs (inr (inr (none, inl h))) = record { command = command.Inputs file; is_command = h; names = refl; reads = sym none }
main_naming words file inputs (inr (inr (none, inr h))) = record { command = command.Bundle file; is_command = h; names = refl; reads = sym none }

-- words that print a page name no file
pub no_print : (words : Words) (page : Page) (file : List ℕ) (inputs : Option (List ℕ)) → IsPrintOf words page → IsForMain words file inputs → ⊥
no_print words page file inputs h (inl k) = let e = same_command words (command.Print page) (command.Run file inputs k.0) h k.1 in cc
no_print words page file inputs h (inr (inl k)) = let e = same_command words (command.Print page) (command.Cwl file inputs) h k in cc
no_print words page file inputs h (inr (inr (none, inl k))) = let e = same_command words (command.Print page) (command.Inputs file) h k in cc
no_print words page file inputs h (inr (inr (none, inr k))) = let e = same_command words (command.Print page) (command.Bundle file) h k in cc

pub print_names : (words : Words) (page : Page) (file : List ℕ) → IsPrintOf words page → Names words file → ⊥
print_names words page file h (inl k) = let e = same_command words (command.Print page) (command.Check file) h k in cc
print_names words page file h (inr k) = no_print words page file k.0 h k.1

-- the inputs of a document, and its bundle, are no run and no translation
pub no_flow : (words : Words) (file other : List ℕ) (inputs : Option (List ℕ)) → IsForFlow words file → IsForInputs words other inputs → ⊥
no_flow words file other inputs (inl h) (inl k) = let e = same_command words (command.Inputs file) (command.Run other inputs k.0) h k.1 in cc
no_flow words file other inputs (inl h) (inr k) = let e = same_command words (command.Inputs file) (command.Cwl other inputs) h k.2 in cc
no_flow words file other inputs (inr h) (inl k) = let e = same_command words (command.Bundle file) (command.Run other inputs k.0) h k.1 in cc
no_flow words file other inputs (inr h) (inr k) = let e = same_command words (command.Bundle file) (command.Cwl other inputs) h k.2 in cc

pub naming : (words : Words) (file : List ℕ) → Names words file → (inputs : Option (List ℕ)) × IsNaming words file inputs
naming words file (inl h) = (None, record { command = command.Check file; is_command = h; names = refl; reads = refl })
naming words file (inr h) = (h.0, main_naming words file h.0 h.1)

pub one_file : (words : Words) (f g : List ℕ) → Names words f → Names words g → f ≡ g
one_file words f g h k =
    let a = (naming words f h).1 in
    let b = (naming words g k).1 in
    sym a.names ∙ ap file_of (same_command words a.command b.command a.is_command b.is_command) ∙ b.names

pub one_inputs : (words : Words) (f g : List ℕ) (i j : Option (List ℕ)) → IsForMain words f i → IsForMain words g j → i ≡ j
one_inputs words f g i j h k =
    let a = main_naming words f i h in
    let b = main_naming words g j k in
    sym a.reads ∙ ap inputs_of (same_command words a.command b.command a.is_command b.is_command) ∙ b.reads

-- a translation reads no inputs where it names none
pub named_inputs : (words : Words) (file other : List ℕ) (inputs : Option (List ℕ)) → IsCwlOf words file None → IsForInputs words other inputs → ⊥
named_inputs words file other inputs h (inl k) = no_run words file other None inputs k.0 h k.1
named_inputs words file other inputs h (inr k) = let e = same_command words (command.Cwl file None) (command.Cwl other inputs) h k.2 in let p = k.1 in cc
