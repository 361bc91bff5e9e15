-- The body of a block: what it sees, and that all is as before behind it.
use Rattle.std.proofs.Common.{◌≡◌, ℕ, List, [], ◌∷◌, ◌++◌, length, take, Result, Ok, Err, IfOk, OnOk, sym, ap, ◌∙◌}
use Rattle.wdl_base.specs.declared.error.NoMemory.{NoMemory}
use Rattle.wdl_typed.specs.declared.flow.Statement.{Statement}
use Rattle.wdl_typed.specs.Declarations.{plain_key}
use Rattle.plan_layout.specs.declared.layout.Need.{Need}
use Rattle.plan_layout.specs.declared.scope.Origin.{Origin}
use Rattle.plan_layout.specs.declared.scope.CellScope.{CellScope}
use Rattle.plan_layout.specs.Steps.{scope_behind}
use Rattle.plan_layout.proofs.Parts.{calls_first, names_first, path_same, scope_is}

-- the scope in the body of that statement, without and with an item
abbrev pub entered : CellScope → ℕ → CellScope
entered s index = record { names = s.names; calls = s.calls; path = s.path ++ index ∷ [] }

abbrev pub named : CellScope → List ℕ → CellScope
named s name = record { names = s.names ++ record { key = plain_key name; level = length s.path; slot = 0 } ∷ []; calls = s.calls; path = s.path }

pub with_item : (s t u : CellScope) (index : ℕ) (name : List ℕ) → t ≡ entered s index → u ≡ named t name → u ≡ named (entered s index) name
with_item s t u index name e h = h ∙ ap (λ (x : CellScope). named x name) e

module _ (o : Origin) (ss : List Statement) where
  -- Where the first names and calls are seen again, the scope is the one before.
  pub left_again : (s u v w : CellScope) (before after index count calls : ℕ) (more : List Need) → u.names ≡ s.names ++ more → u.calls ≡ s.calls → u.path ≡ s.path ++ index ∷ [] → v ≡ scope_behind o ss u before after
      → count ≡ length s.names → calls ≡ length s.calls → w.names ≡ take count v.names → w.calls ≡ take calls v.calls → ((front : List ℕ) (last : ℕ) → v.path ≡ front ++ last ∷ [] → w.path ≡ front) → w ≡ s
  left_again s u v w before after index count calls more names same path is n c a b p =
      scope_is w s
      (a ∙ ap (λ (k : ℕ). take k v.names) n ∙ ap (λ (x : CellScope). take (length s.names) x.names) is ∙ names_first o ss u before after s.names more names)
      (b ∙ ap (λ (k : ℕ). take k v.calls) (c ∙ ap length (sym same)) ∙ ap (λ (x : CellScope). take (length u.calls) x.calls) is ∙ calls_first o ss u before after ∙ same)
      (p s.path index (ap (λ (x : CellScope). x.path) is ∙ path_same o ss u before after ∙ path))

-- what comes of a call of which two things are known
pub both_ok : {A : Type 0} (r : Result A NoMemory) (P Q : A → Type 0) (B : Type 0) → ((x : A) → P x → B → Q x) → IfOk r P → OnOk r B → IfOk r Q
both_ok (Ok x) P Q B f p b = f x p b
both_ok (Err e) P Q B f p b = tt
