-- What a move makes of its step, by what the step is to do.
use Rattle.std.proofs.Common.{◌≡◌, ℕ, List, [], ◌∷◌, Some, slice_get, ap, refl, sym, ◌∙◌}
use Rattle.std.proofs.lemmas.Option.{same_Some}
use Rattle.wdl_value.specs.Tables.{Row}
use Rattle.wdl_typed.specs.declared.expr.TExpr.{TExpr}
use Rattle.wdl_typed.specs.declared.flow.Statement.{Statement}
use Rattle.wdl_typed.specs.declared.flow.Statement.TheVariants as stmt
use Rattle.wdl_typed.specs.declared.flow.TCall.{TCall}
use Rattle.wdl_typed.specs.declared.flow.TIf.{TIf}
use Rattle.wdl_typed.specs.declared.flow.TScatter.{TScatter}
use Rattle.wdl_typed.specs.declared.task.TDecl.{TDecl}
use Rattle.wdl_typed.specs.Bodies.{Library}
use Rattle.net_laws.specs.Growing.{CallNeeded, Copied, Declared, Ending, EndsAt, Form, Gathered, Growing, IsLeft, IsNamed, IsOutside, IsWaiting, Keeps, KeepsCells, NamesNeeded, Rule, copies, declares, does, ends, gathers, one, only}
use Rattle.net_laws.specs.Moving.{Turn}
use Rattle.net_laws.specs.Net.{Given, Scope}
use Rattle.net_laws.specs.Planned.{call_names}
use Rattle.net_laws.specs.Roots.{IsCallable}
use Rattle.plan_moves.specs.Sheets.{IsMove, Sheet, rules_of, state_of}
use Rattle.plan_moves.proofs.Kept.{not_done, not_done_at}
use Rattle.plan_moves.proofs.Apart.{call_kind, decl_kind, if_kind, kind, scatter_kind}

module _ (lib : Library) (site : List ℕ) (rows : List Row) (t : ℕ) (a : Sheet) (mine : List ℕ) (b : Sheet) (theirs : List ℕ) where
  abbrev pub Left : Rule → Type 0
  Left r = IsLeft lib site rows (rules_of a) (state_of a mine) t r

  abbrev pub New : ℕ → Form → Type 0
  New depth f = Growing lib site rows (rules_of b) (state_of b theirs) depth f

  abbrev pub Waiting : Rule → List ℕ → ℕ → Type 0
  Waiting r parts c = IsWaiting lib site rows (rules_of a) (state_of a mine) r parts c t

  abbrev pub Kept : Given → ℕ → Type 0
  Kept g d = KeepsCells lib site rows (rules_of a) (state_of a mine) t g d

  abbrev pub OfDecl : Type 0
  OfDecl = (depth : ℕ) (x : TDecl) (s : Scope) (c : ℕ) → Left (does (stmt.Decl x) s (only x.name c) c) → NamesNeeded (state_of a mine) t s x.value → Keeps (state_of a mine) t c → New depth (one (stmt.Decl x) s (only x.name c) c)

  abbrev pub OfCall : Type 0
  OfCall =
      (depth : ℕ) (x : TCall) (s : Scope) (g : Given) (d : ℕ) → Left (does (stmt.Call x) s g d) → CallNeeded (state_of a mine) t s x → IsNamed (call_names lib x) g → EndsAt x g d → Kept g d
      → IsCallable lib depth (one (stmt.Call x) s g d) → New depth (one (stmt.Call x) s g d)

  abbrev pub OfScatter : Type 0
  OfScatter =
      (depth : ℕ) (x : TScatter Statement) (s : Scope) (g : Given) (d : ℕ) → Left (does (stmt.Scatter x) s g d) → NamesNeeded (state_of a mine) t s x.over
      → IsOutside lib site rows (rules_of a) (state_of a mine) x.body g → Kept g d → New depth (one (stmt.Scatter x) s g d)

  abbrev pub OfIf : Type 0
  OfIf =
      (depth : ℕ) (x : TIf Statement) (s : Scope) (g : Given) (d : ℕ) → Left (does (stmt.If x) s g d) → NamesNeeded (state_of a mine) t s x.cond
      → IsOutside lib site rows (rules_of a) (state_of a mine) x.body g → Kept g d → New depth (one (stmt.If x) s g d)

  abbrev pub OfDeclared : Type 0
  OfDeclared =
      (name : List ℕ) (e : TExpr) (s : Scope) (c : ℕ) → Left (declares name e s c) → NamesNeeded (state_of a mine) t s e → Keeps (state_of a mine) t c → Declared lib site rows (rules_of b) (state_of b theirs) name e s c

  abbrev pub OfGathered : Type 0
  OfGathered = (parts : List ℕ) (c : ℕ) → Waiting (gathers parts c) parts c → Gathered lib site rows (rules_of b) (state_of b theirs) parts c

  abbrev pub OfEnding : Type 0
  OfEnding = (parts : List ℕ) (c : ℕ) → Waiting (ends parts c) parts c → Ending lib site rows (rules_of b) (state_of b theirs) parts c

  abbrev pub OfCopied : Type 0
  OfCopied = (from c : ℕ) → Waiting (copies from c) (from ∷ []) c → Copied lib site rows (rules_of b) (state_of b theirs) from c

  -- The step has the rule alone, so its kind alone.
  pub same_kind : (r q : Rule) (k : ℕ) → slice_get a.rules t ≡ Some r → slice_get a.rules t ≡ Some q → kind q ≡ k → kind r ≡ k
  same_kind r q k is e h = ap kind (same_Some _ _ (sym is ∙ e)) ∙ h

  abbrev pub turn : IsMove t a mine b theirs → (r : Rule) → slice_get a.rules t ≡ Some r → (kind r ≡ 0 → OfDecl) → (kind r ≡ 1 → OfCall) → (kind r ≡ 2 → OfScatter) → (kind r ≡ 3 → OfIf) → (kind r ≡ 4 → OfDeclared)
      → (kind r ≡ 5 → OfGathered) → (kind r ≡ 6 → OfEnding) → (kind r ≡ 7 → OfCopied) → Turn lib site rows rows (rules_of a) (rules_of b) (state_of a mine) (state_of b theirs) t
  turn m r is decl call scatter condition declared gathered ending copied =
      record {
        decl = λ depth x s c left. decl (same_kind r (does (stmt.Decl x) s (only x.name c) c) 0 is left.rule (decl_kind x s (only x.name c) c)) depth x s c left;
        call = λ depth x s g d left. call (same_kind r (does (stmt.Call x) s g d) 1 is left.rule (call_kind x s g d)) depth x s g d left;
        scatter = λ depth x s g d left. scatter (same_kind r (does (stmt.Scatter x) s g d) 2 is left.rule (scatter_kind x s g d)) depth x s g d left;
        condition = λ depth x s g d left. condition (same_kind r (does (stmt.If x) s g d) 3 is left.rule (if_kind x s g d)) depth x s g d left;
        declared = λ name e s c left. declared (same_kind r (declares name e s c) 4 is left.rule refl) name e s c left;
        gathered = λ parts c w. gathered (same_kind r (gathers parts c) 5 is w.left.rule refl) parts c w;
        ending = λ parts c w. ending (same_kind r (ends parts c) 6 is w.left.rule refl) parts c w;
        copied = λ from c w. copied (same_kind r (copies from c) 7 is w.left.rule refl) from c w;
        told = λ u e depth x s g d w q. absurd (not_done_at lib site rows t a mine b theirs m u e q.done.done);
        only_call = λ q h. absurd (not_done lib site rows t a mine b theirs m h.done);
      }
