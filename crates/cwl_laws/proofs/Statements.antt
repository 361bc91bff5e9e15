-- Each statement of a body of the subset agrees with its step.
use Rattle.std.proofs.Common.{◌≡◌, ℕ, ◌≤◌, true, List, [], ◌∷◌, ◌++◌, map, Option, Some, None, Contains, append-nil, append_assoc, sym, ap, ◌∙◌, subst, refl}
use Rattle.std.proofs.lemmas.Bool.{false≢true}
use Rattle.std.proofs.lemmas.Option.{same_Some, none-some}
use Rattle.wdl_value.specs.declared.ty.Ty.{Ty}
use Rattle.wdl_value.specs.Fits.{Structs}
use Rattle.wdl_typed.specs.declared.flow.Statement.{Statement, fold-Statement}
use Rattle.wdl_typed.specs.declared.flow.Target.{Target}
use Rattle.wdl_typed.specs.declared.scope.Bound.{Bound}
use Rattle.wdl_typed.specs.Bodies.{Seen, all_declared, declared, gives, joined}
use Rattle.wdl_typed.specs.Flow.{Callee, Known, Names, Part, Run, Runner, Sight, body_names, run_of_part, statement_step}
use Rattle.wdl_typed.specs.Journal.{keys_distinct}
use Rattle.wdl_typed.specs.Lists.{are_distinct}
use Rattle.wdl_typed.specs.Scope.{type_in}
use Rattle.wdl_names.proofs.FreshLemmas.{fresh-distinct}
use Rattle.wdl_flow.proofs.GivenNames.{bodies_same}
use Rattle.flow_soundness.specs.Readiness.{Agrees, FitsSome, IsNew}
use Rattle.flow_soundness.proofs.Fitting.{agrees_both}
use Rattle.flow_soundness.proofs.GivenKeys.{all_gives_keys}
use Rattle.flow_soundness.proofs.Newness.{fresh_wider, given_apart}
use Rattle.flow_laws.proofs.Checked.{OutputsDiffer}
use Rattle.flow_laws.proofs.Owned.{statements_owned}
use Rattle.cwl_model.specs.declared.process.Link.TheVariants as link
use Rattle.cwl_model.specs.declared.process.Process.{Process}
use Rattle.cwl_image.specs.declared.broken.Broken.{Broken}
use Rattle.cwl_image.specs.Image.{Draft, Linkage, Scope, Targets, body_links, draft, keys_of, links_of, target_by}
use Rattle.cwl_laws.specs.Laws.{AllSimulate, Fit, FitsAt, Keeps, Simulates}
use Rattle.cwl_laws.specs.Premises.{AllWires, IsInner}
use Rattle.cwl_laws.specs.Tools.{ground_of}
use Rattle.cwl_laws.proofs.Covers.{body_found}
use Rattle.cwl_laws.proofs.Differ.{body_differs, body_fresh}
use Rattle.cwl_laws.proofs.Elements.{link_keys, linked_itself}
use Rattle.cwl_laws.proofs.Ids.{id_same}
use Rattle.cwl_laws.proofs.Keys.{links_are}
use Rattle.cwl_laws.proofs.Splits.{body_linked}
use Rattle.cwl_laws.proofs.Stands.{AreSimple, Body, One, head_of, parted, simple_then, tail_of}
use Rattle.cwl_laws.proofs.Steps.{AreNumbered, steps_apart}
use Rattle.cwl_laws.proofs.Uses.{statement_wires}

-- ---- names that fit

agrees_of : (structs : Structs) (names : List Bound) (ks : List Known) → Fit structs names ks → Agrees structs names ks
agrees_of structs names ks f key x e = let g = f key x e in subst (λ (o : Option Ty). FitsSome structs o x) (sym g.1) g.2

fit_of : (structs : Structs) (names : List Bound) (ks : List Known) → Agrees structs names ks → Fit structs names ks
fit_of structs names ks a key x e = by_type (type_in names key) refl (a key x e)
  where
    by_type : (o : Option Ty) → type_in names key ≡ o → FitsSome structs o x → FitsAt structs names key x
    by_type None q h = absurd h
    by_type (Some t) q h = (t, q, h)

-- the names of a body that are new differ
pub new_differ : (all taken : List (List ℕ)) (seen : Seen) (ss : List Statement) → IsNew all taken seen ss → are_distinct (all_declared ss) ≡ true
new_differ all taken seen ss n = sym (fresh-distinct (all_declared ss)) ∙ fresh_wider taken [] (all_declared ss) (λ m k l. absurd (false≢true l)) n.declared_new

-- What the names of a statement are fits, where those that it sees fit.
abbrev pub IsSound : Run → Callee → Statement → Type 0
IsSound r callee st =
    (seen given : Seen) (s : Sight) (all taken : List (List ℕ)) → gives r.library st seen ≡ Some given → Agrees r.library.structs seen.names s.names → IsNew all taken seen (st ∷ [])
    → Agrees r.library.structs given.names (run_of_part (fold-Statement Part (statement_step r callee) st) s).names

module _ (r : Run) (callee : Callee) (flows : ℕ → Process) (declared_in : List (List ℕ)) (targets : Target → List Broken) (differ : OutputsDiffer r.library)
    (sound : (st : Statement) → IsSound r callee st) where
  abbrev pub structs : Structs
  structs = r.library.structs

  abbrev pub processes : Targets
  processes = target_by r.library flows

  abbrev pub part : Statement → Part
  part = fold-Statement Part (statement_step r callee)

  abbrev pub run : Statement → Runner
  run st = run_of_part (part st)

  abbrev pub runs : List Statement → List Runner
  runs ss = map run_of_part (map part ss)

  abbrev pub drafts : List Statement → List Draft
  drafts ss = map (draft r.library processes) ss

  abbrev pub OneHere : ℕ → List (List ℕ) → List (List ℕ) → Seen → Seen → Scope → Statement → Type 0
  OneHere = One r.library processes declared_in targets

  abbrev pub BodyHere : ℕ → List (List ℕ) → List (List ℕ) → Seen → Seen → Scope → List Statement → Type 0
  BodyHere = Body r.library processes declared_in targets

  keeps : (n : ℕ) (all taken : List (List ℕ)) (seen first : Seen) (scope : Scope) (st : Statement) → OneHere n all taken seen first scope st → Keeps structs seen.names first.names (run st)
  keeps n all taken seen first scope st o =
      record {
        fit = λ s f.
            let a = agrees_of structs seen.names s.names f in
            fit_of structs (seen.names ++ first.names) (s.names ++ (run st s).names)
            (agrees_both structs seen.names first.names s.names (run st s).names a (sound st seen first s all taken o.typed a o.new) (given_apart r.library all taken seen st [] first o.typed o.new));
      }

  -- A statement agrees with its step, and gives out names of the types of the subset.
  pub record Done (seen first : Seen) (scope : Scope) (st : Statement) : Type 0 where
    pub agrees : Simulates (ground_of r) structs seen.names scope (run st) (draft r.library processes st)
    pub simple : AreSimple first.names

  pub record AllDone (seen g : Seen) (scope : Scope) (ss : List Statement) : Type 0 where
    pub agree : AllSimulate (ground_of r) structs seen.names scope (runs ss) (drafts ss) (seen.names ++ g.names)
    pub simple : AreSimple g.names

  abbrev pub IsDone : ℕ → Statement → Type 0
  IsDone depth st = (n : ℕ) (all taken : List (List ℕ)) (seen first : Seen) (scope : Scope) → n ≤ depth → OneHere n all taken seen first scope st → Done seen first scope st

  abbrev pub KnownDone : ℕ → Type 0
  KnownDone depth = (st : Statement) × IsDone depth st

  pub body_done : (depth : ℕ) (ks : List (KnownDone depth)) (n : ℕ) (all taken : List (List ℕ)) (seen g : Seen) (scope : Scope) → n ≤ depth
      → BodyHere n all taken seen g scope (map (λ (k : KnownDone depth). k.0) ks) → AllDone seen g scope (map (λ (k : KnownDone depth). k.0) ks)
  body_done depth [] n all taken seen g scope le b =
      let same = ap (λ (s : Seen). s.names) (same_Some _ _ b.typed) in
      record { agree = sym (append-nil seen.names) ∙ ap (λ (bs : List Bound). seen.names ++ bs) same; simple = subst AreSimple same (λ k t e. absurd (none-some _ e)) }
  body_done depth (k ∷ ks) n all taken seen g scope le b =
      let ss = map (λ (z : KnownDone depth). z.0) ks in
      let s = parted r.library processes declared_in targets n all taken seen g scope k.0 ss b in
      let one = head_of r.library processes declared_in targets n all taken seen g scope k.0 ss b s in
      let here = k.1 n all taken seen s.first scope le one in
      let rest = body_done depth ks n all (taken ++ declared k.0) (joined seen s.first) s.rest (scope ++ links_of (draft r.library processes k.0)) le
      (tail_of r.library processes declared_in targets n all taken seen g scope k.0 ss b s here.simple) in
      let names : s.first.names ++ s.rest.names ≡ g.names = ap (λ (z : Seen). z.names) s.both in
      record {
        agree = (
          s.first.names,
          keeps n all taken seen s.first scope k.0 one,
          here.agrees,
          subst (λ (after : List Bound). AllSimulate (ground_of r) structs (seen.names ++ s.first.names) (scope ++ links_of (draft r.library processes k.0)) (runs ss) (drafts ss) after)
              (append_assoc seen.names s.first.names s.rest.names ∙ ap (λ (bs : List Bound). seen.names ++ bs) names) rest.agree,
        );
        simple = subst AreSimple names (simple_then s.first.names s.rest.names here.simple rest.simple);
      }

  -- ---- blocks

  pub all_wires : (ss : List Statement) → AllWires (drafts ss)
  all_wires [] = tt
  all_wires (st ∷ ss) = (statement_wires r.library processes declared_in st, all_wires ss)

  -- The keys of what a body runs are those of its links.
  pub keys_linked : (ss : List Statement) (n : ℕ) (all taken : List (List ℕ)) (seen g : Seen) (scope : Scope) → BodyHere n all taken seen g scope ss
      → (body_names (map part ss)).keys ≡ keys_of (body_links (drafts ss))
  keys_linked ss n all taken seen g scope b =
      ap (λ (m : Names). m.keys) (bodies_same r callee ss) ∙ sym (all_gives_keys r.library ss seen g b.typed)
      ∙ sym (link_keys (body_links (drafts ss)) g.names (body_linked r.library processes declared_in ss seen g b.typed b.kept).0)

  pub inner_is : (ss : List Statement) (n : ℕ) (all taken : List (List ℕ)) (seen g : Seen) (inner : Scope) → BodyHere n all taken seen g inner ss → AreNumbered ss → AllDone seen g inner ss
      → ((l : Linkage) → Contains inner l → (i : List ℕ) × (l.link ≡ link.Input i)) → IsInner (ground_of r) structs seen.names (runs ss) (drafts ss) inner
  inner_is ss n all taken seen g inner b numbered done inputs =
      let distinct = new_differ all taken seen ss b.new in
      let keys = ap keys_distinct (sym (keys_linked ss n all taken seen g inner b)) ∙ (statements_owned r callee differ ss).distinct distinct in
      record {
        after = seen.names ++ g.names;
        all = done.agree;
        differ = body_differs r.library processes declared_in ss seen g all taken b.typed b.kept b.new;
        wires = all_wires ss;
        apart = steps_apart r.library processes declared_in (ground_of r) ss inner seen g b.named b.typed b.kept distinct numbered;
        inputs = inputs;
        ids = λ a c i j e. id_same a.key c.key (links_are r.library processes ss b.named a i).named (links_are r.library processes ss b.named c j).named e;
        found =
            body_found inner seen.names (drafts ss) b.within (body_fresh r.library processes declared_in ss seen g all taken b.typed b.kept b.new)
            (linked_itself (body_links (drafts ss)) keys);
      }
