-- Lowered forms are checked, and what their main workflows take.
use Rattle.std.proofs.Common.{◌≡◌, ℕ, zero, suc, Bool, true, false, cond, ◌&&◌, ◌^◌, nat_lt, List, [], ◌∷◌, ◌++◌, map, Option, Some, None, option_and_then, option_map, sym, ap, ◌∙◌, subst, refl}
use Rattle.std.specs.List.{list_all, slice_get}
use Rattle.std.proofs.lemmas.Bool.{and_parts}
use Rattle.std.proofs.lemmas.Option.{none-some, same_Some}
use Rattle.wdl_value.specs.Fits.{Structs}
use Rattle.wdl_typed.specs.declared.flow.FlowDef.{FlowDef}
use Rattle.wdl_typed.specs.Bodies.{Library, all_declared}
use Rattle.wdl_typed.specs.Declarations.{decl_names, input_names, task_typed}
use Rattle.wdl_typed.specs.Kept.{count, flow_typed, is_checked, main_is_there}
use Rattle.wdl_typed.specs.KnownTypes.{are_structs}
use Rattle.wdl_typed.specs.Lists.{are_distinct}
use Rattle.flow_laws.proofs.Checked.{flow_kept, kept as kept_by, names_left}
use Rattle.leaf_image.specs.declared.leaf.Leaf.{Leaf}
use Rattle.leaf_image.specs.Leaves.{leaves_of}
use Rattle.leaf_image.specs.Reached.{reached}
use Rattle.leaf_image.specs.Records.{all_inputs, inputs_at, leaves_at}
use Rattle.cwl_records.specs.declared.leaf.RecordLeaf.{RecordLeaf}
use Rattle.leaf_image.specs.Replaced.{Replaced, are_checked, expanded_if, expanded_where, leaves_if, leaves_where, replaced_by, with_flows, with_leaves}
use Rattle.cwl_records.specs.Lowered.{checked_or, lowered_by, record_leaf, unaliased_if, unaliased_where, without_aliases}
use Rattle.wide_formed.specs.Forms.{LoweredForm, form_by, lowering}
use Rattle.wide_formed.proofs.Elements.{at_number}
use Rattle.wdl_base.proofs.Options.{all_at}

-- ---- checked forms

abbrev Most : Library → Bool
Most lib = are_structs lib.structs && list_all (task_typed lib.structs) lib.tasks && list_all (flow_typed lib) lib.flows

pub structs_kept : (lib : Library) (main : Option ℕ) → is_checked lib main ≡ true → are_structs lib.structs ≡ true
structs_kept lib main h =
    let p = and_parts (Most lib && main_is_there lib.flows main) (nat_lt (count lib) (2 ^ 32)) h in
    let q = and_parts (Most lib) (main_is_there lib.flows main) p.0 in
    let r = and_parts (are_structs lib.structs && list_all (task_typed lib.structs) lib.tasks) (list_all (flow_typed lib) lib.flows) q.0 in
    (and_parts (are_structs lib.structs) (list_all (task_typed lib.structs) lib.tasks) r.0).0

pub main_there : (lib : Library) (main : ℕ) → is_checked lib (Some main) ≡ true → (f : FlowDef) × (slice_get lib.flows main ≡ Some f)
main_there lib main h =
    let p = and_parts (Most lib && main_is_there lib.flows (Some main)) (nat_lt (count lib) (2 ^ 32)) h in
    at_number lib.flows main (and_parts (Most lib) (main_is_there lib.flows (Some main)) p.0).1

pub inputs_differ : (lib : Library) (main : ℕ) (f : FlowDef) → is_checked lib (Some main) ≡ true → slice_get lib.flows main ≡ Some f → are_distinct (input_names f.inputs) ≡ true
inputs_differ lib main f h there =
    names_left (input_names f.inputs) (all_declared f.body)
    (names_left (input_names f.inputs ++ all_declared f.body) (decl_names f.outputs)
    (flow_kept lib f (all_at (flow_typed lib) lib.flows main f (kept_by lib (Some main) h).flows there)).distinct)

-- ---- aliases

or_checked : (lib : Library) (main : ℕ) (fs : List FlowDef) → is_checked lib (Some main) ≡ true → are_checked lib main (checked_or lib main fs) ≡ true
or_checked lib main fs h = by_test (are_checked lib main fs) refl
  where
    by_test : (b : Bool) → are_checked lib main fs ≡ b → are_checked lib main (cond b fs lib.flows) ≡ true
    by_test true e = e
    by_test false e = h

unaliased_checked : (lib : Library) (main : ℕ) → is_checked lib (Some main) ≡ true → are_checked lib main (without_aliases lib main) ≡ true
unfolding without_aliases
unaliased_checked lib main h = or_checked lib main (unaliased_where lib lib.flows (reached lib.flows main)) h

-- the same name and the same inputs
pub record TakesSame (f g : FlowDef) : Type 0 where
  pub name : g.name ≡ f.name
  pub inputs : g.inputs ≡ f.inputs

unaliased_takes : (lib : Library) (fs : List FlowDef) (bs : List Bool) (k : ℕ) (f g : FlowDef) → slice_get fs k ≡ Some f → slice_get (unaliased_where lib fs bs) k ≡ Some g → TakesSame f g
unaliased_takes lib [] bs k f g h e = absurd (none-some _ h)
unaliased_takes lib (d ∷ fs) [] k f g h e = absurd (none-some _ e)
unaliased_takes lib (d ∷ fs) (b ∷ bs) zero f g h e = by_mark b e
  where
    by_mark : (w : Bool) → Some (unaliased_if w lib d) ≡ Some g → TakesSame f g
    by_mark true q = record { name = ap (λ (z : FlowDef). z.name) (sym (same_Some _ _ q)) ∙ ap (λ (z : FlowDef). z.name) (same_Some _ _ h); inputs = ap (λ (z : FlowDef). z.inputs) (sym (same_Some _ _ q)) ∙ ap (λ (z : FlowDef). z.inputs) (same_Some _ _ h) }
    by_mark false q = record { name = ap (λ (z : FlowDef). z.name) (sym (same_Some _ _ q)) ∙ ap (λ (z : FlowDef). z.name) (same_Some _ _ h); inputs = ap (λ (z : FlowDef). z.inputs) (sym (same_Some _ _ q)) ∙ ap (λ (z : FlowDef). z.inputs) (same_Some _ _ h) }
unaliased_takes lib (d ∷ fs) (b ∷ bs) (suc k) f g h e = unaliased_takes lib fs bs k f g h e

or_takes : (lib : Library) (main : ℕ) (fs : List FlowDef) (f g : FlowDef) → slice_get lib.flows main ≡ Some f → ((k : FlowDef) → slice_get fs main ≡ Some k → TakesSame f k)
    → slice_get (checked_or lib main fs) main ≡ Some g → TakesSame f g
or_takes lib main fs f g there takes = by_test (are_checked lib main fs)
  where
    by_test : (b : Bool) → slice_get (cond b fs lib.flows) main ≡ Some g → TakesSame f g
    by_test true e = takes g e
    by_test false e = let q = same_Some _ _ (sym there ∙ e) in record { name = ap (λ (z : FlowDef). z.name) (sym q); inputs = ap (λ (z : FlowDef). z.inputs) (sym q) }

main_unaliased : (lib : Library) (main : ℕ) (f g : FlowDef) → slice_get lib.flows main ≡ Some f → slice_get (without_aliases lib main) main ≡ Some g → TakesSame f g
unfolding without_aliases
main_unaliased lib main f g there e =
    or_takes lib main (unaliased_where lib lib.flows (reached lib.flows main)) f g there (λ k q. unaliased_takes lib lib.flows (reached lib.flows main) main f k there q) e

-- ---- struct inputs

pub record IsReplaced (lib : Library) (main : ℕ) (r : Replaced) : Type 0 where
  pub marks : List Bool
  pub leaves : leaves_where lib.structs lib.flows marks ≡ Some r.leaves
  pub flows : r.flows ≡ expanded_where lib.flows r.leaves lib.flows marks r.leaves
  pub checked : are_checked lib main r.flows ≡ true

abbrev all_expanded : Library → List Bool → List (List Leaf) → List FlowDef
all_expanded lib marks ls = expanded_where lib.flows ls lib.flows marks ls

replaced_where : (lib : Library) (main : ℕ) (marks : List Bool) (r : Replaced) → option_and_then (replaced_by lib main marks) (leaves_where lib.structs lib.flows marks) ≡ Some r → IsReplaced lib main r
replaced_where lib main marks r h = by_leaves (leaves_where lib.structs lib.flows marks) refl h
  where
    by_leaves : (o : Option (List (List Leaf))) → leaves_where lib.structs lib.flows marks ≡ o → option_and_then (replaced_by lib main marks) o ≡ Some r → IsReplaced lib main r
    by_leaves None e k = absurd (none-some _ k)
    by_leaves (Some ls) e k = by_test (are_checked lib main (all_expanded lib marks ls)) refl k
      where
        by_test : (b : Bool) → are_checked lib main (all_expanded lib marks ls) ≡ b → cond b (Some (record { flows = all_expanded lib marks ls; leaves = ls })) None ≡ Some r → IsReplaced lib main r
        by_test true c q = subst (IsReplaced lib main) (same_Some _ _ q) (record { marks = marks; leaves = e; flows = refl; checked = c })
        by_test false c q = absurd (none-some _ q)

is_replaced : (lib : Library) (main : ℕ) (r : Replaced) → with_leaves lib main ≡ Some r → IsReplaced lib main r
unfolding with_leaves
is_replaced lib main r h = replaced_where lib main (reached lib.flows main) r h

-- a workflow with its leaves in the places of its struct inputs, or one that main does not reach
pub data IsExpanded (structs : Structs) (f g : FlowDef) (ls : List Leaf) : Type 0 where
  expanded : leaves_of structs f ≡ Some ls → g.inputs ≡ all_inputs ls f.inputs → IsExpanded structs f g ls
  emptied : ls ≡ [] → g.inputs ≡ f.inputs → IsExpanded structs f g ls

pub record IsExpandedMain (structs : Structs) (f g : FlowDef) (ls : List Leaf) : Type 0 where
  pub name : g.name ≡ f.name
  pub how : IsExpanded structs f g ls

expanded_first : (structs : Structs) (flows : List FlowDef) (all : List (List Leaf)) (b : Bool) (f : FlowDef) (ls : List Leaf) → leaves_if b structs f ≡ Some ls
    → IsExpandedMain structs f (expanded_if b flows all ls f) ls
expanded_first structs flows all true f ls h = record { name = refl; how = expanded h refl }
expanded_first structs flows all false f ls h = record { name = refl; how = emptied (sym (same_Some _ _ h)) refl }

-- the leaves of the first workflow, and those of the others
pub record IsCons (structs : Structs) (b : Bool) (f : FlowDef) (fs : List FlowDef) (bs : List Bool) (table : List (List Leaf)) : Type 0 where
  pub own : List Leaf
  pub more : List (List Leaf)
  pub first : leaves_if b structs f ≡ Some own
  pub rest : leaves_where structs fs bs ≡ Some more
  pub is : own ∷ more ≡ table

cons_is : (structs : Structs) (b : Bool) (f : FlowDef) (fs : List FlowDef) (bs : List Bool) (table : List (List Leaf)) → leaves_where structs (f ∷ fs) (b ∷ bs) ≡ Some table
    → IsCons structs b f fs bs table
cons_is structs b f fs bs table h = by_first (leaves_if b structs f) refl h
  where
    by_first : (o : Option (List Leaf)) → leaves_if b structs f ≡ o → option_and_then (λ ls. option_map (λ more. ls ∷ more) (leaves_where structs fs bs)) o ≡ Some table → IsCons structs b f fs bs table
    by_first None e k = absurd (none-some _ k)
    by_first (Some ls) e k = by_rest (leaves_where structs fs bs) refl k
      where
        by_rest : (o : Option (List (List Leaf))) → leaves_where structs fs bs ≡ o → option_map (λ more. ls ∷ more) o ≡ Some table → IsCons structs b f fs bs table
        by_rest None q j = absurd (none-some _ j)
        by_rest (Some more) q j = record { own = ls; more = more; first = e; rest = q; is = same_Some _ _ j }

expanded_takes : (structs : Structs) (flows : List FlowDef) (all : List (List Leaf)) (fs : List FlowDef) (bs : List Bool) (table : List (List Leaf)) (k : ℕ) (f g : FlowDef)
    → leaves_where structs fs bs ≡ Some table → slice_get fs k ≡ Some f → slice_get (expanded_where flows all fs bs table) k ≡ Some g
    → IsExpandedMain structs f g (leaves_at (slice_get table k))
expanded_takes structs flows all [] bs table k f g h e q = absurd (none-some _ e)
expanded_takes structs flows all (d ∷ fs) [] table k f g h e q = absurd (none-some _ q)
expanded_takes structs flows all (d ∷ fs) (b ∷ bs) table k f g h e q =
    let c = cons_is structs b d fs bs table h in
    subst (λ (t : List (List Leaf)). IsExpandedMain structs f g (leaves_at (slice_get t k))) c.is
    (at_place c.own c.more k c.first e (subst (λ (t : List (List Leaf)). slice_get (expanded_where flows all (d ∷ fs) (b ∷ bs) t) k ≡ Some g) (sym c.is) q)
    (λ n s r. expanded_takes structs flows all fs bs c.more n f g c.rest s r))
  where
    at_place : (own : List Leaf) (more : List (List Leaf)) (n : ℕ) → leaves_if b structs d ≡ Some own → slice_get (d ∷ fs) n ≡ Some f → slice_get (expanded_where flows all (d ∷ fs) (b ∷ bs) (own ∷ more)) n ≡ Some g
        → ((m : ℕ) → slice_get fs m ≡ Some f → slice_get (expanded_where flows all fs bs more) m ≡ Some g → IsExpandedMain structs f g (leaves_at (slice_get more m)))
        → IsExpandedMain structs f g (leaves_at (slice_get (own ∷ more) n))
    at_place own more zero i s r rest =
        subst (λ (z : FlowDef). IsExpandedMain structs z g own) (same_Some _ _ s)
        (subst (λ (z : FlowDef). IsExpandedMain structs d z own) (same_Some _ _ r) (expanded_first structs flows all b d own i))
    at_place own more (suc m) i s r rest = rest m s r

-- ---- the lowered form

-- the main workflow of the lowered form: its struct inputs are replaced by leaves, or there is nothing to replace
pub data IsLoweredMain (structs : Structs) (f g : FlowDef) (records : List RecordLeaf) : Type 0 where
  replaced : (ls : List Leaf) (between : FlowDef) → between.inputs ≡ f.inputs → leaves_of structs between ≡ Some ls → g.inputs ≡ all_inputs ls f.inputs → records ≡ map record_leaf ls
      → IsLoweredMain structs f g records
  unreplaced : g.inputs ≡ f.inputs → records ≡ [] → IsLoweredMain structs f g records

pub record HasMain (lib : Library) (main : ℕ) (f : FlowDef) : Type 0 where
  pub checked : is_checked (lowering lib main).lib (Some main) ≡ true
  pub flow : FlowDef
  pub there : slice_get (lowering lib main).lib.flows main ≡ Some flow
  pub name : flow.name ≡ f.name
  pub source : (lowering lib main).source ≡ f.inputs
  pub how : IsLoweredMain lib.structs f flow (lowering lib main).records

module _ (lib : Library) (main : ℕ) (f : FlowDef) (checked : is_checked lib (Some main) ≡ true) (there : slice_get lib.flows main ≡ Some f) where
  abbrev between : Library
  between = with_flows lib (without_aliases lib main)

  abbrev form : Option Replaced → LoweredForm
  form o = form_by lib (lowered_by (without_aliases lib main) main (inputs_at (slice_get lib.flows main)) o)

  record HasMainIn (l : LoweredForm) : Type 0 where
    checked_is : is_checked l.lib (Some main) ≡ true
    flow : FlowDef
    there_is : slice_get l.lib.flows main ≡ Some flow
    name : flow.name ≡ f.name
    source : l.source ≡ f.inputs
    how : IsLoweredMain lib.structs f flow l.records

  nothing_replaced : HasMainIn (form None)
  nothing_replaced =
      let c = unaliased_checked lib main checked in
      let g = main_there between main c in
      let t = main_unaliased lib main f g.0 there g.1 in
      record { checked_is = c; flow = g.0; there_is = g.1; name = t.name; source = ap inputs_at there; how = unreplaced t.inputs refl }

  by_how : (r : Replaced) (h g : FlowDef) → TakesSame f h → IsExpanded lib.structs h g (leaves_at (slice_get r.leaves main)) → IsLoweredMain lib.structs f g (map record_leaf (leaves_at (slice_get r.leaves main)))
  by_how r h g t (expanded e q) = replaced (leaves_at (slice_get r.leaves main)) h t.inputs e (q ∙ ap (all_inputs (leaves_at (slice_get r.leaves main))) t.inputs) refl
  by_how r h g t (emptied e q) = unreplaced (q ∙ t.inputs) (ap (map record_leaf) e)

  some_replaced : (r : Replaced) → with_leaves between main ≡ Some r → HasMainIn (form (Some r))
  some_replaced r e =
      let q = is_replaced between main r e in
      let g = main_there (with_flows lib r.flows) main q.checked in
      let h = main_there between main (unaliased_checked lib main checked) in
      let t = main_unaliased lib main f h.0 there h.1 in
      let x = expanded_takes lib.structs between.flows r.leaves between.flows q.marks r.leaves main h.0 g.0 q.leaves h.1 (sym (ap (λ (fs : List FlowDef). slice_get fs main) q.flows) ∙ g.1) in
      record { checked_is = q.checked; flow = g.0; there_is = g.1; name = x.name ∙ t.name; source = ap inputs_at there; how = by_how r h.0 g.0 t x.how }

  in_either : (o : Option Replaced) → with_leaves between main ≡ o → HasMainIn (form o)
  in_either None e = nothing_replaced
  in_either (Some r) e = some_replaced r e

  pub lowered_main : HasMain lib main f
  lowered_main =
      let h = in_either (with_leaves between main) refl in
      record { checked = h.checked_is; flow = h.flow; there = h.there_is; name = h.name; source = h.source; how = h.how }
