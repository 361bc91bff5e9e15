-- The cells of a block outside it: they are given to the steps of its joints.
use Rattle.std.proofs.Common.{◌≡◌, ℕ, zero, suc, ◌+◌, ◌<◌, ◌≤◌, List, [], ◌∷◌, ◌++◌, All, map, length, get_or, Some, slice_get, slice_set, arith, sym, ap, ◌∙◌, subst, refl}
use Rattle.std.proofs.lemmas.List.{get_or-append-add, get_or_append_left, length-append, length-set}
use Rattle.std.proofs.lemmas.List.Elements.{All-cons, All-head, All-nil, All-tail}
use Rattle.std.proofs.lemmas.Option.{slice_get_within}
use Rattle.wdl_base.specs.declared.name.Key.{Key}
use Rattle.wdl_value.specs.Tables.{Row}
use Rattle.wdl_typed.specs.Bodies.{Library}
use Rattle.value_net.specs.Nets.{joined, with_step}
use Rattle.net_laws.specs.Growing as net
use Rattle.net_laws.specs.Growing.{IsWaiting, copies, ends, gathers, mark_cell, slot_cell}
use Rattle.plan_moves.specs.Sheets.{Sheet, needs_in, rules_of, state_of, taken_in}
use Rattle.plan_layout.specs.declared.layout.Layout.{Layout}
use Rattle.plan_layout.specs.Cells.{marks_at, slots_at}
use Rattle.plan_layout.specs.Spots.{plain_keys, spots_from}
use Rattle.plan_growth.specs.declared.instance.Instance.{Instance}
use Rattle.plan_growth.specs.declared.rule.Rule.TheVariants as rule
use Rattle.plan_growth.specs.Begun.{IsFree}
use Rattle.plan_growth.specs.Entering.{Sown, beyond_each, with_copies, with_ends, with_gathers}
use Rattle.plan_growth.specs.News.{New, Stands, left_wants, with_news}
use Rattle.plan_growth.proofs.Adding.{news_by, news_last}
use Rattle.plan_growth.proofs.Handing.{handed, handed_get, handed_length, handed_other}
use Rattle.plan_growth.proofs.Lists.{get_set, get_unset}
use Rattle.plan_growth.proofs.Standing.{news_none}

-- ---- elements of two lists

module _ {A : Type 0} (P : A → Type 0) where
  pub all_left : (xs ys : List A) → All P (xs ++ ys) → All P xs
  all_left xs ys h k d lt = let size = length-append xs ys in subst P (get_or_append_left xs ys d k lt) (h k d (omega (arith, size, lt)))

  pub all_right : (xs ys : List A) → All P (xs ++ ys) → All P ys
  all_right xs ys h k d lt = let size = length-append xs ys in subst P (get_or-append-add xs ys k d) (h (length xs + k) d (omega (arith, size, lt)))

-- ---- the runs of a statement's own cells

module _ (P : ℕ → Type 0) (bases : List ℕ) (level : ℕ) where
  here : (c d : ℕ) → c ≡ d → P d → P c
  here c d e h = subst P (sym e) h

  pub names_at : (first : ℕ) (ks : List Key) → All P (map slot_cell (slots_at bases (spots_from level first ks))) → (j : ℕ) → j < length ks → P (get_or bases level 0 + (first + j))
  names_at first [] h j lt = absurd (omega (arith, lt))
  names_at first (k ∷ ks) h zero lt =
      here (get_or bases level 0 + (first + 0)) (get_or bases level 0 + first) (omega arith) (All-head P (get_or bases level 0 + first) (map slot_cell (slots_at bases (spots_from level (first + 1) ks))) h)
  names_at first (k ∷ ks) h (suc j) lt =
      here (get_or bases level 0 + (first + suc j)) (get_or bases level 0 + (first + 1 + j)) (omega arith)
      (names_at (first + 1) ks (All-tail P (get_or bases level 0 + first) (map slot_cell (slots_at bases (spots_from level (first + 1) ks))) h) j (omega (arith, lt)))

  pub calls_at : (first : ℕ) (cs : List (List ℕ)) → All P (map mark_cell (marks_at bases (spots_from level first (plain_keys cs)))) → (j : ℕ) → j < length cs → P (get_or bases level 0 + (first + j))
  calls_at first [] h j lt = absurd (omega (arith, lt))
  calls_at first (c ∷ cs) h zero lt =
      here (get_or bases level 0 + (first + 0)) (get_or bases level 0 + first) (omega arith)
      (All-head P (get_or bases level 0 + first) (map mark_cell (marks_at bases (spots_from level (first + 1) (plain_keys cs)))) h)
  calls_at first (c ∷ cs) h (suc j) lt =
      here (get_or bases level 0 + (first + suc j)) (get_or bases level 0 + (first + 1 + j)) (omega arith)
      (calls_at (first + 1) cs (All-tail P (get_or bases level 0 + first) (map mark_cell (marks_at bases (spots_from level (first + 1) (plain_keys cs)))) h) j (omega (arith, lt)))

-- ---- the owners outside

-- the owners where the joints own the cells of names, of calls, and the one that says what is done
abbrev pub outer_owners : List ℕ → ℕ → ℕ → ℕ → ℕ → ℕ → ℕ → ℕ → ℕ → ℕ → List ℕ
outer_owners owners base first_name names first_call calls done name_step call_step done_step =
    handed (base + first_name) name_step names (handed (base + first_call) call_step calls (slice_set owners (base + done) done_step))

module _ (b : Sheet) (owners : List ℕ) (t base first_name names first_call calls done : ℕ) (name_free : (j : ℕ) → j < names → IsFree b owners t (base + (first_name + j)))
    (call_free : (j : ℕ) → j < calls → IsFree b owners t (base + (first_call + j))) (done_free : IsFree b owners t (base + done)) (fits : first_name + names ≤ first_call) (fits_too : first_call + calls ≤ done)
    (name_step call_step done_step : ℕ) where
  abbrev before_calls : List ℕ
  before_calls = slice_set owners (base + done) done_step

  abbrev before_names : List ℕ
  before_names = handed (base + first_call) call_step calls before_calls

  abbrev out_now : List ℕ
  out_now = outer_owners owners base first_name names first_call calls done name_step call_step done_step

  pub outer_length : length out_now ≡ length owners
  outer_length =
      handed_length (base + first_name) name_step names before_names ∙ handed_length (base + first_call) call_step calls before_calls ∙ length-set owners (base + done) done_step

  there : (c : ℕ) → IsFree b owners t c → c < length owners
  there c h = slice_get_within owners c t h.0

  pub names_given : (j : ℕ) → j < names → slice_get out_now (base + (first_name + j)) ≡ Some (name_step + j)
  names_given j lt =
      ap (slice_get out_now) (omega arith)
      ∙ handed_get (base + first_name) name_step names before_names (λ i l.
      let inside = there (base + (first_name + i)) (name_free i l) in
      let a = handed_length (base + first_call) call_step calls before_calls in
      let c = length-set owners (base + done) done_step in
      omega (arith, inside, a, c)) j lt

  pub calls_given : (j : ℕ) → j < calls → slice_get out_now (base + (first_call + j)) ≡ Some (call_step + j)
  calls_given j lt =
      handed_other (base + first_name) name_step names before_names (base + (first_call + j)) (λ i l e. omega (arith, l, e, fits))
      ∙ ap (slice_get before_names) (omega arith)
      ∙ handed_get (base + first_call) call_step calls before_calls (λ i l.
      let inside = there (base + (first_call + i)) (call_free i l) in
      let c = length-set owners (base + done) done_step in
      omega (arith, inside, c)) j lt

  pub done_given : slice_get out_now (base + done) ≡ Some done_step
  done_given =
      handed_other (base + first_name) name_step names before_names (base + done) (λ i l e. omega (arith, l, e, fits, fits_too))
      ∙ handed_other (base + first_call) call_step calls before_calls (base + done) (λ i l e. omega (arith, l, e, fits_too))
      ∙ get_set owners (base + done) done_step (there (base + done) done_free)

  -- A cell of another step stays its own.
  pub others_owned : (c u : ℕ) → slice_get owners c ≡ Some u → (u ≡ t → ⊥) → slice_get out_now c ≡ Some u
  others_owned c u h n =
      handed_other (base + first_name) name_step names before_names c (λ i l e. away c u (base + (first_name + i)) h n (name_free i l) (omega (arith, e)))
      ∙ handed_other (base + first_call) call_step calls before_calls c (λ i l e. away c u (base + (first_call + i)) h n (call_free i l) (omega (arith, e)))
      ∙ get_unset owners (base + done) c done_step (λ e. away c u (base + done) h n done_free e) ∙ h
    where
      same_inside : {x y : ℕ} → Some x ≡ Some y → x ≡ y
      same_inside e = cc

      away : (c u d : ℕ) → slice_get owners c ≡ Some u → (u ≡ t → ⊥) → IsFree b owners t d → c ≡ d → ⊥
      away c u d h n f e = n (same_inside (sym h ∙ ap (slice_get owners) e ∙ f.0))

-- ---- steps of joints

abbrev pub gather_new : List ℕ → ℕ → ℕ → ℕ → New
gather_new firsts inner outer j = record { code = rule.Gathers (outer + j); needs = beyond_each firsts (inner + j); means = gathers (beyond_each firsts (inner + j)) (outer + j) }

abbrev pub end_new : List ℕ → ℕ → ℕ → ℕ → New
end_new firsts inner outer j = record { code = rule.Ends (outer + j); needs = beyond_each firsts (inner + j); means = ends (beyond_each firsts (inner + j)) (outer + j) }

abbrev pub copy_new : ℕ → ℕ → ℕ → New
copy_new inner outer j = record { code = rule.Copies (outer + j); needs = (inner + j) ∷ []; means = copies (inner + j) (outer + j) }

abbrev pub done_new : List ℕ → ℕ → New
done_new parts c = record { code = rule.Ends c; needs = parts; means = ends parts c }

pub gathers_added : (firsts : List ℕ) (inner outer n : ℕ) (v : Sown) → with_gathers firsts inner outer n v ≡ with_news v (news_by (gather_new firsts inner outer) n)
gathers_added firsts inner outer zero v = news_none v
gathers_added firsts inner outer (suc n) v =
    ap (λ (x : Sown). with_step x (rule.Gathers (outer + n)) (beyond_each firsts (inner + n))) (gathers_added firsts inner outer n v)
    ∙ news_last v (news_by (gather_new firsts inner outer) n) (gather_new firsts inner outer n)

pub ends_added : (firsts : List ℕ) (inner outer n : ℕ) (v : Sown) → with_ends firsts inner outer n v ≡ with_news v (news_by (end_new firsts inner outer) n)
ends_added firsts inner outer zero v = news_none v
ends_added firsts inner outer (suc n) v =
    ap (λ (x : Sown). with_step x (rule.Ends (outer + n)) (beyond_each firsts (inner + n))) (ends_added firsts inner outer n v)
    ∙ news_last v (news_by (end_new firsts inner outer) n) (end_new firsts inner outer n)

pub copies_added : (inner outer n : ℕ) (v : Sown) → with_copies inner outer n v ≡ with_news v (news_by (copy_new inner outer) n)
copies_added inner outer zero v = news_none v
copies_added inner outer (suc n) v =
    ap (λ (x : Sown). with_step x (rule.Copies (outer + n)) ((inner + n) ∷ [])) (copies_added inner outer n v)
    ∙ news_last v (news_by (copy_new inner outer) n) (copy_new inner outer n)

-- A joint's step waits for its parts.
pub joint_waits : (lib : Library) (site : List ℕ) (rows : List Row) (b : Sheet) (owners : List ℕ) (u : ℕ) (r : net.Rule) (parts : List ℕ) (c : ℕ) → slice_get b.rules u ≡ Some r
    → slice_get b.steps u ≡ Some (left_wants parts) → IsFree b owners u c → IsWaiting lib site rows (rules_of b) (state_of b owners) r parts c u
joint_waits lib site rows b owners u r parts c is step free =
    record { left = record { rule = is; left = ap taken_in step }; keeps = (free.0, ap joined free.1); needs = ap needs_in step }

-- What holds of a joint's step.
module _ (lib : Library) (layout : Layout) (is : List Instance) (b : Sheet) (owners : List ℕ) where
  one_free : (u c : ℕ) → IsFree b owners u c → All (IsFree b owners u) (c ∷ [])
  one_free u c h = All-cons (IsFree b owners u) c [] h (All-nil (IsFree b owners u))

  pub gather_stands : (u c : ℕ) (parts : List ℕ) → IsFree b owners u c → All (λ (d : ℕ). d < length b.values) parts → Stands lib layout is b owners u (rule.Gathers c) (left_wants parts) (gathers parts c)
  gather_stands u c parts h within = record { means = refl; free = λ e. one_free u c h; within = within }

  pub end_stands : (u c : ℕ) (parts : List ℕ) → IsFree b owners u c → All (λ (d : ℕ). d < length b.values) parts → Stands lib layout is b owners u (rule.Ends c) (left_wants parts) (ends parts c)
  end_stands u c parts h within = record { means = refl; free = λ e. one_free u c h; within = within }

  pub copy_stands : (u c from : ℕ) → IsFree b owners u c → from < length b.values → Stands lib layout is b owners u (rule.Copies c) (left_wants (from ∷ [])) (copies from c)
  copy_stands u c from h within =
      record {
        means = (from, refl, refl);
        free = λ e. one_free u c h;
        within = All-cons (λ (d : ℕ). d < length b.values) from [] within (All-nil (λ (d : ℕ). d < length b.values));
      }
