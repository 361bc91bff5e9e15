-- Names in tables.
use Rattle.std.proofs.Common.{◌≡◌, ℕ, zero, suc, ◌+◌, ◌<◌, Bool, true, false, not, ◌||◌, List, [], ◌∷◌, ◌++◌, map, length, get_or, set, slice_get, take, Option, Some, None, option_and_then, refl, sym, ap, ◌∙◌, arith}
use Rattle.std.specs.Prelude.{if◌then◌else◌, IfSome, IfNone, OnOk, Result, Ok, Err}
use Rattle.std.specs.Result.{is_err}
use Rattle.std.specs.Option.{is_some}
use Rattle.std.proofs.lemmas.List.{map-append}
use Rattle.std.specs.List.{find}
use Rattle.std.specs.Str.{bytes_eq}
use Rattle.std.proofs.lemmas.Bool.{true≢false, false≢true, and_parts, not-true, cond-true, cond-false, false_from_ne_true, or_parts}
use Rattle.std.proofs.lemmas.Slice.Eq.{bytes_eq-Decides}
use Rattle.std.proofs.lemmas.Option.{none-some, same_Some}
use Rattle.wdl_base.specs.Names.{is_among}
use Rattle.wdl_typed.specs.Lists.{has_name, are_distinct}
use Rattle.wdl_ast.specs.declared.document.Alias.{Alias}
use Rattle.wdl_library.specs.Names.{aliases_for}
use Rattle.wdl_structs.specs.declared.table.Entry.{Entry}
use Rattle.wdl_structs.specs.Tables.{Names, named}
use Rattle.wdl_structs.proofs.NameLaws.{among_at, same_among, distinct_push}
use Rattle.wdl_base.proofs.Options.{some_none}

-- ---- where a name stands

found_name : (es : List Entry) (n : List ℕ) (e : Entry) → find (λ x. bytes_eq x.name n) es ≡ Some e → e.name ≡ n
found_name [] n e h = absurd (none-some e h)
found_name (x ∷ es) n e h = on (λ g. found_name es n e g) (bytes_eq x.name n) refl h
  where
    on : (find (λ y. bytes_eq y.name n) es ≡ Some e → e.name ≡ n) → (b : Bool) → bytes_eq x.name n ≡ b → (if b then Some x else find (λ y. bytes_eq y.name n) es) ≡ Some e → e.name ≡ n
    on more true i g = ap (λ (y : Entry). y.name) (sym (same_Some x e g)) ∙ (bytes_eq-Decides x.name n).0 i
    on more false i g = more g

found_none : (es : List Entry) (n : List ℕ) → find (λ x. bytes_eq x.name n) es ≡ None → is_among n (named es) ≡ false
found_none [] n h = refl
found_none (x ∷ es) n h = on (λ g. found_none es n g) (bytes_eq x.name n) refl h
  where
    on : (find (λ y. bytes_eq y.name n) es ≡ None → is_among n (named es) ≡ false) → (b : Bool) → bytes_eq x.name n ≡ b → (if b then Some x else find (λ y. bytes_eq y.name n) es) ≡ None
        → is_among n (named (x ∷ es)) ≡ false
    on more true i g = absurd (some_none x g)
    on more false i g = ap (λ b. b || is_among n (named es)) i ∙ more g

named_get : (es : List Entry) (p : ℕ) (e : Entry) → slice_get es p ≡ Some e → slice_get (named es) p ≡ Some e.name
named_get [] p e h = absurd (none-some e h)
named_get (x ∷ es) zero e h = ap (λ (y : Entry). Some y.name) (same_Some x e h)
named_get (x ∷ es) (suc p) e h = named_get es p e h

get_there : (es : List Entry) (p : ℕ) → p < length es → (e : Entry) × (slice_get es p ≡ Some e)
get_there [] p h = absurd (omega arith)
get_there (x ∷ es) zero h = (x, refl)
get_there (x ∷ es) (suc p) h = get_there es p (omega arith)

pub placed_some : (es : List Entry) (n : List ℕ) (o : Option ℕ) → option_and_then (slice_get es) o ≡ find (λ x. bytes_eq x.name n) es → IfSome o (λ p. p < length es)
    → IfSome o (λ p. slice_get (named es) p ≡ Some n)
placed_some es n None f w = tt
placed_some es n (Some p) f w =
    let e = get_there es p w in
    named_get es p e.0 e.1 ∙ ap Some (found_name es n e.0 (sym f ∙ e.1))

pub placed_none : (es : List Entry) (n : List ℕ) (o : Option ℕ) → option_and_then (slice_get es) o ≡ find (λ x. bytes_eq x.name n) es → IfNone o (is_among n (named es) ≡ false)
placed_none es n None f = found_none es n (sym f)
placed_none es n (Some p) f = tt

-- ---- aliases of names

aliases_one : (aliases : List Alias) (a : Alias) (n : List ℕ) → aliases_for (aliases ++ a ∷ []) n ≡ aliases_for aliases n ++ (if bytes_eq a.from.name n then a.to.name ∷ [] else [])
aliases_one [] a n = refl
aliases_one (b ∷ more) a n = on (aliases_one more a n) (bytes_eq b.from.name n)
  where
    on : aliases_for (more ++ a ∷ []) n ≡ aliases_for more n ++ (if bytes_eq a.from.name n then a.to.name ∷ [] else []) → (t : Bool)
        → (if t then b.to.name ∷ aliases_for (more ++ a ∷ []) n else aliases_for (more ++ a ∷ []) n) ≡ (if t then b.to.name ∷ aliases_for more n else aliases_for more n) ++ (if bytes_eq a.from.name n then a.to.name ∷ [] else [])
    on h true = ap (λ r. b.to.name ∷ r) h
    on h false = h

append_none : (xs : Names) → xs ++ [] ≡ xs
append_none [] = refl
append_none (x ∷ xs) = ap (λ r. x ∷ r) (append_none xs)

pub aliases_other : (aliases : List Alias) (a : Alias) (ns : Names) → is_among a.from.name ns ≡ false → map (aliases_for (aliases ++ a ∷ [])) ns ≡ map (aliases_for aliases) ns
aliases_other aliases a [] h = refl
aliases_other aliases a (n ∷ ns) h =
    let p = or_parts (bytes_eq n a.from.name) (is_among a.from.name ns) h in
    let e : aliases_for (aliases ++ a ∷ []) n ≡ aliases_for aliases n = aliases_one aliases a n
    ∙ ap (λ r. aliases_for aliases n ++ r) (cond-false (bytes_eq a.from.name n) _ _ (turned n p.0)) ∙ append_none (aliases_for aliases n) in
    let r = aliases_other aliases a ns p.1 in
    λ i. e i ∷ r i
  where
    turned : (n : List ℕ) → bytes_eq n a.from.name ≡ false → bytes_eq a.from.name n ≡ false
    turned n f = false_from_ne_true (bytes_eq a.from.name n) (λ t. true≢false (sym ((bytes_eq-Decides n a.from.name).1 (sym ((bytes_eq-Decides a.from.name n).0 t))) ∙ f))

-- the alias joins the group of its name
pub aliases_more : (aliases : List Alias) (a : Alias) (ns : Names) (p : ℕ) → are_distinct ns ≡ true → slice_get ns p ≡ Some a.from.name
    → map (aliases_for (aliases ++ a ∷ [])) ns ≡ set (map (aliases_for aliases) ns) p (get_or (map (aliases_for aliases) ns) p [] ++ a.to.name ∷ [])
aliases_more aliases a [] p d h = absurd (none-some a.from.name h)
aliases_more aliases a (n ∷ ns) zero d h =
    let i = same_Some n a.from.name h in
    let q = and_parts (not (has_name n ns)) (are_distinct ns) d in
    let f : is_among a.from.name ns ≡ false = ap (λ x. is_among x ns) (sym i) ∙ sym (same_among n ns) ∙ not-true (has_name n ns) q.0 in
    let e : aliases_for (aliases ++ a ∷ []) n ≡ aliases_for aliases n ++ a.to.name ∷ [] = aliases_one aliases a n
    ∙ ap (λ r. aliases_for aliases n ++ r) (cond-true (bytes_eq a.from.name n) _ _ ((bytes_eq-Decides a.from.name n).1 (sym i))) in
    let r = aliases_other aliases a ns f in
    λ j. e j ∷ r j
aliases_more aliases a (n ∷ ns) (suc p) d h =
    let q = and_parts (not (has_name n ns)) (are_distinct ns) d in
    let e : aliases_for (aliases ++ a ∷ []) n ≡ aliases_for aliases n = aliases_one aliases a n
    ∙ ap (λ r. aliases_for aliases n ++ r) (cond-false (bytes_eq a.from.name n) _ _ (differ (not-true (has_name n ns) q.0))) ∙ append_none (aliases_for aliases n) in
    let r = aliases_more aliases a ns p q.1 h in
    λ j. e j ∷ r j
  where
    differ : has_name n ns ≡ false → bytes_eq a.from.name n ≡ false
    differ f = false_from_ne_true (bytes_eq a.from.name n) (λ t. true≢false (sym (among_at a.from.name ns p h) ∙ ap (λ x. is_among x ns) ((bytes_eq-Decides a.from.name n).0 t) ∙ sym (same_among n ns) ∙ f))

pub within_map : (f : List ℕ → Names) (ns : Names) (p : ℕ) (n : List ℕ) → slice_get ns p ≡ Some n → p < length (map f ns)
within_map f [] p n h = absurd (none-some n h)
within_map f (m ∷ ns) zero n h = omega arith
within_map f (m ∷ ns) (suc p) n h = let r = within_map f ns p n h in omega (arith, r)

-- ---- one name more

pub on_ok : {A E : Type 0} (r : Result A E) (P : Type 0) → is_err r ≡ false → OnOk r P → P
on_ok (Ok a) P e h = h
on_ok (Err x) P e h = absurd (true≢false e)

pub table_more : (entries more : List Entry) (words longer : Names) (e : Entry) (copy n : List ℕ) → words ≡ named entries → are_distinct (named entries) ≡ true → has_name n words ≡ false
    → longer ≡ words ++ copy ∷ [] → more ≡ entries ++ e ∷ [] → copy ≡ n → e.name ≡ n → (longer ≡ named more) × (are_distinct (named more) ≡ true)
table_more entries more words longer e copy n w d h l m c i =
    let names : named more ≡ named entries ++ n ∷ [] = ap named m ∙ map-append (λ (x : Entry). x.name) entries (e ∷ []) ∙ ap (λ x. named entries ++ x ∷ []) i in (
      l ∙ ap (λ x. x ++ copy ∷ []) w ∙ ap (λ x. named entries ++ x ∷ []) c ∙ sym names,
      ap are_distinct names ∙ distinct_push (named entries) n d (sym (same_among n (named entries)) ∙ ap (has_name n) (sym w) ∙ h),
    )

pub named_more : (f : List ℕ → Names) (es : List Entry) (k : ℕ) (e : Entry) (done : List Names) (g : Names) → k < length es → e ≡ get_or es k e → done ≡ map f (named (take k es)) → g ≡ f e.name
    → done ++ g ∷ [] ≡ map f (named (take (k + 1) es))
named_more f es k e done g below at d h =
    ap (λ x. x ++ g ∷ []) d ∙ ap (λ x. map f (named (take k es)) ++ x ∷ []) h ∙ sym (map-append f (named (take k es)) (e.name ∷ []))
    ∙ ap (map f) (sym (map-append (λ (x : Entry). x.name) (take k es) (e ∷ [])) ∙ ap named (ap (λ x. take k es ++ x ∷ []) at ∙ sym (Rattle.std.proofs.lemmas.List.take_more es k e below)))

pub group_at : (f : List ℕ → Names) (es : List Entry) (k : ℕ) (e : Entry) (d : Names) → k < length es → e ≡ get_or es k e → get_or (map f (named es)) k d ≡ f e.name
group_at f [] k e d b at = absurd (omega arith)
group_at f (x ∷ es) zero e d b at = ap (λ (y : Entry). f y.name) (sym at)
group_at f (x ∷ es) (suc k) e d b at = group_at f es k e d (omega arith) at

pub aliased_more : (done more : List Alias) (a : Alias) (ns : Names) (p : ℕ) (old new : List Names) (copy : List ℕ) → are_distinct ns ≡ true → slice_get ns p ≡ Some a.from.name
    → old ≡ map (aliases_for done) ns → new ≡ set old p (get_or old p [] ++ copy ∷ []) → copy ≡ a.to.name → done ++ a ∷ [] ≡ more → new ≡ map (aliases_for more) ns
aliased_more done more a ns p old new copy d at o n c m =
    n ∙ ap (λ x. set old p (get_or old p [] ++ x ∷ [])) c ∙ ap (λ (x : List Names). set x p (get_or x p [] ++ a.to.name ∷ [])) o ∙ sym (aliases_more done a ns p d at)
    ∙ ap (λ (x : List Alias). map (aliases_for x) ns) m

pub aliased_none : (done more : List Alias) (a : Alias) (ns : Names) (old : List Names) → is_among a.from.name ns ≡ false → old ≡ map (aliases_for done) ns → done ++ a ∷ [] ≡ more
    → old ≡ map (aliases_for more) ns
aliased_none done more a ns old none o m = o ∙ sym (aliases_other done a ns none) ∙ ap (λ (x : List Alias). map (aliases_for x) ns) m

pub found_among : (o : Option ℕ) (ns : Names) (n : List ℕ) → is_some o ≡ true → IfSome o (λ p. slice_get ns p ≡ Some n) → is_among n ns ≡ true
found_among None ns n h f = absurd (false≢true h)
found_among (Some p) ns n h f = among_at n ns p f

pub name_read : (es : List Entry) (k : ℕ) (e : Entry) → k < length es → e ≡ get_or es k e → get_or (named es) k [] ≡ e.name
name_read [] k e b at = absurd (omega arith)
name_read (x ∷ es) zero e b at = ap (λ (y : Entry). y.name) (sym at)
name_read (x ∷ es) (suc k) e b at = name_read es k e (omega arith) at

pub named_length : (es : List Entry) → length (named es) ≡ length es
named_length [] = refl
named_length (e ∷ es) = let r = named_length es in omega (arith, r)
