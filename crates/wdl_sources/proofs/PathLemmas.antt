-- Documents that are found by their paths.
use Rattle.std.proofs.Common.{◌≡◌, ℕ, zero, suc, ◌<◌, Bool, true, false, ◌||◌, cond, List, [], ◌∷◌, ◌++◌, map, length, slice_get, string_bytes, Option, Some, None, is_some, IfSome, IfNone, refl, sym, ap, ◌∙◌, arith, true≢false}
use Rattle.std.specs.Prelude.{String}
use Rattle.std.specs.Cmp.Lexicographic.{nat_list_eq_equiv}
use Rattle.std.specs.Global.{Global}
use Rattle.std.specs.Map.{keys_of, values_of, lookup}
use Rattle.std.specs.Str.{bytes_eq}
use Rattle.std.specs.String.{string_eq}
use Rattle.std.proofs.lemmas.List.{map-append}
use Rattle.std.proofs.lemmas.Slice.Eq.{bytes_eq-Decides}
use Rattle.std.proofs.lemmas.Option.{same_Some, none-some}
use Rattle.indexmap.specs.IndexMap.{IndexMap, insert_entry}
use Rattle.indexmap.proofs.CallerLemmas.{insert_entry-new}
use Rattle.wdl_base.specs.Names.{is_among}
use Rattle.wdl_sources.specs.declared.source.Source.{Source}
use Rattle.wdl_sources.specs.Walks.{paths}

is_none : {A : Type 0} (o : Option A) → is_some o ≡ false → o ≡ None
is_none None h = refl
is_none (Some x) h = absurd (true≢false h)

abbrev pub Entries : Type 0
Entries = List (String Global × Source)

-- each key is the path of its document
abbrev pub AreByPath : Entries → Type 0
AreByPath es = map (λ k. string_bytes k) (keys_of es) ≡ paths (values_of es)

abbrev pub at_path : List ℕ → Entries → Option Source
at_path path es = lookup (λ k. bytes_eq path (string_bytes k)) es

-- ---- look-ups

-- a path is found exactly where it is among the keys
found_among : (path : List ℕ) (es : Entries) → is_some (at_path path es) ≡ is_among path (map (λ k. string_bytes k) (keys_of es))
found_among path [] = refl
found_among path (e ∷ es) =
    ap (λ b. is_some (cond b (Some e.1) (at_path path es))) (nat_list_eq_equiv.symm path (string_bytes e.0))
    ∙ either (bytes_eq (string_bytes e.0) path) (at_path path es)
    ∙ ap (λ b. bytes_eq (string_bytes e.0) path || b) (found_among path es)
  where
    either : (b : Bool) (o : Option Source) → is_some (cond b (Some e.1) o) ≡ b || is_some o
    either true o = refl
    either false o = refl

pub found_path : (path : List ℕ) (es : Entries) → AreByPath es → is_some (at_path path es) ≡ is_among path (paths (values_of es))
found_path path es h = found_among path es ∙ ap (is_among path) h

-- the document that is found has the path
has_path : (path : List ℕ) (es : Entries) (s : Source) → AreByPath es → at_path path es ≡ Some s → s.path ≡ path
has_path path [] s h f = absurd (none-some s f)
has_path path (e ∷ es) s h f = on (λ g. has_path path es s (heads h).1 g) (bytes_eq path (string_bytes e.0)) refl f
  where
    heads : string_bytes e.0 ∷ map (λ k. string_bytes k) (keys_of es) ≡ e.1.path ∷ paths (values_of es)
        → (string_bytes e.0 ≡ e.1.path) × (map (λ k. string_bytes k) (keys_of es) ≡ paths (values_of es))
    heads q = ((cc), (cc))

    on : (at_path path es ≡ Some s → s.path ≡ path) → (b : Bool) → bytes_eq path (string_bytes e.0) ≡ b → cond b (Some e.1) (at_path path es) ≡ Some s → s.path ≡ path
    on more true is g = ap (λ (x : Source). x.path) (sym (same_Some e.1 s g)) ∙ sym (heads h).0 ∙ sym ((bytes_eq-Decides path (string_bytes e.0)).0 is)
    on more false is g = more g

value_at : (es : Entries) (k : ℕ) → k < length es → (s : Source) × (slice_get (values_of es) k ≡ Some s) × (slice_get (paths (values_of es)) k ≡ Some s.path)
value_at [] k h = absurd (omega (arith, h))
value_at (e ∷ es) zero h = (e.1, refl, refl)
value_at (e ∷ es) (suc k) h = value_at es k (omega (arith, h))

-- the number of a document that is found is that of its path
pub numbered : (path : List ℕ) (es : Entries) (o : Option ℕ) → AreByPath es → IfSome o (λ k. k < length es) → IfSome o (λ k. slice_get (values_of es) k ≡ at_path path es)
    → IfSome o (λ k. slice_get (paths (values_of es)) k ≡ Some path)
numbered path es None h within is = tt
numbered path es (Some k) h within is =
    let v = value_at es k within in
    v.2 ∙ ap Some (has_path path es v.0 h (sym is ∙ v.1))

pub unnumbered : (path : List ℕ) (es : Entries) (o : Option ℕ) → AreByPath es → is_some o ≡ is_some (at_path path es) → IfNone o (is_among path (paths (values_of es)) ≡ false)
unnumbered path es None h found = sym (found_path path es h) ∙ sym found
unnumbered path es (Some k) h found = tt

-- ---- a document more

-- a document whose path is new goes last
pub goes_last : {S : Type 0} (m : IndexMap (String Global) Source S) (new : Entries) (key : String Global) (s : Source) → AreByPath m.entries → string_bytes key ≡ s.path
    → is_among s.path (paths (values_of m.entries)) ≡ false → new ≡ insert_entry string_eq m.entries key s → new ≡ m.entries ++ (key, s) ∷ []
goes_last m new key s h e fresh is =
    let missing = found_path (string_bytes key) m.entries h ∙ ap (λ p. is_among p (paths (values_of m.entries))) e ∙ fresh in
    is ∙ insert_entry-new string_eq m key s (is_none (at_path (string_bytes key) m.entries) missing)

pub one_more : (key : String Global) (s : Source) (es : Entries) → AreByPath es → string_bytes key ≡ s.path → AreByPath (es ++ (key, s) ∷ [])
one_more key s es h e =
    ap (λ ks. map (λ k. string_bytes k) ks) (map-append (λ x. x.0) es ((key, s) ∷ []))
    ∙ map-append (λ k. string_bytes k) (keys_of es) (key ∷ [])
    ∙ (λ i. h i ++ e i ∷ [])
    ∙ sym (map-append (λ x. x.path) (values_of es) (s ∷ []))
    ∙ ap paths (sym (map-append (λ x. x.1) es ((key, s) ∷ [])))
