-- Runners over two tables, and statements one after the other.
use Rattle.std.proofs.Common.{◌≡◌, ℕ, suc, Bool, true, false, ◌||◌, ◌⊎◌, inl, inr, List, [], ◌∷◌, ◌++◌, append_assoc, length, sym, ap, ◌∙◌, subst, refl}
use Rattle.std.proofs.lemmas.Bool.{false≢true, false_from_ne_true, or_cases, or_left, or_right}
use Rattle.std.proofs.lemmas.Slice.Eq.{bytes_eq-Decides}
use Rattle.std.specs.Str.{bytes_eq}
use Rattle.wdl_base.specs.declared.name.Key.{Key}
use Rattle.wdl_base.specs.declared.place.Segment.{Segment}
use Rattle.wdl_typed.specs.Declarations.{plain_key}
use Rattle.wdl_typed.specs.Flow.{Ended, Flowing, Known, Names, Runner, Sight, all_given, in_turn, is_clean, nothing, seeing, together}
use Rattle.wdl_typed.specs.Journal.{keys_distinct}
use Rattle.wdl_typed.specs.Lists.{has_name}
use Rattle.wdl_typed.specs.Scope.{is_among, same_key}
use Rattle.flow_laws.proofs.Clean.{clean_parts}
use Rattle.flow_laws.proofs.Keys.{among_append, distinct_between, distinct_left, key_same}
use Rattle.flow_laws.proofs.KnownNames.{NamesStay, calls_of, keys_of, names_stay_both}
use Rattle.flow_laws.proofs.Under.{CallsStay, Gives, Under, calls_append, calls_stay_both, keys_append, under_itself, under_together}

-- ---- keys that differ, of names that are taken

pub record Fresh (taken : List (List ℕ)) (ks : List Key) : Type 0 where
  pub distinct : keys_distinct ks ≡ true
  pub named : (key : Key) → is_among key ks ≡ true → has_name key.first taken ≡ true

pub fresh_left : (taken : List (List ℕ)) (ks ls : List Key) → Fresh taken (ks ++ ls) → Fresh taken ks
fresh_left taken ks ls h =
    record {
      distinct = distinct_left ks ls h.distinct;
      named = λ key i. h.named key (among_append key ks ls ∙ or_left (is_among key ks) (is_among key ls) i);
    }

-- An item of a scatter has a name that is not taken.
pub fresh_item : (taken : List (List ℕ)) (item : List ℕ) (ks ls : List Key) → has_name item taken ≡ false → Fresh taken (ks ++ ls) → Fresh (item ∷ taken) ((ks ++ plain_key item ∷ []) ++ ls)
fresh_item taken item ks ls free h =
    record {
      distinct = distinct_between ks ls (plain_key item) h.distinct (false_from_ne_true (is_among (plain_key item) (ks ++ ls)) (λ i. false≢true (sym free ∙ h.named (plain_key item) i)));
      named = λ key i. cases key (or_cases (is_among key (ks ++ plain_key item ∷ [])) (is_among key ls) (sym (among_append key (ks ++ plain_key item ∷ []) ls) ∙ i));
    }
  where
    itself : (key : Key) → is_among key (plain_key item ∷ []) ≡ true → has_name key.first (item ∷ taken) ≡ true
    itself key i =
        let same : plain_key item ≡ key = key_same (plain_key item) key (one (same_key (plain_key item) key) i) in
        or_left (bytes_eq item key.first) (has_name key.first taken) (ap (λ (k : Key). bytes_eq item k.first) (sym same) ∙ (bytes_eq-Decides item item).1 refl)
      where
        one : (b : Bool) → b || false ≡ true → b ≡ true
        one true h = refl
        one false h = h

    other : (key : Key) → is_among key (ks ++ ls) ≡ true → has_name key.first (item ∷ taken) ≡ true
    other key i = or_right (bytes_eq item key.first) (has_name key.first taken) (h.named key i)

    cases : (key : Key) → (is_among key (ks ++ plain_key item ∷ []) ≡ true) ⊎ (is_among key ls ≡ true) → has_name key.first (item ∷ taken) ≡ true
    cases key (inl i) = before (or_cases (is_among key ks) (is_among key (plain_key item ∷ [])) (sym (among_append key ks (plain_key item ∷ [])) ∙ i))
      where
        before : (is_among key ks ≡ true) ⊎ (is_among key (plain_key item ∷ []) ≡ true) → has_name key.first (item ∷ taken) ≡ true
        before (inl j) = other key (among_append key ks ls ∙ or_left (is_among key ks) (is_among key ls) j)
        before (inr j) = itself key j
    cases key (inr i) = other key (among_append key ks ls ∙ or_right (is_among key ks) (is_among key ls) i)

-- ---- one runner

abbrev pub sight : List Segment → List Known → List Ended → Sight
sight place names calls = record { names = names; calls = calls; place = place }

-- over the first table and over the second one
pub record Good (taken : List (List ℕ)) (n : Names) (f g : Runner) : Type 0 where
  pub left : (s : Sight) → Gives n (f s)
  pub right : (s : Sight) → Gives n (g s)
  pub under : (p : List Segment) (ks ls : List Known) (cs ds : List Ended) → NamesStay ks ls → CallsStay cs ds → Fresh taken (keys_of ks ++ n.keys) → Under (f (sight p ks cs)) (g (sight p ls ds))
  pub same : (s : Sight) → is_clean (f s) ≡ true → f s ≡ g s

-- ---- one after the other

pub data AllGood (taken : List (List ℕ)) : List Names → List Runner → List Runner → Type 0 where
  no_more : AllGood taken [] [] []
  one_more : {n : Names} {f g : Runner} {ns : List Names} {fs gs : List Runner} → Good taken n f g → AllGood taken ns fs gs → AllGood taken (n ∷ ns) (f ∷ fs) (g ∷ gs)

gives_both : (m n : Names) (f g : Flowing) → Gives m f → Gives n g → Gives (record { keys = m.keys ++ n.keys; calls = m.calls ++ n.calls }) (together f g)
gives_both m n f g h j =
    record {
      keys = keys_append f.names g.names ∙ ap (λ ks. ks ++ keys_of g.names) h.keys ∙ ap (λ ks. m.keys ++ ks) j.keys;
      calls = calls_append f.calls g.calls ∙ ap (λ cs. cs ++ calls_of g.calls) h.calls ∙ ap (λ cs. m.calls ++ cs) j.calls;
    }

left_in_turn : {taken : List (List ℕ)} {ns : List Names} {fs gs : List Runner} → AllGood taken ns fs gs → (s : Sight) → Gives (all_given ns) (in_turn fs s)
left_in_turn no_more s = record { keys = refl; calls = refl }
left_in_turn (one_more {n = n} {f = f} {ns = ns} {fs = fs} good rest) s = gives_both n (all_given ns) (f s) (in_turn fs (seeing s (f s))) (good.left s) (left_in_turn rest (seeing s (f s)))

right_in_turn : {taken : List (List ℕ)} {ns : List Names} {fs gs : List Runner} → AllGood taken ns fs gs → (s : Sight) → Gives (all_given ns) (in_turn gs s)
right_in_turn no_more s = record { keys = refl; calls = refl }
right_in_turn (one_more {n = n} {g = g} {ns = ns} {gs = gs} good rest) s = gives_both n (all_given ns) (g s) (in_turn gs (seeing s (g s))) (good.right s) (right_in_turn rest (seeing s (g s)))

same_in_turn : {taken : List (List ℕ)} {ns : List Names} {fs gs : List Runner} → AllGood taken ns fs gs → (s : Sight) → is_clean (in_turn fs s) ≡ true → in_turn fs s ≡ in_turn gs s
same_in_turn no_more s h = refl
same_in_turn (one_more {f = f} {g = g} {fs = fs} {gs = gs} good rest) s h =
    let p = clean_parts (f s) (in_turn fs (seeing s (f s))) h in
    ap (together (f s)) (same_in_turn rest (seeing s (f s)) p.1) ∙ ap (λ (x : Flowing). together x (in_turn gs (seeing s x))) (good.same s p.0)

under_in_turn : {taken : List (List ℕ)} {ns : List Names} {fs gs : List Runner} → AllGood taken ns fs gs → (p : List Segment) (ks ls : List Known) (cs ds : List Ended)
    → NamesStay ks ls → CallsStay cs ds → Fresh taken (keys_of ks ++ (all_given ns).keys) → Under (in_turn fs (sight p ks cs)) (in_turn gs (sight p ls ds))
under_in_turn no_more p ks ls cs ds u v free = under_itself nothing
under_in_turn {taken = taken} (one_more {n = n} {f = f} {g = g} {ns = ns} {fs = fs} {gs = gs} good rest) p ks ls cs ds u v free =
    let x = f (sight p ks cs) in
    let y = g (sight p ls ds) in
    let split : Fresh taken ((keys_of ks ++ n.keys) ++ (all_given ns).keys) = subst (Fresh taken) (sym (append_assoc (keys_of ks) n.keys (all_given ns).keys)) free in
    let here : keys_of (ks ++ x.names) ≡ keys_of ks ++ n.keys = keys_append ks x.names ∙ ap (λ z. keys_of ks ++ z) (good.left (sight p ks cs)).keys in
    let first = good.under p ks ls cs ds u v (fresh_left taken (keys_of ks ++ n.keys) (all_given ns).keys split) in
    let later = subst (λ (z : List Key). Fresh taken (z ++ (all_given ns).keys)) (sym here) split in
    under_together x y (in_turn fs (sight p (ks ++ x.names) (cs ++ x.calls))) (in_turn gs (sight p (ls ++ y.names) (ds ++ y.calls))) first
    (under_in_turn rest p (ks ++ x.names) (ls ++ y.names) (cs ++ x.calls) (ds ++ y.calls) (names_stay_both ks ls x.names y.names u first.names) (calls_stay_both cs ds x.calls y.calls v first.calls) later)

pub good_in_turn : {taken : List (List ℕ)} {ns : List Names} {fs gs : List Runner} → AllGood taken ns fs gs → Good taken (all_given ns) (in_turn fs) (in_turn gs)
good_in_turn all = record { left = left_in_turn all; right = right_in_turn all; under = under_in_turn all; same = same_in_turn all }

pub lengths_same : {taken : List (List ℕ)} {ns : List Names} {fs gs : List Runner} → AllGood taken ns fs gs → length fs ≡ length gs
lengths_same no_more = refl
lengths_same (one_more good rest) = ap (λ n. suc n) (lengths_same rest)
