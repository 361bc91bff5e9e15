-- The leaves of struct inputs, by their names and their places.
use Rattle.std.proofs.Common.{◌≡◌, ℕ, zero, suc, ◌⊎◌, inl, inr, Bool, true, false, cond, not, ◌&&◌, List, [], ◌∷◌, ◌++◌, map, Option, Some, None, option_and_then, option_map, Contains, sym, ap, ◌∙◌, subst, refl}
use Rattle.std.specs.Str.{bytes_eq}
use Rattle.std.proofs.lemmas.Bool.{and_parts, or_parts, not-true}
use Rattle.std.proofs.lemmas.Option.{none-some, same_Some}
use Rattle.wdl_base.specs.Names.{is_name}
use Rattle.wdl_value.specs.declared.ty.Member.{Member}
use Rattle.wdl_value.specs.declared.ty.Ty.{Ty, Ty-F, out-Ty}
use Rattle.wdl_value.specs.declared.ty.Ty.TheOpen as type
use Rattle.wdl_value.specs.Fits.{Structs, members_of}
use Rattle.wdl_typed.specs.declared.task.TInput.{TInput}
use Rattle.wdl_typed.specs.Lists.{has_name}
use Rattle.flow_laws.proofs.Checked.{has_name_append}
use Rattle.cwl_model.proofs.Rounds.{first_is, first_or_later, later_is, none_is}
use Rattle.leaf_image.specs.declared.leaf.Leaf.{Leaf}
use Rattle.leaf_image.specs.declared.leaf.Place.{Place}
use Rattle.leaf_image.specs.Leaves.{free, input_places, is_record, joined, leaf, leaf_name, named, or_else, place, places_at, places_of, some_places, struct_places, untaken}
use Rattle.leaf_image.specs.Records.{all_inputs, input_leaves, leaf_input, of_input, swaps_of}
use Rattle.wdl_swaps.specs.Swaps.{swapped_input}
use Rattle.cwl_records.specs.Lowered.{record_leaf}
use Rattle.cwl_records.specs.Wrapping.{leaf_named}
use Rattle.wide_formed.proofs.Elements.{either, mapped, of_map, on_left, on_right}
use Rattle.wide_formed.proofs.Paths.{among, deeper}
use Rattle.wdl_stdlib.proofs.Keys.{bytes_eq-refl as bytes_same}
use Rattle.struct_leaves.proofs.NamingLaws.{deeper as more_free}
use Rattle.struct_leaves.proofs.PlaceLaws.{at_zero as no_places}

-- ---- names

untaken_new : (taken : List (List ℕ)) (s name : List ℕ) → untaken taken s ≡ Some name → has_name name taken ≡ false
untaken_new taken s name h = by_test (is_name s && not (has_name s taken)) refl h
  where
    by_test : (b : Bool) → (is_name s && not (has_name s taken)) ≡ b → cond b (Some s) None ≡ Some name → has_name name taken ≡ false
    by_test true e k =
        subst (λ n. has_name n taken ≡ false) (same_Some _ _ k) (not-true (has_name s taken) (and_parts (is_name s) (not (has_name s taken)) e).1)
    by_test false e k = absurd (none-some _ k)

none_free : (taken : List (List ℕ)) (s name : List ℕ) → free 0 taken s ≡ Some name → has_name name taken ≡ false
unfolding free
none_free taken s name h = absurd (none-some _ h)

free_new : (n : ℕ) (taken : List (List ℕ)) (s name : List ℕ) → free n taken s ≡ Some name → has_name name taken ≡ false
free_new zero taken s name h = none_free taken s name h
free_new (suc n) taken s name h = by_first (untaken taken s) refl (sym (more_free n taken s) ∙ h) (free_new n taken (s ++ 95 ∷ []) name)
  where
    by_first : (o : Option (List ℕ)) → untaken taken s ≡ o → or_else o (free n taken (s ++ 95 ∷ [])) ≡ Some name → (free n taken (s ++ 95 ∷ []) ≡ Some name → has_name name taken ≡ false) → has_name name taken ≡ false
    by_first None e k rest = rest k
    by_first (Some t) e k rest = subst (λ n. has_name n taken ≡ false) (same_Some _ _ k) (untaken_new taken s t e)

-- the place of a leaf
abbrev pub place_of : Leaf → Place
place_of l = place l.input l.path l.ty

-- The leaves stand for the places, in their order, under names that are new and differ.
pub record AreNamed (taken : List (List ℕ)) (ps : List Place) (ls : List Leaf) : Type 0 where
  pub places : map place_of ls ≡ ps
  pub new : (l : Leaf) → Contains ls l → has_name l.name taken ≡ false
  pub found : (l : Leaf) → Contains ls l → leaf_named (map record_leaf ls) l.name ≡ Some (record_leaf l)

none_named : (taken : List (List ℕ)) → AreNamed taken [] []
none_named taken = record { places = refl; new = λ l c. absurd (none_is l c); found = λ l c. absurd (none_is l c) }

more_named : (taken : List (List ℕ)) (p : Place) (ps : List Place) (name : List ℕ) (ls : List Leaf) → has_name name taken ≡ false → AreNamed (taken ++ name ∷ []) ps ls
    → AreNamed taken (p ∷ ps) (leaf p name ∷ ls)
more_named taken p ps name ls new h =
    record {
      places = ap (λ qs. p ∷ qs) h.places;
      new = λ l c. by_new l (first_or_later (leaf p name) ls l c);
      found = λ l c. by_found l (first_or_later (leaf p name) ls l c);
    }
  where
    both : (l : Leaf) → Contains ls l → (has_name l.name taken ≡ false) × (has_name l.name (name ∷ []) ≡ false)
    both l c = has_name_append l.name taken (name ∷ []) (h.new l c)

    by_new : (l : Leaf) → (leaf p name ≡ l) ⊎ Contains ls l → has_name l.name taken ≡ false
    by_new l (inl e) = subst (λ (z : Leaf). has_name z.name taken ≡ false) e new
    by_new l (inr c) = (both l c).0

    by_found : (l : Leaf) → (leaf p name ≡ l) ⊎ Contains ls l → leaf_named (map record_leaf (leaf p name ∷ ls)) l.name ≡ Some (record_leaf l)
    by_found l (inl e) =
        subst (λ (z : Leaf). leaf_named (map record_leaf (leaf p name ∷ ls)) z.name ≡ Some (record_leaf z)) e
        (ap (λ b. cond b (Some (record_leaf (leaf p name))) (leaf_named (map record_leaf ls) name)) (bytes_same name))
    by_found l (inr c) =
        ap (λ b. cond b (Some (record_leaf (leaf p name))) (leaf_named (map record_leaf ls) l.name)) (or_parts (bytes_eq name l.name) false (both l c).1).0 ∙ h.found l c

pub are_named : (taken : List (List ℕ)) (ps : List Place) (ls : List Leaf) → named taken ps ≡ Some ls → AreNamed taken ps ls
are_named taken [] ls h = subst (AreNamed taken []) (same_Some _ _ h) (none_named taken)
are_named taken (p ∷ ps) ls h = by_name (leaf_name taken p) refl h (λ name. are_named (taken ++ name ∷ []) ps)
  where
    by_name : (o : Option (List ℕ)) → leaf_name taken p ≡ o → option_and_then (λ name. option_map (λ more. leaf p name ∷ more) (named (taken ++ name ∷ []) ps)) o ≡ Some ls
        → ((name : List ℕ) (more : List Leaf) → named (taken ++ name ∷ []) ps ≡ Some more → AreNamed (taken ++ name ∷ []) ps more) → AreNamed taken (p ∷ ps) ls
    by_name None e k rest = absurd (none-some _ k)
    by_name (Some name) e k rest = by_rest (named (taken ++ name ∷ []) ps) refl k
      where
        by_rest : (o : Option (List Leaf)) → named (taken ++ name ∷ []) ps ≡ o → option_map (λ more. leaf p name ∷ more) o ≡ Some ls → AreNamed taken (p ∷ ps) ls
        by_rest None q j = absurd (none-some _ j)
        by_rest (Some more) q j = subst (AreNamed taken (p ∷ ps)) (same_Some _ _ j) (more_named taken p ps name more (free_new 129 taken (joined p.input p.path) name e) (rest name more q))

-- ---- places

module _ (structs : Structs) (input : List ℕ) where
  abbrev OfInput : ℕ → Type 0
  OfInput n = (path : List (List ℕ)) (t : Ty) (p : Place) → Contains (places_at structs n input path t) p → p.input ≡ input

  input_behind : (n : ℕ) → OfInput n → (path : List (List ℕ)) (t : Ty) (p : Place) (z : Ty-F Ty) → Contains (struct_places structs (places_at structs n input) input path t z) p → p.input ≡ input
  input_behind n deep path t p (type.Struct s) c = by_members (members_of structs s) c
    where
      by_members : (o : Option (List Member)) → Contains (some_places (places_at structs n input) path o) p → p.input ≡ input
      by_members None d = absurd (none_is p d)
      by_members (Some ms) d = let r = among (places_at structs n input) path ms p d in deep (path ++ r.0.name ∷ []) r.0.ty p r.2
  input_behind n deep path t p z c = at_end (first_or_later (place input path t) [] p c)
    where
      at_end : (place input path t ≡ p) ⊎ Contains [] p → p.input ≡ input
      at_end (inl q) = ap (λ (r : Place). r.input) (sym q)
      at_end (inr d) = absurd (none_is p d)

  pub of_one : (n : ℕ) → OfInput n
  of_one zero path t p c = absurd (none_is p (subst (λ (ps : List Place). Contains ps p) (no_places structs input path t) c))
  of_one (suc n) path t p c = input_behind n (of_one n) path t p (out-Ty t) (subst (λ (ps : List Place). Contains ps p) (deeper structs n input path t) c)

module _ (structs : Structs) where
  -- a place of a struct input
  abbrev pub IsPlace : TInput → Place → Type 0
  IsPlace j p = (is_record j ≡ true) × Contains (places_at structs 33 j.name [] j.ty) p

  pub place_among : (is : List TInput) (p : Place) → Contains (places_of structs is) p → (j : TInput) × Contains is j × IsPlace j p
  place_among [] p c = absurd (none_is p c)
  place_among (i ∷ is) p c = by_side (either (input_places structs i) (places_of structs is) p c) (place_among is p)
    where
      own : (b : Bool) → is_record i ≡ b → Contains (cond b (places_at structs 33 i.name [] i.ty) []) p → IsPlace i p
      own true e d = (e, d)
      own false e d = absurd (none_is p d)

      by_side : Contains (input_places structs i) p ⊎ Contains (places_of structs is) p → (Contains (places_of structs is) p → (j : TInput) × Contains is j × IsPlace j p)
          → (j : TInput) × Contains (i ∷ is) j × IsPlace j p
      by_side (inl a) rest = (i, first_is i is, own (is_record i) refl a)
      by_side (inr b) rest = let r = rest b in (r.0, later_is i is r.0 r.1, r.2)

  pub among_places : (is : List TInput) (j : TInput) (p : Place) → Contains is j → IsPlace j p → Contains (places_of structs is) p
  among_places [] j p c h = absurd (none_is j c)
  among_places (i ∷ is) j p c h = by_case (first_or_later i is j c) (λ d. among_places is j p d h)
    where
      own : Contains (input_places structs j) p
      own = subst (λ b. Contains (cond b (places_at structs 33 j.name [] j.ty) []) p) (sym h.0) h.1

      by_case : (i ≡ j) ⊎ Contains is j → (Contains is j → Contains (places_of structs is) p) → Contains (input_places structs i ++ places_of structs is) p
      by_case (inl e) rest = on_left (input_places structs i) (places_of structs is) p (subst (λ (z : TInput). Contains (input_places structs z) p) (sym e) own)
      by_case (inr d) rest = on_right (input_places structs i) (places_of structs is) p (rest d)

-- ---- inputs

pub of_input_has : (name : List ℕ) (ls : List Leaf) (l : Leaf) → Contains (of_input name ls) l → Contains ls l × (bytes_eq l.input name ≡ true)
of_input_has name [] l c = absurd (none_is l c)
of_input_has name (k ∷ ls) l c = by_test (bytes_eq k.input name) refl (either (cond (bytes_eq k.input name) (k ∷ []) []) (of_input name ls) l c) (of_input_has name ls l)
  where
    by_test : (b : Bool) → bytes_eq k.input name ≡ b → Contains (cond (bytes_eq k.input name) (k ∷ []) []) l ⊎ Contains (of_input name ls) l
        → (Contains (of_input name ls) l → Contains ls l × (bytes_eq l.input name ≡ true)) → Contains (k ∷ ls) l × (bytes_eq l.input name ≡ true)
    by_test b e (inr d) rest = let r = rest d in (later_is k ls l r.0, r.1)
    by_test true e (inl d) rest = first (first_or_later k [] l (subst (λ w. Contains (cond w (k ∷ []) []) l) e d))
      where
        first : (k ≡ l) ⊎ Contains [] l → Contains (k ∷ ls) l × (bytes_eq l.input name ≡ true)
        first (inl q) = (subst (Contains (k ∷ ls)) q (first_is k ls), subst (λ (z : Leaf). bytes_eq z.input name ≡ true) q e)
        first (inr q) = absurd (none_is l q)
    by_test false e (inl d) rest = absurd (none_is l (subst (λ w. Contains (cond w (k ∷ []) []) l) e d))

pub has_of_input : (name : List ℕ) (ls : List Leaf) (l : Leaf) → Contains ls l → bytes_eq l.input name ≡ true → Contains (of_input name ls) l
has_of_input name [] l c h = absurd (none_is l c)
has_of_input name (k ∷ ls) l c h = by_case (first_or_later k ls l c) (λ d. has_of_input name ls l d h)
  where
    by_case : (k ≡ l) ⊎ Contains ls l → (Contains ls l → Contains (of_input name ls) l) → Contains (cond (bytes_eq k.input name) (k ∷ []) [] ++ of_input name ls) l
    by_case (inl e) rest =
        on_left (cond (bytes_eq k.input name) (k ∷ []) []) (of_input name ls) l
        (subst (λ w. Contains (cond w (k ∷ []) []) l) (sym (subst (λ (z : Leaf). bytes_eq z.input name ≡ true) (sym e) h)) (subst (Contains (k ∷ [])) e (first_is k [])))
    by_case (inr d) rest = on_right (cond (bytes_eq k.input name) (k ∷ []) []) (of_input name ls) l (rest d)

-- where an input of the lowered workflow comes from
pub data IsFrom (ls : List Leaf) (is : List TInput) (i : TInput) : Type 0 where
  leafy : (j : TInput) (l : Leaf) → Contains is j → is_record j ≡ true → Contains ls l → bytes_eq l.input j.name ≡ true → leaf_input j.span l ≡ i → IsFrom ls is i
  plain : (j : TInput) → Contains is j → is_record j ≡ false → swapped_input (swaps_of ls) j ≡ i → IsFrom ls is i

later : (ls : List Leaf) (j : TInput) (is : List TInput) (i : TInput) → IsFrom ls is i → IsFrom ls (j ∷ is) i
later ls j is i (leafy k l c r d s e) = leafy k l (later_is j is k c) r d s e
later ls j is i (plain k c r e) = plain k (later_is j is k c) r e

pub comes_from : (ls : List Leaf) (is : List TInput) (i : TInput) → Contains (all_inputs ls is) i → IsFrom ls is i
comes_from ls [] i c = absurd (none_is i c)
comes_from ls (j ∷ is) i c = by_side (either (input_leaves ls j) (all_inputs ls is) i c) (comes_from ls is i)
  where
    own : (b : Bool) → is_record j ≡ b → Contains (cond b (map (leaf_input j.span) (of_input j.name ls)) (swapped_input (swaps_of ls) j ∷ [])) i → IsFrom ls (j ∷ is) i
    own true e d =
        let r = of_map (leaf_input j.span) (of_input j.name ls) i d in
        let q = of_input_has j.name ls r.0 r.1 in
        leafy j r.0 (first_is j is) e q.0 q.1 r.2
    own false e d = first (first_or_later (swapped_input (swaps_of ls) j) [] i d)
      where
        first : (swapped_input (swaps_of ls) j ≡ i) ⊎ Contains [] i → IsFrom ls (j ∷ is) i
        first (inl q) = plain j (first_is j is) e q
        first (inr q) = absurd (none_is i q)

    by_side : Contains (input_leaves ls j) i ⊎ Contains (all_inputs ls is) i → (Contains (all_inputs ls is) i → IsFrom ls is i) → IsFrom ls (j ∷ is) i
    by_side (inl a) rest = own (is_record j) refl a
    by_side (inr b) rest = later ls j is i (rest b)

pub has_leaf : (ls : List Leaf) (is : List TInput) (j : TInput) (l : Leaf) → Contains is j → is_record j ≡ true → Contains ls l → bytes_eq l.input j.name ≡ true → Contains (all_inputs ls is) (leaf_input j.span l)
has_leaf ls [] j l c r d e = absurd (none_is j c)
has_leaf ls (i ∷ is) j l c r d e = by_case (first_or_later i is j c) (λ q. has_leaf ls is j l q r d e)
  where
    own : Contains (input_leaves ls j) (leaf_input j.span l)
    own =
        subst (λ b. Contains (cond b (map (leaf_input j.span) (of_input j.name ls)) (swapped_input (swaps_of ls) j ∷ [])) (leaf_input j.span l)) (sym r)
        (mapped (leaf_input j.span) (of_input j.name ls) l (has_of_input j.name ls l d e))

    by_case : (i ≡ j) ⊎ Contains is j → (Contains is j → Contains (all_inputs ls is) (leaf_input j.span l)) → Contains (input_leaves ls i ++ all_inputs ls is) (leaf_input j.span l)
    by_case (inl q) rest = on_left (input_leaves ls i) (all_inputs ls is) (leaf_input j.span l) (subst (λ (z : TInput). Contains (input_leaves ls z) (leaf_input j.span l)) (sym q) own)
    by_case (inr q) rest = on_right (input_leaves ls i) (all_inputs ls is) (leaf_input j.span l) (rest q)

pub has_plain : (ls : List Leaf) (is : List TInput) (j : TInput) → Contains is j → is_record j ≡ false → Contains (all_inputs ls is) (swapped_input (swaps_of ls) j)
has_plain ls [] j c r = absurd (none_is j c)
has_plain ls (i ∷ is) j c r = by_case (first_or_later i is j c) (λ q. has_plain ls is j q r)
  where
    own : Contains (input_leaves ls j) (swapped_input (swaps_of ls) j)
    own =
        subst (λ b. Contains (cond b (map (leaf_input j.span) (of_input j.name ls)) (swapped_input (swaps_of ls) j ∷ [])) (swapped_input (swaps_of ls) j)) (sym r)
        (first_is (swapped_input (swaps_of ls) j) [])

    by_case : (i ≡ j) ⊎ Contains is j → (Contains is j → Contains (all_inputs ls is) (swapped_input (swaps_of ls) j)) → Contains (input_leaves ls i ++ all_inputs ls is) (swapped_input (swaps_of ls) j)
    by_case (inl q) rest = on_left (input_leaves ls i) (all_inputs ls is) (swapped_input (swaps_of ls) j) (subst (λ (z : TInput). Contains (input_leaves ls z) (swapped_input (swaps_of ls) j)) (sym q) own)
    by_case (inr q) rest = on_right (input_leaves ls i) (all_inputs ls is) (swapped_input (swaps_of ls) j) (rest q)
