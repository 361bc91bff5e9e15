-- Steps of the loops over the sections of a document.
use Rattle.std.proofs.Common.{◌≡◌, ℕ, suc, ◌+◌, ◌-◌, ◌<◌, ◌≤◌, true, ◌&&◌, List, [], ◌∷◌, ◌++◌, map, length, get_or, take, drop, refl, sym, ap, ◌∙◌, subst, arith, inl, inr}
use Rattle.std.proofs.lemmas.List.{drop_more}
use Rattle.wdl_base.specs.declared.span.Span.{Span}
use Rattle.wdl_base.specs.Names.{is_among}
use Rattle.wdl_ast.specs.declared.document.Alias.{Alias}
use Rattle.wdl_ast.specs.declared.document.Import.{Import}
use Rattle.wdl_ast.specs.declared.document.Section.{Section}
use Rattle.wdl_ast.specs.declared.document.Section.TheVariants as section
use Rattle.wdl_library.specs.declared.doc.Doc.{Doc}
use Rattle.wdl_library.specs.declared.doc.Link.{Link}
use Rattle.wdl_library.specs.Sections.{imports_in, structs_in, imports_of}
use Rattle.wdl_library.specs.Names.{given, once, own_names, are_known}
use Rattle.wdl_links.proofs.WantLemmas.{next_section}
use Rattle.wdl_structs.specs.Faults.{HasUnknown, ImportUnknown}
use Rattle.wdl_structs.specs.Tables.{Names, NamesAt, with_names, with_groups, groups, imported_by, seen_by, knows_by}
use Rattle.wdl_structs.proofs.NameLaws.{with_append, with_given, with_once}

all_taken : {A : Type 0} (zs : List A) → take (length zs) zs ≡ zs
all_taken [] = refl
all_taken (z ∷ zs) = ap (λ r. z ∷ r) (all_taken zs)

pub first_rest : {A : Type 0} (xs rest : List A) (x : A) → 1 ≤ length xs → x ≡ get_or xs 0 x → rest ≡ take (length xs - 1) (drop 1 xs) → xs ≡ x ∷ rest
first_rest [] rest x h e k = absurd (omega arith)
first_rest (y ∷ ys) rest x h e k =
    let n : suc (length ys) - 1 ≡ length ys = omega arith in
    let r : rest ≡ ys = k ∙ ap (λ m. take m ys) n ∙ all_taken ys in
    λ i. sym e i ∷ sym r i

module _ (names : NamesAt) where
  -- the names that one import more gives
  pub import_more : (table new all : Names) (ss : List Section) (k : ℕ) (x : Section) (i : Import) (left rest : List Link) (l : Link) → k < length ss → x ≡ get_or ss k x → x ≡ section.Import i
      → left ≡ l ∷ rest → new ≡ with_groups table (groups i.aliases (names l.doc))
      → with_names table (imported_by names (imports_in (drop k ss)) left) ≡ all → with_names new (imported_by names (imports_in (drop (k + 1) ss)) rest) ≡ all
  import_more table new all ss k x i left rest l within at is split made h =
      ap (λ t. with_names t (imported_by names (imports_in (drop (k + 1) ss)) rest)) (made ∙ with_given i.aliases table (names l.doc))
      ∙ sym (with_append table (given i.aliases (names l.doc)) (imported_by names (imports_in (drop (k + 1) ss)) rest))
      ∙ ap (λ (is : List Import). with_names table (imported_by names is (l ∷ rest))) (sym (next_section ss k x i within at is))
      ∙ ap (λ (ls : List Link). with_names table (imported_by names (imports_in (drop k ss)) ls)) (sym split)
      ∙ h

  pub seen_is : (d : Doc) (none own table : Names) (ss : List Section) (ls : List Link) → none ≡ [] → own ≡ with_names none (map (λ s. s.name.name) (structs_in ss))
      → table ≡ with_names own (imported_by names (imports_in ss) ls) → ss ≡ d.document.sections → ls ≡ d.imports → table ≡ seen_by names d
  seen_is d none own table ss ls n o t s l =
      t
      ∙ ap (λ x. with_names x (imported_by names (imports_in ss) ls)) (o ∙ ap (λ x. with_names x (map (λ s. s.name.name) (structs_in ss))) n)
      ∙ sym (with_append [] (map (λ s. s.name.name) (structs_in ss)) (imported_by names (imports_in ss) ls))
      ∙ with_once (map (λ s. s.name.name) (structs_in ss) ++ imported_by names (imports_in ss) ls)
      ∙ ap (λ (x : List Section). once (map (λ s. s.name.name) (structs_in x) ++ imported_by names (imports_in x) ls)) s
      ∙ ap (λ (x : List Link). once (own_names d ++ imported_by names (imports_of d.document) x)) l

-- ---- aliases

pub next_item : {A : Type 0} (xs : List A) (k : ℕ) (x : A) → k < length xs → x ≡ get_or xs k x → drop k xs ≡ x ∷ drop (k + 1) xs
next_item xs k x below at = drop_more xs k x below ∙ ap (λ z. z ∷ drop (k + 1) xs) (sym at)

pub known_more : (ns : Names) (aliases : List Alias) (k : ℕ) (a : Alias) → k < length aliases → a ≡ get_or aliases k a → is_among a.from.name ns ≡ true
    → ((s : Span) → HasUnknown ns (drop k aliases) s → HasUnknown ns aliases s) × (are_known ns (drop k aliases) ≡ are_known ns aliases)
    → ((s : Span) → HasUnknown ns (drop (k + 1) aliases) s → HasUnknown ns aliases s) × (are_known ns (drop (k + 1) aliases) ≡ are_known ns aliases)
known_more ns aliases k a below at known h =
    let e = next_item aliases k a below at in (
      λ s u. h.0 s (subst (λ (xs : List Alias). HasUnknown ns xs s) (sym e) (inr u)),
      sym (ap (λ b. b && are_known ns (drop (k + 1) aliases)) known) ∙ ap (are_known ns) (sym e) ∙ h.1,
    )

pub known_import : (names : NamesAt) (ss : List Section) (k : ℕ) (x : Section) (i : Import) (left rest : List Link) (l : Link) (all : List Import) (links : List Link)
    → k < length ss → x ≡ get_or ss k x → x ≡ section.Import i → left ≡ l ∷ rest → are_known (names l.doc) i.aliases ≡ true
    → ((s : Span) → ImportUnknown names (imports_in (drop k ss)) left s → ImportUnknown names all links s) × (knows_by names (imports_in (drop k ss)) left ≡ knows_by names all links)
    → ((s : Span) → ImportUnknown names (imports_in (drop (k + 1) ss)) rest s → ImportUnknown names all links s) × (knows_by names (imports_in (drop (k + 1) ss)) rest ≡ knows_by names all links)
known_import names ss k x i left rest l all links within at is split known h =
    let e = next_section ss k x i within at is in (
      λ s u. h.0 s (subst (λ (ls : List Link). ImportUnknown names (imports_in (drop k ss)) ls s) (sym split) (subst (λ (js : List Import). ImportUnknown names js (l ∷ rest) s) (sym e) (inr u))),
      sym (ap (λ b. b && knows_by names (imports_in (drop (k + 1) ss)) rest) known) ∙ ap (λ (js : List Import). knows_by names js (l ∷ rest)) (sym e)
          ∙ ap (λ (ls : List Link). knows_by names (imports_in (drop k ss)) ls) (sym split) ∙ h.1,
    )

pub unknown_here : (names : NamesAt) (ss : List Section) (k : ℕ) (x : Section) (i : Import) (left rest : List Link) (l : Link) (all : List Import) (links : List Link) (s : Span)
    → k < length ss → x ≡ get_or ss k x → x ≡ section.Import i → left ≡ l ∷ rest → HasUnknown (names l.doc) i.aliases s
    → ((s : Span) → ImportUnknown names (imports_in (drop k ss)) left s → ImportUnknown names all links s) → ImportUnknown names all links s
unknown_here names ss k x i left rest l all links s within at is split u h =
    h s (subst (λ (ls : List Link). ImportUnknown names (imports_in (drop k ss)) ls s) (sym split)
    (subst (λ (js : List Import). ImportUnknown names js (l ∷ rest) s) (sym (next_section ss k x i within at is)) (inl u)))
