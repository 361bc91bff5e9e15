-- The members behind an input, as a text and read from one.
use Rattle.std.proofs.Common.{◌≡◌, ℕ, Bool, true, false, cond, ◌==◌, List, [], ◌∷◌, ◌++◌, codes, Some, None, option_map, append_assoc, append-nil, refl, sym, ap, ◌∙◌, subst}
use Rattle.std.proofs.lemmas.Bool.{eqb-true}
use Rattle.std.proofs.lemmas.Option.{same_Some}
use Rattle.serde_json.specs.Data.{Data, string, no_members, member}
use Rattle.wdl_base.specs.Names.{is_name}
use Rattle.wdl_value.specs.Files.{stripped}
use Rattle.cwl_emit.specs.Reading.{text_of}
use Rattle.cwl_emit.proofs.Parts.{Is, text_is}
use Rattle.cwl_records.specs.WideReading.{is_end, name_by, name_of, names_from, or_name, path_by, path_of}
use Rattle.cwl_records.specs.WideWriting.{dotted, path_members, value_from}
use Rattle.wdl_base.proofs.Options.{map_parts, then_parts, chosen_parts}

named : (s n : List ℕ) → name_by s ≡ Some n → s ≡ n
named s n h = same_Some s n (chosen_parts (is_name s) (Some s) n h).1

pub name_is : (d : Data) (n : List ℕ) → name_of d ≡ Some n → Is d (string n)
name_is d n h =
    let p = then_parts name_by (text_of d) n h in
    subst (λ s. Is d (string s)) (named p.0 n p.2) (text_is d p.0 p.1)

-- what stands in front of a text that begins so
front : (ps s rest : List ℕ) → stripped ps s ≡ Some rest → s ≡ ps ++ rest
front [] s rest h = same_Some s rest h
front (p ∷ ps) [] rest h = cc
front (p ∷ ps) (c ∷ cs) rest h =
    let k = chosen_parts (p == c) (stripped ps cs) rest h in
    ap (λ x. x ∷ cs) (sym (eqb-true p c k.0)) ∙ ap (λ x. p ∷ x) (front ps cs rest k.1)

-- the text of these names behind a point, with `)` behind them; there is a name
abbrev Spelled : List ℕ → List (List ℕ) → Type 0
Spelled s ns =
    (46 ∷ s ≡ dotted ns ++ 41 ∷ []) × (path_members ns ≡ member (codes "valueFrom") (string (value_from ns)) no_members)

more_names : (word cs : List ℕ) (ns : List (List ℕ)) → or_name word (names_from [] cs) ≡ Some ns → ((ms : List (List ℕ)) → names_from [] cs ≡ Some ms → Spelled cs ms)
    → Spelled (word ++ 46 ∷ cs) ns
more_names word cs ns h rest =
    let p = then_parts (λ n. option_map (λ ms. n ∷ ms) (names_from [] cs)) (name_by word) ns h in
    let q = map_parts (λ ms. p.0 ∷ ms) (names_from [] cs) ns p.2 in
    subst (Spelled (word ++ 46 ∷ cs)) q.2 (
      ap (λ w. 46 ∷ (w ++ 46 ∷ cs)) (named word p.0 p.1)
          ∙ ap (λ x. 46 ∷ (p.0 ++ x)) (rest q.0 q.1).0
          ∙ ap (λ x. 46 ∷ x) (sym (append_assoc p.0 (dotted q.0) (41 ∷ []))),
      refl,
    )

last_name : (word cs : List ℕ) (ns : List (List ℕ)) → cond (is_end cs) (or_name word (Some [])) None ≡ Some ns → Spelled (word ++ 41 ∷ cs) ns
last_name word (c ∷ cs) ns h = cc
last_name word [] ns h =
    let p = then_parts (λ n. option_map (λ (ms : List (List ℕ)). n ∷ ms) (Some [])) (name_by word) ns h in
    subst (Spelled (word ++ 41 ∷ [])) (same_Some (p.0 ∷ []) ns p.2) (
      ap (λ w. 46 ∷ (w ++ 41 ∷ [])) (named word p.0 p.1) ∙ ap (λ w. 46 ∷ (w ++ 41 ∷ [])) (sym (append-nil p.0)),
      refl,
    )

by_character : (b e : Bool) (word cs : List ℕ) (c : ℕ) (ns : List (List ℕ)) → (c == 46) ≡ b → (c == 41) ≡ e
    → cond b (or_name word (names_from [] cs)) (cond e (cond (is_end cs) (or_name word (Some [])) None) (names_from (word ++ c ∷ []) cs)) ≡ Some ns
    → ((ms : List (List ℕ)) → names_from [] cs ≡ Some ms → Spelled cs ms) → (names_from (word ++ c ∷ []) cs ≡ Some ns → Spelled ((word ++ c ∷ []) ++ cs) ns)
    → Spelled (word ++ c ∷ cs) ns
by_character true e word cs c ns is also h rest longer =
    subst (λ x. Spelled (word ++ x ∷ cs) ns) (sym (eqb-true c 46 is)) (more_names word cs ns h rest)
by_character false true word cs c ns is also h rest longer = subst (λ x. Spelled (word ++ x ∷ cs) ns) (sym (eqb-true c 41 also)) (last_name word cs ns h)
by_character false false word cs c ns is also h rest longer = subst (λ s. Spelled s ns) (append_assoc word (c ∷ []) cs) (longer h)

spelled : (word s : List ℕ) (ns : List (List ℕ)) → names_from word s ≡ Some ns → Spelled (word ++ s) ns
spelled word [] ns h = cc
spelled word (c ∷ cs) ns h = by_character (c == 46) (c == 41) word cs c ns refl refl h (spelled [] cs) (spelled (word ++ c ∷ []) cs ns)

-- a path that was read, as it is written
pub record PathIs (d : Data) (path : List (List ℕ)) : Type 0 where
  pub is : Is d (string (value_from path))
  pub members : path_members path ≡ member (codes "valueFrom") (string (value_from path)) no_members

pub path_is : (d : Data) (path : List (List ℕ)) → path_of d ≡ Some path → PathIs d path
path_is d path h =
    let p = then_parts path_by (text_of d) path h in
    let q = then_parts (names_from []) (stripped (codes "$(self.") p.0) path p.2 in
    let s = spelled [] q.0 path q.2 in
    let text : p.0 ≡ value_from path = front (codes "$(self.") p.0 q.0 q.1 ∙ ap (λ x. codes "$(self" ++ x) s.0 in
    record { is = subst (λ x. Is d (string x)) text (text_is d p.0 p.1); members = s.1 }
