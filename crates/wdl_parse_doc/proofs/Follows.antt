-- What may stand behind a part: the next one, or the end of the list.
use Rattle.std.proofs.Common.{◌≡◌, ℕ, ◌<◌, Bool, true, false, ◌||◌, List, [], ◌∷◌, ◌++◌, length, Option, Some, None, refl, ap, sym, ◌∙◌, codes}
use Rattle.std.specs.Str.{bytes_eq}
use Rattle.std.proofs.lemmas.Slice.Eq.{bytes_eq-Decides}
use Rattle.wdl_base.specs.declared.span.Span.{Span}
use Rattle.wdl_base.specs.Names.{is_name, reserved_words}
use Rattle.wdl_ast.specs.declared.token.Mark.{Mark}
use Rattle.wdl_ast.specs.declared.token.Mark.TheVariants as mark
use Rattle.wdl_ast.specs.declared.token.Kind.{Kind}
use Rattle.wdl_ast.specs.declared.token.Kind.TheVariants as kind
use Rattle.wdl_ast.specs.declared.type_tree.BaseType.{BaseType}
use Rattle.wdl_ast.specs.declared.type_tree.TypeTree.{TypeTree}
use Rattle.wdl_ast.specs.Words.{Words, at, keyword, comma, base_words, questions_words, type_words}
use Rattle.wdl_ast.proofs.WordLaws.{words_type}
use Rattle.token_reading.specs.Outcome.{is_mark, sees, eat, eat_word}
use Rattle.token_reading.specs.TypeGrammar as types
use Rattle.token_reading.specs.TypeGrammar.{IsBase, IsTypeOver, TypeWithin, IsType}
use Rattle.wdl_parse_expr.specs.Contract.{expr_continues}
use Rattle.token_reading.proofs.Steps.{cond_false, marks}
use Rattle.wdl_parse_doc.proofs.Formats.{starts_some}

-- ---- a word, the closing brace, or nothing

abbrev pub is_settled : Kind → Bool
is_settled (kind.Word w) = true
is_settled (kind.Mark mark.CloseBrace) = true
is_settled _ = false

abbrev pub settled : Words → Bool
settled [] = true
settled (t ∷ ts) = is_settled t.kind

abbrev pub Settled : Words → Type 0
Settled ts = settled ts ≡ true

settled_kind : (k : Kind) (s : Span) (ts : Words) → is_settled k ≡ true → expr_continues (at k s ∷ ts) ≡ false
settled_kind (kind.Word w) s ts h = refl
settled_kind (kind.Mark mark.CloseBrace) s ts h = refl
settled_kind (kind.Mark _) s ts h = cc
settled_kind _ s ts h = cc

pub settled_expr : (ts : Words) → Settled ts → expr_continues ts ≡ false
settled_expr [] h = refl
settled_expr (t ∷ ts) h = settled_kind t.kind t.span ts h

-- a mark of another kind than those of the test
pub mark_apart : (p : Kind → Bool) (m : Mark) (k : Kind) → p (kind.Mark m) ≡ false → p k ≡ true → is_mark m k ≡ false
mark_apart p m k q h = go (is_mark m k) refl
  where
    go : (b : Bool) → is_mark m k ≡ b → b ≡ false
    go false e = refl
    go true e = (let f : k ≡ kind.Mark m = marks m k e in let n : true ≡ false = sym h ∙ ap p f ∙ q in let z : ⊥ = cc in absurd z)

pub settled_eat : (m : Mark) → is_settled (kind.Mark m) ≡ false → (ts : Words) → Settled ts → eat m ts ≡ None
settled_eat m q [] h = refl
settled_eat m q (t ∷ ts) h = cond_false (is_mark m t.kind) _ _ (mark_apart is_settled m t.kind q h)

pub settled_sees : (m : Mark) → is_settled (kind.Mark m) ≡ false → (ts : Words) → Settled ts → sees m ts ≡ false
settled_sees m q [] h = refl
settled_sees m q (t ∷ ts) h = mark_apart is_settled m t.kind q h

pub settled_comma : (ts : Words) → Settled ts → eat mark.Comma ts ≡ None
settled_comma ts h = settled_eat mark.Comma refl ts h

pub comma_expr : (m : Option Span) (ts : Words) → Settled ts → expr_continues (comma m ++ ts) ≡ false
comma_expr (Some s) ts h = refl
comma_expr None ts h = settled_expr ts h

-- ---- words that are others

pub word_not : (p : List ℕ → Bool) (w v : List ℕ) → p w ≡ true → p v ≡ false → bytes_eq w v ≡ false
word_not p w v h q = apart (bytes_eq w v) refl
  where
    apart : (b : Bool) → bytes_eq w v ≡ b → b ≡ false
    apart false e = refl
    apart true e = (let f : w ≡ v = (bytes_eq-Decides w v).0 e in let n : true ≡ false = sym h ∙ ap p f ∙ q in let z : ⊥ = cc in absurd z)

-- whether a type may begin with that word
abbrev pub begins_type : List ℕ → Bool
begins_type w =
    bytes_eq w (codes "Boolean") || bytes_eq w (codes "Int") || bytes_eq w (codes "String") || bytes_eq w (codes "File")
    || bytes_eq w (codes "Array") || bytes_eq w (codes "Map") || bytes_eq w (codes "Pair") || is_name w

-- the words of the language, which no type begins with
pub no_input : begins_type (codes "input") ≡ false
unfolding reserved_words
no_input = refl

pub no_output : begins_type (codes "output") ≡ false
unfolding reserved_words
no_output = refl

pub no_runtime : begins_type (codes "runtime") ≡ false
unfolding reserved_words
no_runtime = refl

pub no_meta : begins_type (codes "meta") ≡ false
unfolding reserved_words
no_meta = refl

pub no_parameter_meta : begins_type (codes "parameter_meta") ≡ false
unfolding reserved_words
no_parameter_meta = refl

pub no_command : begins_type (codes "command") ≡ false
unfolding reserved_words
no_command = refl

pub no_call : begins_type (codes "call") ≡ false
unfolding reserved_words
no_call = refl

pub no_scatter : begins_type (codes "scatter") ≡ false
unfolding reserved_words
no_scatter = refl

pub no_if : begins_type (codes "if") ≡ false
unfolding reserved_words
no_if = refl

pub no_as : begins_type (codes "as") ≡ false
unfolding reserved_words
no_as = refl

-- ---- how types begin

-- with such a word
abbrev pub TypeBegins : Words → Type 0
TypeBegins ws = (w : List ℕ) × (s : Span) × (more : Words) × (ws ≡ keyword w s ∷ more) × (begins_type w ≡ true)

name_last : (a b c d e f g : Bool) → (a || b || c || d || e || f || g || true) ≡ true
name_last true b c d e f g = refl
name_last false true c d e f g = refl
name_last false false true d e f g = refl
name_last false false false true e f g = refl
name_last false false false false true f g = refl
name_last false false false false false true g = refl
name_last false false false false false false true = refl
name_last false false false false false false false = refl

name_begins : (w : List ℕ) → is_name w ≡ true → begins_type w ≡ true
name_begins w h =
    ap (λ z. bytes_eq w (codes "Boolean") || bytes_eq w (codes "Int") || bytes_eq w (codes "String") || bytes_eq w (codes "File") || bytes_eq w (codes "Array") || bytes_eq w (codes "Map") || bytes_eq w (codes "Pair") || z) h
    ∙ name_last (bytes_eq w (codes "Boolean")) (bytes_eq w (codes "Int")) (bytes_eq w (codes "String")) (bytes_eq w (codes "File")) (bytes_eq w (codes "Array")) (bytes_eq w (codes "Map")) (bytes_eq w (codes "Pair"))

base_begins : (In : TypeTree → Type 0) (b : BaseType TypeTree) → IsBase In b → TypeBegins (base_words type_words b)
base_begins In b (types.boolean s) = (codes "Boolean", s, [], refl, refl)
base_begins In b (types.int s) = (codes "Int", s, [], refl, refl)
base_begins In b (types.str s) = (codes "String", s, [], refl, refl)
base_begins In b (types.file s) = (codes "File", s, [], refl, refl)
base_begins In b (types.named n h) = (n.name, n.span, [], refl, name_begins n.name h)
base_begins In b (types.array w o t c p i) = (codes "Array", w, _, refl, refl)
base_begins In b (types.map w o k m v c i j) = (codes "Map", w, _, refl, refl)
base_begins In b (types.pair w o l m x c i j) = (codes "Pair", w, _, refl, refl)

over_begins : (In : TypeTree → Type 0) (t : TypeTree) → IsTypeOver In t → TypeBegins (type_words t)
over_begins In t (types.type_ b qs p) =
    let s = base_begins In b p in
    (s.0, s.1, s.2 ++ questions_words qs, words_type b qs ∙ ap (λ z. z ++ questions_words qs) s.3, s.4)

pub type_begins : (t : TypeTree) → IsType t → TypeBegins (type_words t)
type_begins t p = over_begins (TypeWithin 7) t p

-- what begins with a type begins with none of those words
pub type_word : (v : List ℕ) → begins_type v ≡ false → (t : TypeTree) → IsType t → (rest : Words) → eat_word v (type_words t ++ rest) ≡ None
type_word v q t p rest = let s = type_begins t p in ap (λ z. eat_word v (z ++ rest)) s.3 ∙ cond_false (bytes_eq s.0 v) _ _ (word_not begins_type s.0 v s.4 q)

pub type_settled : (t : TypeTree) → IsType t → (rest : Words) → Settled (type_words t ++ rest)
type_settled t p rest = let s = type_begins t p in ap (λ z. settled (z ++ rest)) s.3

pub type_apart : (t : TypeTree) → IsType t → (rest : Words) → sees mark.CloseBrace (type_words t ++ rest) ≡ false
type_apart t p rest = let s = type_begins t p in ap (λ z. sees mark.CloseBrace (z ++ rest)) s.3

pub type_some : (t : TypeTree) → IsType t → (rest : Words) → 0 < length (type_words t ++ rest)
type_some t p rest = let s = type_begins t p in starts_some (type_words t ++ rest) (s.2 ++ rest) (keyword s.0 s.1) (ap (λ z. z ++ rest) s.3)
