-- A text spells no more tokens than it has bytes, and all its tokens have its number.
use Rattle.std.proofs.Common.{◌≡◌, ℕ, ◌+◌, ◌<◌, ◌≤◌, Bool, true, false, ◌==◌, List, [], ◌∷◌, ◌++◌, length, Option, Some, None, refl, ap, ◌∙◌, subst, arith, length-append}
use Rattle.std.specs.List.{list_all}
use Rattle.std.proofs.lemmas.Bool.{and_parts, and_from, eq-eqb, eqb-true}
use Rattle.wdl_ast.specs.declared.token.Kind.{Kind}
use Rattle.wdl_ast.specs.declared.token.Token.{Token}
use Rattle.wdl_ast.specs.declared.token.Quote.TheVariants.{Single, Double}
use Rattle.wdl_ast.specs.declared.token.Fence.TheVariants.{Brace, Angle}
use Rattle.wdl_ast.specs.declared.document.Document.{Document}
use Rattle.wdl_ast.specs.declared.document.Alias.{Alias}
use Rattle.wdl_ast.specs.declared.document.Section.{Section}
use Rattle.wdl_ast.specs.declared.document.Section.TheVariants as section
use Rattle.std.specs.Prelude.{codes}
use Rattle.wdl_ast.specs.declared.token.Mark.TheVariants as mark
use Rattle.wdl_ast.specs.declared.token.Kind.TheVariants as kind
use Rattle.wdl_ast.specs.Words.{Words, at, marked, keyword, ident, plain_words}
use Rattle.wdl_ast.specs.DocumentWords.{document_words, section_words, each, maybe, renaming_words, alias_words, struct_member_words, task_words, workflow_words}
use Rattle.wdl_ast.specs.Spelled.{Open, inside, in_hole, is_command, after, span_at, IsTokenIn, AreTokens, IsOver}
use Rattle.wdl_ast.specs.Spelled.Classes.{Bytes}
use Rattle.wdl_ast.specs.Spelled.Chars as chars
use Rattle.wdl_ast.specs.Spelled.Chars.{Inside, string, command, closer, IsTextToken}
use Rattle.wdl_lex.specs.Limits.{max_document}
use Rattle.wdl_lex.proofs.CodeLaws.{spells_first}
use Rattle.wdl_imports.specs.Numbers.{AliasesOf, SectionsOf}
use Rattle.wdl_sources.specs.Reading.{IsRead}

-- ---- tokens have bytes

closer_some : (i : Inside) → 0 < length (closer i)
closer_some (string Single) = omega arith
closer_some (string Double) = omega arith
closer_some (command Brace) = omega arith
closer_some (command Angle) = omega arith

text_some : (i : Inside) (w rest : Bytes) (k : Kind) → IsTextToken i w rest k → 0 < length w
text_some i w rest k (chars.close r) = closer_some i
text_some i w rest k (chars.hole m r h) = omega arith
text_some i w rest k (chars.chars b v r new st h) = omega arith

token_some : (i : Option Inside) (awaits closes : Bool) (w rest : Bytes) (k : Kind) → IsTokenIn i awaits closes w rest k → 0 < length w
token_some None awaits closes w rest k t = let f = spells_first awaits closes w k t.longest.spells in let e = ap length f.2 in omega (arith, e)
token_some (Some i) awaits closes w rest k t = text_some i w rest k t

module _ (Ends : ℕ → Bool → Open → Bytes → Type 0) (doc : ℕ) where
  few_tokens : (at : ℕ) (awaits : Bool) (opened : Open) (z : Bytes) (ts : List Token) → AreTokens Ends doc at awaits opened z ts → length ts ≤ length z
  few_tokens at awaits opened z [] h = omega arith
  few_tokens at awaits opened z (t ∷ ts) h =
      let g = h.0 in let w = h.1 in let rest = h.2 in let k = h.3 in
      let some = token_some (inside opened) awaits (in_hole opened) w rest k h.6 in
      let r = few_tokens (at + length g + length w) (is_command k) (after opened (span_at doc (at + length g) (at + length g + length w)) k) rest ts h.8 in
      let e = ap length h.4 ∙ length-append g (w ++ rest) ∙ ap (λ n. length g + n) (length-append w rest) in
      omega (arith, some, r, e)

  -- all tokens are of that document
  abbrev pub are_of : List Token → Bool
  are_of ts = list_all (λ t. t.span.doc == doc) ts

  tokens_of : (at : ℕ) (awaits : Bool) (opened : Open) (z : Bytes) (ts : List Token) → AreTokens Ends doc at awaits opened z ts → are_of ts ≡ true
  tokens_of at awaits opened z [] h = refl
  tokens_of at awaits opened z (t ∷ ts) h =
      let g = h.0 in let w = h.1 in let rest = h.2 in let k = h.3 in
      and_from (t.span.doc == doc) (are_of ts) (eq-eqb t.span.doc doc (ap (λ (x : Token). x.span.doc) h.7))
      (tokens_of (at + length g + length w) (is_command k) (after opened (span_at doc (at + length g) (at + length g + length w)) k) rest ts h.8)

-- a document that is read has fewer tokens than bytes
pub few_words : (number : ℕ) (bytes : List ℕ) (d : Document) → IsRead number bytes d → length (document_words d) ≤ max_document
few_words number bytes d r =
    let f = few_tokens IsOver number 0 false [] bytes r.tokens r.spelled.spells in
    let e = ap length r.written.text in
    let w = r.within.document in
    omega (arith, f, e, w)

-- ---- the spans of a document have its number

abbrev pub all_of : ℕ → Words → Bool
all_of number ts = list_all (λ t. t.span.doc == number) ts

all_append : (number : ℕ) (ts us : Words) → all_of number (ts ++ us) ≡ true → (all_of number ts ≡ true) × (all_of number us ≡ true)
all_append number [] us h = (refl, h)
all_append number (t ∷ ts) us h =
    let p = and_parts (t.span.doc == number) (all_of number (ts ++ us)) h in
    let r = all_append number ts us p.1 in
    (and_from (t.span.doc == number) (all_of number ts) p.0 r.0, r.1)

pub words_of : (number : ℕ) (bytes : List ℕ) (d : Document) → IsRead number bytes d → all_of number (document_words d) ≡ true
words_of number bytes d r = subst (λ (ts : Words). all_of number ts ≡ true) r.written.text (tokens_of IsOver number 0 false [] bytes r.tokens r.spelled.spells)

head_of : (number : ℕ) (t : Token) (ts : Words) → all_of number (t ∷ ts) ≡ true → t.span.doc ≡ number
head_of number t ts h = eqb-true t.span.doc number (and_parts (t.span.doc == number) (all_of number ts) h).0

tail_of : (number : ℕ) (t : Token) (ts : Words) → all_of number (t ∷ ts) ≡ true → all_of number ts ≡ true
tail_of number t ts h = (and_parts (t.span.doc == number) (all_of number ts) h).1

aliases_of : (number : ℕ) (aliases : List Alias) → all_of number (each alias_words aliases) ≡ true → AliasesOf number aliases
aliases_of number [] h = tt
aliases_of number (a ∷ more) h =
    let p = all_append number (alias_words a) (each alias_words more) h in (
      head_of number (ident a.from) (keyword (codes "as") a.as_word ∷ ident a.to ∷ [])
          (tail_of number (keyword (codes "alias") a.keyword) (ident a.from ∷ keyword (codes "as") a.as_word ∷ ident a.to ∷ []) p.0),
      aliases_of number more p.1,
    )

sections_number : (number : ℕ) (ss : List Section) → all_of number (each section_words ss) ≡ true → SectionsOf number ss
sections_number number [] h = (tt, tt)
sections_number number (section.Import i ∷ ss) h =
    let p = all_append number (section_words (section.Import i)) (each section_words ss) h in
    let r = sections_number number ss p.1 in
    let words = plain_words i.uri ++ (maybe renaming_words i.namespace ++ each alias_words i.aliases) in
    let first = keyword (codes "import") i.keyword in
    let behind = (all_append number (plain_words i.uri) (maybe renaming_words i.namespace ++ each alias_words i.aliases) (tail_of number first words p.0)).1 in
    ((head_of number first words p.0, (aliases_of number i.aliases (all_append number (maybe renaming_words i.namespace) (each alias_words i.aliases) behind).1, r.0)), r.1)
sections_number number (section.Struct s ∷ ss) h =
    let p = all_append number (section_words (section.Struct s)) (each section_words ss) h in
    let r = sections_number number ss p.1 in
    let words = marked mark.OpenBrace s.opening ∷ (each struct_member_words s.members ++ marked mark.CloseBrace s.closing ∷ []) in
    (r.0, (head_of number (ident s.name) words (tail_of number (keyword (codes "struct") s.keyword) (ident s.name ∷ words) p.0), r.1))
sections_number number (section.Task t ∷ ss) h = sections_number number ss (all_append number (task_words t) (each section_words ss) h).1
sections_number number (section.Workflow w ∷ ss) h = sections_number number ss (all_append number (workflow_words w) (each section_words ss) h).1

pub spans_of : (number : ℕ) (bytes : List ℕ) (d : Document) → IsRead number bytes d → SectionsOf number d.sections
spans_of number bytes d r = sections_number number d.sections
    (tail_of number (at (kind.Frac (codes "1.1")) d.number) (each section_words d.sections)
    (tail_of number (keyword (codes "version") d.version) (at (kind.Frac (codes "1.1")) d.number ∷ each section_words d.sections) (words_of number bytes d r)))
