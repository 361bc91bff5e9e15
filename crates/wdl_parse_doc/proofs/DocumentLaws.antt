-- Documents, read and written.
use Rattle.std.proofs.Common.{◌≡◌, ℕ, ◌<◌, false, List, [], ◌∷◌, ◌++◌, length, Option, Some, None, Ok, refl, ap, sym, ◌∙◌, append_assoc, length-append, arith, codes}
use Rattle.std.proofs.lemmas.List.{append-nil}
use Rattle.wdl_base.specs.declared.span.Span.{Span}
use Rattle.wdl_ast.specs.declared.token.Mark.TheVariants as mark
use Rattle.wdl_ast.specs.declared.document.Alias.{Alias}
use Rattle.wdl_ast.specs.declared.document.Import.{Import}
use Rattle.wdl_ast.specs.declared.document.StructMember.{StructMember}
use Rattle.wdl_ast.specs.declared.document.StructSection.{StructSection}
use Rattle.wdl_ast.specs.declared.document.Section.{Section}
use Rattle.wdl_ast.specs.declared.document.Section.TheVariants as section
use Rattle.wdl_ast.specs.Words.{Words, marked, keyword, ident, plain_words, type_words}
use Rattle.wdl_ast.specs.DocumentWords.{each, maybe, renaming_words, alias_words, import_words, struct_member_words, struct_words, section_words}
use Rattle.token_reading.specs.Outcome.{then_, found, sees, eat_word}
use Rattle.token_reading.proofs.Steps.{ate_word, then_is, found_some, found_none}
use Rattle.token_reading.proofs.Says.{Says, Takes, says_then, says_found}
use Rattle.wdl_parse_doc.specs.declared.part_list.Braced.{Braced}
use Rattle.wdl_parse_doc.specs.Context as ctx
use Rattle.wdl_parse_doc.specs.Context.{Stands}
use Rattle.wdl_parse_parts.specs.Grammar.{Each, IfThere}
use Rattle.wdl_parse_doc.specs.Grammar.{IsAlias, IsImport, IsStructMember, IsStruct, IsSection}
use Rattle.wdl_parse_doc.specs.Reading.Documents as r
use Rattle.wdl_parse_doc.proofs.Formats.{Doc, SoundAt, Format, Worded, Parts, next, at_once, behind_both, goes, says_worded, listed, parts_until, until_ends}
use Rattle.wdl_parse_doc.proofs.Leaves.{Any, a_word, a_name, a_type, a_string}
use Rattle.wdl_parse_doc.proofs.Follows.{type_apart, type_some}
use Rattle.wdl_parse_doc.proofs.SectionLaws.{in_braces}
use Rattle.wdl_parse_doc.proofs.CallLaws.{a_renaming}
use Rattle.wdl_parse_doc.proofs.TaskLaws.{a_task, a_workflow}

-- ---- imports

abbrev AliasOf : Words → Option Alias → Words → Type 0
AliasOf ts x rest = (ts ≡ maybe alias_words x ++ rest) × IfThere IsAlias x

alias_sound : (doc front ts : Words) → doc ≡ front ++ ts → Any front → Says (Doc doc) (AliasOf ts) (r.alias_at ts)
unfolding r.alias_at
alias_sound doc front ts eq here =
    says_found (Doc doc) (AliasOf ts) (eat_word (codes "alias") ts) _ _ (λ k h.
    next a_name (AliasOf ts) doc front ts eq (keyword (codes "alias") k.0 ∷ []) k.1 _ (ate_word (codes "alias") ts k h) tt (λ f a p e.
    next (a_word (codes "as")) (AliasOf ts) doc front ts eq (keyword (codes "alias") k.0 ∷ ident f ∷ []) a _ e tt (λ s b _ g.
    next a_name (AliasOf ts) doc front ts eq (keyword (codes "alias") k.0 ∷ ident f ∷ keyword (codes "as") s ∷ []) b _ g tt (λ t c q z. (z, (p, q))))))
    (λ _. (refl, tt))

alias_full : (a : Alias) → IsAlias a → (tail : Words) → Any tail → r.alias_at (alias_words a ++ tail) ≡ Ok (Some a, tail)
unfolding r.alias_at
alias_full a p tail q =
    let rest : Words = ident a.from ∷ keyword (codes "as") a.as_word ∷ ident a.to ∷ tail in
    found_some (eat_word (codes "alias") (keyword (codes "alias") a.keyword ∷ rest)) _ _ (a.keyword, rest) refl
    ∙ goes a_name a.from (keyword (codes "as") a.as_word ∷ ident a.to ∷ tail) _ p.0 tt
    ∙ goes (a_word (codes "as")) a.as_word (ident a.to ∷ tail) _ tt tt
    ∙ goes a_name a.to tail _ p.1 tt

abbrev aliases : Parts Alias
aliases = record { is = IsAlias; words = alias_words; one = r.alias_at; follows = Any; stands = Any; more = λ a p front s. tt; sound = alias_sound; full = alias_full; starts = λ a p tail. tt; some = λ a p. omega arith }

-- the next section, or the end
abbrev Behind : Words → Type 0
Behind ts = (eat_word (codes "as") ts ≡ None) × (r.alias_at ts ≡ Ok (None, ts))

import_sound : (doc front : Words) (k : Span) (ts : Words) → doc ≡ front ++ keyword (codes "import") k ∷ ts → Any front → Says (Doc doc) (Takes IsImport import_words (keyword (codes "import") k ∷ ts)) (r.import_ k ts)
unfolding r.import_
import_sound doc front k ts eq here =
    let all : Words = keyword (codes "import") k ∷ ts in
    let R : Import → Words → Type 0 = Takes IsImport import_words all in
    next a_string R doc front all eq (keyword (codes "import") k ∷ []) ts _ refl tt (λ u a _ e.
    next a_renaming R doc front all eq (keyword (codes "import") k ∷ plain_words u) a _ e tt (λ n b p f.
    next (listed aliases) R doc front all eq ((keyword (codes "import") k ∷ plain_words u) ++ maybe renaming_words n) b _ f tt (λ xs c q g. (g ∙ simp append_assoc, (p, q)))))

no_as_before : (xs : List Alias) (tail : Words) → Behind tail → eat_word (codes "as") (each alias_words xs ++ tail) ≡ None
no_as_before [] tail h = h.0
no_as_before (x ∷ xs) tail h = refl

import_full : (i : Import) → IsImport i → (tail : Words) → Behind tail → (k : Span) × (rest : Words) × (import_words i ++ tail ≡ keyword (codes "import") k ∷ rest) × (r.import_ k rest ≡ Ok (i, tail))
unfolding r.import_
import_full i p tail h =
    let last : Words = each alias_words i.aliases ++ tail in
    let more : Words = maybe renaming_words i.namespace ++ last in
    let text : import_words i ++ tail ≡ keyword (codes "import") i.keyword ∷ (plain_words i.uri ++ more) = ap (λ z. keyword (codes "import") i.keyword ∷ z) (append_assoc (plain_words i.uri) (maybe renaming_words i.namespace ++ each alias_words i.aliases) tail ∙ ap (λ z. plain_words i.uri ++ z) (append_assoc (maybe renaming_words i.namespace) (each alias_words i.aliases) tail)) in (
      i.keyword,
      plain_words i.uri ++ more,
      text,
      goes a_string i.uri more _ tt tt
          ∙ goes a_renaming i.namespace last _ p.0 (no_as_before i.aliases tail h)
          ∙ goes (listed aliases) i.aliases tail _ p.1 (tt, h.1),
    )

abbrev an_import : Worded Import (codes "import")
an_import = record { is = IsImport; words = import_words; read = r.import_; before = Behind; stands = Any; sound = import_sound; full = import_full }

-- ---- structs

member_sound : SoundAt (Stands ctx.a_member) IsStructMember struct_member_words r.struct_member
unfolding r.struct_member
member_sound doc front ts eq here =
    let R : StructMember → Words → Type 0 = Takes IsStructMember struct_member_words ts in
    next a_type R doc front ts eq [] ts _ refl (at_once (Stands ctx.a_type) front (ctx.member_type front here)) (λ t a p e.
    next a_name R doc front ts eq (type_words t) a _ e tt (λ n b q f. (f, (p, q))))

member_full : (m : StructMember) → IsStructMember m → (tail : Words) → Any tail → r.struct_member (struct_member_words m ++ tail) ≡ Ok (m, tail)
unfolding r.struct_member
member_full m p tail q =
    ap r.struct_member (append_assoc (type_words m.ty) (ident m.name ∷ []) tail)
    ∙ goes a_type m.ty (ident m.name ∷ tail) _ p.0 refl
    ∙ goes a_name m.name tail _ p.1 tt

abbrev a_member : Format StructMember
a_member = record { is = IsStructMember; words = struct_member_words; read = r.struct_member; before = Any; stands = Stands ctx.a_member; sound = member_sound; full = member_full }

member_apart : (m : StructMember) → IsStructMember m → (tail : Words) → sees mark.CloseBrace (struct_member_words m ++ tail) ≡ false
member_apart m p tail = ap (sees mark.CloseBrace) (append_assoc (type_words m.ty) (ident m.name ∷ []) tail) ∙ type_apart m.ty p.0 _

abbrev members : Parts StructMember
members = parts_until a_member mark.CloseBrace (Stands ctx.a_member) (λ front s. s) (λ x p front s. ctx.next_member front x p s) Any (λ tail h. tt) (λ m p tail. tt) member_apart (λ m p. type_some m.ty p.0 _)

abbrev braced_struct : Format (Braced StructMember)
braced_struct = in_braces members (λ c rest. (tt, until_ends mark.CloseBrace r.struct_member (marked mark.CloseBrace c ∷ rest) refl))

struct_sound : (doc front : Words) (k : Span) (ts : Words) → doc ≡ front ++ keyword (codes "struct") k ∷ ts → Stands ctx.a_section front → Says (Doc doc) (Takes IsStruct struct_words (keyword (codes "struct") k ∷ ts)) (r.struct_ k ts)
unfolding r.struct_
struct_sound doc front k ts eq here =
    let all : Words = keyword (codes "struct") k ∷ ts in
    let R : StructSection → Words → Type 0 = Takes IsStruct struct_words all in
    next a_name R doc front all eq (keyword (codes "struct") k ∷ []) ts _ refl tt (λ n a p e.
    next braced_struct R doc front all eq (keyword (codes "struct") k ∷ ident n ∷ []) a _ e
    (λ o. behind_both (Stands ctx.a_member) front (keyword (codes "struct") k ∷ ident n ∷ []) (marked mark.OpenBrace o ∷ []) (ctx.members front k n o p here)) (λ b rest q f. (f, (p, q))))

struct_full : (s : StructSection) → IsStruct s → (tail : Words) → Any tail → (k : Span) × (rest : Words) × (struct_words s ++ tail ≡ keyword (codes "struct") k ∷ rest) × (r.struct_ k rest ≡ Ok (s, tail))
unfolding r.struct_
struct_full s p tail q =
    let b : Braced StructMember = record { opening = s.opening; items = s.members; closing = s.closing } in
    (s.keyword, _, refl, goes a_name s.name (braced_struct.words b ++ tail) _ p.0 tt ∙ goes braced_struct b tail _ p.1 tt)

abbrev a_struct : Worded StructSection (codes "struct")
a_struct = record { is = IsStruct; words = struct_words; read = r.struct_; before = Any; stands = Stands ctx.a_section; sound = struct_sound; full = struct_full }

-- ---- sections

section_at_sound : SoundAt (Stands ctx.a_section) IsSection section_words r.section_at
unfolding r.section_at
section_at_sound doc front ts eq here =
    let R : Section → Words → Type 0 = Takes IsSection section_words ts in
    says_worded (codes "import") an_import section.Import R doc front ts eq tt _ (λ x rest p e. (e, p))
    (says_worded (codes "struct") a_struct section.Struct R doc front ts eq here _ (λ x rest p e. (e, p))
    (says_worded (codes "task") a_task section.Task R doc front ts eq here _ (λ x rest p e. (e, p))
    (says_worded (codes "workflow") a_workflow section.Workflow R doc front ts eq here _ (λ x rest p e. (e, p)) tt)))

section_at_full : (x : Section) → IsSection x → (tail : Words) → Behind tail → r.section_at (section_words x ++ tail) ≡ Ok (x, tail)
unfolding r.section_at found
section_at_full (section.Import s) p tail h = let b = an_import.full s p tail h in ap r.section_at b.2 ∙ then_is (an_import.read b.0 b.1) _ (s, tail) b.3
section_at_full (section.Struct s) p tail h = let b = a_struct.full s p tail tt in ap r.section_at b.2 ∙ then_is (a_struct.read b.0 b.1) _ (s, tail) b.3
section_at_full (section.Task s) p tail h = let b = a_task.full s p tail tt in ap r.section_at b.2 ∙ then_is (a_task.read b.0 b.1) _ (s, tail) b.3
section_at_full (section.Workflow s) p tail h = let b = a_workflow.full s p tail tt in ap r.section_at b.2 ∙ then_is (a_workflow.read b.0 b.1) _ (s, tail) b.3

section_sound : (doc front ts : Words) → doc ≡ front ++ ts → Stands ctx.a_section front → Says (Doc doc) (λ x rest. (ts ≡ maybe section_words x ++ rest) × IfThere IsSection x) (r.section_part ts)
unfolding r.section_part
section_sound doc front [] eq here = (refl, tt)
section_sound doc front (t ∷ ts) eq here = says_then (Doc doc) (Takes IsSection section_words (t ∷ ts)) (λ x rest. (t ∷ ts ≡ maybe section_words x ++ rest) × IfThere IsSection x) (r.section_at (t ∷ ts)) _ (section_at_sound doc front (t ∷ ts) eq here) (λ x rest a. a)

some_tokens : (ts : Words) → 0 < length ts → r.section_part ts ≡ then_ (r.section_at ts) (λ x rest. Ok (Some x, rest))
unfolding r.section_part
some_tokens [] h = absurd (omega (arith, h))
some_tokens (t ∷ ts) h = refl

section_some : (x : Section) → IsSection x → 0 < length (section_words x)
section_some (section.Import s) p = omega arith
section_some (section.Struct s) p = omega arith
section_some (section.Task s) p = omega arith
section_some (section.Workflow s) p = omega arith

section_full : (x : Section) → IsSection x → (tail : Words) → Behind tail → r.section_part (section_words x ++ tail) ≡ Ok (Some x, tail)
section_full x p tail h =
    some_tokens (section_words x ++ tail) (omega (arith, section_some x p, length-append (section_words x) tail))
    ∙ then_is (r.section_at (section_words x ++ tail)) _ (x, tail) (section_at_full x p tail h)

word_behind : (w : List ℕ) (k : Span) (rest : Words) → eat_word (codes "as") (keyword w k ∷ rest) ≡ None → eat_word (codes "alias") (keyword w k ∷ rest) ≡ None → Behind (keyword w k ∷ rest)
unfolding r.alias_at
word_behind w k rest h q = (h, found_none (eat_word (codes "alias") (keyword w k ∷ rest)) _ _ q)

section_starts : (x : Section) → IsSection x → (tail : Words) → Behind (section_words x ++ tail)
section_starts (section.Import s) p tail = word_behind (codes "import") s.keyword _ refl refl
section_starts (section.Struct s) p tail = word_behind (codes "struct") s.keyword _ refl refl
section_starts (section.Task s) p tail = word_behind (codes "task") s.keyword _ refl refl
section_starts (section.Workflow s) p tail = word_behind (codes "workflow") s.keyword _ refl refl

abbrev section_parts : Parts Section
section_parts = record { is = IsSection; words = section_words; one = r.section_part; follows = Behind; stands = Stands ctx.a_section; more = λ x p front s. ctx.next_section front x p s; sound = section_sound; full = section_full; starts = section_starts; some = section_some }

end_behind : Behind []
unfolding r.alias_at
end_behind = (refl, found_none (eat_word (codes "alias") []) _ _ refl)

no_section : r.section_part [] ≡ Ok (None, [])
unfolding r.section_part
no_section = refl

-- ---- all sections

abbrev pub AllOf : Words → List Section → Words → Type 0
AllOf ts xs rest = (ts ≡ each section_words xs) × Each IsSection xs

pub sections_sound : (doc front ts : Words) → doc ≡ front ++ ts → Stands ctx.a_section front → Says (Doc doc) (AllOf ts) (r.sections ts)
unfolding r.sections
sections_sound doc front ts eq here = next (listed section_parts) (AllOf ts) doc front ts eq [] ts _ refl (at_once (Stands ctx.a_section) front here) (λ xs rest p e. at_end xs rest p e)
  where
    at_end : (xs : List Section) (rest : Words) → Each IsSection xs → ts ≡ each section_words xs ++ rest → Says (Doc doc) (AllOf ts) (r.ended xs rest)
    at_end xs [] p e = (e ∙ append-nil (each section_words xs), p)
    at_end xs (t ∷ rest) p e = tt

pub sections_full : (xs : List Section) → Each IsSection xs → r.sections (each section_words xs) ≡ Ok (xs, [])
unfolding r.sections
sections_full xs p = ap r.sections (sym (append-nil (each section_words xs))) ∙ goes (listed section_parts) xs [] _ p (end_behind, no_section)
