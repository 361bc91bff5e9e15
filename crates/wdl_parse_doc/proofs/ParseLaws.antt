-- What the reader of documents answers, by the grammar alone.
use Rattle.std.proofs.Common.{◌≡◌, true, false, inl, inr, List, [], ◌∷◌, Ok, Err, refl, ap, sym, ◌∙◌, subst, codes}
use Rattle.wdl_base.specs.declared.span.Span.{Span}
use Rattle.wdl_ast.specs.declared.token.Kind.TheVariants as kind
use Rattle.wdl_ast.specs.declared.document.Section.{Section}
use Rattle.wdl_ast.specs.declared.document.Document.{Document}
use Rattle.wdl_ast.specs.Words.{Words, at, keyword}
use Rattle.token_reading.specs.declared.fault.Refusal.{Refusal}
use Rattle.token_reading.specs.declared.fault.Refusal.TheVariants.{Missing, Bad}
use Rattle.token_reading.specs.declared.fault.RuleStop.{RuleStop}
use Rattle.token_reading.specs.declared.fault.RuleStop.TheVariants as stop
use Rattle.token_reading.specs.declared.fault.ParseFault.{ParseFault}
use Rattle.token_reading.specs.Outcome.{Fails}
use Rattle.wdl_parse_expr.specs.Contract.{IsSpanOf, IsPlaced, IfBad, FaultOf}
use Rattle.token_reading.proofs.Steps.{same}
use Rattle.token_reading.proofs.Says.{Says, said, blamed}
use Rattle.wdl_parse_doc.specs.Context.{first}
use Rattle.wdl_parse_doc.specs.Contract.{Written, IsNoDocument, begins_version, version_span, BehindVersion, RefusesDocument, OneDocument}
use Rattle.wdl_parse_doc.specs.Reading.Documents.{sections}
use Rattle.wdl_parse_doc.proofs.Formats.{Doc}
use Rattle.wdl_parse_doc.proofs.DocumentLaws.{AllOf, sections_sound, sections_full}

abbrev document : Span → Span → List Section → Document
document v n xs = record { version = v; number = n; sections = xs }

-- what reading the sections says
behind_version : (ts : Words) (v n : Span) (rest : Words) → BehindVersion ts v n rest → Says (Doc ts) (AllOf rest) (sections rest)
behind_version ts v n rest e = sections_sound ts (keyword (codes "version") v ∷ at (kind.Frac (codes "1.1")) n ∷ []) rest e (first v n)

pub is_written : (ts : Words) (v n : Span) (rest : Words) (xs : List Section) (tail : Words) → BehindVersion ts v n rest → sections rest ≡ Ok (xs, tail) → Written ts (document v n xs)
is_written ts v n rest xs tail e h =
    let a = said (Doc ts) (AllOf rest) (sections rest) (xs, tail) (behind_version ts v n rest e) h in
    record { text = e ∙ ap (λ z. keyword (codes "version") v ∷ at (kind.Frac (codes "1.1")) n ∷ z) a.0; sound = a.1 }

-- ---- what a document begins with

behind : Words → Words
behind [] = []
behind (t ∷ []) = []
behind (t ∷ u ∷ ts) = ts

first_span : Words → Span
first_span [] = version_span []
first_span (t ∷ ts) = t.span

second_span : Words → Span
second_span [] = version_span []
second_span (t ∷ ts) = first_span ts

-- the sections of a document are read behind its version
are_read : (ts : Words) (d : Document) → Written ts d → sections (behind ts) ≡ Ok (d.sections, [])
unfolding behind
are_read ts d w = ap (λ z. sections (behind z)) w.text ∙ sections_full d.sections w.sound

pub has_version : (ts : Words) (v n : Span) (rest : Words) → BehindVersion ts v n rest → begins_version ts ≡ true
has_version ts v n rest e = ap begins_version e

no_version : (ts : Words) → begins_version ts ≡ false → IsNoDocument ts
no_version ts h d w = let n : true ≡ false = sym (ap begins_version w.text) ∙ h in let z : ⊥ = cc in z

unread : (ts : Words) (v n : Span) (rest : Words) (f : Refusal) → BehindVersion ts v n rest → sections rest ≡ Err f → IsNoDocument ts
unfolding behind
unread ts v n rest f e h d w = let q = sym h ∙ ap (λ z. sections (behind z)) (sym e) ∙ are_read ts d w in let z : ⊥ = cc in z

-- ---- refusals

pub versionless : (ts : Words) (s : Span) → begins_version ts ≡ false → s ≡ version_span ts → RefusesDocument ts 112 s
versionless ts s h q = (no_version ts h, inl (h, refl, q))

placed : (ts : Words) (v n : Span) (rest : Words) (s : Span) → BehindVersion ts v n rest → IsPlaced ts s → IsSpanOf ts s
placed ts v n rest s e (inl empty) = (let q = sym e ∙ empty in let z : ⊥ = cc in absurd z)
placed ts v n rest s e (inr at) = at

pub refused : (ts : Words) (v n : Span) (rest : Words) → BehindVersion ts v n rest → (s : RuleStop) (f : ParseFault) → FaultOf ts s f → Fails (sections rest) s → IfBad {A = Document} (RefusesDocument ts) (Err f)
refused ts v n rest e stop.NoMemory f q h = subst (λ z. IfBad {A = Document} (RefusesDocument ts) (Err z)) (sym q) tt
refused ts v n rest e (stop.Refused Missing) f q h =
    subst (λ z. IfBad {A = Document} (RefusesDocument ts) (Err z)) (sym q.1) (unread ts v n rest Missing e h, inr (has_version ts v n rest e, inl (refl, placed ts v n rest q.0 e q.2)))
refused ts v n rest e (stop.Refused (Bad b)) f q h =
    subst (λ z. IfBad {A = Document} (RefusesDocument ts) (Err z)) (sym q)
    (unread ts v n rest (Bad b) e h, inr (has_version ts v n rest e, inr (blamed (Doc ts) (AllOf rest) (sections rest) b (behind_version ts v n rest e) h)))

-- ---- at most one document

pub one_document : OneDocument
unfolding first_span second_span
one_document ts d e w u =
    let s = same (d.sections, []) (e.sections, []) (sym (are_read ts d w) ∙ are_read ts e u) in
    let first : d.version ≡ e.version = ap first_span (sym w.text ∙ u.text) in
    let second : d.number ≡ e.number = ap second_span (sym w.text ∙ u.text) in
    ap (λ z. document z d.number d.sections) first ∙ ap (λ z. document e.version z d.sections) second ∙ ap (λ z. document e.version e.number z) s.0
