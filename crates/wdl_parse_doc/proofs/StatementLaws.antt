-- Heads of blocks, and statements without a body, read and written.
use Rattle.std.proofs.Common.{◌≡◌, ℕ, ◌<◌, false, List, [], ◌∷◌, ◌++◌, length, Option, Some, None, Ok, refl, ap, sym, ◌∙◌, subst, append_assoc, codes}
use Rattle.wdl_base.specs.declared.span.Span.{Span}
use Rattle.wdl_ast.specs.declared.token.Mark.TheVariants as mark
use Rattle.wdl_ast.specs.declared.section.Declaration.{Declaration}
use Rattle.wdl_ast.specs.declared.workflow.Call.{Call}
use Rattle.wdl_ast.specs.declared.workflow.Statement.{Statement}
use Rattle.wdl_ast.specs.declared.workflow.Statement.TheVariants as st
use Rattle.wdl_ast.specs.Words.{Words, marked, keyword, ident, words, type_words}
use Rattle.wdl_ast.specs.DocumentWords.{each, maybe, declaration_words, statement_words}
use Rattle.wdl_ast.proofs.StatementLaws.{words_declaration, words_call, words_scatter, words_conditional}
use Rattle.token_reading.specs.Outcome.{Outcome, is_mark, sees, eat, eat_word}
use Rattle.token_reading.proofs.Steps.{ate_word, then_is, found_some, found_none, cond_false}
use Rattle.token_reading.proofs.Says.{Says, Takes, says_then, says_found}
use Rattle.wdl_parse_parts.specs.declared.heads.ScatterHead.{ScatterHead}
use Rattle.wdl_parse_parts.specs.declared.heads.ConditionalHead.{ConditionalHead}
use Rattle.wdl_parse_parts.specs.declared.heads.BlockHead.{BlockHead}
use Rattle.wdl_parse_parts.specs.declared.heads.BlockHead.TheVariants as head
use Rattle.wdl_parse_doc.specs.Context as ctx
use Rattle.wdl_parse_doc.specs.Context.{Stands}
use Rattle.wdl_parse_doc.specs.Grammar as g
use Rattle.wdl_parse_parts.specs.Grammar.{IfThere, IsIdent, IsDeclaration}
use Rattle.wdl_parse_doc.specs.Grammar.{IsCall, AreStatements, IsStatement}
use Rattle.wdl_parse_doc.specs.Reading.Blocks as r
use Rattle.wdl_parse_parts.specs.Reading.Heads as heads
use Rattle.wdl_parse_parts.specs.Reading.Heads.{closed, there}
use Rattle.wdl_parse_expr.specs.Grammar.{IsExpr}
use Rattle.wdl_parse_doc.proofs.Formats.{Doc, SoundAt, starts_some, next, at_once, goes, says_worded}
use Rattle.wdl_parse_doc.proofs.Leaves.{a_mark, a_word, a_name, an_expr}
use Rattle.wdl_parse_doc.proofs.Follows.{begins_type, no_call, no_scatter, no_if, type_word, type_some}
use Rattle.wdl_parse_doc.proofs.SectionLaws.{a_declaration, declaration_apart}
use Rattle.wdl_parse_doc.proofs.CallLaws.{Quiet, a_call, declaration_quiet, word_quiet}

-- ---- heads

abbrev pub head_words : BlockHead → Words
head_words (head.Scatter h) = keyword (codes "scatter") h.keyword ∷ marked mark.OpenParen h.opening_paren ∷ ident h.item ∷ keyword (codes "in") h.in_word
    ∷ (words h.over ++ marked mark.CloseParen h.closing_paren ∷ marked mark.OpenBrace h.opening ∷ [])
head_words (head.Conditional h) = keyword (codes "if") h.keyword ∷ marked mark.OpenParen h.opening_paren
    ∷ (words h.condition ++ marked mark.CloseParen h.closing_paren ∷ marked mark.OpenBrace h.opening ∷ [])

abbrev pub IsHead : BlockHead → Type 0
IsHead (head.Scatter h) = IsIdent h.item × IsExpr h.over
IsHead (head.Conditional h) = IsExpr h.condition

scatter_sound : (doc front : Words) (k : Span) (ts : Words) → doc ≡ front ++ keyword (codes "scatter") k ∷ ts → Stands ctx.a_statement front → Says (Doc doc) (Takes IsHead head_words (keyword (codes "scatter") k ∷ ts)) (heads.scatter_head k ts)
unfolding heads.scatter_head
scatter_sound doc front k ts eq here =
    let all : Words = keyword (codes "scatter") k ∷ ts in
    let R : BlockHead → Words → Type 0 = Takes IsHead head_words all in
    next (a_mark mark.OpenParen refl) R doc front all eq (keyword (codes "scatter") k ∷ []) ts _ refl tt (λ p a _ t1.
    next a_name R doc front all eq (keyword (codes "scatter") k ∷ marked mark.OpenParen p ∷ []) a _ t1 tt (λ n b named t2.
    next (a_word (codes "in")) R doc front all eq (keyword (codes "scatter") k ∷ marked mark.OpenParen p ∷ ident n ∷ []) b _ t2 tt (λ i c _ t3.
    next an_expr R doc front all eq (keyword (codes "scatter") k ∷ marked mark.OpenParen p ∷ ident n ∷ keyword (codes "in") i ∷ []) c _ t3 (ctx.collection front k p n i named here) (λ x d over t4.
    next (a_mark mark.CloseParen refl) R doc front all eq (keyword (codes "scatter") k ∷ marked mark.OpenParen p ∷ ident n ∷ keyword (codes "in") i ∷ words x) d _ t4 tt (λ q y _ t5.
    next (a_mark mark.OpenBrace refl) R doc front all eq ((keyword (codes "scatter") k ∷ marked mark.OpenParen p ∷ ident n ∷ keyword (codes "in") i ∷ words x) ++ marked mark.CloseParen q ∷ []) y _ t5 tt (λ o z _ t6.
    (t6 ∙ simp append_assoc, (named, over))))))))

conditional_sound : (doc front : Words) (k : Span) (ts : Words) → doc ≡ front ++ keyword (codes "if") k ∷ ts → Stands ctx.a_statement front → Says (Doc doc) (Takes IsHead head_words (keyword (codes "if") k ∷ ts)) (heads.conditional_head k ts)
unfolding heads.conditional_head
conditional_sound doc front k ts eq here =
    let all : Words = keyword (codes "if") k ∷ ts in
    let R : BlockHead → Words → Type 0 = Takes IsHead head_words all in
    next (a_mark mark.OpenParen refl) R doc front all eq (keyword (codes "if") k ∷ []) ts _ refl tt (λ p a _ t1.
    next an_expr R doc front all eq (keyword (codes "if") k ∷ marked mark.OpenParen p ∷ []) a _ t1 (ctx.condition front k p here) (λ x d condition t4.
    next (a_mark mark.CloseParen refl) R doc front all eq (keyword (codes "if") k ∷ marked mark.OpenParen p ∷ words x) d _ t4 tt (λ q y _ t5.
    next (a_mark mark.OpenBrace refl) R doc front all eq ((keyword (codes "if") k ∷ marked mark.OpenParen p ∷ words x) ++ marked mark.CloseParen q ∷ []) y _ t5 tt (λ o z _ t6.
    (t6 ∙ simp append_assoc, condition)))))

abbrev pub HeadOf : Words → Option BlockHead → Words → Type 0
HeadOf ts x rest = (ts ≡ maybe head_words x ++ rest) × IfThere IsHead x

there_says : (doc ts rest : Words) (o : Outcome BlockHead) → Says (Doc doc) (Takes IsHead head_words ts) o → Says (Doc doc) (HeadOf ts) (there o)
there_says doc ts rest o s = says_then (Doc doc) (Takes IsHead head_words ts) (HeadOf ts) o _ s (λ x r t. t)

pub head_sound : (doc front ts : Words) → doc ≡ front ++ ts → Stands ctx.a_statement front → Says (Doc doc) (HeadOf ts) (heads.head_at ts)
unfolding heads.head_at
head_sound doc front ts eq here =
    says_found (Doc doc) (HeadOf ts) (eat_word (codes "scatter") ts) _ _ (λ k h. there_says doc ts k.1 (heads.scatter_head k.0 k.1) (subst (λ z. Says (Doc doc) (Takes IsHead head_words z) (heads.scatter_head k.0 k.1)) (sym (ate_word (codes "scatter") ts k h)) (scatter_sound doc front k.0 k.1 (eq ∙ ap (λ z. front ++ z) (ate_word (codes "scatter") ts k h)) here))) (λ _.
    says_found (Doc doc) (HeadOf ts) (eat_word (codes "if") ts) _ _ (λ k h. there_says doc ts k.1 (heads.conditional_head k.0 k.1) (subst (λ z. Says (Doc doc) (Takes IsHead head_words z) (heads.conditional_head k.0 k.1)) (sym (ate_word (codes "if") ts k h)) (conditional_sound doc front k.0 k.1 (eq ∙ ap (λ z. front ++ z) (ate_word (codes "if") ts k h)) here))) (λ _.
    (refl, tt)))

scatter_full : (h : ScatterHead) → IsIdent h.item → IsExpr h.over → (tail : Words)
    → heads.scatter_head h.keyword (marked mark.OpenParen h.opening_paren ∷ ident h.item ∷ keyword (codes "in") h.in_word ∷ (words h.over ++ marked mark.CloseParen h.closing_paren ∷ marked mark.OpenBrace h.opening ∷ tail)) ≡ Ok (head.Scatter h, tail)
unfolding heads.scatter_head
scatter_full h named over tail =
    let last : Words = marked mark.CloseParen h.closing_paren ∷ marked mark.OpenBrace h.opening ∷ tail in
    goes (a_mark mark.OpenParen refl) h.opening_paren (ident h.item ∷ keyword (codes "in") h.in_word ∷ (words h.over ++ last)) _ tt tt
    ∙ goes a_name h.item (keyword (codes "in") h.in_word ∷ (words h.over ++ last)) _ named tt
    ∙ goes (a_word (codes "in")) h.in_word (words h.over ++ last) _ tt tt
    ∙ goes an_expr h.over last _ over refl
    ∙ goes (a_mark mark.CloseParen refl) h.closing_paren (marked mark.OpenBrace h.opening ∷ tail) _ tt tt
    ∙ goes (a_mark mark.OpenBrace refl) h.opening tail _ tt tt

conditional_full : (h : ConditionalHead) → IsExpr h.condition → (tail : Words)
    → heads.conditional_head h.keyword (marked mark.OpenParen h.opening_paren ∷ (words h.condition ++ marked mark.CloseParen h.closing_paren ∷ marked mark.OpenBrace h.opening ∷ tail)) ≡ Ok (head.Conditional h, tail)
unfolding heads.conditional_head
conditional_full h condition tail =
    let last : Words = marked mark.CloseParen h.closing_paren ∷ marked mark.OpenBrace h.opening ∷ tail in
    goes (a_mark mark.OpenParen refl) h.opening_paren (words h.condition ++ last) _ tt tt
    ∙ goes an_expr h.condition last _ condition refl
    ∙ goes (a_mark mark.CloseParen refl) h.closing_paren (marked mark.OpenBrace h.opening ∷ tail) _ tt tt
    ∙ goes (a_mark mark.OpenBrace refl) h.opening tail _ tt tt

pub head_full : (h : BlockHead) → IsHead h → (tail : Words) → heads.head_at (head_words h ++ tail) ≡ Ok (Some h, tail)
unfolding heads.head_at
head_full (head.Scatter h) p tail =
    let rest : Words = marked mark.OpenParen h.opening_paren ∷ ident h.item ∷ keyword (codes "in") h.in_word ∷ (words h.over ++ marked mark.CloseParen h.closing_paren ∷ marked mark.OpenBrace h.opening ∷ tail) in
    let text : head_words (head.Scatter h) ++ tail ≡ keyword (codes "scatter") h.keyword ∷ rest = simp append_assoc in
    ap heads.head_at text
    ∙ found_some (eat_word (codes "scatter") (keyword (codes "scatter") h.keyword ∷ rest)) _ _ (h.keyword, rest) refl
    ∙ then_is (heads.scatter_head h.keyword rest) _ (head.Scatter h, tail) (scatter_full h p.0 p.1 tail)
head_full (head.Conditional h) p tail =
    let rest : Words = marked mark.OpenParen h.opening_paren ∷ (words h.condition ++ marked mark.CloseParen h.closing_paren ∷ marked mark.OpenBrace h.opening ∷ tail) in
    let text : head_words (head.Conditional h) ++ tail ≡ keyword (codes "if") h.keyword ∷ rest = simp append_assoc in
    ap heads.head_at text
    ∙ found_none (eat_word (codes "scatter") (keyword (codes "if") h.keyword ∷ rest)) _ _ refl
    ∙ found_some (eat_word (codes "if") (keyword (codes "if") h.keyword ∷ rest)) _ _ (h.keyword, rest) refl
    ∙ then_is (heads.conditional_head h.keyword rest) _ (head.Conditional h, tail) (conditional_full h p tail)

pub no_head : (ts : Words) → eat_word (codes "scatter") ts ≡ None → eat_word (codes "if") ts ≡ None → heads.head_at ts ≡ Ok (None, ts)
unfolding heads.head_at
no_head ts h q = found_none (eat_word (codes "scatter") ts) _ _ h ∙ found_none (eat_word (codes "if") ts) _ _ q

-- ---- the block of a head

pub closed_words : (h : BlockHead) (xs : List Statement) (c : Span) → statement_words (closed h xs c) ≡ head_words h ++ (each statement_words xs ++ marked mark.CloseBrace c ∷ [])
closed_words (head.Scatter h) xs c = words_scatter _ ∙ sym (simp append_assoc)
closed_words (head.Conditional h) xs c = words_conditional _ ∙ sym (simp append_assoc)

pub closed_is : (h : BlockHead) (xs : List Statement) (c : Span) (more : List Statement) → IsHead h → AreStatements xs → AreStatements more → AreStatements (closed h xs c ∷ more)
closed_is (head.Scatter h) xs c more p q s = g.scatter _ more p.0 p.1 q s
closed_is (head.Conditional h) xs c more p q s = g.conditional _ more p q s

pub head_stands : (front : Words) (h : BlockHead) → IsHead h → Stands ctx.a_statement front → Stands ctx.a_statement (front ++ head_words h)
head_stands front (head.Scatter h) p here = ctx.scatter_body front h.keyword h.opening_paren h.item h.in_word h.over h.closing_paren h.opening p.0 p.1 here
head_stands front (head.Conditional h) p here = ctx.if_body front h.keyword h.opening_paren h.condition h.closing_paren h.opening p here

-- behind one statement, and more
one_stands : (s : Statement) (more : List Statement) → IsStatement s → ((front : Words) → Stands ctx.a_statement front → Stands ctx.a_statement (front ++ each statement_words more)) → (front : Words) → Stands ctx.a_statement front
    → Stands ctx.a_statement (front ++ (statement_words s ++ each statement_words more))
one_stands s more p rest front here = subst (Stands ctx.a_statement) (append_assoc front (statement_words s) (each statement_words more)) (rest (front ++ statement_words s) (ctx.next_statement front s p here))

pub each_stands : (xs : List Statement) → AreStatements xs → (front : Words) → Stands ctx.a_statement front → Stands ctx.a_statement (front ++ each statement_words xs)
each_stands xs g.none front here = at_once (Stands ctx.a_statement) front here
each_stands xs (g.declaration d more p m) front here = one_stands (st.Declaration d) more (g.declaration d [] p g.none) (each_stands more m) front here
each_stands xs (g.call c more p m) front here = one_stands (st.Call c) more (g.call c [] p g.none) (each_stands more m) front here
each_stands xs (g.scatter s more p x b m) front here = one_stands (st.Scatter s) more (g.scatter s [] p x b g.none) (each_stands more m) front here
each_stands xs (g.conditional s more x b m) front here = one_stands (st.Conditional s) more (g.conditional s [] x b g.none) (each_stands more m) front here

-- ---- calls and declarations as statements

pub simple_sound : SoundAt (Stands ctx.a_statement) IsStatement statement_words r.simple
unfolding r.simple
simple_sound doc front ts eq here =
    let R : Statement → Words → Type 0 = Takes IsStatement statement_words ts in
    says_worded (codes "call") a_call st.Call R doc front ts eq here _ (λ c rest p e. (e ∙ ap (λ z. z ++ rest) (sym (words_call c)), g.call c [] p g.none))
    (next a_declaration R doc front ts eq [] ts _ refl (at_once (Stands ctx.a_declaration) front (ctx.statement_declaration front here)) (λ d rest p e. (e ∙ ap (λ z. z ++ rest) (sym (words_declaration d)), g.declaration d [] p g.none)))

-- a statement that is read at once
pub record Simple (s : Statement) (tail : Words) : Type 0 where
  pub read : r.simple (statement_words s ++ tail) ≡ Ok (s, tail)
  pub headless : heads.head_at (statement_words s ++ tail) ≡ Ok (None, statement_words s ++ tail)
  pub goes_on : eat mark.CloseBrace (statement_words s ++ tail) ≡ None
  pub some : 0 < length (statement_words s)

-- no closing brace is the first token
not_closing : (ts : Words) → sees mark.CloseBrace ts ≡ false → eat mark.CloseBrace ts ≡ None
not_closing [] h = refl
not_closing (t ∷ ts) h = cond_false (is_mark mark.CloseBrace t.kind) _ _ h

pub call_simple : (c : Call) → IsCall c → (tail : Words) → Quiet tail → Simple (st.Call c) tail
unfolding r.simple heads.head_at
call_simple c p tail h =
    let b = a_call.full c p tail h in
    let text : statement_words (st.Call c) ++ tail ≡ keyword (codes "call") b.0 ∷ b.1 = ap (λ z. z ++ tail) (words_call c) ∙ b.2 in
    record {
      read = ap r.simple text ∙ found_some (eat_word (codes "call") (keyword (codes "call") b.0 ∷ b.1)) _ _ (b.0, b.1) refl ∙ then_is (a_call.read b.0 b.1) _ (c, tail) b.3;
      headless = subst (λ z. heads.head_at z ≡ Ok (None, z)) (sym text) (no_head (keyword (codes "call") b.0 ∷ b.1) refl refl);
      goes_on = ap (eat mark.CloseBrace) text;
      some = starts_some _ _ _ (words_call c);
    }

pub declaration_simple : (d : Declaration) → IsDeclaration d → (tail : Words) → Quiet tail → Simple (st.Declaration d) tail
unfolding r.simple
declaration_simple d p tail h =
    let text : statement_words (st.Declaration d) ++ tail ≡ declaration_words d ++ tail = ap (λ z. z ++ tail) (words_declaration d) in
    let none : (w : List ℕ) → begins_type w ≡ false → eat_word w (declaration_words d ++ tail) ≡ None = λ w q. ap (eat_word w) (append_assoc (type_words d.ty) (ident d.name ∷ marked mark.Assign d.assign ∷ words d.value) tail) ∙ type_word w q d.ty p.0 _ in
    record {
      read = ap r.simple text ∙ found_none (eat_word (codes "call") (declaration_words d ++ tail)) _ _ (none (codes "call") no_call) ∙ goes a_declaration d tail _ p h.settles;
      headless = subst (λ z. heads.head_at z ≡ Ok (None, z)) (sym text) (no_head (declaration_words d ++ tail) (none (codes "scatter") no_scatter) (none (codes "if") no_if));
      goes_on = ap (eat mark.CloseBrace) text ∙ not_closing (declaration_words d ++ tail) (declaration_apart d p tail);
      some = subst (λ z. 0 < length z) (sym (words_declaration d)) (type_some d.ty p.0 _);
    }

-- ---- how statements begin

head_quiet : (h : BlockHead) (rest : Words) → Quiet (head_words h ++ rest)
head_quiet (head.Scatter h) rest = word_quiet (codes "scatter") h.keyword _ refl refl
head_quiet (head.Conditional h) rest = word_quiet (codes "if") h.keyword _ refl refl

closed_quiet : (h : BlockHead) (xs : List Statement) (c : Span) (tail : Words) → Quiet (statement_words (closed h xs c) ++ tail)
closed_quiet h xs c tail = subst Quiet (sym (ap (λ z. z ++ tail) (closed_words h xs c) ∙ append_assoc (head_words h) (each statement_words xs ++ marked mark.CloseBrace c ∷ []) tail)) (head_quiet h _)

call_quiet : (c : Call) (tail : Words) → Quiet (statement_words (st.Call c) ++ tail)
call_quiet c tail = subst Quiet (sym (ap (λ z. z ++ tail) (words_call c))) (word_quiet (codes "call") c.keyword _ refl refl)

pub statement_quiet : (s : Statement) → IsStatement s → (tail : Words) → Quiet (statement_words s ++ tail)
statement_quiet s (g.declaration d more p m) tail = subst Quiet (sym (ap (λ z. z ++ tail) (words_declaration d))) (declaration_quiet d p tail)
statement_quiet s (g.call c more p m) tail = call_quiet c tail
statement_quiet s (g.scatter x more p e b m) tail =
    closed_quiet (head.Scatter (record { keyword = x.keyword; opening_paren = x.opening_paren; item = x.item; in_word = x.in_word; over = x.over; closing_paren = x.closing_paren; opening = x.opening })) x.body x.closing tail
statement_quiet s (g.conditional x more e b m) tail =
    closed_quiet (head.Conditional (record { keyword = x.keyword; opening_paren = x.opening_paren; condition = x.condition; closing_paren = x.closing_paren; opening = x.opening })) x.body x.closing tail

-- the first of some statements, before the others
first_quiet : (s : Statement) (more : List Statement) → IsStatement s → (tail : Words) → Quiet (each statement_words (s ∷ more) ++ tail)
first_quiet s more p tail = subst Quiet (sym (append_assoc (statement_words s) (each statement_words more) tail)) (statement_quiet s p (each statement_words more ++ tail))

pub statements_quiet : (xs : List Statement) → AreStatements xs → (tail : Words) → Quiet tail → Quiet (each statement_words xs ++ tail)
statements_quiet xs g.none tail h = h
statements_quiet xs (g.declaration d more p m) tail h = first_quiet (st.Declaration d) more (g.declaration d [] p g.none) tail
statements_quiet xs (g.call c more p m) tail h = first_quiet (st.Call c) more (g.call c [] p g.none) tail
statements_quiet xs (g.scatter s more p e b m) tail h = first_quiet (st.Scatter s) more (g.scatter s [] p e b g.none) tail
statements_quiet xs (g.conditional s more e b m) tail h = first_quiet (st.Conditional s) more (g.conditional s [] e b g.none) tail
