-- Calls, read and written.
use Rattle.std.proofs.Common.{◌≡◌, ℕ, Bool, true, false, List, [], ◌∷◌, ◌++◌, Option, Some, None, Ok, refl, ap, sym, ◌∙◌, subst, append_assoc, arith, codes}
use Rattle.std.specs.Str.{bytes_eq}
use Rattle.wdl_base.specs.declared.span.Span.{Span}
use Rattle.wdl_ast.specs.declared.token.Mark.TheVariants as mark
use Rattle.wdl_ast.specs.declared.token.Kind.TheVariants as kind
use Rattle.wdl_ast.specs.declared.leaf.Ident.{Ident}
use Rattle.wdl_ast.specs.declared.leaf.ListItem.{ListItem}
use Rattle.wdl_ast.specs.declared.type_tree.BaseType.{BaseType}
use Rattle.wdl_ast.specs.declared.type_tree.TypeTree.{TypeTree}
use Rattle.wdl_ast.specs.declared.section.Declaration.{Declaration}
use Rattle.wdl_ast.specs.declared.workflow.CallTarget.{CallTarget}
use Rattle.wdl_ast.specs.declared.workflow.TargetMember.{TargetMember}
use Rattle.wdl_ast.specs.declared.workflow.Renaming.{Renaming}
use Rattle.wdl_ast.specs.declared.workflow.After.{After}
use Rattle.wdl_ast.specs.declared.workflow.Argument.{Argument}
use Rattle.wdl_ast.specs.declared.workflow.CallInputs.{CallInputs}
use Rattle.wdl_ast.specs.declared.workflow.CallBody.{CallBody}
use Rattle.wdl_ast.specs.declared.workflow.Call.{Call}
use Rattle.wdl_ast.specs.Words.{Words, marked, keyword, ident, words, questions_words, base_words, type_words}
use Rattle.wdl_ast.specs.DocumentWords.{each, maybe, assigned_words, declaration_words, renaming_words, target_member_words, target_words, after_words, argument_words, call_inputs_words, call_body_words, call_words}
use Rattle.wdl_ast.proofs.WordLaws.{words_type}
use Rattle.token_reading.specs.Outcome.{found, is_word, sees, eat, eat_word, ident_at}
use Rattle.token_reading.specs.TypeGrammar as types
use Rattle.token_reading.specs.TypeGrammar.{type_tree, IsBase, IsTypeOver, TypeWithin}
use Rattle.token_reading.proofs.Steps.{ate, ate_word, ate_ident, sees_ident, found_some, found_none, cond_true, cond_false}
use Rattle.token_reading.proofs.Says.{Says, Takes, says_found, says_cond}
use Rattle.wdl_parse_doc.specs.Context as ctx
use Rattle.wdl_parse_doc.specs.Context.{Stands, an_expression}
use Rattle.wdl_parse_parts.specs.Grammar.{Each, IfThere, commas_fit, IsIdent, IsDeclaration}
use Rattle.wdl_parse_doc.specs.Grammar.{IsTarget, IsTargetMember, IsRenaming, IsAfter, IsArgument, IsCallInputs, IsCallBody, IsCall}
use Rattle.wdl_parse_parts.specs.Reading.Parts.{item}
use Rattle.wdl_parse_doc.specs.Reading.Calls as r
use Rattle.wdl_parse_doc.proofs.Formats.{Doc, SoundAt, Format, Worded, Parts, next, behind_both, goes, listed, parts_until, until_ends}
use Rattle.wdl_parse_doc.proofs.Leaves.{Any, a_mark, a_name, an_item}
use Rattle.wdl_parse_doc.proofs.Follows.{Settled, settled_eat, settled_sees, settled_comma, no_as, type_word}
use Rattle.wdl_parse_doc.proofs.MetaLaws.{items_each}
use Rattle.wdl_parse_doc.proofs.SectionLaws.{an_assigned, Unassigned, comma_unassigned, declaration_follows}

-- ---- what may stand behind a statement

pub record Quiet (ts : Words) : Type 0 where
  pub settles : Settled ts
  pub no_as : eat_word (codes "as") ts ≡ None
  pub no_after : r.after_at ts ≡ Ok (None, ts)

-- ---- targets and new names

member_sound : SoundAt Any (IfThere IsTargetMember) (maybe target_member_words) r.target_member
unfolding r.target_member
member_sound doc front ts eq here =
    let R : Option TargetMember → Words → Type 0 = Takes (IfThere IsTargetMember) (maybe target_member_words) ts in
    says_found (Doc doc) R (eat mark.Dot ts) _ _ (λ d h. next a_name R doc front ts eq (marked mark.Dot d.0 ∷ []) d.1 _ (ate mark.Dot ts d h) tt (λ n a p e. (e, p))) (λ _. (refl, tt))

member_full : (m : Option TargetMember) → IfThere IsTargetMember m → (tail : Words) → eat mark.Dot tail ≡ None → r.target_member (maybe target_member_words m ++ tail) ≡ Ok (m, tail)
unfolding r.target_member
member_full None p tail h = found_none (eat mark.Dot tail) _ _ h
member_full (Some m) p tail h = found_some (eat mark.Dot (marked mark.Dot m.dot ∷ ident m.name ∷ tail)) _ _ (m.dot, ident m.name ∷ tail) refl ∙ goes a_name m.name tail _ p tt

abbrev a_member : Format (Option TargetMember)
a_member = record { is = IfThere IsTargetMember; words = maybe target_member_words; read = r.target_member; before = λ tail. eat mark.Dot tail ≡ None; stands = Any; sound = member_sound; full = member_full }

target_sound : SoundAt Any IsTarget target_words r.target
unfolding r.target
target_sound doc front ts eq here =
    let R : CallTarget → Words → Type 0 = Takes IsTarget target_words ts in
    next a_name R doc front ts eq [] ts _ refl tt (λ n a p e.
    next a_member R doc front ts eq (ident n ∷ []) a _ e tt (λ m b q f. (f, (p, q))))

target_full : (t : CallTarget) → IsTarget t → (tail : Words) → eat mark.Dot tail ≡ None → r.target (target_words t ++ tail) ≡ Ok (t, tail)
unfolding r.target
target_full t p tail h = goes a_name t.first (maybe target_member_words t.second ++ tail) _ p.0 tt ∙ goes a_member t.second tail _ p.1 h

abbrev a_target : Format CallTarget
a_target = record { is = IsTarget; words = target_words; read = r.target; before = λ tail. eat mark.Dot tail ≡ None; stands = Any; sound = target_sound; full = target_full }

pub renaming_sound : SoundAt Any (IfThere IsRenaming) (maybe renaming_words) r.renaming
unfolding r.renaming
renaming_sound doc front ts eq here =
    let R : Option Renaming → Words → Type 0 = Takes (IfThere IsRenaming) (maybe renaming_words) ts in
    says_found (Doc doc) R (eat_word (codes "as") ts) _ _ (λ s h. next a_name R doc front ts eq (keyword (codes "as") s.0 ∷ []) s.1 _ (ate_word (codes "as") ts s h) tt (λ n a p e. (e, p))) (λ _. (refl, tt))

pub renaming_full : (m : Option Renaming) → IfThere IsRenaming m → (tail : Words) → eat_word (codes "as") tail ≡ None → r.renaming (maybe renaming_words m ++ tail) ≡ Ok (m, tail)
unfolding r.renaming
renaming_full None p tail h = found_none (eat_word (codes "as") tail) _ _ h
renaming_full (Some m) p tail h = found_some (eat_word (codes "as") (keyword (codes "as") m.as_word ∷ ident m.name ∷ tail)) _ _ (m.as_word, ident m.name ∷ tail) refl ∙ goes a_name m.name tail _ p tt

abbrev pub a_renaming : Format (Option Renaming)
a_renaming = record { is = IfThere IsRenaming; words = maybe renaming_words; read = r.renaming; before = λ tail. eat_word (codes "as") tail ≡ None; stands = Any; sound = renaming_sound; full = renaming_full }

-- ---- calls that have to come first

abbrev AfterOf : Words → Option After → Words → Type 0
AfterOf ts x rest = (ts ≡ maybe after_words x ++ rest) × IfThere IsAfter x

after_sound : (doc front ts : Words) → doc ≡ front ++ ts → Any front → Says (Doc doc) (AfterOf ts) (r.after_at ts)
unfolding r.after_at
after_sound doc front ts eq here =
    says_found (Doc doc) (AfterOf ts) (eat_word (codes "after") ts) _ _
    (λ s h. says_found (Doc doc) (AfterOf ts) (ident_at s.1) _ _
    (λ n q. let named = ate_ident s.1 n q in
    says_cond (Doc doc) (AfterOf ts) (sees mark.Assign n.1) _ _ (λ _. (refl, tt)) (λ _. (ate_word (codes "after") ts s h ∙ ap (λ z. keyword (codes "after") s.0 ∷ z) named.0, named.1)))
    (λ _. (refl, tt)))
    (λ _. (refl, tt))

-- behind the name stands no `=`
abbrev Bare : Words → Type 0
Bare tail = sees mark.Assign tail ≡ false

after_full : (a : After) → IsAfter a → (tail : Words) → Bare tail → r.after_at (after_words a ++ tail) ≡ Ok (Some a, tail)
unfolding r.after_at
after_full a p tail h =
    found_some (eat_word (codes "after") (keyword (codes "after") a.keyword ∷ ident a.name ∷ tail)) _ _ (a.keyword, ident a.name ∷ tail) refl
    ∙ found_some (ident_at (ident a.name ∷ tail)) _ _ (a.name, tail) (sees_ident a.name tail p)
    ∙ cond_false (sees mark.Assign tail) _ _ h

abbrev afters : Parts After
afters = record { is = IsAfter; words = after_words; one = r.after_at; follows = Bare; stands = Any; more = λ a p front s. tt; sound = after_sound; full = after_full; starts = λ a p tail. refl; some = λ a p. omega arith }

-- ---- arguments

argument_sound : SoundAt (Stands ctx.an_argument) IsArgument argument_words r.argument
unfolding r.argument
argument_sound doc front ts eq here =
    let R : Argument → Words → Type 0 = Takes IsArgument argument_words ts in
    next a_name R doc front ts eq [] ts _ refl tt (λ n a p e.
    next an_assigned R doc front ts eq (ident n ∷ []) a _ e (λ s. behind_both (Stands an_expression) front (ident n ∷ []) (marked mark.Assign s ∷ []) (ctx.argument_value front n s p here)) (λ v b q f. (f, (p, q))))

argument_full : (a : Argument) → IsArgument a → (tail : Words) → Unassigned tail → r.argument (argument_words a ++ tail) ≡ Ok (a, tail)
unfolding r.argument
argument_full a p tail h = goes a_name a.name (maybe assigned_words a.value ++ tail) _ p.0 tt ∙ goes an_assigned a.value tail _ p.1 h

abbrev an_argument : Format Argument
an_argument = record { is = IsArgument; words = argument_words; read = r.argument; before = Unassigned; stands = Stands ctx.an_argument; sound = argument_sound; full = argument_full }

abbrev arguments : Parts (ListItem Argument)
arguments = parts_until (an_item an_argument Settled settled_comma comma_unassigned) mark.CloseBrace (Stands ctx.an_argument) (λ front s. s) (λ x p front s. ctx.next_argument front x p s) Settled (λ tail h. h) (λ x p tail. refl) (λ x p tail. refl) (λ x p. omega arith)

-- before the end of a call
abbrev EndsBody : Words → Type 0
EndsBody tail = (c : Span) × (rest : Words) × (tail ≡ marked mark.CloseBrace c ∷ rest)

-- behind `input:` an argument stands
abbrev InputsStand : Words → Type 0
InputsStand front = (i c : Span) → Stands ctx.an_argument (front ++ keyword (codes "input") i ∷ marked mark.Colon c ∷ [])

inputs_sound : SoundAt InputsStand (IfThere IsCallInputs) (maybe call_inputs_words) r.call_inputs
unfolding r.call_inputs
inputs_sound doc front ts eq here =
    let R : Option CallInputs → Words → Type 0 = Takes (IfThere IsCallInputs) (maybe call_inputs_words) ts in
    says_found (Doc doc) R (eat_word (codes "input") ts) _ _ (λ k h.
    next (a_mark mark.Colon refl) R doc front ts eq (keyword (codes "input") k.0 ∷ []) k.1 _ (ate_word (codes "input") ts k h) tt (λ c a p e.
    next (listed arguments) R doc front ts eq (keyword (codes "input") k.0 ∷ marked mark.Colon c ∷ []) a _ e (here k.0 c) (λ xs b q f.
    says_cond (Doc doc) R (commas_fit xs) _ _
    (λ fits. (f ∙ ap (λ z. keyword (codes "input") k.0 ∷ marked mark.Colon c ∷ (z ++ b)) (sym (items_each argument_words xs)), (q, fits)))
    (λ _. tt))))
    (λ _. (refl, tt))

inputs_at : (i : CallInputs) → IsCallInputs i → (c : Span) (rest : Words) → r.call_inputs (call_inputs_words i ++ marked mark.CloseBrace c ∷ rest) ≡ Ok (Some i, marked mark.CloseBrace c ∷ rest)
unfolding r.call_inputs
inputs_at i p c rest =
    let tail : Words = marked mark.CloseBrace c ∷ rest in
    let inside : Words = each arguments.words i.arguments ++ tail in
    ap (λ z. r.call_inputs (keyword (codes "input") i.keyword ∷ marked mark.Colon i.colon ∷ (z ++ tail))) (items_each argument_words i.arguments)
    ∙ found_some (eat_word (codes "input") (keyword (codes "input") i.keyword ∷ marked mark.Colon i.colon ∷ inside)) _ _ (i.keyword, marked mark.Colon i.colon ∷ inside) refl
    ∙ goes (a_mark mark.Colon refl) i.colon inside _ tt tt
    ∙ goes (listed arguments) i.arguments tail _ p.0 (refl, until_ends mark.CloseBrace (item r.argument) tail refl)
    ∙ cond_true (commas_fit i.arguments) _ _ p.1

no_inputs : (c : Span) (rest : Words) → r.call_inputs (marked mark.CloseBrace c ∷ rest) ≡ Ok (None, marked mark.CloseBrace c ∷ rest)
unfolding r.call_inputs
no_inputs c rest = found_none (eat_word (codes "input") (marked mark.CloseBrace c ∷ rest)) _ _ refl

inputs_full : (i : Option CallInputs) → IfThere IsCallInputs i → (tail : Words) → EndsBody tail → r.call_inputs (maybe call_inputs_words i ++ tail) ≡ Ok (i, tail)
inputs_full None p tail h = subst (λ z. r.call_inputs z ≡ Ok (None, z)) (sym h.2) (no_inputs h.0 h.1)
inputs_full (Some i) p tail h = subst (λ z. r.call_inputs (call_inputs_words i ++ z) ≡ Ok (Some i, z)) (sym h.2) (inputs_at i p h.0 h.1)

abbrev call_inputs : Format (Option CallInputs)
call_inputs = record { is = IfThere IsCallInputs; words = maybe call_inputs_words; read = r.call_inputs; before = EndsBody; stands = InputsStand; sound = inputs_sound; full = inputs_full }

-- behind a brace and `input:`
abbrev BodyStands : Words → Type 0
BodyStands front = (o i c : Span) → Stands ctx.an_argument (front ++ marked mark.OpenBrace o ∷ keyword (codes "input") i ∷ marked mark.Colon c ∷ [])

body_sound : SoundAt BodyStands (IfThere IsCallBody) (maybe call_body_words) r.call_body
unfolding r.call_body
body_sound doc front ts eq here =
    let R : Option CallBody → Words → Type 0 = Takes (IfThere IsCallBody) (maybe call_body_words) ts in
    says_found (Doc doc) R (eat mark.OpenBrace ts) _ _ (λ o h.
    next call_inputs R doc front ts eq (marked mark.OpenBrace o.0 ∷ []) o.1 _ (ate mark.OpenBrace ts o h)
    (λ i c. behind_both (Stands ctx.an_argument) front (marked mark.OpenBrace o.0 ∷ []) (keyword (codes "input") i ∷ marked mark.Colon c ∷ []) (here o.0 i c)) (λ i a p e.
    next (a_mark mark.CloseBrace refl) R doc front ts eq (marked mark.OpenBrace o.0 ∷ maybe call_inputs_words i) a _ e tt (λ c b q f. (f, p))))
    (λ _. (refl, tt))

body_full : (b : Option CallBody) → IfThere IsCallBody b → (tail : Words) → eat mark.OpenBrace tail ≡ None → r.call_body (maybe call_body_words b ++ tail) ≡ Ok (b, tail)
unfolding r.call_body
body_full None p tail h = found_none (eat mark.OpenBrace tail) _ _ h
body_full (Some b) p tail h =
    let last : Words = marked mark.CloseBrace b.closing ∷ tail in
    let text : call_body_words b ++ tail ≡ marked mark.OpenBrace b.opening ∷ (maybe call_inputs_words b.inputs ++ last) = simp append_assoc in
    ap r.call_body text
    ∙ found_some (eat mark.OpenBrace (marked mark.OpenBrace b.opening ∷ (maybe call_inputs_words b.inputs ++ last))) _ _ (b.opening, maybe call_inputs_words b.inputs ++ last) refl
    ∙ goes call_inputs b.inputs last _ p (b.closing, tail, refl)
    ∙ goes (a_mark mark.CloseBrace refl) b.closing tail _ tt tt

abbrev a_body : Format (Option CallBody)
a_body = record { is = IfThere IsCallBody; words = maybe call_body_words; read = r.call_body; before = λ tail. eat mark.OpenBrace tail ≡ None; stands = BodyStands; sound = body_sound; full = body_full }

-- ---- whole calls

arguments_at : (front : Words) (k : Span) (t : CallTarget) (n : Option Renaming) (xs : List After) → IsTarget t → IfThere IsRenaming n → Each IsAfter xs → Stands ctx.a_statement front
    → BodyStands (front ++ (((keyword (codes "call") k ∷ target_words t) ++ maybe renaming_words n) ++ each after_words xs))
arguments_at front k t n xs p q x here o i c =
    let behind : Words = marked mark.OpenBrace o ∷ keyword (codes "input") i ∷ marked mark.Colon c ∷ [] in
    let text : (front ++ (((keyword (codes "call") k ∷ target_words t) ++ maybe renaming_words n) ++ each after_words xs)) ++ behind
    ≡ front ++ keyword (codes "call") k ∷ (target_words t ++ (maybe renaming_words n ++ (each after_words xs ++ behind))) = simp append_assoc in
    subst (Stands ctx.an_argument) (sym text) (ctx.arguments front k t n xs o i c p q x here)

pub call_sound : (doc front : Words) (k : Span) (ts : Words) → doc ≡ front ++ keyword (codes "call") k ∷ ts → Stands ctx.a_statement front → Says (Doc doc) (Takes IsCall call_words (keyword (codes "call") k ∷ ts)) (r.call k ts)
unfolding r.call
call_sound doc front k ts eq here =
    let all : Words = keyword (codes "call") k ∷ ts in
    let R : Call → Words → Type 0 = Takes IsCall call_words all in
    next a_target R doc front all eq (keyword (codes "call") k ∷ []) ts _ refl tt (λ t a p e.
    next a_renaming R doc front all eq (keyword (codes "call") k ∷ target_words t) a _ e tt (λ n b q f.
    next (listed afters) R doc front all eq ((keyword (codes "call") k ∷ target_words t) ++ maybe renaming_words n) b _ f tt (λ xs c x g.
    next a_body R doc front all eq (((keyword (codes "call") k ∷ target_words t) ++ maybe renaming_words n) ++ each after_words xs) c _ g (arguments_at front k t n xs p q x here) (λ y d z h. (h ∙ simp append_assoc, (p, q, x, z))))))

-- what stands behind a part of a call does not go on with that part
body_bare : (b : Option CallBody) (tail : Words) → Quiet tail → Bare (maybe call_body_words b ++ tail)
body_bare None tail h = settled_sees mark.Assign refl tail h.settles
body_bare (Some b) tail h = refl

brace_no_after : (o : Span) (rest : Words) → r.after_at (marked mark.OpenBrace o ∷ rest) ≡ Ok (None, marked mark.OpenBrace o ∷ rest)
unfolding r.after_at
brace_no_after o rest = found_none (eat_word (codes "after") (marked mark.OpenBrace o ∷ rest)) _ _ refl

body_no_after : (b : Option CallBody) (tail : Words) → Quiet tail → r.after_at (maybe call_body_words b ++ tail) ≡ Ok (None, maybe call_body_words b ++ tail)
body_no_after None tail h = h.no_after
body_no_after (Some b) tail h = brace_no_after b.opening _

afters_no_as : (xs : List After) (b : Option CallBody) (tail : Words) → Quiet tail → eat_word (codes "as") (each after_words xs ++ (maybe call_body_words b ++ tail)) ≡ None
afters_no_as [] None tail h = h.no_as
afters_no_as [] (Some b) tail h = refl
afters_no_as (x ∷ xs) b tail h = refl

no_dot : (n : Option Renaming) (xs : List After) (b : Option CallBody) (tail : Words) → Quiet tail → eat mark.Dot (maybe renaming_words n ++ (each after_words xs ++ (maybe call_body_words b ++ tail))) ≡ None
no_dot (Some n) xs b tail h = refl
no_dot None (x ∷ xs) b tail h = refl
no_dot None [] (Some b) tail h = refl
no_dot None [] None tail h = settled_eat mark.Dot refl tail h.settles

pub call_full : (c : Call) → IsCall c → (tail : Words) → Quiet tail → (k : Span) × (rest : Words) × (call_words c ++ tail ≡ keyword (codes "call") k ∷ rest) × (r.call k rest ≡ Ok (c, tail))
unfolding r.call
call_full c p tail h =
    let last : Words = maybe call_body_words c.body ++ tail in
    let more : Words = each after_words c.after ++ last in
    let behind : Words = maybe renaming_words c.alias ++ more in
    let text : call_words c ++ tail ≡ keyword (codes "call") c.keyword ∷ (target_words c.target ++ behind) = simp append_assoc in (
      c.keyword,
      target_words c.target ++ behind,
      text,
      goes a_target c.target behind _ p.0 (no_dot c.alias c.after c.body tail h)
          ∙ goes a_renaming c.alias more _ p.1 (afters_no_as c.after c.body tail h)
          ∙ goes (listed afters) c.after last _ p.2 (body_bare c.body tail h, body_no_after c.body tail h)
          ∙ goes a_body c.body tail _ p.3 (settled_eat mark.OpenBrace refl tail h.settles),
    )

abbrev pub a_call : Worded Call (codes "call")
a_call = record { is = IsCall; words = call_words; read = r.call; before = Quiet; stands = Stands ctx.a_statement; sound = call_sound; full = call_full }

-- ---- what a declaration begins with is no part of a call

after_by_name : (m n : Ident) (qs : List Span) (s : Span) (rest : Words) → IsIdent n → (b : Bool) → bytes_eq m.name (codes "after") ≡ b
    → let ts : Words = ident m ∷ (questions_words qs ++ ident n ∷ marked mark.Assign s ∷ rest) in r.after_at ts ≡ Ok (None, ts)
unfolding r.after_at
after_by_name m n qs s rest p false q = found_none (eat_word (codes "after") (ident m ∷ (questions_words qs ++ ident n ∷ marked mark.Assign s ∷ rest))) _ _ (cond_false (bytes_eq m.name (codes "after")) _ _ q)
after_by_name m n [] s rest p true q =
    let more : Words = ident n ∷ marked mark.Assign s ∷ rest in
    found_some (eat_word (codes "after") (ident m ∷ more)) _ _ (m.span, more) (cond_true (bytes_eq m.name (codes "after")) _ _ q)
    ∙ found_some (ident_at more) _ _ (n, marked mark.Assign s ∷ rest) (sees_ident n (marked mark.Assign s ∷ rest) p)
after_by_name m n (o ∷ qs) s rest p true q =
    let more : Words = questions_words (o ∷ qs) ++ ident n ∷ marked mark.Assign s ∷ rest in
    found_some (eat_word (codes "after") (ident m ∷ more)) _ _ (m.span, more) (cond_true (bytes_eq m.name (codes "after")) _ _ q)
    ∙ found_none (ident_at more) _ _ refl

no_after_base : (In : TypeTree → Type 0) (b : BaseType TypeTree) → IsBase In b → (n : Ident) (qs : List Span) (s : Span) (rest : Words) → IsIdent n
    → let ts : Words = base_words type_words b ++ (questions_words qs ++ ident n ∷ marked mark.Assign s ∷ rest) in r.after_at ts ≡ Ok (None, ts)
unfolding r.after_at found
no_after_base In b (types.named m h) n qs s rest p = after_by_name m n qs s rest p (bytes_eq m.name (codes "after")) refl
no_after_base In b (types.boolean k) n qs s rest p = refl
no_after_base In b (types.int k) n qs s rest p = refl
no_after_base In b (types.str k) n qs s rest p = refl
no_after_base In b (types.file k) n qs s rest p = refl
no_after_base In b (types.array w o t c l i) n qs s rest p = refl
no_after_base In b (types.map w o k m v c i j) n qs s rest p = refl
no_after_base In b (types.pair w o l m x c i j) n qs s rest p = refl

no_after_over : (In : TypeTree → Type 0) (t : TypeTree) → IsTypeOver In t → (n : Ident) (s : Span) (rest : Words) → IsIdent n
    → let ts : Words = type_words t ++ ident n ∷ marked mark.Assign s ∷ rest in r.after_at ts ≡ Ok (None, ts)
no_after_over In t (types.type_ b qs q) n s rest p =
    let more : Words = ident n ∷ marked mark.Assign s ∷ rest in
    let text : type_words (type_tree b qs) ++ more ≡ base_words type_words b ++ (questions_words qs ++ more) = ap (λ z. z ++ more) (words_type b qs) ∙ append_assoc (base_words type_words b) (questions_words qs) more in
    subst (λ z. r.after_at z ≡ Ok (None, z)) (sym text) (no_after_base In b q n qs s rest p)

pub declaration_quiet : (d : Declaration) → IsDeclaration d → (tail : Words) → Quiet (declaration_words d ++ tail)
declaration_quiet d p tail =
    let rest : Words = words d.value ++ tail in
    let text : declaration_words d ++ tail ≡ type_words d.ty ++ ident d.name ∷ marked mark.Assign d.assign ∷ rest = simp append_assoc in
    record {
      settles = declaration_follows d p tail;
      no_as = ap (eat_word (codes "as")) text ∙ type_word (codes "as") no_as d.ty p.0 (ident d.name ∷ marked mark.Assign d.assign ∷ rest);
      no_after = subst (λ z. r.after_at z ≡ Ok (None, z)) (sym text) (no_after_over (TypeWithin 7) d.ty p.0 d.name d.assign rest p.1);
    }

-- nor is another word, or a closing brace
pub word_quiet : (w : List ℕ) (k : Span) (rest : Words) → is_word (codes "as") (kind.Word w) ≡ false → is_word (codes "after") (kind.Word w) ≡ false → Quiet (keyword w k ∷ rest)
unfolding r.after_at
word_quiet w k rest h q = record {
  settles = refl;
  no_as = cond_false (is_word (codes "as") (kind.Word w)) _ _ h;
  no_after = found_none (eat_word (codes "after") (keyword w k ∷ rest)) _ _ (cond_false (is_word (codes "after") (kind.Word w)) _ _ q);
}

pub brace_quiet : (c : Span) (rest : Words) → Quiet (marked mark.CloseBrace c ∷ rest)
unfolding r.after_at
brace_quiet c rest = record { settles = refl; no_as = refl; no_after = found_none (eat_word (codes "after") (marked mark.CloseBrace c ∷ rest)) _ _ refl }
