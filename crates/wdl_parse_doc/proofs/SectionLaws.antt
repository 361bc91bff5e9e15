-- Declarations, and the sections that tasks and workflows have, read and written.
use Rattle.std.proofs.Common.{◌≡◌, ℕ, false, List, [], ◌∷◌, ◌++◌, Option, Some, None, Ok, refl, ap, sym, ◌∙◌, subst, append_assoc, arith, codes}
use Rattle.wdl_base.specs.declared.span.Span.{Span}
use Rattle.wdl_ast.specs.declared.token.Mark.TheVariants as mark
use Rattle.wdl_ast.specs.declared.token.Kind.TheVariants as kind
use Rattle.wdl_ast.specs.declared.leaf.Ident.{Ident}
use Rattle.wdl_ast.specs.declared.leaf.Attribute.{Attribute}
use Rattle.wdl_ast.specs.declared.type_tree.TypeTree.{TypeTree}
use Rattle.wdl_ast.specs.declared.expr.Expr.{Expr}
use Rattle.wdl_ast.specs.declared.meta.MetaValue.{MetaValue}
use Rattle.wdl_ast.specs.declared.meta.MetaSection.{MetaSection}
use Rattle.wdl_ast.specs.declared.section.Declaration.{Declaration}
use Rattle.wdl_ast.specs.declared.section.Assigned.{Assigned}
use Rattle.wdl_ast.specs.declared.section.InputDeclaration.{InputDeclaration}
use Rattle.wdl_ast.specs.declared.section.InputSection.{InputSection}
use Rattle.wdl_ast.specs.declared.section.OutputSection.{OutputSection}
use Rattle.wdl_ast.specs.declared.task.RuntimeSection.{RuntimeSection}
use Rattle.wdl_ast.specs.declared.task.CommandSection.{CommandSection}
use Rattle.wdl_ast.specs.Words.{Words, at, marked, keyword, ident, comma, words, type_words, parts_words, meta_words}
use Rattle.wdl_ast.specs.DocumentWords.{each, maybe, declaration_words, assigned_words, input_words, inputs_words, outputs_words, metadata_words, runtime_words, command_words}
use Rattle.token_reading.specs.Outcome.{sees, eat}
use Rattle.wdl_parse_expr.specs.Contract.{expr_continues}
use Rattle.token_reading.proofs.Steps.{ate, found_some, found_none}
use Rattle.token_reading.proofs.Says.{Says, Takes, says_found}
use Rattle.wdl_parse_doc.specs.declared.part_list.Braced.{Braced}
use Rattle.wdl_parse_doc.specs.Context as ctx
use Rattle.wdl_parse_doc.specs.Context.{Place, IsBody, IsMetaWord, Stands, an_expression}
use Rattle.wdl_parse_parts.specs.Grammar.{Each, IfThere, IsDeclaration, IsAssigned, IsInput, IsCommand}
use Rattle.wdl_parse_doc.specs.Grammar.{IsInputs, IsOutputs, IsMetadata, IsRuntime}
use Rattle.wdl_parse_doc.specs.Reading.Lists.{braced}
use Rattle.wdl_parse_doc.specs.Reading.Sections.{metadata}
use Rattle.wdl_parse_doc.specs.Reading.Sections as r
use Rattle.wdl_parse_parts.specs.Reading.Declarations as decls
use Rattle.wdl_parse_doc.proofs.Formats.{Doc, SoundAt, Format, Worded, Parts, next, at_once, behind_both, goes, listed, parts_until, until_ends}
use Rattle.wdl_parse_doc.proofs.Leaves.{Any, a_mark, a_name, an_expr, a_type, a_fence, a_fence_end, command_parts, an_attribute}
use Rattle.wdl_parse_doc.proofs.Follows.{Settled, settled_expr, settled_eat, settled_comma, comma_expr, type_settled, type_apart, type_some}
use Rattle.wdl_parse_doc.proofs.MetaLaws.{attributes_each, meta_attributes}

-- ---- parts in braces

-- a list that a closing brace ends
abbrev pub EndsAtBrace : {A : Type 0} → Parts A → Type 0
EndsAtBrace P = (c : Span) (rest : Words) → P.follows (marked mark.CloseBrace c ∷ rest) × (P.one (marked mark.CloseBrace c ∷ rest) ≡ Ok (None, marked mark.CloseBrace c ∷ rest))

module _ {A : Type 0} (P : Parts A) (ends : EndsAtBrace P) where
  abbrev pub braced_words : Braced A → Words
  braced_words b = marked mark.OpenBrace b.opening ∷ (each P.words b.items ++ marked mark.CloseBrace b.closing ∷ [])

  abbrev pub IsBraced : Braced A → Type 0
  IsBraced b = Each P.is b.items

  -- behind an opening brace one of the parts stands
  abbrev pub BraceStands : Words → Type 0
  BraceStands front = (o : Span) → P.stands (front ++ marked mark.OpenBrace o ∷ [])

  pub braced_sound : SoundAt BraceStands IsBraced braced_words (braced P.one)
  unfolding braced
  braced_sound doc front ts eq here =
      let R : Braced A → Words → Type 0 = Takes IsBraced braced_words ts in
      next (a_mark mark.OpenBrace refl) R doc front ts eq [] ts _ refl tt (λ o a p e.
      next (listed P) R doc front ts eq (marked mark.OpenBrace o ∷ []) a _ e (here o) (λ xs b q f.
      next (a_mark mark.CloseBrace refl) R doc front ts eq (marked mark.OpenBrace o ∷ each P.words xs) b _ f tt (λ c d z h. (h, q))))

  pub braced_full : (b : Braced A) → IsBraced b → (tail : Words) → Any tail → braced P.one (braced_words b ++ tail) ≡ Ok (b, tail)
  unfolding braced
  braced_full b p tail q =
      let last : Words = marked mark.CloseBrace b.closing ∷ tail in
      let text : braced_words b ++ tail ≡ marked mark.OpenBrace b.opening ∷ (each P.words b.items ++ last) = simp append_assoc in
      ap (braced P.one) text
      ∙ goes (a_mark mark.OpenBrace refl) b.opening (each P.words b.items ++ last) _ tt tt
      ∙ goes (listed P) b.items last _ p (ends b.closing tail)
      ∙ goes (a_mark mark.CloseBrace refl) b.closing tail _ tt tt

  abbrev pub in_braces : Format (Braced A)
  in_braces = record { is = IsBraced; words = braced_words; read = braced P.one; before = Any; stands = BraceStands; sound = braced_sound; full = braced_full }

-- ---- declarations

assigned_at : (front : Words) (t : TypeTree) (n : Ident) (s : Span) → Stands an_expression (front ++ (type_words t ++ ident n ∷ marked mark.Assign s ∷ [])) → Stands an_expression (front ++ ((type_words t ++ ident n ∷ []) ++ marked mark.Assign s ∷ []))
assigned_at front t n s here = subst (λ z. Stands an_expression (front ++ z)) (sym (append_assoc (type_words t) (ident n ∷ []) (marked mark.Assign s ∷ []))) here

pub declaration_sound : SoundAt (Stands ctx.a_declaration) IsDeclaration declaration_words decls.declaration
unfolding decls.declaration
declaration_sound doc front ts eq here =
    let R : Declaration → Words → Type 0 = Takes IsDeclaration declaration_words ts in
    next a_type R doc front ts eq [] ts _ refl (at_once (Stands ctx.a_type) front (ctx.declaration_type front here)) (λ t a p e.
    next a_name R doc front ts eq (type_words t) a _ e tt (λ n b q f.
    next (a_mark mark.Assign refl) R doc front ts eq (type_words t ++ ident n ∷ []) b _ f tt (λ s c z g.
    next an_expr R doc front ts eq ((type_words t ++ ident n ∷ []) ++ marked mark.Assign s ∷ []) c _ g (assigned_at front t n s (ctx.declaration_value front t n s p q here)) (λ v d x h. (h ∙ simp append_assoc, (p, q, x))))))

pub declaration_full : (d : Declaration) → IsDeclaration d → (tail : Words) → Settled tail → decls.declaration (declaration_words d ++ tail) ≡ Ok (d, tail)
unfolding decls.declaration
declaration_full d p tail h =
    let last : Words = words d.value ++ tail in
    let text : declaration_words d ++ tail ≡ type_words d.ty ++ ident d.name ∷ marked mark.Assign d.assign ∷ last = simp append_assoc in
    ap decls.declaration text
    ∙ goes a_type d.ty (ident d.name ∷ marked mark.Assign d.assign ∷ last) _ p.0 refl
    ∙ goes a_name d.name (marked mark.Assign d.assign ∷ last) _ p.1 tt
    ∙ goes (a_mark mark.Assign refl) d.assign last _ tt tt
    ∙ goes an_expr d.value tail _ p.2 (settled_expr tail h)

abbrev pub a_declaration : Format Declaration
a_declaration = record { is = IsDeclaration; words = declaration_words; read = decls.declaration; before = Settled; stands = Stands ctx.a_declaration; sound = declaration_sound; full = declaration_full }

-- behind `=` an expression stands
abbrev pub ValueStands : Words → Type 0
ValueStands front = (s : Span) → Stands an_expression (front ++ marked mark.Assign s ∷ [])

pub assigned_sound : SoundAt ValueStands (IfThere IsAssigned) (maybe assigned_words) decls.assigned
unfolding decls.assigned
assigned_sound doc front ts eq here =
    let R : Option Assigned → Words → Type 0 = Takes (IfThere IsAssigned) (maybe assigned_words) ts in
    says_found (Doc doc) R (eat mark.Assign ts) _ _ (λ s h. next an_expr R doc front ts eq (marked mark.Assign s.0 ∷ []) s.1 _ (ate mark.Assign ts s h) (here s.0) (λ v a p e. (e, p))) (λ _. (refl, tt))

-- neither `=` nor more of an expression
abbrev pub Unassigned : Words → Type 0
Unassigned tail = (expr_continues tail ≡ false) × (eat mark.Assign tail ≡ None)

settled_unassigned : (tail : Words) → Settled tail → Unassigned tail
settled_unassigned tail h = (settled_expr tail h, settled_eat mark.Assign refl tail h)

pub comma_unassigned : (m : Option Span) (tail : Words) → Settled tail → Unassigned (comma m ++ tail)
comma_unassigned (Some s) tail h = (refl, refl)
comma_unassigned None tail h = settled_unassigned tail h

pub assigned_full : (a : Option Assigned) → IfThere IsAssigned a → (tail : Words) → Unassigned tail → decls.assigned (maybe assigned_words a ++ tail) ≡ Ok (a, tail)
unfolding decls.assigned
assigned_full None p tail h = found_none (eat mark.Assign tail) _ _ h.1
assigned_full (Some a) p tail h = found_some (eat mark.Assign (marked mark.Assign a.assign ∷ (words a.value ++ tail))) _ _ (a.assign, words a.value ++ tail) refl ∙ goes an_expr a.value tail _ p h.0

abbrev pub an_assigned : Format (Option Assigned)
an_assigned = record { is = IfThere IsAssigned; words = maybe assigned_words; read = decls.assigned; before = Unassigned; stands = ValueStands; sound = assigned_sound; full = assigned_full }

pub input_sound : SoundAt (Stands ctx.an_input) IsInput input_words decls.input
unfolding decls.input
input_sound doc front ts eq here =
    let R : InputDeclaration → Words → Type 0 = Takes IsInput input_words ts in
    next a_type R doc front ts eq [] ts _ refl (at_once (Stands ctx.a_type) front (ctx.input_type front here)) (λ t a p e.
    next a_name R doc front ts eq (type_words t) a _ e tt (λ n b q f.
    next an_assigned R doc front ts eq (type_words t ++ ident n ∷ []) b _ f (λ s. behind_both (Stands an_expression) front (type_words t ++ ident n ∷ []) (marked mark.Assign s ∷ []) (assigned_at front t n s (ctx.input_value front t n s p q here))) (λ v c x g. (g ∙ simp append_assoc, (p, q, x)))))

pub input_full : (i : InputDeclaration) → IsInput i → (tail : Words) → Settled tail → decls.input (input_words i ++ tail) ≡ Ok (i, tail)
unfolding decls.input
input_full i p tail h =
    let last : Words = maybe assigned_words i.preset ++ tail in
    let text : input_words i ++ tail ≡ type_words i.ty ++ ident i.name ∷ last = simp append_assoc in
    ap decls.input text
    ∙ goes a_type i.ty (ident i.name ∷ last) _ p.0 refl
    ∙ goes a_name i.name last _ p.1 tt
    ∙ goes an_assigned i.preset tail _ p.2 (settled_unassigned tail h)

abbrev pub an_input : Format InputDeclaration
an_input = record { is = IsInput; words = input_words; read = decls.input; before = Settled; stands = Stands ctx.an_input; sound = input_sound; full = input_full }

-- ---- lists of declarations in braces

pub declaration_follows : (d : Declaration) → IsDeclaration d → (tail : Words) → Settled (declaration_words d ++ tail)
declaration_follows d p tail = subst Settled (sym (append_assoc (type_words d.ty) (ident d.name ∷ marked mark.Assign d.assign ∷ words d.value) tail)) (type_settled d.ty p.0 _)

pub declaration_apart : (d : Declaration) → IsDeclaration d → (tail : Words) → sees mark.CloseBrace (declaration_words d ++ tail) ≡ false
declaration_apart d p tail = ap (sees mark.CloseBrace) (append_assoc (type_words d.ty) (ident d.name ∷ marked mark.Assign d.assign ∷ words d.value) tail) ∙ type_apart d.ty p.0 _

abbrev pub declarations : Parts Declaration
declarations = parts_until a_declaration mark.CloseBrace (Stands ctx.an_output) (λ front s. ctx.output_declaration front s) (λ x p front s. ctx.next_output front x p s) Settled (λ tail h. h) declaration_follows declaration_apart (λ d p. type_some d.ty p.0 _)

pub input_follows : (i : InputDeclaration) → IsInput i → (tail : Words) → Settled (input_words i ++ tail)
input_follows i p tail = subst Settled (sym (append_assoc (type_words i.ty) (ident i.name ∷ maybe assigned_words i.preset) tail)) (type_settled i.ty p.0 _)

pub input_apart : (i : InputDeclaration) → IsInput i → (tail : Words) → sees mark.CloseBrace (input_words i ++ tail) ≡ false
input_apart i p tail = ap (sees mark.CloseBrace) (append_assoc (type_words i.ty) (ident i.name ∷ maybe assigned_words i.preset) tail) ∙ type_apart i.ty p.0 _

abbrev pub input_declarations : Parts InputDeclaration
input_declarations = parts_until an_input mark.CloseBrace (Stands ctx.an_input) (λ front s. s) (λ x p front s. ctx.next_input front x p s) Settled (λ tail h. h) input_follows input_apart (λ i p. type_some i.ty p.0 _)

abbrev runtime_attribute : Format (Attribute Expr)
runtime_attribute = an_attribute an_expr Settled settled_comma comma_expr

abbrev pub runtime_attributes : Parts (Attribute Expr)
runtime_attributes = parts_until runtime_attribute mark.CloseBrace (Stands ctx.an_attribute) (λ front s k c. ctx.attribute_value front k c s) (λ x p front s. ctx.next_attribute front x p s) Settled (λ tail h. h) (λ a p tail. refl) (λ a p tail. refl) (λ a p. omega arith)

-- ---- sections

-- an element of a task or of a workflow stands there
abbrev pub InBody : Words → Type 0
InBody front = (p : Place) × IsBody p × Stands p front

abbrev pub braced_inputs : Format (Braced InputDeclaration)
braced_inputs = in_braces input_declarations (λ c rest. (refl, until_ends mark.CloseBrace decls.input (marked mark.CloseBrace c ∷ rest) refl))

abbrev pub braced_outputs : Format (Braced Declaration)
braced_outputs = in_braces declarations (λ c rest. (refl, until_ends mark.CloseBrace decls.declaration (marked mark.CloseBrace c ∷ rest) refl))

pub inputs_sound : (doc front : Words) (k : Span) (ts : Words) → doc ≡ front ++ keyword (codes "input") k ∷ ts → InBody front → Says (Doc doc) (Takes IsInputs inputs_words (keyword (codes "input") k ∷ ts)) (r.inputs k ts)
unfolding r.inputs
inputs_sound doc front k ts eq here = let all : Words = keyword (codes "input") k ∷ ts in next braced_inputs (Takes IsInputs inputs_words all) doc front all eq (keyword (codes "input") k ∷ []) ts _ refl
    (λ o. behind_both (Stands ctx.an_input) front (keyword (codes "input") k ∷ []) (marked mark.OpenBrace o ∷ []) (ctx.inputs here.0 front k o here.1 here.2)) (λ b rest p e. (e, p))

pub inputs_full : (s : InputSection) → IsInputs s → (tail : Words) → Any tail → (k : Span) × (rest : Words) × (inputs_words s ++ tail ≡ keyword (codes "input") k ∷ rest) × (r.inputs k rest ≡ Ok (s, tail))
unfolding r.inputs
inputs_full s p tail q = (s.keyword, _, refl, goes braced_inputs (record { opening = s.opening; items = s.inputs; closing = s.closing }) tail _ p tt)

abbrev pub an_input_section : Worded InputSection (codes "input")
an_input_section = record { is = IsInputs; words = inputs_words; read = r.inputs; before = Any; stands = InBody; sound = inputs_sound; full = inputs_full }

pub outputs_sound : (doc front : Words) (k : Span) (ts : Words) → doc ≡ front ++ keyword (codes "output") k ∷ ts → InBody front → Says (Doc doc) (Takes IsOutputs outputs_words (keyword (codes "output") k ∷ ts)) (r.outputs k ts)
unfolding r.outputs
outputs_sound doc front k ts eq here = let all : Words = keyword (codes "output") k ∷ ts in next braced_outputs (Takes IsOutputs outputs_words all) doc front all eq (keyword (codes "output") k ∷ []) ts _ refl
    (λ o. behind_both (Stands ctx.an_output) front (keyword (codes "output") k ∷ []) (marked mark.OpenBrace o ∷ []) (ctx.outputs here.0 front k o here.1 here.2)) (λ b rest p e. (e, p))

pub outputs_full : (s : OutputSection) → IsOutputs s → (tail : Words) → Any tail → (k : Span) × (rest : Words) × (outputs_words s ++ tail ≡ keyword (codes "output") k ∷ rest) × (r.outputs k rest ≡ Ok (s, tail))
unfolding r.outputs
outputs_full s p tail q = (s.keyword, _, refl, goes braced_outputs (record { opening = s.opening; items = s.outputs; closing = s.closing }) tail _ p tt)

abbrev pub an_output_section : Worded OutputSection (codes "output")
an_output_section = record { is = IsOutputs; words = outputs_words; read = r.outputs; before = Any; stands = InBody; sound = outputs_sound; full = outputs_full }

abbrev braced_runtime : Format (Braced (Attribute Expr))
braced_runtime = in_braces runtime_attributes (λ c rest. (refl, until_ends mark.CloseBrace _ (marked mark.CloseBrace c ∷ rest) refl))

runtime_text : (k : Span) (b : Braced (Attribute Expr)) → runtime_words (record { keyword = k; opening = b.opening; attributes = b.items; closing = b.closing }) ≡ keyword (codes "runtime") k ∷ braced_runtime.words b
runtime_text k b = ap (λ z. keyword (codes "runtime") k ∷ marked mark.OpenBrace b.opening ∷ (z ++ marked mark.CloseBrace b.closing ∷ [])) (attributes_each words b.items)

pub runtime_sound : (doc front : Words) (k : Span) (ts : Words) → doc ≡ front ++ keyword (codes "runtime") k ∷ ts → Stands ctx.a_task_element front → Says (Doc doc) (Takes IsRuntime runtime_words (keyword (codes "runtime") k ∷ ts)) (r.runtime k ts)
unfolding r.runtime
runtime_sound doc front k ts eq here = let all : Words = keyword (codes "runtime") k ∷ ts in next braced_runtime (Takes IsRuntime runtime_words all) doc front all eq (keyword (codes "runtime") k ∷ []) ts _ refl
    (λ o. behind_both (Stands ctx.an_attribute) front (keyword (codes "runtime") k ∷ []) (marked mark.OpenBrace o ∷ []) (ctx.runtime front k o here))
    (λ b rest p e. (e ∙ ap (λ z. z ++ rest) (sym (runtime_text k b)), p))

pub runtime_full : (s : RuntimeSection) → IsRuntime s → (tail : Words) → Any tail → (k : Span) × (rest : Words) × (runtime_words s ++ tail ≡ keyword (codes "runtime") k ∷ rest) × (r.runtime k rest ≡ Ok (s, tail))
unfolding r.runtime
runtime_full s p tail q =
    let b : Braced (Attribute Expr) = record { opening = s.opening; items = s.attributes; closing = s.closing } in
    (s.keyword, _, ap (λ z. z ++ tail) (runtime_text s.keyword b), goes braced_runtime b tail _ p tt)

abbrev pub a_runtime_section : Worded RuntimeSection (codes "runtime")
a_runtime_section = record { is = IsRuntime; words = runtime_words; read = r.runtime; before = Any; stands = Stands ctx.a_task_element; sound = runtime_sound; full = runtime_full }

-- ---- metadata, by its word

abbrev braced_metadata : Format (Braced (Attribute MetaValue))
braced_metadata = in_braces meta_attributes (λ c rest. (refl, until_ends mark.CloseBrace _ (marked mark.CloseBrace c ∷ rest) refl))

metadata_text : (w : List ℕ) (k : Span) (b : Braced (Attribute MetaValue)) → metadata_words w (record { keyword = k; opening = b.opening; attributes = b.items; closing = b.closing }) ≡ keyword w k ∷ braced_metadata.words b
metadata_text w k b = ap (λ z. keyword w k ∷ marked mark.OpenBrace b.opening ∷ (z ++ marked mark.CloseBrace b.closing ∷ [])) (attributes_each meta_words b.items)

pub metadata_sound : (w : List ℕ) → IsMetaWord w → (doc front : Words) (k : Span) (ts : Words) → doc ≡ front ++ keyword w k ∷ ts → InBody front → Says (Doc doc) (Takes IsMetadata (metadata_words w) (keyword w k ∷ ts)) (metadata k ts)
unfolding metadata
metadata_sound w m doc front k ts eq here = let all : Words = keyword w k ∷ ts in next braced_metadata (Takes IsMetadata (metadata_words w) all) doc front all eq (keyword w k ∷ []) ts _ refl
    (λ o. (0, ctx.outermost _ (behind_both (Stands ctx.metadata) front (keyword w k ∷ []) (marked mark.OpenBrace o ∷ []) (ctx.meta_section here.0 front w k o here.1 m here.2)), refl))
    (λ b rest p e. (e ∙ ap (λ z. z ++ rest) (sym (metadata_text w k b)), p))

pub metadata_full : (w : List ℕ) (s : MetaSection) → IsMetadata s → (tail : Words) → Any tail → (k : Span) × (rest : Words) × (metadata_words w s ++ tail ≡ keyword w k ∷ rest) × (metadata k rest ≡ Ok (s, tail))
unfolding metadata
metadata_full w s p tail q =
    let b : Braced (Attribute MetaValue) = record { opening = s.opening; items = s.attributes; closing = s.closing } in
    (s.keyword, _, ap (λ z. z ++ tail) (metadata_text w s.keyword b), goes braced_metadata b tail _ p tt)

abbrev pub a_meta_section : (w : List ℕ) → IsMetaWord w → Worded MetaSection w
a_meta_section w m = record { is = IsMetadata; words = metadata_words w; read = metadata; before = Any; stands = InBody; sound = metadata_sound w m; full = metadata_full w }

-- ---- commands

pub command_sound : (doc front : Words) (k : Span) (ts : Words) → doc ≡ front ++ keyword (codes "command") k ∷ ts → Stands ctx.a_task_element front → Says (Doc doc) (Takes IsCommand command_words (keyword (codes "command") k ∷ ts)) (decls.command k ts)
unfolding decls.command
command_sound doc front k ts eq here =
    let all : Words = keyword (codes "command") k ∷ ts in
    let R : CommandSection → Words → Type 0 = Takes IsCommand command_words all in
    next a_fence R doc front all eq (keyword (codes "command") k ∷ []) ts _ refl tt (λ f a z e.
    next command_parts R doc front all eq (keyword (codes "command") k ∷ at (kind.CommandOpen f.0) f.1 ∷ []) a _ e (ctx.command front k f.0 f.1 here) (λ ps b p g.
    next a_fence_end R doc front all eq (keyword (codes "command") k ∷ at (kind.CommandOpen f.0) f.1 ∷ parts_words words ps) b _ g tt (λ c d y h. (h, p))))

pub command_full : (s : CommandSection) → IsCommand s → (tail : Words) → Any tail → (k : Span) × (rest : Words) × (command_words s ++ tail ≡ keyword (codes "command") k ∷ rest) × (decls.command k rest ≡ Ok (s, tail))
unfolding decls.command
command_full s p tail q =
    let last : Words = at kind.CommandClose s.closing ∷ tail in
    let text : command_words s ++ tail ≡ keyword (codes "command") s.keyword ∷ at (kind.CommandOpen s.fence) s.opening ∷ (parts_words words s.parts ++ last) = simp append_assoc in (
      s.keyword,
      at (kind.CommandOpen s.fence) s.opening ∷ (parts_words words s.parts ++ last),
      text,
      goes a_fence (s.fence, s.opening) (parts_words words s.parts ++ last) _ tt tt
          ∙ goes command_parts s.parts last _ p (s.closing, tail, refl)
          ∙ goes a_fence_end s.closing tail _ tt tt,
    )

abbrev pub a_command_section : Worded CommandSection (codes "command")
a_command_section = record { is = IsCommand; words = command_words; read = decls.command; before = Any; stands = Stands ctx.a_task_element; sound = command_sound; full = command_full }
