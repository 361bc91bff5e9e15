-- Marks, words, names and the parts that expressions and types are, as formats.
use Rattle.std.proofs.Common.{◌≡◌, inl, inr, ℕ, true, false, List, [], ◌∷◌, ◌++◌, Option, Some, None, Ok, refl, ap, sym, ◌∙◌, subst, append_assoc}
use Rattle.std.specs.Str.{bytes_eq}
use Rattle.std.proofs.lemmas.Slice.Eq.{bytes_eq-Decides}
use Rattle.wdl_base.specs.declared.span.Span.{Span}
use Rattle.wdl_ast.specs.declared.token.Mark.{Mark}
use Rattle.wdl_ast.specs.declared.token.Mark.TheVariants as mark
use Rattle.wdl_ast.specs.declared.token.Fence.{Fence}
use Rattle.wdl_ast.specs.declared.token.Kind.{Kind}
use Rattle.wdl_ast.specs.declared.token.Kind.TheVariants as kind
use Rattle.wdl_ast.specs.declared.leaf.Ident.{Ident}
use Rattle.wdl_ast.specs.declared.leaf.Word.{Word}
use Rattle.wdl_ast.specs.declared.leaf.PlainString.{PlainString}
use Rattle.wdl_ast.specs.declared.leaf.ListItem.{ListItem}
use Rattle.wdl_ast.specs.declared.leaf.Attribute.{Attribute}
use Rattle.wdl_ast.specs.declared.string.StringPart.{StringPart}
use Rattle.wdl_ast.specs.declared.expr.Expr.{Expr}
use Rattle.wdl_ast.specs.declared.type_tree.TypeTree.{TypeTree}
use Rattle.wdl_ast.specs.Words.{Words, at, marked, keyword, ident, word, comma, plain_words, parts_words, words, type_words}
use Rattle.token_reading.specs.declared.fault.Fault.{Fault}
use Rattle.wdl_parse_expr.specs.Context.{Points, ExprCause, TypeCause}
use Rattle.token_reading.specs.Outcome.{is_mark, eat, eat_word, ident_at}
use Rattle.wdl_parse_expr.specs.Grammar.{max_depth, IsExpr, AreParts}
use Rattle.token_reading.specs.TypeGrammar.{IsType}
use Rattle.token_reading.specs.Strings.{plain}
use Rattle.wdl_parse_expr.specs.Contract.{expr_continues, type_continues, read_expr, read_type, read_parts}
use Rattle.token_reading.proofs.Steps.{ate, ate_word, ate_ident, sees_ident, found_some, found_none, cond_true}
use Rattle.token_reading.proofs.Says.{Says, Takes, says_found}
use Rattle.token_reading.proofs.Strings.{Quiet, plain_sound, plain_full}
use Rattle.wdl_parse_expr.proofs.Readers.{expr_reads, expr_read, type_reads, type_read, parts_reads, parts_read}
use Rattle.wdl_parse_doc.specs.Context as ctx
use Rattle.wdl_parse_doc.specs.Context.{Stands, an_expression, a_command_part, WholeExpr}
use Rattle.wdl_parse_parts.specs.Grammar.{IsIdent}
use Rattle.wdl_parse_parts.specs.Reading.Parts.{need, mark_at, word_at, name_at, key_of, key_at, comma_at, item, attribute}
use Rattle.wdl_parse_parts.specs.Reading.Declarations.{fence_of, fence_at, fence_end_of, fence_end_at}
use Rattle.wdl_parse_doc.proofs.Formats.{Doc, SoundAt, Format, next, at_once, goes}

abbrev pub Any : {A : Type 0} → A → Type 0
Any x = Unit {0}

-- ---- what has to stand there

pub need_says : {A : Type 0} (C : Fault → Type 0) (R : A → Words → Type 0) (o : Option (A × Words)) → ((x : A × Words) → o ≡ Some x → R x.0 x.1) → Says C R (need o)
unfolding need
need_says C R (Some x) f = f x refl
need_says C R None f = tt

pub need_is : {A : Type 0} (o : Option (A × Words)) (x : A × Words) → o ≡ Some x → need o ≡ Ok x
unfolding need
need_is o x h = ap need h

pub mark_sound : (m : Mark) → Quiet {A = Span} Any (λ s. marked m s ∷ []) (mark_at m)
unfolding mark_at
mark_sound m C ts = need_says C (Takes Any (λ s. marked m s ∷ []) ts) (eat m ts) (λ x h. (ate m ts x h, tt))

pub mark_full : (m : Mark) → is_mark m (kind.Mark m) ≡ true → (s : Span) → Any s → (tail : Words) → Any tail → mark_at m (marked m s ∷ tail) ≡ Ok (s, tail)
unfolding mark_at
mark_full m h s p tail q = need_is (eat m (marked m s ∷ tail)) (s, tail) (cond_true (is_mark m (kind.Mark m)) _ _ h)

abbrev pub a_mark : (m : Mark) → is_mark m (kind.Mark m) ≡ true → Format Span
a_mark m h = record { is = Any; words = λ s. marked m s ∷ []; read = mark_at m; before = Any; stands = Any; sound = λ doc front ts g here. mark_sound m (Doc doc) ts; full = mark_full m h }

pub word_sound : (w : List ℕ) → Quiet {A = Span} Any (λ s. keyword w s ∷ []) (word_at w)
unfolding word_at
word_sound w C ts = need_says C (Takes Any (λ s. keyword w s ∷ []) ts) (eat_word w ts) (λ x h. (ate_word w ts x h, tt))

pub word_full : (w : List ℕ) (s : Span) → Any s → (tail : Words) → Any tail → word_at w (keyword w s ∷ tail) ≡ Ok (s, tail)
unfolding word_at
word_full w s p tail q = need_is (eat_word w (keyword w s ∷ tail)) (s, tail) (cond_true (bytes_eq w w) _ _ ((bytes_eq-Decides w w).1 refl))

abbrev pub a_word : List ℕ → Format Span
a_word w = record { is = Any; words = λ s. keyword w s ∷ []; read = word_at w; before = Any; stands = Any; sound = λ doc front ts g here. word_sound w (Doc doc) ts; full = word_full w }

pub name_sound : Quiet IsIdent (λ n. ident n ∷ []) name_at
unfolding name_at
name_sound C ts = need_says C (Takes IsIdent (λ n. ident n ∷ []) ts) (ident_at ts) (λ x h. ate_ident ts x h)

pub name_full : (n : Ident) → IsIdent n → (tail : Words) → Any tail → name_at (ident n ∷ tail) ≡ Ok (n, tail)
unfolding name_at
name_full n p tail q = need_is (ident_at (ident n ∷ tail)) (n, tail) (sees_ident n tail p)

abbrev pub a_name : Format Ident
a_name = record { is = IsIdent; words = λ n. ident n ∷ []; read = name_at; before = Any; stands = Any; sound = λ doc front ts g here. name_sound (Doc doc) ts; full = name_full }

key_from : (C : Fault → Type 0) (k : Kind) (s : Span) (ts : Words) → Says C (Takes Any (λ w. word w ∷ []) (at k s ∷ ts)) (key_of k s ts)
key_from C (kind.Word w) s ts = (refl, tt)
key_from C _ s ts = tt

pub key_sound : Quiet {A = Word} Any (λ w. word w ∷ []) key_at
unfolding key_at
key_sound C [] = tt
key_sound C (t ∷ ts) = key_from C t.kind t.span ts

pub key_full : (w : Word) → Any w → (tail : Words) → Any tail → key_at (word w ∷ tail) ≡ Ok (w, tail)
unfolding key_at
key_full w p tail q = refl

abbrev pub a_key : Format Word
a_key = record { is = Any; words = λ w. word w ∷ []; read = key_at; before = Any; stands = Any; sound = λ doc front ts g here. key_sound (Doc doc) ts; full = key_full }

-- ---- expressions, types and strings

pub doc_expr : (doc : Words) (f : Fault) → Points (ExprCause max_depth WholeExpr f.code) doc f.span → Doc doc f
doc_expr doc f b = (b.0, b.1, b.2, b.3, b.4, inl b.5)

pub doc_type : (doc : Words) (f : Fault) → Points (TypeCause (Stands ctx.a_type) f.code) doc f.span → Doc doc f
doc_type doc f b = (b.0, b.1, b.2, b.3, b.4, inr (inl b.5))

abbrev pub an_expr : Format Expr
an_expr = record { is = IsExpr; words = words; read = read_expr; before = λ tail. expr_continues tail ≡ false; stands = Stands an_expression; sound = λ doc front ts g here. expr_reads WholeExpr doc (Doc doc) (λ f b. doc_expr doc f b) front ts g (inl (refl, here)); full = expr_read }

abbrev pub a_type : Format TypeTree
a_type = record { is = IsType; words = type_words; read = read_type; before = λ tail. type_continues tail ≡ false; stands = Stands ctx.a_type; sound = λ doc front ts g here. type_reads (Stands ctx.a_type) doc (Doc doc) (λ f b. doc_type doc f b) front ts g here; full = type_read }

abbrev pub a_string : Format PlainString
a_string = record { is = Any; words = plain_words; read = plain; before = Any; stands = Any; sound = λ doc front ts g here. plain_sound (Doc doc) ts; full = λ s p tail q. plain_full s tail }

-- ---- commands

fence_from : (C : Fault → Type 0) (k : Kind) (s : Span) (ts : Words) → Says C (Takes Any (λ (f : Fence × Span). at (kind.CommandOpen f.0) f.1 ∷ []) (at k s ∷ ts)) (fence_of k s ts)
fence_from C (kind.CommandOpen f) s ts = (refl, tt)
fence_from C _ s ts = tt

pub fence_sound : Quiet {A = Fence × Span} Any (λ (f : Fence × Span). at (kind.CommandOpen f.0) f.1 ∷ []) fence_at
unfolding fence_at
fence_sound C [] = tt
fence_sound C (t ∷ ts) = fence_from C t.kind t.span ts

pub fence_full : (f : Fence × Span) → Any f → (tail : Words) → Any tail → fence_at (at (kind.CommandOpen f.0) f.1 ∷ tail) ≡ Ok (f, tail)
unfolding fence_at
fence_full f p tail q = refl

abbrev pub a_fence : Format (Fence × Span)
a_fence = record { is = Any; words = λ f. at (kind.CommandOpen f.0) f.1 ∷ []; read = fence_at; before = Any; stands = Any; sound = λ doc front ts g here. fence_sound (Doc doc) ts; full = fence_full }

fence_end_from : (C : Fault → Type 0) (k : Kind) (s : Span) (ts : Words) → Says C (Takes Any (λ c. at kind.CommandClose c ∷ []) (at k s ∷ ts)) (fence_end_of k s ts)
fence_end_from C kind.CommandClose s ts = (refl, tt)
fence_end_from C _ s ts = tt

pub fence_end_sound : Quiet {A = Span} Any (λ c. at kind.CommandClose c ∷ []) fence_end_at
unfolding fence_end_at
fence_end_sound C [] = tt
fence_end_sound C (t ∷ ts) = fence_end_from C t.kind t.span ts

pub fence_end_full : (c : Span) → Any c → (tail : Words) → Any tail → fence_end_at (at kind.CommandClose c ∷ tail) ≡ Ok (c, tail)
unfolding fence_end_at
fence_end_full c p tail q = refl

abbrev pub a_fence_end : Format Span
a_fence_end = record { is = Any; words = λ c. at kind.CommandClose c ∷ []; read = fence_end_at; before = Any; stands = Any; sound = λ doc front ts g here. fence_end_sound (Doc doc) ts; full = fence_end_full }

-- before the end of a command
abbrev pub EndsCommand : Words → Type 0
EndsCommand tail = (c : Span) × (rest : Words) × (tail ≡ at kind.CommandClose c ∷ rest)

pub command_parts_full : (ps : List (StringPart Expr)) → AreParts ps → (tail : Words) → EndsCommand tail → read_parts (parts_words words ps ++ tail) ≡ Ok (ps, tail)
command_parts_full ps p tail e = subst (λ z. read_parts (parts_words words ps ++ z) ≡ Ok (ps, z)) (sym e.2) (parts_read ps p e.0 e.1)

abbrev pub command_parts : Format (List (StringPart Expr))
command_parts = record { is = AreParts; words = parts_words words; read = read_parts; before = EndsCommand; stands = Stands a_command_part; sound = λ doc front ts g here. parts_reads WholeExpr doc (Doc doc) (λ f b. doc_expr doc f b) front ts g (inr (refl, here)); full = command_parts_full }

-- ---- commas

pub comma_sound : Quiet {A = Option Span} Any comma comma_at
unfolding comma_at
comma_sound C ts = says_found C (Takes Any comma ts) (eat mark.Comma ts) _ _ (λ s h. (ate mark.Comma ts s h, tt)) (λ _. (refl, tt))

pub comma_full : (m : Option Span) → Any m → (tail : Words) → eat mark.Comma tail ≡ None → comma_at (comma m ++ tail) ≡ Ok (m, tail)
unfolding comma_at
comma_full (Some s) p tail h = found_some (eat mark.Comma (marked mark.Comma s ∷ tail)) _ _ (s, tail) refl
comma_full None p tail h = found_none (eat mark.Comma tail) _ _ h

abbrev pub a_comma : Format (Option Span)
a_comma = record { is = Any; words = comma; read = comma_at; before = λ tail. eat mark.Comma tail ≡ None; stands = Any; sound = λ doc front ts g here. comma_sound (Doc doc) ts; full = comma_full }

-- ---- elements with an optional comma behind them

module _ {E : Type 0} (F : Format E) (follows : Words → Type 0) (bare : (tail : Words) → follows tail → eat mark.Comma tail ≡ None)
    (behind : (m : Option Span) (tail : Words) → follows tail → F.before (comma m ++ tail)) where
  abbrev pub item_words : ListItem E → Words
  item_words i = F.words i.item ++ comma i.comma

  abbrev pub IsItem : ListItem E → Type 0
  IsItem i = F.is i.item

  pub item_sound : SoundAt F.stands IsItem item_words (item F.read)
  unfolding item
  item_sound doc front ts g here =
      let R : ListItem E → Words → Type 0 = Takes IsItem item_words ts in
      next F R doc front ts g [] ts _ refl (at_once F.stands front here) (λ x a p e.
      next a_comma R doc front ts g (F.words x) a _ e tt (λ m b q h. (h, p)))

  pub item_full : (i : ListItem E) → IsItem i → (tail : Words) → follows tail → item F.read (item_words i ++ tail) ≡ Ok (i, tail)
  unfolding item
  item_full i p tail h =
      let text : item_words i ++ tail ≡ F.words i.item ++ (comma i.comma ++ tail) = simp append_assoc in
      ap (item F.read) text ∙ goes F i.item (comma i.comma ++ tail) _ p (behind i.comma tail h) ∙ goes a_comma i.comma tail _ tt (bare tail h)

  abbrev pub an_item : Format (ListItem E)
  an_item = record { is = IsItem; words = item_words; read = item F.read; before = follows; stands = F.stands; sound = item_sound; full = item_full }

  abbrev pub attribute_words : Attribute E → Words
  attribute_words a = word a.key ∷ marked mark.Colon a.colon ∷ (F.words a.value ++ comma a.comma)

  abbrev pub IsAttribute : Attribute E → Type 0
  IsAttribute a = F.is a.value

  -- behind a key and its colon a value stands
  abbrev pub ValueStands : Words → Type 0
  ValueStands front = (k : Word) (c : Span) → F.stands (front ++ word k ∷ marked mark.Colon c ∷ [])

  pub attribute_sound : SoundAt ValueStands IsAttribute attribute_words (attribute F.read)
  unfolding attribute
  attribute_sound doc front ts g here =
      let R : Attribute E → Words → Type 0 = Takes IsAttribute attribute_words ts in
      next a_key R doc front ts g [] ts _ refl tt (λ k a p e.
      next (a_mark mark.Colon refl) R doc front ts g (word k ∷ []) a _ e tt (λ c b q f.
      next F R doc front ts g (word k ∷ marked mark.Colon c ∷ []) b _ f (here k c) (λ v d r i.
      next a_comma R doc front ts g (word k ∷ marked mark.Colon c ∷ F.words v) d _ i tt (λ m z s h. (h, r)))))

  pub attribute_full : (a : Attribute E) → IsAttribute a → (tail : Words) → follows tail → attribute F.read (attribute_words a ++ tail) ≡ Ok (a, tail)
  unfolding attribute
  attribute_full a p tail h =
      let last : Words = comma a.comma ++ tail in
      let text : attribute_words a ++ tail ≡ word a.key ∷ marked mark.Colon a.colon ∷ (F.words a.value ++ last) = simp append_assoc in
      ap (attribute F.read) text
      ∙ goes a_key a.key (marked mark.Colon a.colon ∷ (F.words a.value ++ last)) _ tt tt
      ∙ goes (a_mark mark.Colon refl) a.colon (F.words a.value ++ last) _ tt tt
      ∙ goes F a.value last _ p (behind a.comma tail h)
      ∙ goes a_comma a.comma tail _ tt (bare tail h)

  abbrev pub an_attribute : Format (Attribute E)
  an_attribute = record { is = IsAttribute; words = attribute_words; read = attribute F.read; before = follows; stands = ValueStands; sound = attribute_sound; full = attribute_full }
