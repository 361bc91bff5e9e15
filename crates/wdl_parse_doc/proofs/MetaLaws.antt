-- Metadata, read and written.
use Rattle.std.proofs.Common.{◌≡◌, ℕ, zero, suc, ◌+◌, ◌<◌, Bool, true, false, inr, List, [], ◌∷◌, ◌++◌, length, Option, Some, None, Ok, refl, ap, sym, ◌∙◌, subst, append_assoc, arith, codes}
use Rattle.wdl_base.specs.declared.span.Span.{Span}
use Rattle.wdl_ast.specs.declared.token.Mark.{Mark}
use Rattle.wdl_ast.specs.declared.token.Mark.TheVariants as mark
use Rattle.wdl_ast.specs.declared.token.Kind.{Kind}
use Rattle.wdl_ast.specs.declared.token.Kind.TheVariants as kind
use Rattle.wdl_ast.specs.declared.token.Token.{Token}
use Rattle.wdl_ast.specs.declared.leaf.PlainString.{PlainString}
use Rattle.wdl_ast.specs.declared.leaf.ListItem.{ListItem}
use Rattle.wdl_ast.specs.declared.leaf.Attribute.{Attribute}
use Rattle.wdl_ast.specs.declared.meta.Number.{Number}
use Rattle.wdl_ast.specs.declared.meta.Number.TheVariants as number
use Rattle.wdl_ast.specs.declared.meta.MetaValue.{MetaValue}
use Rattle.wdl_ast.specs.declared.meta.MetaValue.TheVariants as meta
use Rattle.wdl_ast.specs.Words.{Words, at, marked, keyword, comma, mark_words, plain_words, items_words, attributes_words, number_words, meta_words}
use Rattle.wdl_ast.specs.DocumentWords.{each}
use Rattle.wdl_ast.proofs.WordLaws.{meta_null, meta_true, meta_false, meta_number, meta_str, meta_object, meta_list}
use Rattle.token_reading.specs.Outcome.{Parser, found, too_deep, is_mark, sees, eat, eat_word}
use Rattle.token_reading.proofs.Steps.{ate, ate_word, then_is, cond_true, cond_false}
use Rattle.token_reading.proofs.Says.{Says, Takes, says_then, says_found, says_cond}
use Rattle.wdl_parse_doc.specs.Context as ctx
use Rattle.wdl_parse_doc.specs.Context.{MetaPlace, an_entry, a_value, OpenMeta}
use Rattle.wdl_parse_parts.specs.Grammar as g
use Rattle.wdl_parse_parts.specs.Grammar.{Each, commas_fit, IsMetaOver, MetaWithin, max_meta_depth}
use Rattle.wdl_parse_parts.specs.Reading.Parts.{need, item, attribute}
use Rattle.wdl_parse_parts.specs.Reading.Metadata as r
use Rattle.wdl_parse_parts.specs.Reading.Metadata.{number_of, number_at, meta_at}
use Rattle.wdl_parse_doc.proofs.Formats.{Doc, SoundAt, Format, Parts, starts_some, next, goes, listed, parts_until, until_ends}
use Rattle.wdl_parse_doc.proofs.Leaves.{Any, need_says, need_is, a_mark, a_string, an_item, an_attribute, item_words, attribute_words}
use Rattle.wdl_parse_doc.proofs.Follows.{Settled, settled_comma, mark_apart}

-- ---- numbers

number_from : (k : Kind) (s : Span) (ts : Words) (x : Number × Words) → number_of k s ts ≡ Some x → at k s ∷ ts ≡ number_words x.0 ++ x.1
number_from (kind.Int n) s ts x h = let f : (number.Int n s, ts) ≡ x = cc in ap (λ (y : Number × Words). number_words y.0 ++ y.1) f
number_from (kind.Frac w) s ts x h = let f : (number.Frac w s, ts) ≡ x = cc in ap (λ (y : Number × Words). number_words y.0 ++ y.1) f
number_from _ s ts x h = cc

ate_number : (ts : Words) (x : Number × Words) → number_at ts ≡ Some x → ts ≡ number_words x.0 ++ x.1
ate_number [] x h = cc
ate_number (t ∷ ts) x h = number_from t.kind t.span ts x h

sees_number : (n : Number) (tail : Words) → number_at (number_words n ++ tail) ≡ Some (n, tail)
sees_number (number.Int n s) tail = refl
sees_number (number.Frac w s) tail = refl

-- ---- lists of elements by their parts

pub attributes_each : {V : Type 0} (w : V → Words) (xs : List (Attribute V)) → attributes_words w xs ≡ each (λ a. Rattle.wdl_ast.specs.Words.word a.key ∷ marked mark.Colon a.colon ∷ (w a.value ++ comma a.comma)) xs
attributes_each w [] = refl
attributes_each w (x ∷ xs) = ap (λ z. Rattle.wdl_ast.specs.Words.word x.key ∷ marked mark.Colon x.colon ∷ ((w x.value ++ comma x.comma) ++ z)) (attributes_each w xs)

pub items_each : {E : Type 0} (w : E → Words) (xs : List (ListItem E)) → items_words w xs ≡ each (λ i. w i.item ++ comma i.comma) xs
items_each w [] = refl
items_each w (x ∷ xs) = ap (λ z. (w x.item ++ comma x.comma) ++ z) (items_each w xs)

-- ---- how values begin

abbrev pub begins_meta : Kind → Bool
begins_meta (kind.Word w) = true
begins_meta (kind.Int n) = true
begins_meta (kind.Frac w) = true
begins_meta (kind.StrOpen q) = true
begins_meta (kind.Mark mark.Minus) = true
begins_meta (kind.Mark mark.OpenBrace) = true
begins_meta (kind.Mark mark.OpenBracket) = true
begins_meta _ = false

abbrev MetaBegins : Words → Type 0
MetaBegins ws = (t : Token) × (more : Words) × (ws ≡ t ∷ more) × (begins_meta t.kind ≡ true)

number_begins : (k : Option Span) (n : Number) → MetaBegins (mark_words mark.Minus k ++ number_words n)
number_begins (Some s) n = (marked mark.Minus s, number_words n, refl, refl)
number_begins None (number.Int n s) = (at (kind.Int n) s, [], refl, refl)
number_begins None (number.Frac w s) = (at (kind.Frac w) s, [], refl, refl)

abbrev NoComma : Words → Type 0
NoComma ts = eat mark.Comma ts ≡ None

-- Such a part of metadata stands behind these tokens, and with a value of that depth there the limit is met.
abbrev pub MetaSpot : ℕ → MetaPlace → Words → Type 0
MetaSpot d p front = (n : ℕ) × OpenMeta p n front × (n + d ≡ max_meta_depth)

deep_sound : SoundAt (MetaSpot 0 a_value) (MetaWithin 0) meta_words too_deep
deep_sound doc front [] eq here = tt
deep_sound doc front (t ∷ ts) eq here = let full : here.0 ≡ max_meta_depth = omega (arith, here.2) in (front, t, ts, eq, refl, inr (inr (refl, subst (λ n. OpenMeta a_value n front) full here.1)))

-- inner reads a value, one level deeper
module _ (depth : ℕ) (inner : Parser MetaValue) (sound : SoundAt (MetaSpot depth a_value) (MetaWithin depth) meta_words inner)
    (full : (x : MetaValue) → MetaWithin depth x → (tail : Words) → inner (meta_words x ++ tail) ≡ Ok (x, tail)) (begins : (x : MetaValue) → MetaWithin depth x → MetaBegins (meta_words x)) where
  abbrev In : MetaValue → Type 0
  In = MetaWithin depth

  abbrev value_inside : Format MetaValue
  value_inside = record { is = In; words = meta_words; read = inner; before = Any; stands = MetaSpot depth a_value; sound = sound; full = λ x p tail q. full x p tail }

  abbrev pub attribute_inside : Format (Attribute MetaValue)
  attribute_inside = an_attribute value_inside Settled settled_comma (λ m tail h. tt)

  abbrev pub attributes_inside : Parts (Attribute MetaValue)
  attributes_inside = parts_until attribute_inside mark.CloseBrace (MetaSpot depth an_entry) (λ front s k c. (s.0, ctx.entry_value s.0 front k c s.1, s.2)) (λ x p front s. (s.0, ctx.next_entry s.0 front depth x p s.1, s.2)) Settled (λ tail h. h) (λ x p tail. refl) (λ x p tail. refl) (λ x p. omega arith)

  abbrev item_inside : Format (ListItem MetaValue)
  item_inside = an_item value_inside NoComma (λ tail h. h) (λ m tail h. tt)

  item_starts : (m : Mark) → begins_meta (kind.Mark m) ≡ false → (x : ListItem MetaValue) → In x.item → (tail : Words)
      → (t : Token) × (more : Words) × ((meta_words x.item ++ comma x.comma) ++ tail ≡ t ∷ more) × (is_mark m t.kind ≡ false)
  item_starts m q x p tail = let s = begins x.item p in (s.0, (s.1 ++ comma x.comma) ++ tail, ap (λ z. (z ++ comma x.comma) ++ tail) s.2, mark_apart begins_meta m s.0.kind q s.3)

  item_follows : (x : ListItem MetaValue) → In x.item → (tail : Words) → NoComma ((meta_words x.item ++ comma x.comma) ++ tail)
  item_follows x p tail = let s = item_starts mark.Comma refl x p tail in ap (eat mark.Comma) s.2 ∙ cond_false (is_mark mark.Comma s.0.kind) _ _ s.3

  item_apart : (x : ListItem MetaValue) → In x.item → (tail : Words) → sees mark.CloseBracket ((meta_words x.item ++ comma x.comma) ++ tail) ≡ false
  item_apart x p tail = let s = item_starts mark.CloseBracket refl x p tail in ap (sees mark.CloseBracket) s.2 ∙ s.3

  item_some : (x : ListItem MetaValue) → In x.item → 0 < length (meta_words x.item ++ comma x.comma)
  item_some x p = let s = begins x.item p in starts_some (meta_words x.item ++ comma x.comma) (s.1 ++ comma x.comma) s.0 (ap (λ z. z ++ comma x.comma) s.2)

  abbrev items_inside : Parts (ListItem MetaValue)
  items_inside = parts_until item_inside mark.CloseBracket (MetaSpot depth ctx.an_item) (λ front s. (s.0, ctx.item_value s.0 front s.1, s.2)) (λ x p front s. (s.0, ctx.next_item s.0 front depth x p s.1, s.2)) NoComma (λ tail h. h) item_follows item_apart item_some

  -- ---- what is read is a value

  abbrev Value : Words → MetaValue → Words → Type 0
  Value = Takes (IsMetaOver In) meta_words

  object_sound : (doc front : Words) (o : Span) (ts : Words) → doc ≡ front ++ marked mark.OpenBrace o ∷ ts → MetaSpot (suc depth) a_value front → Says (Doc doc) (Value (marked mark.OpenBrace o ∷ ts)) (r.meta_object inner o ts)
  unfolding r.meta_object
  object_sound doc front o ts eq here =
      let all : Words = marked mark.OpenBrace o ∷ ts in
      next (listed attributes_inside) (Value all) doc front all eq (marked mark.OpenBrace o ∷ []) ts _ refl (suc here.0, ctx.object_ here.0 front o here.1, omega (arith, here.2)) (λ xs a p e.
      next (a_mark mark.CloseBrace refl) (Value all) doc front all eq (marked mark.OpenBrace o ∷ each (attribute_words value_inside Settled settled_comma (λ m tail h. tt)) xs) a _ e tt (λ c b q f.
      (f ∙ sym (ap (λ z. z ++ b) (meta_object o xs c ∙ ap (λ z. marked mark.OpenBrace o ∷ (z ++ marked mark.CloseBrace c ∷ [])) (attributes_each meta_words xs))), g.object_ o xs c p)))

  list_sound : (doc front : Words) (o : Span) (ts : Words) → doc ≡ front ++ marked mark.OpenBracket o ∷ ts → MetaSpot (suc depth) a_value front → Says (Doc doc) (Value (marked mark.OpenBracket o ∷ ts)) (r.meta_list inner o ts)
  unfolding r.meta_list
  list_sound doc front o ts eq here =
      let all : Words = marked mark.OpenBracket o ∷ ts in
      next (listed items_inside) (Value all) doc front all eq (marked mark.OpenBracket o ∷ []) ts _ refl (suc here.0, ctx.list here.0 front o here.1, omega (arith, here.2)) (λ xs a p e.
      next (a_mark mark.CloseBracket refl) (Value all) doc front all eq (marked mark.OpenBracket o ∷ each (item_words value_inside NoComma (λ tail h. h) (λ m tail h. tt)) xs) a _ e tt (λ c b q f.
      says_cond (Doc doc) (Value all) (commas_fit xs) _ _
      (λ fits. (f ∙ sym (ap (λ z. z ++ b) (meta_list o xs c ∙ ap (λ z. marked mark.OpenBracket o ∷ (z ++ marked mark.CloseBracket c ∷ [])) (items_each meta_words xs))), g.list o xs c p fits))
      (λ _. tt)))

  negative_sound : (doc : Words) (s : Span) (ts : Words) → Says (Doc doc) (Value (marked mark.Minus s ∷ ts)) (r.negative s ts)
  unfolding r.negative
  negative_sound doc s ts =
      let all : Words = marked mark.Minus s ∷ ts in
      says_then (Doc doc) (Takes Any number_words ts) (Value all) (need (number_at ts)) _ (need_says (Doc doc) (Takes Any number_words ts) (number_at ts) (λ x h. (ate_number ts x h, tt)))
      (λ n rest a. (ap (λ z. marked mark.Minus s ∷ z) a.0 ∙ sym (ap (λ z. z ++ rest) (meta_number (Some s) n)), g.number (Some s) n))

  leaf_sound : (doc front ts : Words) → doc ≡ front ++ ts → Says (Doc doc) (Value ts) (r.meta_leaf ts)
  unfolding r.meta_leaf
  leaf_sound doc front ts eq = says_found (Doc doc) (Value ts) (number_at ts) _ _
      (λ n h. (ate_number ts n h ∙ sym (ap (λ z. z ++ n.1) (meta_number None n.0)), g.number None n.0))
      (λ _. next a_string (Value ts) doc front ts eq [] ts _ refl tt (λ p rest q e. (e ∙ sym (ap (λ z. z ++ rest) (meta_str p)), g.str p)))

  word_sound : (doc front ts : Words) → doc ≡ front ++ ts → Says (Doc doc) (Value ts) (r.meta_word ts)
  unfolding r.meta_word
  word_sound doc front ts eq =
      says_found (Doc doc) (Value ts) (eat_word (codes "null") ts) _ _ (λ s h. (ate_word (codes "null") ts s h ∙ sym (ap (λ z. z ++ s.1) (meta_null s.0)), g.null s.0)) (λ _.
      says_found (Doc doc) (Value ts) (eat_word (codes "true") ts) _ _ (λ s h. (ate_word (codes "true") ts s h ∙ sym (ap (λ z. z ++ s.1) (meta_true s.0)), g.yes_ s.0)) (λ _.
      says_found (Doc doc) (Value ts) (eat_word (codes "false") ts) _ _ (λ s h. (ate_word (codes "false") ts s h ∙ sym (ap (λ z. z ++ s.1) (meta_false s.0)), g.no_ s.0)) (λ _.
      leaf_sound doc front ts eq)))

  pub over_sound : SoundAt (MetaSpot (suc depth) a_value) (IsMetaOver In) meta_words (r.meta_over inner)
  unfolding r.meta_over
  over_sound doc front ts eq here =
      says_found (Doc doc) (Value ts) (eat mark.OpenBrace ts) _ _ (λ o h. subst (λ z. Says (Doc doc) (Value z) (r.meta_object inner o.0 o.1)) (sym (ate mark.OpenBrace ts o h)) (object_sound doc front o.0 o.1 (eq ∙ ap (λ z. front ++ z) (ate mark.OpenBrace ts o h)) here)) (λ _.
      says_found (Doc doc) (Value ts) (eat mark.OpenBracket ts) _ _ (λ o h. subst (λ z. Says (Doc doc) (Value z) (r.meta_list inner o.0 o.1)) (sym (ate mark.OpenBracket ts o h)) (list_sound doc front o.0 o.1 (eq ∙ ap (λ z. front ++ z) (ate mark.OpenBracket ts o h)) here)) (λ _.
      says_found (Doc doc) (Value ts) (eat mark.Minus ts) _ _ (λ s h. subst (λ z. Says (Doc doc) (Value z) (r.negative s.0 s.1)) (sym (ate mark.Minus ts s h)) (negative_sound doc s.0 s.1)) (λ _.
      word_sound doc front ts eq)))

  -- ---- a value is read

  null_full : (s : Span) (tail : Words) → r.meta_over inner (keyword (codes "null") s ∷ tail) ≡ Ok (meta.Null s, tail)
  unfolding r.meta_over r.meta_word found
  null_full s tail = refl

  true_full : (s : Span) (tail : Words) → r.meta_over inner (keyword (codes "true") s ∷ tail) ≡ Ok (meta.True s, tail)
  unfolding r.meta_over r.meta_word found
  true_full s tail = refl

  false_full : (s : Span) (tail : Words) → r.meta_over inner (keyword (codes "false") s ∷ tail) ≡ Ok (meta.False s, tail)
  unfolding r.meta_over r.meta_word found
  false_full s tail = refl

  number_full : (k : Option Span) (n : Number) (tail : Words) → r.meta_over inner ((mark_words mark.Minus k ++ number_words n) ++ tail) ≡ Ok (meta.Number k n, tail)
  unfolding r.meta_over r.meta_word r.meta_leaf r.negative found
  number_full (Some s) n tail = then_is (need (number_at (number_words n ++ tail))) _ (n, tail) (need_is (number_at (number_words n ++ tail)) (n, tail) (sees_number n tail))
  number_full None (number.Int n s) tail = refl
  number_full None (number.Frac w s) tail = refl

  string_full : (s : PlainString) (tail : Words) → r.meta_over inner (plain_words s ++ tail) ≡ Ok (meta.Str s, tail)
  unfolding r.meta_over r.meta_word r.meta_leaf found
  string_full s tail = goes a_string s tail _ tt tt

  object_full : (o : Span) (xs : List (Attribute MetaValue)) (c : Span) (tail : Words) → Each (g.IsAttribute In) xs
      → r.meta_object inner o (each (attribute_words value_inside Settled settled_comma (λ m tail h. tt)) xs ++ marked mark.CloseBrace c ∷ tail) ≡ Ok (meta.Object o xs c, tail)
  unfolding r.meta_object
  object_full o xs c tail p =
      goes (listed attributes_inside) xs (marked mark.CloseBrace c ∷ tail) _ p (refl, until_ends mark.CloseBrace (attribute inner) (marked mark.CloseBrace c ∷ tail) refl)
      ∙ goes (a_mark mark.CloseBrace refl) c tail _ tt tt

  list_full : (o : Span) (xs : List (ListItem MetaValue)) (c : Span) (tail : Words) → Each (g.IsMetaItem In) xs → commas_fit xs ≡ true
      → r.meta_list inner o (each (item_words value_inside NoComma (λ tail h. h) (λ m tail h. tt)) xs ++ marked mark.CloseBracket c ∷ tail) ≡ Ok (meta.List o xs c, tail)
  unfolding r.meta_list
  list_full o xs c tail p fits =
      goes (listed items_inside) xs (marked mark.CloseBracket c ∷ tail) _ p (refl, until_ends mark.CloseBracket (item inner) (marked mark.CloseBracket c ∷ tail) refl)
      ∙ goes (a_mark mark.CloseBracket refl) c tail _ tt tt
      ∙ cond_true (commas_fit xs) _ _ fits

  at_object : (o : Span) (rest : Words) → r.meta_over inner (marked mark.OpenBrace o ∷ rest) ≡ r.meta_object inner o rest
  unfolding r.meta_over found
  at_object o rest = refl

  at_list : (o : Span) (rest : Words) → r.meta_over inner (marked mark.OpenBracket o ∷ rest) ≡ r.meta_list inner o rest
  unfolding r.meta_over found
  at_list o rest = refl

  pub over_full : (x : MetaValue) → IsMetaOver In x → (tail : Words) → r.meta_over inner (meta_words x ++ tail) ≡ Ok (x, tail)
  over_full x (g.null s) tail = ap (λ z. r.meta_over inner (z ++ tail)) (meta_null s) ∙ null_full s tail
  over_full x (g.yes_ s) tail = ap (λ z. r.meta_over inner (z ++ tail)) (meta_true s) ∙ true_full s tail
  over_full x (g.no_ s) tail = ap (λ z. r.meta_over inner (z ++ tail)) (meta_false s) ∙ false_full s tail
  over_full x (g.number k n) tail = ap (λ z. r.meta_over inner (z ++ tail)) (meta_number k n) ∙ number_full k n tail
  over_full x (g.str s) tail = ap (λ z. r.meta_over inner (z ++ tail)) (meta_str s) ∙ string_full s tail
  over_full x (g.object_ o xs c p) tail =
      let inside : Words = each (attribute_words value_inside Settled settled_comma (λ m tail h. tt)) xs in
      ap (λ z. r.meta_over inner (z ++ tail)) (meta_object o xs c ∙ ap (λ z. marked mark.OpenBrace o ∷ (z ++ marked mark.CloseBrace c ∷ [])) (attributes_each meta_words xs))
      ∙ ap (λ z. r.meta_over inner (marked mark.OpenBrace o ∷ z)) (append_assoc inside (marked mark.CloseBrace c ∷ []) tail)
      ∙ at_object o (inside ++ marked mark.CloseBrace c ∷ tail) ∙ object_full o xs c tail p
  over_full x (g.list o xs c p fits) tail =
      let inside : Words = each (item_words value_inside NoComma (λ tail h. h) (λ m tail h. tt)) xs in
      ap (λ z. r.meta_over inner (z ++ tail)) (meta_list o xs c ∙ ap (λ z. marked mark.OpenBracket o ∷ (z ++ marked mark.CloseBracket c ∷ [])) (items_each meta_words xs))
      ∙ ap (λ z. r.meta_over inner (marked mark.OpenBracket o ∷ z)) (append_assoc inside (marked mark.CloseBracket c ∷ []) tail)
      ∙ at_list o (inside ++ marked mark.CloseBracket c ∷ tail) ∙ list_full o xs c tail p fits

  pub over_begins : (x : MetaValue) → IsMetaOver In x → MetaBegins (meta_words x)
  over_begins x (g.null s) = (_, _, meta_null s, refl)
  over_begins x (g.yes_ s) = (_, _, meta_true s, refl)
  over_begins x (g.no_ s) = (_, _, meta_false s, refl)
  over_begins x (g.number k n) = let s = number_begins k n in (s.0, s.1, meta_number k n ∙ s.2, s.3)
  over_begins x (g.str s) = (_, _, meta_str s, refl)
  over_begins x (g.object_ o xs c p) = (_, _, meta_object o xs c, refl)
  over_begins x (g.list o xs c p fits) = (_, _, meta_list o xs c, refl)

-- ---- to any depth

abbrev Known : ℕ → Type 0
Known d =
    SoundAt (MetaSpot d a_value) (MetaWithin d) meta_words (meta_at d)
    × ((x : MetaValue) → MetaWithin d x → (tail : Words) → meta_at d (meta_words x ++ tail) ≡ Ok (x, tail))
    × ((x : MetaValue) → MetaWithin d x → MetaBegins (meta_words x))

pub known : (d : ℕ) → Known d
unfolding meta_at
known zero = (deep_sound, λ x p tail. absurd p, λ x p. absurd p)
known (suc d) =
    let below = known d in
    (over_sound d (meta_at d) below.0 below.1 below.2, over_full d (meta_at d) below.0 below.1 below.2, over_begins d (meta_at d) below.0 below.1 below.2)

-- the attributes of a section of metadata
abbrev pub meta_attributes : Parts (Attribute MetaValue)
meta_attributes = let all = known max_meta_depth in attributes_inside max_meta_depth (meta_at max_meta_depth) all.0 all.1 all.2
