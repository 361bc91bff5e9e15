-- What is read is a derivation, and its words are the tokens that were taken.
use Rattle.std.proofs.Common.{◌≡◌, ℕ, zero, suc, ◌+◌, ◌<◌, ◌≤◌, max, Bool, true, false, cond, ◌||◌, ◌&&◌, inl, inr, List, [], ◌∷◌, ◌++◌, length, ◌==◌, Option, Some, None, Ok, refl, ap, sym, ◌∙◌, subst, append_assoc, arith, nat_le, codes}
use Rattle.std.proofs.Math.Nat.{max-le}
use Rattle.std.proofs.lemmas.List.{append-nil}
use Rattle.std.proofs.lemmas.Bool.{eq-eqb}
use Rattle.std.proofs.lemmas.Bool.Decides.{nat_tests}
use Rattle.std.proofs.lemmas.Slice.Eq.{bytes_eq-Decides}
use Rattle.std.specs.Str.{bytes_eq}
use Rattle.wdl_base.specs.declared.span.Span.{Span}
use Rattle.wdl_base.specs.Names.{is_name}
use Rattle.wdl_ast.specs.declared.token.Mark.{Mark}
use Rattle.wdl_ast.specs.declared.token.Mark.TheVariants as mark
use Rattle.wdl_ast.specs.declared.token.Quote.{Quote}
use Rattle.wdl_ast.specs.declared.token.HoleMark.{HoleMark}
use Rattle.wdl_ast.specs.declared.token.Kind.{Kind}
use Rattle.wdl_ast.specs.declared.token.Token.{Token}
use Rattle.wdl_ast.specs.declared.token.Kind.TheVariants as kind
use Rattle.wdl_ast.specs.declared.leaf.Ident.{Ident}
use Rattle.wdl_ast.specs.declared.leaf.ListItem.{ListItem}
use Rattle.wdl_ast.specs.declared.string.StringPart.{StringPart}
use Rattle.wdl_ast.specs.declared.string.StringPart.TheVariants as part
use Rattle.wdl_ast.specs.declared.string.PlaceholderOptions.{PlaceholderOptions}
use Rattle.wdl_ast.specs.declared.expr.MapEntry.{MapEntry}
use Rattle.wdl_ast.specs.declared.expr.MemberEntry.{MemberEntry}
use Rattle.wdl_ast.specs.declared.expr.Expr.{Expr}
use Rattle.wdl_ast.specs.declared.expr.Expr.TheVariants as e
use Rattle.wdl_ast.specs.Words.{Words, at, marked, keyword, ident, entry_words, member_words, options_words, part_words, parts_words, binary_mark, unary_mark, words}
use Rattle.wdl_ast.proofs.WordLaws.{words_if, words_binary, words_unary, words_member, words_index, words_true, words_false, words_none, words_int, words_str, words_name, words_call, words_group, words_pair, words_list, words_map, words_struct}
use Rattle.token_reading.specs.declared.fault.Fault.{Fault}
use Rattle.token_reading.specs.declared.tall.Tall.{Tall}
use Rattle.token_reading.specs.declared.tall.Chain.{Chain}
use Rattle.token_reading.specs.declared.tall.Rule.{Rule}
use Rattle.token_reading.specs.declared.tall.Rule.TheVariants as rule
use Rattle.token_reading.specs.Outcome.{Parser, too_deep, is_hole_close, is_str_close, eat_if, eat, eat_word, ident_at, tall, bad, linked, one_more}
use Rattle.token_reading.specs.Forms.{left_out, is_code, is_open_paren, expr_form}
use Rattle.wdl_parse_expr.specs.Grammar as g
use Rattle.token_reading.specs.Operators.{binary_at, unary_at}
use Rattle.wdl_parse_expr.specs.Grammar.{ends_bare, ends_in_choice, Listed, IsEntry, IsMember, Parts, IsPrimary, IsPost, IsUnary, IsRule, IsWhole, IsOf, Tree}
use Rattle.wdl_parse_expr.specs.Context as ctx
use Rattle.wdl_parse_expr.specs.Context.{Part, a_rule, an_expr, an_operand, an_item, an_entry, a_member, a_part, Open, IsNode, Link, IsTooDeep, Points, ExprCause}
use Rattle.wdl_parse_expr.specs.Reading as r
use Rattle.wdl_parse_expr.specs.Reading.{list_of, chained, Step, step, turns, expr}
use Rattle.token_reading.specs.Strings.{options_at}
use Rattle.token_reading.proofs.Steps.{ate, ate_word, ate_ident, ate_hole_close, ate_str_close}
use Rattle.token_reading.proofs.Says.{fault, AnyFault, Says, Takes, Sound, carry, says_then, says_attempt, says_found, says_cond, says_grown}
use Rattle.token_reading.proofs.Tables.{ate_binary, ate_unary}
use Rattle.wdl_parse_expr.proofs.Lists.{IsList, list_sound}
use Rattle.token_reading.proofs.Strings.{options_sound}

abbrev pub tall_words : Tall Expr → Words
tall_words t = words t.tree

-- a reader of expressions gives derivations of their rule
abbrev pub IsSound : (Rule → ℕ → Expr → Type 0) → (Rule → Parser (Tall Expr)) → Type 0
IsSound In inner = (k : Rule) → Sound (λ t. In k t.depth t.tree) tall_words (inner k)

-- the call of a function that is left out is a form of its code
called_out : (n : Ident) (o : Span) (c : ℕ) (rest : Words) → left_out n.name ≡ Some c → expr_form c (kind.Word n.name) (marked mark.OpenParen o ∷ rest) ≡ true
called_out n o c rest h = by_object (c == 121 && bytes_eq n.name (codes "object"))
  where
    by_object : (a : Bool) → (a || is_code c (left_out n.name)) ≡ true
    by_object true = refl
    by_object false = ap (is_code c) h ∙ eq-eqb c c refl

object_form : (w : List ℕ) (ts : Words) → bytes_eq w (codes "object") ≡ true → expr_form 121 (kind.Word w) ts ≡ true
object_form w ts h = ap (λ z. z || (is_open_paren ts && is_code 121 (left_out w))) h

-- a derivation within a depth is no deeper
pub within : (d : ℕ) (k : Rule) (n : ℕ) (x : Expr) → Tree d k n x → n ≤ d
within zero k n x p = absurd p
within (suc d) k n x p = p.1

-- nor is a list of what is no deeper
listed_within : {E : Type 0} (P : ℕ → E → Type 0) (d : ℕ) → ((a : ℕ) (x : E) → P a x → a ≤ d) → (its : List (ListItem E)) (i n : ℕ) → Listed P its i n → i ≤ d → n ≤ d
listed_within P d fits [] i n l h = omega (arith, l, h)
listed_within P d fits (x ∷ more) i n l h = listed_within P d fits more (max i l.0) n l.3 (max-le {a = i} {b = l.0} {k = d} h (fits l.0 x.item l.1))

-- what a rule reads
abbrev pub place : Rule → Part
place rule.Unary = an_operand
place rule.Expr = an_expr

-- Of all the tokens those that are read stand at the end, in an expression whose root is where Root says. C is what is said of a fault.
module _ (limit : ℕ) (Root : Part → Words → Type 0) (tokens : Words) (C : Fault → Type 0) (blame : (f : Fault) → Points (ExprCause limit Root f.code) tokens f.span → C f) where
  -- Such a part stands before these tokens, and with an expression of that depth there the limit is met.
  abbrev pub Spot : ℕ → Part → Words → Type 0
  Spot d p ts = (front : Words) × (n : ℕ) × (tokens ≡ front ++ ts) × Open Root p n front × (limit ≤ n + d)

  -- behind some of them another part does
  moved : (d : ℕ) (p q : Part) (ts before rest : Words) → Spot d p ts → ts ≡ before ++ rest → ((n : ℕ) (ws : Words) → Open Root p n ws → Open Root q n (ws ++ before)) → Spot d q rest
  moved d p q ts before rest s e f = (s.0 ++ before, s.1, s.2 ∙ ap (λ z. s.0 ++ z) e ∙ sym (append_assoc s.0 before rest), f s.1 s.0 s.3, s.4)

  -- one level deeper
  deeper : (d : ℕ) (p q : Part) (ts before rest : Words) → Spot (suc d) p ts → ts ≡ before ++ rest → ((n : ℕ) (ws : Words) → Open Root p n ws → Open Root q (suc n) (ws ++ before)) → Spot d q rest
  deeper d p q ts before rest s e f = (s.0 ++ before, suc s.1, s.2 ∙ ap (λ z. s.0 ++ z) e ∙ sym (append_assoc s.0 before rest), f s.1 s.0 s.3, omega (arith, s.4))

  -- behind a link of a node that has so many before it
  linked_behind : (d c m : ℕ) (p q : Part) (ts before rest : Words) → d ≤ suc c → Spot d p ts → ts ≡ before ++ rest → ((n : ℕ) (ws : Words) → Open Root p n ws → Open Root q (suc m + n) (ws ++ before)) → Spot c q rest
  linked_behind d c m p q ts before rest h s e f = (s.0 ++ before, suc m + s.1, s.2 ∙ ap (λ z. s.0 ++ z) e ∙ sym (append_assoc s.0 before rest), f s.1 s.0 s.3, omega (arith, s.4, h))

  in_item : (d : ℕ) (ts : Words) → Spot d an_item ts → Spot d an_expr ts
  in_item d ts s = (s.0, s.1, s.2, ctx.of_item s.1 s.0 s.3, s.4)

  in_key : (d : ℕ) (ts : Words) → Spot d an_entry ts → Spot d an_expr ts
  in_key d ts s = (s.0, s.1, s.2, ctx.key s.1 s.0 s.3, s.4)

  -- a form that is left out is blamed where an expression stands
  left_out_at : (c : ℕ) (k : Kind) (s : Span) (d : ℕ) (ts rest : Words) → Spot d an_operand ts → ts ≡ at k s ∷ rest → expr_form c k rest ≡ true → C (fault c s)
  left_out_at c k s d ts rest here e h = blame (fault c s) (here.0, at k s, rest, here.2 ∙ ap (λ z. here.0 ++ z) e, refl, inr (here.1, here.3, h))

  -- where an expression of a rule stands, one of each tighter rule does
  tightest : (k n : ℕ) (ws : Words) → Open Root (a_rule k) n ws → Open Root an_operand n ws
  tightest zero n ws p = p
  tightest (suc k) n ws p = tightest k n ws (ctx.tighter k n ws p)

  deep_at : (j : ℕ) (k : Rule) (ts : Words) → Spot 0 (a_rule j) ts → Says C (Takes (λ t. Tree 0 k t.depth t.tree) tall_words ts) (too_deep ts)
  deep_at j k [] here = tt
  deep_at j k (t ∷ ts) here = blame (fault 111 t.span) (here.0, t, ts, here.2, refl, inl (refl, inl (here.1, tightest j here.1 here.0 here.3, omega (arith, here.4))))

  pub deep_sound : (k : Rule) (ts : Words) → Spot 0 (place k) ts → Says C (Takes (λ t. Tree 0 k t.depth t.tree) tall_words ts) (too_deep ts)
  deep_sound rule.Unary ts here = deep_at 0 rule.Unary ts here
  deep_sound rule.Expr ts here = deep_at 6 rule.Expr ts here

  abbrev pub IsSoundAt : (depth : ℕ) → (Rule → Parser (Tall Expr)) → Type 0
  IsSoundAt depth inner = (k : Rule) (ts : Words) → Spot depth (place k) ts → Says C (Takes (λ t. Tree depth k t.depth t.tree) tall_words ts) (inner k ts)

  module _ (depth : ℕ) (inner : Rule → Parser (Tall Expr)) (sound : IsSoundAt depth inner) where
    abbrev In : Rule → ℕ → Expr → Type 0
    In = Tree depth

    abbrev OfExpr : Tall Expr → Type 0
    OfExpr t = In rule.Expr t.depth t.tree

    -- what an expression inside says, behind these tokens
    abbrev Inside : Words → Tall Expr → Words → Type 0
    Inside = Takes OfExpr tall_words

    -- ---- elements of lists

    entry_sound : (ts : Words) → Spot depth an_entry ts → Says C (Takes (λ t. IsEntry In t.depth t.tree) (λ t. entry_words words t.tree) ts) (r.entry inner ts)
    unfolding r.entry
    entry_sound ts here =
        let R : Tall (MapEntry Expr) → Words → Type 0 = Takes (λ t. IsEntry In t.depth t.tree) (λ t. entry_words words t.tree) ts in
        says_then C (Inside ts) R (inner rule.Expr ts) _ (sound rule.Expr ts (in_key depth ts here)) (λ k rest a.
        says_found C R (eat mark.Colon rest) _ _ (λ c h.
        let text : ts ≡ (words k.tree ++ marked mark.Colon c.0 ∷ []) ++ c.1 = a.0 ∙ ap (λ z. words k.tree ++ z) (ate mark.Colon rest c h) ∙ sym (append_assoc (words k.tree) (marked mark.Colon c.0 ∷ []) c.1) in
        let spot = moved depth an_entry an_expr ts (words k.tree ++ marked mark.Colon c.0 ∷ []) c.1 here text (λ n ws p. ctx.value n ws depth k.depth k.tree c.0 a.1 p) in
        says_then C (Inside c.1) R (inner rule.Expr c.1) _ (sound rule.Expr c.1 spot) (λ v after b.
        (text ∙ ap (λ z. (words k.tree ++ marked mark.Colon c.0 ∷ []) ++ z) b.0 ∙ simp append_assoc, (k.depth, v.depth, a.1, b.1, refl))))
        (λ _. tt))

    pub member_sound : (ts : Words) → Spot depth a_member ts → Says C (Takes (λ t. IsMember In t.depth t.tree) (λ t. member_words words t.tree) ts) (r.member inner ts)
    unfolding r.member
    member_sound ts here =
        let R : Tall (MemberEntry Expr) → Words → Type 0 = Takes (λ t. IsMember In t.depth t.tree) (λ t. member_words words t.tree) ts in
        says_found C R (ident_at ts) _ _ (λ n p.
        says_found C R (eat mark.Colon n.1) _ _ (λ c h.
        let named = ate_ident ts n p in
        let text : ts ≡ (ident n.0 ∷ marked mark.Colon c.0 ∷ []) ++ c.1 = named.0 ∙ ap (λ z. ident n.0 ∷ z) (ate mark.Colon n.1 c h) in
        let spot = moved depth a_member an_expr ts (ident n.0 ∷ marked mark.Colon c.0 ∷ []) c.1 here text (λ m ws q. ctx.of_member m ws n.0 c.0 named.1 q) in
        says_then C (Inside c.1) R (inner rule.Expr c.1) _ (sound rule.Expr c.1 spot) (λ v after b.
        (text ∙ ap (λ z. ident n.0 ∷ marked mark.Colon c.0 ∷ z) b.0, (named.1, b.1))))
        (λ _. tt)) (λ _. tt)

    -- ---- lists

    items_sound : (close : Mark) (ts : Words) → Spot depth an_item ts → Says C (IsList (In rule.Expr) words (inner rule.Expr) close ts) (list_of (inner rule.Expr) close ts)
    items_sound close ts here = list_sound (In rule.Expr) words (inner rule.Expr) close C (Spot depth an_item) (λ ts here. sound rule.Expr ts (in_item depth ts here))
        (λ x m ts rest p here e. moved depth an_item an_item ts (words x.tree ++ marked mark.Comma m ∷ []) rest here e (λ n ws o. ctx.item n ws depth x.depth x.tree m p o)) ts here

    entries_sound : (ts : Words) → Spot depth an_entry ts → Says C (IsList (IsEntry In) (entry_words words) (r.entry inner) mark.CloseBrace ts) (list_of (r.entry inner) mark.CloseBrace ts)
    entries_sound ts here = list_sound (IsEntry In) (entry_words words) (r.entry inner) mark.CloseBrace C (Spot depth an_entry) entry_sound
        (λ x m ts rest p here e. moved depth an_entry an_entry ts (entry_words words x.tree ++ marked mark.Comma m ∷ []) rest here e (λ n ws o. ctx.entry n ws depth x.depth x.tree m p o)) ts here

    members_sound : (ts : Words) → Spot depth a_member ts → Says C (IsList (IsMember In) (member_words words) (r.member inner) mark.CloseBrace ts) (list_of (r.member inner) mark.CloseBrace ts)
    members_sound ts here = list_sound (IsMember In) (member_words words) (r.member inner) mark.CloseBrace C (Spot depth a_member) member_sound
        (λ x m ts rest p here e. moved depth a_member a_member ts (member_words words x.tree ++ marked mark.Comma m ∷ []) rest here e (λ n ws o. ctx.member n ws depth x.depth x.tree m p o)) ts here

    items_within : (its : List (ListItem Expr)) (n : ℕ) → Listed (In rule.Expr) its 0 n → n ≤ depth
    items_within its n l = listed_within (In rule.Expr) depth (within depth rule.Expr) its 0 n l (omega arith)

    entries_within : (es : List (ListItem (MapEntry Expr))) (n : ℕ) → Listed (IsEntry In) es 0 n → n ≤ depth
    entries_within es n l = listed_within (IsEntry In) depth (λ a m p. subst (λ z. z ≤ depth) (sym p.4) (max-le {a = p.0} {b = p.1} {k = depth} (within depth rule.Expr p.0 m.key p.2) (within depth rule.Expr p.1 m.value p.3))) es 0 n l (omega arith)

    members_within : (ms : List (ListItem (MemberEntry Expr))) (n : ℕ) → Listed (IsMember In) ms 0 n → n ≤ depth
    members_within ms n l = listed_within (IsMember In) depth (λ a m p. within depth rule.Expr a m.value p.1) ms 0 n l (omega arith)

    parts_within : (ps : List (StringPart Expr)) (i n : ℕ) → Parts In ps i n → i ≤ depth → n ≤ depth
    parts_within [] i n p h = omega (arith, p, h)
    parts_within (part.Chars c ∷ more) i n p h = parts_within more i n p h
    parts_within (part.Placeholder x ∷ more) i n p h = parts_within more (max i p.0) n p.2 (max-le {a = i} {b = p.0} {k = depth} h (within depth rule.Expr p.0 x.expr p.1))

    -- ---- primaries

    -- a primary that is no deeper than one more than its parts may be
    abbrev Prime : Words → Tall Expr → Words → Type 0
    Prime = Takes (λ t. IsPrimary In t.depth t.tree × (t.depth ≤ suc depth)) tall_words

    abbrev name_prime : (n : Ident) → is_name n.name ≡ true → (ts : Words) → Prime (ident n ∷ ts) (tall (e.Name n) 1) ts
    name_prime n h ts = (sym (ap (λ z. z ++ ts) (words_name n)), (g.name n h, omega arith))

    arguments_sound : (n : Ident) (o : Span) (rest : Words) → is_name n.name ≡ true → left_out n.name ≡ None → Spot (suc depth) an_operand (ident n ∷ marked mark.OpenParen o ∷ rest)
        → Says C (Prime (ident n ∷ marked mark.OpenParen o ∷ rest)) (r.arguments depth inner n o rest (marked mark.OpenParen o ∷ rest))
    unfolding r.arguments
    arguments_sound n o rest h out here =
        let ts : Words = marked mark.OpenParen o ∷ rest in
        let all : Words = ident n ∷ ts in
        says_attempt C (IsList (In rule.Expr) words (inner rule.Expr) mark.CloseParen rest) (Prime all) _ _ _ (items_sound mark.CloseParen rest (deeper depth an_operand an_item all (ident n ∷ marked mark.OpenParen o ∷ []) rest here refl (λ m ws p. ctx.call m ws n o h out p)))
        (λ l after a. says_cond C (Prime all) (ends_bare l.items) _ _
        (λ bare.
        let fits = items_within l.items l.inside a.1 in
        says_grown C (Prime all) depth o l.inside (e.Call n o l.items l.closing) after fits (ap (λ z. ident n ∷ marked mark.OpenParen o ∷ z) a.0 ∙ sym (simp (words_call, append_assoc)), (g.call n o l.items l.closing l.inside h out a.1 bare, omega (arith, fits))))
        (λ _. name_prime n h ts))
        (name_prime n h ts)

    call_sound : (n : Ident) (o : Span) (rest : Words) → is_name n.name ≡ true → Spot (suc depth) an_operand (ident n ∷ marked mark.OpenParen o ∷ rest)
        → Says C (Prime (ident n ∷ marked mark.OpenParen o ∷ rest)) (r.call depth inner n o rest (marked mark.OpenParen o ∷ rest))
    unfolding r.call
    call_sound n o rest h here = by_code (left_out n.name) refl
      where
        by_code : (c : Option ℕ) → left_out n.name ≡ c → Says C (Prime (ident n ∷ marked mark.OpenParen o ∷ rest)) (r.call_by depth inner c n o rest (marked mark.OpenParen o ∷ rest))
        by_code (Some c) q = left_out_at c (kind.Word n.name) n.span (suc depth) (ident n ∷ marked mark.OpenParen o ∷ rest) (marked mark.OpenParen o ∷ rest) here refl (called_out n o c rest q)
        by_code None q = arguments_sound n o rest h q here

    struct_sound : (n : Ident) (o : Span) (rest : Words) → is_name n.name ≡ true → Spot (suc depth) an_operand (ident n ∷ marked mark.OpenBrace o ∷ rest)
        → Says C (Prime (ident n ∷ marked mark.OpenBrace o ∷ rest)) (r.struct_literal depth inner n o rest (marked mark.OpenBrace o ∷ rest))
    unfolding r.struct_literal
    struct_sound n o rest h here =
        let ts : Words = marked mark.OpenBrace o ∷ rest in
        let all : Words = ident n ∷ ts in
        says_attempt C (IsList (IsMember In) (member_words words) (r.member inner) mark.CloseBrace rest) (Prime all) _ _ _ (members_sound rest (deeper depth an_operand a_member all (ident n ∷ marked mark.OpenBrace o ∷ []) rest here refl (λ m ws p. ctx.struct_ m ws n o h p)))
        (λ l after a.
        let fits = members_within l.items l.inside a.1 in
        says_grown C (Prime all) depth o l.inside (e.Struct n o l.items l.closing) after fits (ap (λ z. ident n ∷ marked mark.OpenBrace o ∷ z) a.0 ∙ sym (simp (words_struct, append_assoc)), (g.struct_ n o l.items l.closing l.inside h a.1, omega (arith, fits))))
        (name_prime n h ts)

    named_sound : (n : Ident) (ts : Words) → is_name n.name ≡ true → Spot (suc depth) an_operand (ident n ∷ ts) → Says C (Prime (ident n ∷ ts)) (r.named depth inner n ts)
    unfolding r.named
    named_sound n ts h here =
        says_found C (Prime (ident n ∷ ts)) (eat mark.OpenParen ts) _ _
        (λ o q. let text = ate mark.OpenParen ts o q in subst (λ z. Says C (Prime (ident n ∷ z)) (r.call depth inner n o.0 o.1 z)) (sym text) (call_sound n o.0 o.1 h (subst (λ z. Spot (suc depth) an_operand (ident n ∷ z)) text here)))
        (λ _. says_found C (Prime (ident n ∷ ts)) (eat mark.OpenBrace ts) _ _
        (λ o q. let text = ate mark.OpenBrace ts o q in subst (λ z. Says C (Prime (ident n ∷ z)) (r.struct_literal depth inner n o.0 o.1 z)) (sym text) (struct_sound n o.0 o.1 h (subst (λ z. Spot (suc depth) an_operand (ident n ∷ z)) text here)))
        (λ _. name_prime n h ts))

    pair_sound : (o : Span) (x : Tall Expr) (k : Span) (ts all : Words) → all ≡ (marked mark.OpenParen o ∷ (words x.tree ++ marked mark.Comma k ∷ [])) ++ ts → OfExpr x → Spot (suc depth) an_operand all → Says C (Prime all) (r.pair_end depth inner o x k ts)
    unfolding r.pair_end
    pair_sound o x k ts all text p here =
        let before : Words = marked mark.OpenParen o ∷ (words x.tree ++ marked mark.Comma k ∷ []) in
        let spot = deeper depth an_operand an_expr all before ts here text (λ n ws q. ctx.second n ws o depth x.depth x.tree k p q) in
        says_then C (Inside ts) (Prime all) (inner rule.Expr ts) _ (sound rule.Expr ts spot) (λ y rest b.
        says_found C (Prime all) (eat mark.CloseParen rest) _ _ (λ c q.
        let fits = max-le {a = x.depth} {b = y.depth} {k = depth} (within depth rule.Expr x.depth x.tree p) (within depth rule.Expr y.depth y.tree b.1) in
        says_grown C (Prime all) depth o (max x.depth y.depth) (e.Pair o x.tree k y.tree c.0) c.1 fits (text ∙ ap (λ z. before ++ z) (b.0 ∙ ap (λ z. words y.tree ++ z) (ate mark.CloseParen rest c q)) ∙ sym (simp (words_pair, append_assoc)), (g.pair o x.tree k y.tree c.0 x.depth y.depth p b.1, omega (arith, fits))))
        (λ _. tt))

    paren_sound : (o : Span) (ts : Words) → Spot (suc depth) an_operand (marked mark.OpenParen o ∷ ts) → Says C (Prime (marked mark.OpenParen o ∷ ts)) (r.paren depth inner o ts)
    unfolding r.paren
    paren_sound o ts here =
        let all : Words = marked mark.OpenParen o ∷ ts in
        let spot = deeper depth an_operand an_expr all (marked mark.OpenParen o ∷ []) ts here refl (λ n ws p. ctx.group n ws o p) in
        says_then C (Inside ts) (Prime all) (inner rule.Expr ts) _ (sound rule.Expr ts spot) (λ x rest a.
        says_found C (Prime all) (eat mark.CloseParen rest) _ _ (λ c q.
        let fits = within depth rule.Expr x.depth x.tree a.1 in
        says_grown C (Prime all) depth o x.depth (e.Group o x.tree c.0) c.1 fits (ap (λ z. marked mark.OpenParen o ∷ z) (a.0 ∙ ap (λ z. words x.tree ++ z) (ate mark.CloseParen rest c q)) ∙ sym (simp (words_group, append_assoc)), (g.group o x.tree c.0 x.depth a.1, omega (arith, fits))))
        (λ _. says_found C (Prime all) (eat mark.Comma rest) _ _ (λ k q.
        pair_sound o x k.0 k.1 all (ap (λ z. marked mark.OpenParen o ∷ z) (a.0 ∙ ap (λ z. words x.tree ++ z) (ate mark.Comma rest k q) ∙ sym (append_assoc (words x.tree) (marked mark.Comma k.0 ∷ []) k.1))) a.1 here)
        (λ _. tt)))

    list_literal_sound : (o : Span) (ts : Words) → Spot (suc depth) an_operand (marked mark.OpenBracket o ∷ ts) → Says C (Prime (marked mark.OpenBracket o ∷ ts)) (r.list depth inner o ts)
    unfolding r.list
    list_literal_sound o ts here =
        let all : Words = marked mark.OpenBracket o ∷ ts in
        says_then C (IsList (In rule.Expr) words (inner rule.Expr) mark.CloseBracket ts) (Prime all) _ _ (items_sound mark.CloseBracket ts (deeper depth an_operand an_item all (marked mark.OpenBracket o ∷ []) ts here refl (λ n ws p. ctx.list n ws o p))) (λ l rest a.
        let fits = items_within l.items l.inside a.1 in
        says_grown C (Prime all) depth o l.inside (e.List o l.items l.closing) rest fits (ap (λ z. marked mark.OpenBracket o ∷ z) a.0 ∙ sym (simp (words_list, append_assoc)), (g.list o l.items l.closing l.inside a.1, omega (arith, fits))))

    map_sound : (o : Span) (ts : Words) → Spot (suc depth) an_operand (marked mark.OpenBrace o ∷ ts) → Says C (Prime (marked mark.OpenBrace o ∷ ts)) (r.map_literal depth inner o ts)
    unfolding r.map_literal
    map_sound o ts here =
        let all : Words = marked mark.OpenBrace o ∷ ts in
        says_then C (IsList (IsEntry In) (entry_words words) (r.entry inner) mark.CloseBrace ts) (Prime all) _ _ (entries_sound ts (deeper depth an_operand an_entry all (marked mark.OpenBrace o ∷ []) ts here refl (λ n ws p. ctx.map n ws o p))) (λ l rest a.
        let fits = entries_within l.items l.inside a.1 in
        says_grown C (Prime all) depth o l.inside (e.Map o l.items l.closing) rest fits (ap (λ z. marked mark.OpenBrace o ∷ z) a.0 ∙ sym (simp (words_map, append_assoc)), (g.map o l.items l.closing l.inside a.1, omega (arith, fits))))

    -- ---- strings

    -- a part of that depth stands before others, and in front of them
    abbrev Follows : Tall (StringPart Expr) → Type 0
    Follows t = ((more : List (StringPart Expr)) (i n : ℕ) → Parts In more (max i t.depth) n → Parts In (t.tree ∷ more) i n)
        × ((n : ℕ) (ws : Words) → Open Root a_part n ws → Open Root a_part n (ws ++ part_words words t.tree))

    -- the placeholder whose expression is that deep
    abbrev HoleOf : HoleMark → Span → Words → Tall (StringPart Expr) → Words → Type 0
    HoleOf m o ts t r = (at (kind.HoleOpen m) o ∷ ts ≡ part_words words t.tree ++ r) × Follows t

    hole_sound : (m : HoleMark) (o : Span) (ts : Words) → Spot depth a_part (at (kind.HoleOpen m) o ∷ ts) → Says C (HoleOf m o ts) (r.hole inner m o ts)
    unfolding r.hole
    hole_sound m o ts here =
        let all : Words = at (kind.HoleOpen m) o ∷ ts in
        let R : Tall (StringPart Expr) → Words → Type 0 = HoleOf m o ts in
        says_then C (Takes {A = PlaceholderOptions} (λ _. Unit {0}) options_words ts) R (options_at ts) _ (options_sound C ts) (λ os rest a.
        let spot = moved depth a_part an_expr all (at (kind.HoleOpen m) o ∷ options_words os) rest here (ap (λ z. at (kind.HoleOpen m) o ∷ z) a.0) (λ n ws p. ctx.hole n ws m o os p) in
        says_then C (Inside rest) R (inner rule.Expr rest) _ (sound rule.Expr rest spot) (λ x more b.
        says_found C R (eat_if is_hole_close more) _ _ (λ c q. (
          ap (λ z. at (kind.HoleOpen m) o ∷ z) (a.0 ∙ ap (λ z. options_words os ++ z) (b.0 ∙ ap (λ z. words x.tree ++ z) (ate_hole_close more c q))) ∙ sym (simp append_assoc),
          ((λ others i n p. (x.depth, b.1, p)), λ n ws p. ctx.placeholder n ws depth x.depth (record { mark = m; opening = o; options = os; expr = x.tree; closing = c.0 }) b.1 p),
        ))
        (λ _. tt)))

    abbrev PartOf : Words → Option (Tall (StringPart Expr)) → Words → Type 0
    PartOf ts (Some t) r = (ts ≡ part_words words t.tree ++ r) × Follows t
    PartOf ts None r = ts ≡ r

    max_zero : (i n : ℕ) (more : List (StringPart Expr)) → Parts In more (max i 0) n → Parts In more i n
    max_zero i n more p = subst (λ z. Parts In more z n) (grind arith) p

    part_from : (k : Kind) (s : Span) (ts : Words) → Spot depth a_part (at k s ∷ ts) → Says C (PartOf (at k s ∷ ts)) (r.part_of inner k s ts)
    part_from (kind.Chars w) s ts here = (refl, ((λ more i n p. max_zero i n more p), λ n ws p. ctx.chars n ws (record { text = w; span = s }) p))
    part_from (kind.HoleOpen m) s ts here = says_then C (HoleOf m s ts) (PartOf (at (kind.HoleOpen m) s ∷ ts)) (r.hole inner m s ts) _ (hole_sound m s ts here) (λ x rest a. a)
    part_from _ s ts here = refl

    part_sound : (ts : Words) → Spot depth a_part ts → Says C (PartOf ts) (r.part_at inner ts)
    part_sound [] here = refl
    part_sound (t ∷ ts) here = part_from t.kind t.span ts here

    -- the parts that were added to those before
    abbrev Joined : List (StringPart Expr) → ℕ → Words → Tall (List (StringPart Expr)) → Words → Type 0
    Joined all i ts t r = (new : List (StringPart Expr)) × (t.tree ≡ all ++ new) × (ts ≡ parts_words words new ++ r) × Parts In new i t.depth

    part_then : (n : ℕ) (all : List (StringPart Expr)) (i : ℕ) (ts : Words) (x : Option (Tall (StringPart Expr))) (rest : Words)
        → ((all : List (StringPart Expr)) (i : ℕ) (ts : Words) → Spot depth a_part ts → Says C (Joined all i ts) (r.parts_from inner n all i ts))
        → Spot depth a_part ts → PartOf ts x rest → Says C (Joined all i ts) (one_more x (λ x. r.parts_from inner n (all ++ x.tree ∷ []) (max i x.depth) rest) (Ok (tall all i, rest)))
    part_then n all i ts (Some x) rest next spot here =
        carry C (Joined (all ++ x.tree ∷ []) (max i x.depth) rest) (Joined all i ts) _ (λ t r a. (x.tree ∷ a.0, a.1 ∙ append_assoc all (x.tree ∷ []) a.0, here.0 ∙ ap (λ z. part_words words x.tree ++ z) a.2 ∙ sym (append_assoc (part_words words x.tree) (parts_words words a.0) r), here.1.0 a.0 i t.depth a.3))
        (next (all ++ x.tree ∷ []) (max i x.depth) rest (moved depth a_part a_part ts (part_words words x.tree) rest spot here.0 here.1.1))
    part_then n all i ts None rest next spot here = ([], sym (append-nil all), here, refl)

    parts_says : (n : ℕ) (all : List (StringPart Expr)) (i : ℕ) (ts : Words) → Spot depth a_part ts → Says C (Joined all i ts) (r.parts_from inner n all i ts)
    unfolding r.parts_from
    parts_says zero all i ts here = ([], sym (append-nil all), refl, refl)
    parts_says (suc n) all i ts here = says_then C (PartOf ts) (Joined all i ts) (r.part_at inner ts) _ (part_sound ts here) (λ x rest a. part_then n all i ts x rest (parts_says n) here a)

    -- the parts of a string or a command
    pub parts_sound : (ts : Words) → Spot depth a_part ts → Says C (Takes (λ t. Parts In t.tree 0 t.depth) (λ t. parts_words words t.tree) ts) (r.parts inner ts)
    parts_sound ts here = carry C (Joined [] 0 ts) (Takes (λ t. Parts In t.tree 0 t.depth) (λ t. parts_words words t.tree) ts) (r.parts inner ts) (λ t r a. (a.2 ∙ ap (λ z. parts_words words z ++ r) (sym a.1), subst (λ z. Parts In z 0 t.depth) (sym a.1) a.3)) (parts_says _ [] 0 ts here)

    text_sound : (q : Quote) (o : Span) (ts : Words) → Spot (suc depth) an_operand (at (kind.StrOpen q) o ∷ ts) → Says C (Prime (at (kind.StrOpen q) o ∷ ts)) (r.text depth inner q o ts)
    unfolding r.text
    text_sound q o ts here =
        let all : Words = at (kind.StrOpen q) o ∷ ts in
        says_then C (Takes (λ t. Parts In t.tree 0 t.depth) (λ t. parts_words words t.tree) ts) (Prime all) (r.parts inner ts) _ (parts_sound ts (deeper depth an_operand a_part all (at (kind.StrOpen q) o ∷ []) ts here refl (λ n ws p. ctx.str n ws q o p))) (λ ps rest a.
        says_found C (Prime all) (eat_if is_str_close rest) _ _ (λ c h.
        let fits = parts_within ps.tree 0 ps.depth a.1 (omega arith) in
        says_grown C (Prime all) depth o ps.depth (e.Str (record { quote = q; opening = o; parts = ps.tree; closing = c.0 })) c.1 fits (ap (λ z. at (kind.StrOpen q) o ∷ z) (a.0 ∙ ap (λ z. parts_words words ps.tree ++ z) (ate_str_close rest c h)) ∙ sym (simp (words_str, append_assoc)), (g.str q o ps.tree c.0 ps.depth a.1, omega (arith, fits))))
        (λ _. tt))

    -- ---- words

    literal_sound : (w : List ℕ) (s : Span) (ts : Words) → Spot (suc depth) an_operand (keyword w s ∷ ts) → Says C (Prime (keyword w s ∷ ts)) (r.literal depth inner w s ts)
    unfolding r.literal
    literal_sound w s ts here =
        let all : Words = keyword w s ∷ ts in
        let spelled : (v : List ℕ) → bytes_eq w v ≡ true → all ≡ keyword v s ∷ ts = λ v h. ap (λ z. keyword z s ∷ ts) ((bytes_eq-Decides w v).0 h) in
        says_cond C (Prime all) (bytes_eq w (codes "true")) _ _ (λ h. (spelled (codes "true") h ∙ sym (ap (λ z. z ++ ts) (words_true s)), (g.yes_ s, omega arith))) (λ _.
        says_cond C (Prime all) (bytes_eq w (codes "false")) _ _ (λ h. (spelled (codes "false") h ∙ sym (ap (λ z. z ++ ts) (words_false s)), (g.no_ s, omega arith))) (λ _.
        says_cond C (Prime all) (bytes_eq w (codes "None")) _ _ (λ h. (spelled (codes "None") h ∙ sym (ap (λ z. z ++ ts) (words_none s)), (g.none s, omega arith))) (λ _.
        says_cond C (Prime all) (bytes_eq w (codes "object")) _ _ (λ h. left_out_at 121 (kind.Word w) s (suc depth) all ts here refl (object_form w ts h)) (λ _. tt))))

    worded_sound : (w : List ℕ) (s : Span) (ts : Words) → Spot (suc depth) an_operand (keyword w s ∷ ts) → Says C (Prime (keyword w s ∷ ts)) (r.worded depth inner w s ts)
    unfolding r.worded
    worded_sound w s ts here = says_cond C (Prime (keyword w s ∷ ts)) (is_name w) _ _ (λ h. named_sound (record { name = w; span = s }) ts h here) (λ _. literal_sound w s ts here)

    primary_from : (k : Kind) (s : Span) (ts : Words) → Spot (suc depth) an_operand (at k s ∷ ts) → Says C (Prime (at k s ∷ ts)) (r.primary_of depth inner k s ts)
    primary_from (kind.Int n) s ts here = (sym (ap (λ z. z ++ ts) (words_int n s)), (g.int n s, omega arith))
    primary_from (kind.Frac w) s ts here = left_out_at 120 (kind.Frac w) s (suc depth) (at (kind.Frac w) s ∷ ts) ts here refl refl
    primary_from (kind.Word w) s ts here = worded_sound w s ts here
    primary_from (kind.Mark mark.OpenParen) s ts here = paren_sound s ts here
    primary_from (kind.Mark mark.OpenBracket) s ts here = list_literal_sound s ts here
    primary_from (kind.Mark mark.OpenBrace) s ts here = map_sound s ts here
    primary_from (kind.StrOpen q) s ts here = text_sound q s ts here
    primary_from _ s ts here = tt

    primary_sound : (ts : Words) → Spot (suc depth) an_operand ts → Says C (Prime ts) (r.primary depth inner ts)
    unfolding r.primary
    primary_sound [] here = tt
    primary_sound (t ∷ ts) here = primary_from t.kind t.span ts here

    -- ---- members, indices and operators

    -- what was read of a node with operators, members or indices
    abbrev Chained : (ℕ → ℕ → Expr → Type 0) → Words → Chain → Words → Type 0
    Chained P all c ts = (all ≡ words c.left.tree ++ ts) × P c.links c.inside c.left.tree × (c.left.depth ≡ c.links + c.inside) × (c.left.depth ≤ suc depth)

    abbrev StepOf : (ℕ → ℕ → Expr → Type 0) → Words → Words → Option Chain → Words → Type 0
    StepOf P all ts (Some c) r = Chained P all c r
    StepOf P all ts None r = ts ≡ r

    linked_says : (P : ℕ → ℕ → Expr → Type 0) (level : ℕ) → ((m i : ℕ) (y : Expr) → P m i y → IsNode depth level m i y) → (all ts : Words) (s : Span) (links inside : ℕ) (y : Expr) (rest left : Words) (t : Token) (after : Words) → t.span ≡ s → Link y left t
        → all ≡ left ++ t ∷ after → Spot (suc depth) (a_rule level) all → all ≡ words y ++ rest → P (suc links) inside y → Says C (StepOf P all ts) (step (linked depth s links inside y rest))
    unfolding linked
    linked_says P level node all ts s links inside y rest left t after spanned link split here text p = by_depth (nat_le (links + inside) depth) refl
      where
        by_depth : (b : Bool) → nat_le (links + inside) depth ≡ b → Says C (StepOf P all ts) (step (cond b (Ok (record { left = tall y (suc (links + inside)); links = suc links; inside = inside }, rest)) (bad 111 s)))
        by_depth true h = (text, p, omega arith, grind (arith, nat_tests))
        by_depth false h =
            let past : depth < links + inside = grind (arith, nat_tests) in
            let cause : IsTooDeep limit Root (here.0 ++ left) t after = record { front = here.0; open_ = here.1; level = level; stands = here.3; node = y; within = depth; links = suc links; inside = inside; is = node (suc links) inside y p; left = left; link = link; rest = rest; placed = refl; spelled = sym split ∙ text; deep = omega (arith, past, here.4) } in
            blame (fault 111 s) (here.0 ++ left, t, after, here.2 ∙ ap (λ z. here.0 ++ z) split ∙ sym (append_assoc here.0 left (t ∷ after)), spanned, inl (refl, inr cause))

    suffix_sound : (all : Words) (c : Chain) (ts : Words) → Spot (suc depth) an_operand all → Chained (IsPost In) all c ts → Says C (StepOf (IsPost In) all ts) (r.suffix depth inner c ts)
    unfolding r.suffix
    suffix_sound all c ts here chain =
        let R : Option Chain → Words → Type 0 = StepOf (IsPost In) all ts in
        let left : Expr = c.left.tree in
        says_found C R (eat mark.Dot ts) _ _
        (λ dot h. says_found C R (ident_at dot.1) _ _
        (λ n q.
        let named = ate_ident dot.1 n q in
        let text : all ≡ words left ++ marked mark.Dot dot.0 ∷ ident n.0 ∷ n.1 = chain.0 ∙ ap (λ z. words left ++ z) (ate mark.Dot ts dot h ∙ ap (λ z. marked mark.Dot dot.0 ∷ z) named.0) in
        linked_says (IsPost In) 0 (λ m i y p. p) all ts dot.0 c.links c.inside (e.Member left dot.0 n.0) n.1 (words left) (marked mark.Dot dot.0) (ident n.0 ∷ n.1) refl (ctx.by_member left dot.0 n.0) text here
        (text ∙ sym (simp (words_member, append_assoc))) (g.member c.links c.inside left dot.0 n.0 named.1 chain.1))
        (λ _. refl))
        (λ _. says_found C R (eat mark.OpenBracket ts) _ _
        (λ o h.
        let text : all ≡ (words left ++ marked mark.OpenBracket o.0 ∷ []) ++ o.1 = chain.0 ∙ ap (λ z. words left ++ z) (ate mark.OpenBracket ts o h) ∙ sym (append_assoc (words left) (marked mark.OpenBracket o.0 ∷ []) o.1) in
        let spot = linked_behind (suc depth) depth c.links an_operand an_expr all (words left ++ marked mark.OpenBracket o.0 ∷ []) o.1 (omega arith) here text (λ n ws p. ctx.index n ws depth c.links c.inside left o.0 chain.1 p) in
        says_attempt C (Inside o.1) R (inner rule.Expr o.1) _ _ (sound rule.Expr o.1 spot)
        (λ i more a. says_found C R (eat mark.CloseBracket more) _ _
        (λ k q.
        let whole : all ≡ words left ++ marked mark.OpenBracket o.0 ∷ (words i.tree ++ marked mark.CloseBracket k.0 ∷ k.1) = text ∙ ap (λ z. (words left ++ marked mark.OpenBracket o.0 ∷ []) ++ z) (a.0 ∙ ap (λ z. words i.tree ++ z) (ate mark.CloseBracket more k q)) ∙ simp append_assoc in
        linked_says (IsPost In) 0 (λ m j y p. p) all ts o.0 c.links (max c.inside i.depth) (e.Index left o.0 i.tree k.0) k.1 (words left) (marked mark.OpenBracket o.0) (words i.tree ++ marked mark.CloseBracket k.0 ∷ k.1) refl (ctx.by_index left o.0 i.tree k.0) whole here
        (whole ∙ sym (simp (words_index, append_assoc))) (g.index c.links c.inside i.depth left o.0 i.tree k.0 chain.1 a.1))
        (λ _. refl))
        refl)
        (λ _. refl))

    -- a derivation that is as deep as its links and its deepest part together
    abbrev Summed : (ℕ → ℕ → Expr → Type 0) → Tall Expr → Type 0
    Summed P t = (m i : ℕ) × P m i t.tree × (t.depth ≡ m + i) × (t.depth ≤ suc depth)

    ended_chain : (P : ℕ → ℕ → Expr → Type 0) (all : Words) (c : Chain) (ts : Words) → Chained P all c ts → Takes (Summed P) tall_words all c.left ts
    ended_chain P all c ts h = (h.0, (c.links, c.inside, h.1, h.2, h.3))

    step_then : (P : ℕ → ℕ → Expr → Type 0) (all : Words) (c : Chain) (ts : Words) (more : Chain → Parser (Tall Expr)) (x : Option Chain) (rest : Words)
        → ((c : Chain) (ts : Words) → Chained P all c ts → Says C (Takes (Summed P) tall_words all) (more c ts))
        → Chained P all c ts → StepOf P all ts x rest → Says C (Takes (Summed P) tall_words all) (one_more x (λ x. more x rest) (Ok (c.left, rest)))
    step_then P all c ts more (Some x) rest next h here = next x rest here
    step_then P all c ts more None rest next h here = ended_chain P all c rest (subst (Chained P all c) here h)

    -- a step that keeps what was read a chain of these links
    abbrev Steps : Part → (ℕ → ℕ → Expr → Type 0) → (Chain → Words → Step) → Type 0
    Steps q P next = (all : Words) (c : Chain) (ts : Words) → Spot (suc depth) q all → Chained P all c ts → Says C (StepOf P all ts) (next c ts)

    turns_sound : (q : Part) (P : ℕ → ℕ → Expr → Type 0) (next : Chain → Words → Step) → Steps q P next → (n : ℕ) (all : Words) (c : Chain) (ts : Words) → Spot (suc depth) q all → Chained P all c ts
        → Says C (Takes (Summed P) tall_words all) (turns next n c ts)
    unfolding turns
    turns_sound q P next steps zero all c ts here h = ended_chain P all c ts h
    turns_sound q P next steps (suc n) all c ts here h =
        says_then C (StepOf P all ts) (Takes (Summed P) tall_words all) (next c ts) _ (steps all c ts here h)
        (λ x rest a. step_then P all c ts (turns next n) x rest (λ c ts h. turns_sound q P next steps n all c ts here h) h a)

    starts_chain : (P : ℕ → ℕ → Expr → Type 0) (all : Words) (t : Tall Expr) (ts : Words) → all ≡ words t.tree ++ ts → P 0 t.depth t.tree → t.depth ≤ suc depth → Chained P all (chained t) ts
    starts_chain P all t ts text p fits = (text, p, omega arith, fits)

    post_sound : (ts : Words) → Spot (suc depth) an_operand ts → Says C (Takes (Summed (IsPost In)) tall_words ts) (r.post depth inner ts)
    unfolding r.post
    post_sound ts here = says_then C (Prime ts) (Takes (Summed (IsPost In)) tall_words ts) (r.primary depth inner ts) _ (primary_sound ts here)
        (λ x rest a. turns_sound an_operand (IsPost In) (r.suffix depth inner) suffix_sound (length rest) ts (chained x) rest here (starts_chain (IsPost In) ts x rest a.0 (g.primary x.depth x.tree a.1.0) a.1.1))

    abbrev Unary : Tall Expr → Type 0
    Unary t = IsUnary In t.depth t.tree × (t.depth ≤ suc depth)

    of_post : (t : Tall Expr) → Summed (IsPost In) t → Unary t
    of_post t s = (subst (λ n. IsUnary In n t.tree) (sym s.3) (g.post s.0 s.1 t.tree s.2), s.4)

    -- ---- choices and signs

    choice_sound : (i : Span) (ts : Words) → Spot (suc depth) an_operand (keyword (codes "if") i ∷ ts) → Says C (Takes Unary tall_words (keyword (codes "if") i ∷ ts)) (r.choice depth inner i ts)
    unfolding r.choice r.other_choice
    choice_sound i ts here =
        let all : Words = keyword (codes "if") i ∷ ts in
        let R : Tall Expr → Words → Type 0 = Takes Unary tall_words all in
        let spot = deeper depth an_operand an_expr all (keyword (codes "if") i ∷ []) ts here refl (λ n ws p. ctx.condition n ws i p) in
        says_then C (Inside ts) R (inner rule.Expr ts) _ (sound rule.Expr ts spot) (λ c rest a.
        says_found C R (eat_word (codes "then") rest) _ _ (λ t h.
        let one : Words = keyword (codes "if") i ∷ (words c.tree ++ keyword (codes "then") t.0 ∷ []) in
        let first : all ≡ one ++ t.1 = ap (λ z. keyword (codes "if") i ∷ z) (a.0 ∙ ap (λ z. words c.tree ++ z) (ate_word (codes "then") rest t h) ∙ sym (append_assoc (words c.tree) (keyword (codes "then") t.0 ∷ []) t.1)) in
        let spot = deeper depth an_operand an_expr all one t.1 here first (λ n ws p. ctx.accepted n ws i depth c.depth c.tree t.0 a.1 p) in
        says_then C (Inside t.1) R (inner rule.Expr t.1) _ (sound rule.Expr t.1 spot) (λ x after b.
        says_found C R (eat_word (codes "else") after) _ _ (λ s q.
        let two : Words = keyword (codes "if") i ∷ (words c.tree ++ keyword (codes "then") t.0 ∷ (words x.tree ++ keyword (codes "else") s.0 ∷ [])) in
        let second : all ≡ two ++ s.1 = first ∙ ap (λ z. one ++ z) (b.0 ∙ ap (λ z. words x.tree ++ z) (ate_word (codes "else") after s q)) ∙ simp append_assoc in
        let spot = deeper depth an_operand an_expr all two s.1 here second (λ n ws p. ctx.refused n ws i depth c.depth x.depth c.tree t.0 x.tree s.0 a.1 b.1 p) in
        says_then C (Inside s.1) R (inner rule.Expr s.1) _ (sound rule.Expr s.1 spot) (λ y last d.
        let both = max-le {a = c.depth} {b = x.depth} {k = depth} (within depth rule.Expr c.depth c.tree a.1) (within depth rule.Expr x.depth x.tree b.1) in
        let fits = max-le {a = max c.depth x.depth} {b = y.depth} {k = depth} both (within depth rule.Expr y.depth y.tree d.1) in
        says_grown C R depth i (max (max c.depth x.depth) y.depth) (e.If i c.tree t.0 x.tree s.0 y.tree) last fits (second ∙ ap (λ z. two ++ z) d.0 ∙ sym (simp (words_if, append_assoc)), (g.choice i c.tree t.0 x.tree s.0 y.tree c.depth x.depth y.depth a.1 b.1 d.1, omega (arith, fits)))))
        (λ _. tt))) (λ _. tt))

    unary_sound : (ts : Words) → Spot (suc depth) an_operand ts → Says C (Takes Unary tall_words ts) (r.unary depth inner ts)
    unfolding r.unary
    unary_sound ts here = says_found C (Takes Unary tall_words ts) (unary_at ts) _ _
        (λ o h.
        let ate = ate_unary ts o h in
        let spot = deeper depth an_operand an_operand ts (marked (unary_mark o.0.0) o.0.1 ∷ []) o.1 here ate (λ n ws p. ctx.sign n ws o.0.0 o.0.1 p) in
        says_then C (Takes (λ t. In rule.Unary t.depth t.tree) tall_words o.1) (Takes Unary tall_words ts) (inner rule.Unary o.1) _ (sound rule.Unary o.1 spot) (λ x rest a.
        let fits = within depth rule.Unary x.depth x.tree a.1 in
        says_grown C (Takes Unary tall_words ts) depth o.0.1 x.depth (e.Unary o.0.0 o.0.1 x.tree) rest fits (ate ∙ ap (λ z. marked (unary_mark o.0.0) o.0.1 ∷ z) a.0 ∙ sym (ap (λ z. z ++ rest) (words_unary o.0.0 o.0.1 x.tree)), (g.signed x.depth o.0.0 o.0.1 x.tree a.1, omega (arith, fits)))))
        (λ _. says_found C (Takes Unary tall_words ts) (eat_word (codes "if") ts) _ _
        (λ i h. let text = ate_word (codes "if") ts i h in subst (λ z. Says C (Takes Unary tall_words z) (r.choice depth inner i.0 i.1)) (sym text) (choice_sound i.0 i.1 (subst (Spot (suc depth) an_operand) text here)))
        (λ _. carry C (Takes (Summed (IsPost In)) tall_words ts) (Takes Unary tall_words ts) (r.post depth inner ts) (λ t rest a. (a.0, of_post t a.1)) (post_sound ts here)))

    -- ---- operators

    abbrev pub Ruled : ℕ → Tall Expr → Type 0
    Ruled k = Summed (IsRule In k)

    operation_sound : (k : ℕ) (lower : Parser (Tall Expr)) → ((ts : Words) → Spot (suc depth) (a_rule k) ts → Says C (Takes (Ruled k) tall_words ts) (lower ts)) → (all : Words) (c : Chain) (ts : Words) → Spot (suc depth) (a_rule (suc k)) all → Chained (IsRule In (suc k)) all c ts
        → Says C (StepOf (IsRule In (suc k)) all ts) (r.operation depth inner lower k c ts)
    unfolding r.operation
    operation_sound k lower reads all c ts here chain =
        let R : Option Chain → Words → Type 0 = StepOf (IsRule In (suc k)) all ts in
        let left : Expr = c.left.tree in
        says_cond C R (ends_in_choice left) _ _ (λ _. refl) (λ closed.
        says_found C R (binary_at k ts) _ _
        (λ o h.
        let ate = ate_binary k ts o h in
        let text : all ≡ (words left ++ marked (binary_mark o.0.0) o.0.1 ∷ []) ++ o.1 = chain.0 ∙ ap (λ z. words left ++ z) ate.0 ∙ sym (append_assoc (words left) (marked (binary_mark o.0.0) o.0.1 ∷ []) o.1) in
        let spot = linked_behind (suc depth) (suc depth) c.links (a_rule (suc k)) (a_rule k) all (words left ++ marked (binary_mark o.0.0) o.0.1 ∷ []) o.1 (omega arith) here text (λ n ws p. ctx.operand n ws depth k c.links c.inside left o.0.0 o.0.1 ate.1 closed chain.1 p) in
        says_attempt C (Takes (Ruled k) tall_words o.1) R (lower o.1) _ _ (reads o.1 spot)
        (λ right more a.
        let whole : all ≡ words left ++ marked (binary_mark o.0.0) o.0.1 ∷ (words right.tree ++ more) = text ∙ ap (λ z. (words left ++ marked (binary_mark o.0.0) o.0.1 ∷ []) ++ z) a.0 ∙ simp append_assoc in
        linked_says (IsRule In (suc k)) (suc k) (λ m i y p. p) all ts o.0.1 c.links (max c.inside right.depth) (e.Binary left o.0.0 o.0.1 right.tree) more (words left) (marked (binary_mark o.0.0) o.0.1) (words right.tree ++ more) refl
        (ctx.by_operator left o.0.0 o.0.1 right.tree) whole here
        (whole ∙ sym (simp (words_binary, append_assoc)))
        (subst (λ n. IsRule In (suc k) (suc c.links) (max c.inside n) (e.Binary left o.0.0 o.0.1 right.tree)) (sym a.1.3) (g.binary k c.links c.inside a.1.0 a.1.1 left o.0.0 o.0.1 right.tree ate.1 closed chain.1 a.1.2)))
        refl)
        (λ _. refl))

    pub rule_sound : (k : ℕ) (ts : Words) → Spot (suc depth) (a_rule k) ts → Says C (Takes (Ruled k) tall_words ts) (r.rule_at depth inner k ts)
    unfolding r.rule_at
    rule_sound zero ts here = carry C (Takes Unary tall_words ts) (Takes (Ruled 0) tall_words ts) (r.unary depth inner ts) (λ t rest a. (a.0, (0, t.depth, g.unary t.depth t.tree a.1.0, omega arith, a.1.1))) (unary_sound ts here)
    rule_sound (suc k) ts here = says_then C (Takes (Ruled k) tall_words ts) (Takes (Ruled (suc k)) tall_words ts) (r.rule_at depth inner k ts) _ (rule_sound k ts (here.0, here.1, here.2, ctx.tighter k here.1 here.0 here.3, here.4))
        (λ x rest a. turns_sound (a_rule (suc k)) (IsRule In (suc k)) (r.operation depth inner (r.rule_at depth inner k) k) (operation_sound k (r.rule_at depth inner k) (rule_sound k)) (length rest) ts (chained x) rest here
        (starts_chain (IsRule In (suc k)) ts x rest a.0 (subst (λ n. IsRule In (suc k) 0 n x.tree) (sym a.1.3) (g.tighter k a.1.0 a.1.1 x.tree a.1.2)) a.1.4))

    -- ---- whole expressions

    abbrev Whole : Tall Expr → Type 0
    Whole t = IsWhole In t.depth t.tree × (t.depth ≤ suc depth)

    whole_sound : (ts : Words) → Spot (suc depth) an_expr ts → Says C (Takes Whole tall_words ts) (r.rule_at depth inner 6 ts)
    whole_sound ts here = carry C (Takes (Ruled 6) tall_words ts) (Takes Whole tall_words ts) (r.rule_at depth inner 6 ts) (λ t rest a. (a.0, (subst (λ n. IsWhole In n t.tree) (sym a.1.3) (g.or a.1.0 a.1.1 t.tree a.1.2), a.1.4))) (rule_sound 6 ts here)

    pub of_rule_sound : (k : Rule) (ts : Words) → Spot (suc depth) (place k) ts → Says C (Takes (λ t. IsOf In k t.depth t.tree × (t.depth ≤ suc depth)) tall_words ts) (r.of_rule depth inner k ts)
    of_rule_sound rule.Unary = unary_sound
    of_rule_sound rule.Expr = whole_sound

  pub expr_sound : (d : ℕ) → IsSoundAt d (expr d)
  unfolding expr
  expr_sound zero k = deep_sound k
  expr_sound (suc d) k = of_rule_sound d (expr d) (expr_sound d) k

-- ---- whatever faults there are

-- where nothing is said of faults, an expression stands anywhere
abbrev Anywhere : Part → Words → Type 0
Anywhere p ws = Unit {0}

abbrev free : (ts : Words) (d : ℕ) (p : Part) → Spot 0 Anywhere ts AnyFault (λ f b. tt) d p ts
free ts d p = ([], 0, refl, ctx.root p [] tt, omega arith)

abbrev bare : (ts : Words) (depth : ℕ) (inner : Rule → Parser (Tall Expr)) → IsSound (Tree depth) inner → IsSoundAt 0 Anywhere ts AnyFault (λ f b. tt) depth inner
bare ts depth inner sound k rest here = sound k rest

pub expr_takes : (d : ℕ) → IsSound (Tree d) (expr d)
expr_takes d k ts = expr_sound 0 Anywhere ts AnyFault (λ f b. tt) d k ts (free ts d (place k))

-- operands with operators that bind so loosely, as deep as their links and the deepest operand together
abbrev pub RuledTree : ℕ → ℕ → Tall Expr → Type 0
RuledTree depth k t = (m i : ℕ) × IsRule (Tree depth) k m i t.tree × (t.depth ≡ m + i) × (t.depth ≤ suc depth)

module _ (depth : ℕ) (inner : Rule → Parser (Tall Expr)) (sound : IsSound (Tree depth) inner) where
  pub member_takes : Sound (λ t. IsMember (Tree depth) t.depth t.tree) (λ t. member_words words t.tree) (r.member inner)
  member_takes ts = member_sound 0 Anywhere ts AnyFault (λ f b. tt) depth inner (bare ts depth inner sound) ts (free ts depth a_member)

  pub rule_takes : (k : ℕ) → Sound (RuledTree depth k) tall_words (r.rule_at depth inner k)
  rule_takes k ts = rule_sound 0 Anywhere ts AnyFault (λ f b. tt) depth inner (bare ts depth inner sound) k ts (free ts (suc depth) (a_rule k))
