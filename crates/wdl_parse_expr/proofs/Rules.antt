-- Signs, operators and choices: what is in the grammar is read, or more than that.
use Rattle.std.proofs.Common.{◌≡◌, ℕ, zero, suc, ◌+◌, ◌<◌, ◌≤◌, max, Bool, true, false, cond, inl, inr, ◌∷◌, ◌++◌, length, Option, Some, None, Ok, Err, refl, ap, sym, ◌∙◌, subst, append_assoc, length-append, arith, codes}
use Rattle.std.proofs.Math.Nat.{le-max_left, le-max_right}
use Rattle.wdl_base.specs.declared.span.Span.{Span}
use Rattle.wdl_ast.specs.declared.expr.BinaryOperator.{BinaryOperator}
use Rattle.wdl_ast.specs.declared.expr.Expr.{Expr}
use Rattle.wdl_ast.specs.declared.expr.Expr.TheVariants as e
use Rattle.wdl_ast.specs.Words.{Words, marked, keyword, binary_mark, unary_mark, words}
use Rattle.wdl_ast.proofs.WordLaws.{words_if, words_binary, words_unary}
use Rattle.token_reading.specs.declared.fault.Refusal.TheVariants.{Missing, Bad}
use Rattle.token_reading.specs.declared.tall.Tall.{Tall}
use Rattle.token_reading.specs.declared.tall.Chain.{Chain}
use Rattle.token_reading.specs.declared.tall.Rule.{Rule}
use Rattle.token_reading.specs.declared.tall.Rule.TheVariants as rule
use Rattle.token_reading.specs.Outcome.{Outcome, Parser, then_, attempt, is_word, eat_word, tall, grown, linked, one_more}
use Rattle.wdl_parse_expr.specs.Grammar as g
use Rattle.token_reading.specs.Operators.{looseness, binary_at, unary_at}
use Rattle.wdl_parse_expr.specs.Grammar.{ends_in_choice, IsUnary, IsRule, IsWhole, IsOf, Tree}
use Rattle.wdl_parse_expr.specs.Reading as r
use Rattle.wdl_parse_expr.specs.Reading.{chained, Step, step, turns, expr}
use Rattle.wdl_parse_expr.specs.Contract.{continues}
use Rattle.token_reading.proofs.Steps.{cond_true, cond_false, then_is, then_bad, attempt_is, attempt_bad, attempt_missing, found_some, found_none, grown_is}
use Rattle.token_reading.proofs.Says.{AnyFault, Takes, said}
use Rattle.token_reading.proofs.Tables.{ate_binary, sees_binary, sees_unary}
use Rattle.wdl_parse_expr.proofs.Sound.{IsSound, tall_words, RuledTree, rule_takes, expr_takes}
use Rattle.wdl_parse_expr.proofs.Choices.{ends_if, ends_binary, ends_unary}
use Rattle.wdl_parse_expr.proofs.Begins.{calm_before, Begins, Starts, binary_not_assign, unary_begins, no_assign_begins}
use Rattle.wdl_parse_expr.proofs.Goes.{limit, level, Longer, AtMost, Reaches, IsFull, longer_along, longer_then, at_most_grown, at_limit, limit_more, limit_whole, operator_stops, operator_goes}
use Rattle.wdl_parse_expr.proofs.Primaries.{inner_exact}
use Rattle.wdl_parse_expr.proofs.Chains.{chain, first_chain, goes_at_most, Linked, Stepped, linked_along, linked_is, turns_goes, Upto, upto_reaches, no_sign, no_if, post_full, post_start, posted_begins}

module _ (depth : ℕ) (inner : Rule → Parser (Tall Expr)) (sound : IsSound (Tree depth) inner) (full : IsFull (Tree depth) inner) (starts : (k : Rule) (n : ℕ) → Starts (Tree depth k n)) where
  abbrev In : Rule → ℕ → Expr → Type 0
  In = Tree depth

  -- ---- choices

  choice_full : (i : Span) (c : Expr) (t : Span) (a : Expr) (s : Span) (x : Expr) (p q w : ℕ) → In rule.Expr p c → In rule.Expr q a → In rule.Expr w x → suc (max (max p q) w) ≤ suc depth → (tail : Words)
      → Reaches (limit 0 (e.If i c t a s x)) (r.unary depth inner (words (e.If i c t a s x) ++ tail)) (tall (e.If i c t a s x) (suc (max (max p q) w))) tail
  unfolding r.unary r.choice r.other_choice
  choice_full i c t a s x p q w ic ia ix fits tail = go (full rule.Expr w x ix tail)
    where
      last : Words
      last = words x ++ tail

      after : Words
      after = keyword (codes "else") s ∷ last

      more : Words
      more = words a ++ after

      behind : Words
      behind = words c ++ keyword (codes "then") t ∷ more

      text : words (e.If i c t a s x) ++ tail ≡ keyword (codes "if") i ∷ behind
      text = simp (words_if, append_assoc)

      plain : r.unary depth inner (words (e.If i c t a s x) ++ tail) ≡ then_ (inner rule.Expr last) (λ z end. grown depth i 0 (max (max p q) z.depth) (e.If i c t a s z.tree) end)
      plain = ap (r.unary depth inner) text
          ∙ found_none (unary_at (keyword (codes "if") i ∷ behind)) _ _ refl
          ∙ found_some (eat_word (codes "if") (keyword (codes "if") i ∷ behind)) _ _ (i, behind) refl
          ∙ then_is (inner rule.Expr behind) _ (tall c p, keyword (codes "then") t ∷ more) (inner_exact depth inner sound full starts p c ic (keyword (codes "then") t ∷ more) refl)
          ∙ found_some (eat_word (codes "then") (keyword (codes "then") t ∷ more)) _ _ (t, more) refl
          ∙ then_is (inner rule.Expr more) _ (tall a q, after) (inner_exact depth inner sound full starts q a ia after refl)
          ∙ found_some (eat_word (codes "else") after) _ _ (s, last) refl

      go : Reaches 6 (inner rule.Expr last) (tall x w) tail → Reaches (limit 0 (e.If i c t a s x)) (r.unary depth inner (words (e.If i c t a s x) ++ tail)) (tall (e.If i c t a s x) (suc (max (max p q) w))) tail
      go (inl h) = inl (plain ∙ then_is (inner rule.Expr last) _ (tall x w, tail) h ∙ grown_is depth i (max (max p q) w) (e.If i c t a s x) tail fits)
      go (inr (k, l)) = inr (
        ap (λ b. continues (cond b 6 0) tail) (ends_if i c t a s x) ∙ k,
        longer_along _ _ tail plain (longer_then (inner rule.Expr last) _ tail l (λ z end. at_most_grown depth i 0 (max (max p q) z.depth) (e.If i c t a s z.tree) end)),
      )

  -- ---- signs

  unary_full : (n : ℕ) (x : Expr) → IsUnary In n x → n ≤ suc depth → (tail : Words) → Reaches (limit 0 x) (r.unary depth inner (words x ++ tail)) (tall x n) tail
  unfolding r.unary
  unary_full n x (g.post m i y q) fits tail = go (post_full depth inner sound full starts m i y q fits tail)
    where
      plain : r.unary depth inner (words y ++ tail) ≡ r.post depth inner (words y ++ tail)
      plain = let s = post_start depth inner sound full starts m i y q in
          found_none (unary_at (words y ++ tail)) _ _ (ap (λ z. unary_at (z ++ tail)) s.2 ∙ no_sign s.0.kind s.0.span (s.1 ++ tail) s.3)
          ∙ found_none (eat_word (codes "if") (words y ++ tail)) _ _ (ap (λ z. eat_word (codes "if") (z ++ tail)) s.2 ∙ cond_false (is_word (codes "if") s.0.kind) _ _ (no_if s.0.kind s.3))

      go : Reaches 0 (r.post depth inner (words y ++ tail)) (tall y (m + i)) tail → Reaches (limit 0 y) (r.unary depth inner (words y ++ tail)) (tall y (m + i)) tail
      go (inl h) = inl (plain ∙ h)
      go (inr (c, l)) = inr (at_limit 0 y tail c, longer_along _ _ tail plain l)
  unary_full n x (g.signed d o s y p) fits tail = go (full rule.Unary d y p tail)
    where
      rest : Words
      rest = words y ++ tail

      plain : r.unary depth inner (words (e.Unary o s y) ++ tail) ≡ then_ (inner rule.Unary rest) (λ x after. grown depth s 0 x.depth (e.Unary o s x.tree) after)
      plain = ap (λ z. r.unary depth inner (z ++ tail)) (words_unary o s y) ∙ found_some (unary_at (marked (unary_mark o) s ∷ rest)) _ _ ((o, s), rest) (sees_unary o s rest)

      go : Reaches (limit 0 y) (inner rule.Unary rest) (tall y d) tail → Reaches (limit 0 (e.Unary o s y)) (r.unary depth inner (words (e.Unary o s y) ++ tail)) (tall (e.Unary o s y) (suc d)) tail
      go (inl h) = inl (plain ∙ then_is (inner rule.Unary rest) _ (tall y d, tail) h ∙ grown_is depth s d (e.Unary o s y) tail fits)
      go (inr (c, l)) = inr (ap (λ b. continues (cond b 6 0) tail) (ends_unary o s y) ∙ c, longer_along _ _ tail plain (longer_then (inner rule.Unary rest) _ tail l (λ x after. at_most_grown depth s 0 x.depth (e.Unary o s x.tree) after)))
  unary_full n x (g.choice i c t a s y p q w ic ia iy) fits tail = choice_full i c t a s y p q w ic ia iy fits tail

  -- ---- binary operators

  abbrev Ops : ℕ → Chain → Words → Step
  Ops k = r.operation depth inner (r.rule_at depth inner k) k

  operand_goes : (k : ℕ) (c : Chain) (ts : Words) (o : (BinaryOperator × Span) × Words) → ends_in_choice c.left.tree ≡ false → binary_at k ts ≡ Some o → (x : Outcome (Tall Expr)) → r.rule_at depth inner k o.1 ≡ x → Stepped (suc k) (Ops k c ts) ts
  unfolding r.operation
  operand_goes k c ts o closed h (Ok x) q =
      let ate = ate_binary k ts o h in
      let takes = (said AnyFault (Takes (RuledTree depth k) tall_words o.1) _ x (rule_takes depth inner sound k o.1) q).0 in
      let less : length x.1 < length ts = omega (arith, ap length ate.0, ap length takes, length-append (words x.0.tree) x.1) in
      inr (
        ap (continues (suc k)) ate.0 ∙ operator_goes k o.0.0 o.0.1 o.1 ate.1,
        linked_along _ depth o.0.1 c.links (max c.inside x.0.depth) (e.Binary c.left.tree o.0.0 o.0.1 x.0.tree) x.1 ts
            (cond_false (ends_in_choice c.left.tree) _ _ closed ∙ found_some (binary_at k ts) _ _ o h ∙ attempt_is (r.rule_at depth inner k o.1) _ _ x q) less,
      )
  operand_goes k c ts o closed h (Err Missing) q = inl (cond_false (ends_in_choice c.left.tree) _ _ closed ∙ found_some (binary_at k ts) _ _ o h ∙ attempt_missing (r.rule_at depth inner k o.1) _ _ q)
  operand_goes k c ts o closed h (Err (Bad f)) q =
      let ate = ate_binary k ts o h in
      inr (ap (continues (suc k)) ate.0 ∙ operator_goes k o.0.0 o.0.1 o.1 ate.1, inl (f, cond_false (ends_in_choice c.left.tree) _ _ closed ∙ found_some (binary_at k ts) _ _ o h ∙ attempt_bad (r.rule_at depth inner k o.1) _ _ f q))

  operator_by : (k : ℕ) (c : Chain) (ts : Words) (o : Option ((BinaryOperator × Span) × Words)) → ends_in_choice c.left.tree ≡ false → binary_at k ts ≡ o → Stepped (suc k) (Ops k c ts) ts
  unfolding r.operation
  operator_by k c ts None closed q = inl (cond_false (ends_in_choice c.left.tree) _ _ closed ∙ found_none (binary_at k ts) _ _ q)
  operator_by k c ts (Some o) closed q = operand_goes k c ts o closed q (r.rule_at depth inner k o.1) refl

  -- behind a choice stands no operator of its own
  closed_by : (k : ℕ) (c : Chain) (ts : Words) (b : Bool) → ends_in_choice c.left.tree ≡ b → Stepped (suc k) (Ops k c ts) ts
  unfolding r.operation
  closed_by k c ts true q = inl (cond_true (ends_in_choice c.left.tree) _ _ q)
  closed_by k c ts false q = operator_by k c ts (binary_at k ts) q refl

  operation_goes : (k : ℕ) (c : Chain) (ts : Words) → Stepped (suc k) (Ops k c ts) ts
  operation_goes k c ts = closed_by k c ts (ends_in_choice c.left.tree) refl

  abbrev Climbs : ℕ → ℕ → ℕ → Expr → Words → Type 0
  Climbs k m i x = Upto (continues (limit k x)) (r.rule_at depth inner (suc k)) (Ops k) m i x

  -- how much of a rule was read
  abbrev Rules : ℕ → ℕ → ℕ → Expr → Type 0
  Rules zero m i x = (tail : Words) → Reaches (limit 0 x) (r.rule_at depth inner 0 (words x ++ tail)) (tall x (m + i)) tail
  Rules (suc k) m i x = (tail : Words) → Climbs k m i x tail

  reaches_of : (k m i : ℕ) (x : Expr) → Rules k m i x → (tail : Words) → Reaches (limit k x) (r.rule_at depth inner k (words x ++ tail)) (tall x (m + i)) tail
  reaches_of zero m i x b tail = b tail
  reaches_of (suc k) m i x b tail = upto_reaches (suc k) (limit (suc k) x) (continues (limit k x)) (r.rule_at depth inner (suc k)) (Ops k) (operation_goes k) (λ ts. at_limit (suc k) x ts) (λ ts. limit_more k x ts) m i x tail (b tail)

  rule_first : (k n : ℕ) (x : Expr) (tail : Words) → Reaches (limit k x) (r.rule_at depth inner k (words x ++ tail)) (tall x n) tail → Climbs k 0 n x tail
  unfolding r.rule_at
  rule_first k n x tail (inl h) = inl (length tail, omega arith, then_is (r.rule_at depth inner k (words x ++ tail)) _ (tall x n, tail) h ∙ ap (λ z. turns (Ops k) (length tail) z tail) (first_chain n x))
  rule_first k n x tail (inr (c, l)) = inr (c, longer_then (r.rule_at depth inner k (words x ++ tail)) _ tail l (λ y rest. goes_at_most (suc k) _ (chained y) rest (turns_goes (suc k) (Ops k) (operation_goes k) (length rest) (chained y) rest)))

  rule_step : (k m i a : ℕ) (l : Expr) (o : BinaryOperator) (s : Span) (x : Expr) (tail : Words) → looseness o ≡ k → ends_in_choice l ≡ false → suc m + max i a ≤ suc depth → Climbs k m i l (marked (binary_mark o) s ∷ (words x ++ tail))
      → Reaches (limit k x) (r.rule_at depth inner k (words x ++ tail)) (tall x a) tail → Climbs k (suc m) (max i a) (e.Binary l o s x) tail
  unfolding turns r.operation
  rule_step k m i a l o s x tail loose closed fits (inr (c, _)) right = (let stops = ap (λ b. continues (cond b 6 k) (marked (binary_mark o) s ∷ (words x ++ tail))) closed ∙ operator_stops k o s (words x ++ tail) loose in let n : true ≡ false = sym c ∙ stops in let z : ⊥ = cc in absurd z)
  rule_step k m i a l o s x tail loose closed fits (inl (zero, room, h)) right = absurd (omega arith)
  rule_step k m i a l o s x tail loose closed fits (inl (suc n, room, h)) right = go right
    where
      mid : Words
      mid = marked (binary_mark o) s ∷ (words x ++ tail)

      text : words (e.Binary l o s x) ++ tail ≡ words l ++ mid
      text = simp (words_binary, append_assoc)

      -- what the step reads behind the operator
      behind : Outcome (Tall Expr) → Step
      behind got = attempt got (λ right more. step (linked depth s m (max i right.depth) (e.Binary l o s right.tree) more)) (Ok (None, mid))

      start : r.rule_at depth inner (suc k) (words (e.Binary l o s x) ++ tail) ≡ then_ (behind (r.rule_at depth inner k (words x ++ tail))) (λ y rest. one_more y (λ y. turns (Ops k) n y rest) (Ok (tall l (m + i), rest)))
      start = ap (r.rule_at depth inner (suc k)) text ∙ h ∙ ap (λ z. then_ z (λ y rest. one_more y (λ y. turns (Ops k) n y rest) (Ok (tall l (m + i), rest)))) (cond_false (ends_in_choice l) _ _ closed ∙ found_some (binary_at k mid) _ _ ((o, s), words x ++ tail) (sees_binary k o s (words x ++ tail) loose))

      left : length tail ≤ n
      left = omega (arith, length-append (words x) tail)

      -- a longer operand
      linked_more : (y : Tall Expr × Words) → r.rule_at depth inner k (words x ++ tail) ≡ Ok y → length y.1 < length tail → Linked (behind (r.rule_at depth inner k (words x ++ tail))) tail → Longer (r.rule_at depth inner (suc k) (words (e.Binary l o s x) ++ tail)) tail
      linked_more y q less (inl d) = inl (d.0, start ∙ then_bad (behind (r.rule_at depth inner k (words x ++ tail))) _ d.0 d.1)
      linked_more y q less (inr z) = at_end (goes_at_most (suc k) _ z.0.0 z.0.1 (turns_goes (suc k) (Ops k) (operation_goes k) n z.0.0 z.0.1))
        where
          at_end : AtMost (turns (Ops k) n z.0.0 z.0.1) z.0.1 → Longer (r.rule_at depth inner (suc k) (words (e.Binary l o s x) ++ tail)) tail
          at_end (inl d) = inl (d.0, start ∙ then_is (behind (r.rule_at depth inner k (words x ++ tail))) _ (Some z.0.0, z.0.1) z.1 ∙ d.1)
          at_end (inr u) = inr (u.0, start ∙ then_is (behind (r.rule_at depth inner k (words x ++ tail))) _ (Some z.0.0, z.0.1) z.1 ∙ u.1, omega (arith, u.2, z.2))

      -- what may go on with the right operand may go on with the whole
      further : continues (limit k x) tail ≡ true → continues (limit k (e.Binary l o s x)) tail ≡ true
      further c = ap (λ b. continues (cond b 6 k) tail) (ends_binary l o s x) ∙ c

      go : Reaches (limit k x) (r.rule_at depth inner k (words x ++ tail)) (tall x a) tail → Climbs k (suc m) (max i a) (e.Binary l o s x) tail
      go (inl q) =
          let link : behind (r.rule_at depth inner k (words x ++ tail)) ≡ Ok (Some (chain (suc m) (max i a) (e.Binary l o s x)), tail) = attempt_is (r.rule_at depth inner k (words x ++ tail)) _ _ (tall x a, tail) q ∙ linked_is depth m (max i a) s (e.Binary l o s x) tail fits in
          inl (n, left, start ∙ then_is (behind (r.rule_at depth inner k (words x ++ tail))) _ (Some (chain (suc m) (max i a) (e.Binary l o s x)), tail) link)
      go (inr (c, inl d)) = inr (further c, inl (d.0, start ∙ then_bad (behind (r.rule_at depth inner k (words x ++ tail))) _ d.0 (attempt_bad (r.rule_at depth inner k (words x ++ tail)) _ _ d.0 d.1)))
      go (inr (c, inr y)) = inr (further c, linked_more y.0 y.1 y.2 (linked_along _ depth s m (max i y.0.0.depth) (e.Binary l o s y.0.0.tree) y.0.1 tail (attempt_is (r.rule_at depth inner k (words x ++ tail)) _ _ y.0 y.1) y.2))

  ruled : (k m i : ℕ) (x : Expr) → IsRule In k m i x → m + i ≤ suc depth → Rules k m i x
  unfolding r.rule_at
  ruled k m i x (g.unary n y q) fits = λ tail.
      let same : n ≡ 0 + n = omega arith in
      subst (λ d. Reaches (limit 0 y) (r.unary depth inner (words y ++ tail)) (tall y d) tail) same (unary_full n y q (omega (arith, fits)) tail)
  ruled k m i x (g.tighter j p a y q) fits = λ tail. rule_first j (p + a) y tail (reaches_of j p a y (ruled j p a y q (omega (arith, fits))) tail)
  ruled k m i x (g.binary j p a b c l o s y loose closed ql qy) fits = λ tail.
      rule_step j p a (b + c) l o s y tail loose closed fits (ruled (suc j) p a l ql (omega (arith, fits, le-max_left a (b + c))) (marked (binary_mark o) s ∷ (words y ++ tail)))
      (reaches_of j b c y (ruled j b c y qy (omega (arith, fits, le-max_right a (b + c)))) tail)

  rule_full : (k m i : ℕ) (x : Expr) → IsRule In k m i x → m + i ≤ suc depth → (tail : Words) → Reaches (limit k x) (r.rule_at depth inner k (words x ++ tail)) (tall x (m + i)) tail
  rule_full k m i x q fits tail = reaches_of k m i x (ruled k m i x q fits) tail

  -- ---- whole expressions

  unary_start : (n : ℕ) (x : Expr) → IsUnary In n x → Begins (words x)
  unary_start n x (g.post m i y q) = posted_begins depth inner sound full starts (words y) (post_start depth inner sound full starts m i y q)
  unary_start n x (g.signed d o s y p) = (marked (unary_mark o) s, words y, words_unary o s y, unary_begins o, refl)
  unary_start n x (g.choice i c t a s y p q w ic ia iy) = (_, _, words_if i c t a s y, refl, no_assign_begins (words c) (keyword (codes "then") t ∷ (words a ++ keyword (codes "else") s ∷ words y)) (starts rule.Expr p c ic))

  rule_start : (k m i : ℕ) (x : Expr) → IsRule In k m i x → Begins (words x)
  rule_start k m i x (g.unary n y q) = unary_start n y q
  rule_start k m i x (g.tighter j p a y q) = rule_start j p a y q
  rule_start k m i x (g.binary j p a b c l o s y loose closed ql qy) =
      let f = rule_start (suc j) p a l ql in
      (f.0, f.1 ++ marked (binary_mark o) s ∷ words y, words_binary l o s y ∙ ap (λ z. z ++ marked (binary_mark o) s ∷ words y) f.2, f.3, calm_before f.0.kind f.1 (marked (binary_mark o) s) (words y) f.4 (binary_not_assign o))

  whole_full : (n : ℕ) (x : Expr) → IsWhole In n x → n ≤ suc depth → (tail : Words) → Reaches 6 (r.rule_at depth inner 6 (words x ++ tail)) (tall x n) tail
  whole_full n x (g.or m i y q) fits tail = go (rule_full 6 m i y q fits tail)
    where
      go : Reaches (limit 6 y) (r.rule_at depth inner 6 (words y ++ tail)) (tall y (m + i)) tail → Reaches 6 (r.rule_at depth inner 6 (words y ++ tail)) (tall y (m + i)) tail
      go (inl h) = inl h
      go (inr (c, l)) = inr (limit_whole y tail c, l)

  whole_start : (n : ℕ) (x : Expr) → IsWhole In n x → Begins (words x)
  whole_start n x (g.or m i y q) = rule_start 6 m i y q

  pub of_rule_full : (k : Rule) (n : ℕ) (x : Expr) → IsOf In k n x → n ≤ suc depth → (tail : Words) → Reaches (level k x) (r.of_rule depth inner k (words x ++ tail)) (tall x n) tail
  of_rule_full rule.Unary n x q fits tail = unary_full n x q fits tail
  of_rule_full rule.Expr n x q fits tail = whole_full n x q fits tail

  pub of_rule_start : (k : Rule) (n : ℕ) (x : Expr) → IsOf In k n x → Begins (words x)
  of_rule_start rule.Unary n x q = unary_start n x q
  of_rule_start rule.Expr n x q = whole_start n x q

-- ---- to any depth

abbrev Known : ℕ → Type 0
Known d = IsFull (Tree d) (expr d) × ((k : Rule) (n : ℕ) → Starts (Tree d k n))

known : (d : ℕ) → Known d
unfolding expr
known zero = (λ k n x q tail. absurd q, λ k n x q. absurd q)
known (suc d) =
    let below = known d in
    (λ k n x q tail. of_rule_full d (expr d) (expr_takes d) below.0 below.1 k n x q.0 q.1 tail, λ k n x q. of_rule_start d (expr d) (expr_takes d) below.0 below.1 k n x q.0)

pub expr_full : (d : ℕ) → IsFull (Tree d) (expr d)
expr_full d = (known d).0

pub expr_starts : (d : ℕ) (k : Rule) (n : ℕ) → Starts (Tree d k n)
expr_starts d = (known d).1
