-- What reading answers, by the grammar alone.
use Rattle.std.proofs.Common.{◌≡◌, ◌<◌, true, ◌⊎◌, inl, inr, [], length, Ok, Err, refl, ap, sym, ◌∙◌, subst, arith}
use Rattle.wdl_ast.specs.declared.expr.Expr.{Expr}
use Rattle.wdl_ast.specs.declared.type_tree.TypeTree.{TypeTree}
use Rattle.wdl_ast.specs.Words.{Words, words, type_words}
use Rattle.token_reading.specs.declared.fault.Fault.{Fault}
use Rattle.token_reading.specs.declared.fault.Refusal.{Refusal}
use Rattle.token_reading.specs.declared.fault.Refusal.TheVariants.{Missing, Bad}
use Rattle.token_reading.specs.declared.fault.RuleStop.{RuleStop}
use Rattle.token_reading.specs.declared.fault.RuleStop.TheVariants as stop
use Rattle.token_reading.specs.declared.fault.ParseFault.{ParseFault}
use Rattle.token_reading.specs.declared.tall.Tall.{Tall}
use Rattle.token_reading.specs.declared.tall.Rule.TheVariants as rule
use Rattle.token_reading.specs.Outcome.{Outcome, tall, then_, Fails}
use Rattle.wdl_parse_expr.specs.Grammar.{Tree, max_depth, IsExpr}
use Rattle.token_reading.specs.TypeGrammar.{IsType, max_type_depth}
use Rattle.wdl_parse_expr.specs.Context.{an_expr, root, type_root, Points, ExprCause, TypeCause}
use Rattle.wdl_parse_expr.specs.Reading.{expr}
use Rattle.token_reading.specs.TypeReading.{type_at}
use Rattle.wdl_parse_expr.specs.Contract.{expr_continues, IfBad, FaultOf, read_expr, read_type}
use Rattle.library_calls.specs.Parsing.{Fronts, IsLongest, AtStart, AtFront, StartsNone, MayGoOn, RefusesExpr, RefusesType}
use Rattle.token_reading.proofs.Steps.{done, same}
use Rattle.token_reading.proofs.Says.{AnyFault, Takes, said, blamed}
use Rattle.wdl_parse_expr.proofs.Sound.{tall_words, expr_sound, expr_takes}
use Rattle.wdl_parse_expr.proofs.Goes.{Reaches}
use Rattle.wdl_parse_expr.proofs.Rules.{expr_full}
use Rattle.wdl_parse_expr.proofs.TypeLaws.{ReachesType, type_sound, type_takes, type_full}

-- ---- expressions

abbrev failed : Refusal → Outcome Expr
failed f = Err f

failed_is_not_done : (f : Refusal) (x : Expr × Words) → failed f ≡ done x → ⊥
failed_is_not_done f x h = cc

same_failure : (f g : Refusal) → failed f ≡ failed g → f ≡ g
same_failure f g h = cc

-- what the reader with depths gives, where the one without them gives this
record WithDepth (o : Outcome (Tall Expr)) (e : Expr) (tail : Words) : Type 0 where
  pub whole : Tall Expr
  pub read : o ≡ Ok (whole, tail)
  pub tree : whole.tree ≡ e

with_depth : (o : Outcome (Tall Expr)) (e : Expr) (tail : Words) → then_ o (λ x rest. done (x.tree, rest)) ≡ done (e, tail) → WithDepth o e tail
unfolding then_
with_depth (Ok x) e tail h = let s = same (x.0.tree, x.1) (e, tail) h in record { whole = x.0; read = ap (λ (rest : Words). Ok (x.0, rest)) s.1; tree = s.0 }
with_depth (Err f) e tail h = absurd (failed_is_not_done f (e, tail) h)

expr_with_depth : (ts : Words) (e : Expr) (tail : Words) → read_expr ts ≡ Ok (e, tail) → WithDepth (expr max_depth rule.Expr ts) e tail
unfolding read_expr
expr_with_depth ts e tail h = with_depth (expr max_depth rule.Expr ts) e tail h

fails_with_depth : (o : Outcome (Tall Expr)) (s : RuleStop) → Fails (then_ o (λ x rest. done (x.tree, rest))) s → Fails o s
unfolding then_
fails_with_depth o stop.NoMemory h = tt
fails_with_depth (Ok x) (stop.Refused f) h = absurd (failed_is_not_done f (x.0.tree, x.1) (sym h))
fails_with_depth (Err g) (stop.Refused f) h = ap Err (same_failure g f h)

expr_fails : (ts : Words) (s : RuleStop) → Fails (read_expr ts) s → Fails (expr max_depth rule.Expr ts) s
unfolding read_expr
expr_fails ts s h = fails_with_depth (expr max_depth rule.Expr ts) s h

abbrev Whole : Tall Expr → Type 0
Whole t = Tree max_depth rule.Expr t.depth t.tree

tall_front : (ts : Words) (t : Tall Expr) (tail : Words) → expr max_depth rule.Expr ts ≡ Ok (t, tail) → Fronts IsExpr words ts t.tree tail
tall_front ts t tail h = let s = said AnyFault (Takes Whole tall_words ts) _ (t, tail) (expr_takes max_depth rule.Expr ts) h in record { text = s.0; sound = (t.depth, s.1) }

pub is_front : (ts : Words) (e : Expr) (tail : Words) → read_expr ts ≡ Ok (e, tail) → Fronts IsExpr words ts e tail
is_front ts e tail h = let d = expr_with_depth ts e tail h in subst (λ x. Fronts IsExpr words ts x tail) d.tree (tall_front ts d.whole tail d.read)

-- what stands at the front is read, or more
front : (ts : Words) (y : Expr) (rest : Words) (f : Fronts IsExpr words ts y rest) → Reaches 6 (expr max_depth rule.Expr ts) (tall y f.sound.0) rest
front ts y rest f = subst (λ z. Reaches 6 (expr max_depth rule.Expr z) (tall y f.sound.0) rest) (sym f.text) (expr_full max_depth rule.Expr f.sound.0 y f.sound.1 rest)

tall_longest : (ts : Words) (t : Tall Expr) (tail : Words) → expr max_depth rule.Expr ts ≡ Ok (t, tail) → IsLongest IsExpr words ts t.tree tail
tall_longest ts t tail h y rest f = go (front ts y rest f)
  where
    go : Reaches 6 (expr max_depth rule.Expr ts) (tall y f.sound.0) rest → ((y ≡ t.tree) × (rest ≡ tail)) ⊎ (length tail < length rest)
    go (inl q) = let s = same (tall y f.sound.0, rest) (t, tail) (sym q ∙ h) in inl (ap (λ (z : Tall Expr). z.tree) s.0, s.1)
    go (inr (c, inl d)) = (let n = sym h ∙ d.1 in let z : ⊥ = cc in absurd z)
    go (inr (c, inr o)) = let s = same o.0 (t, tail) (sym o.1 ∙ h) in inr (omega (arith, o.2, ap length s.1))

pub is_longest : (ts : Words) (e : Expr) (tail : Words) → read_expr ts ≡ Ok (e, tail) → IsLongest IsExpr words ts e tail
is_longest ts e tail h = let d = expr_with_depth ts e tail h in subst (λ x. IsLongest IsExpr words ts x tail) d.tree (tall_longest ts d.whole tail d.read)

starts_none : (ts : Words) → expr max_depth rule.Expr ts ≡ Err Missing → StartsNone IsExpr words ts
starts_none ts h y rest f = go (front ts y rest f)
  where
    go : Reaches 6 (expr max_depth rule.Expr ts) (tall y f.sound.0) rest → ⊥
    go (inl q) = let n = sym h ∙ q in cc
    go (inr (c, inl d)) = let n = sym h ∙ d.1 in cc
    go (inr (c, inr o)) = let n = sym h ∙ o.1 in cc

may_go_on : (ts : Words) (b : Fault) → expr max_depth rule.Expr ts ≡ Err (Bad b) → MayGoOn ts
may_go_on ts b h y rest f = go (front ts y rest f)
  where
    go : Reaches 6 (expr max_depth rule.Expr ts) (tall y f.sound.0) rest → expr_continues rest ≡ true
    go (inl q) = (let n = sym h ∙ q in let z : ⊥ = cc in absurd z)
    go (inr (c, _)) = c

is_blamed : (ts : Words) (b : Fault) → expr max_depth rule.Expr ts ≡ Err (Bad b) → Points (ExprCause max_depth AtStart b.code) ts b.span
is_blamed ts b h =
    let C : Fault → Type 0 = λ f. Points (ExprCause max_depth AtStart f.code) ts f.span in
    blamed C (Takes Whole tall_words ts) _ b (expr_sound max_depth AtStart ts C (λ f p. p) max_depth rule.Expr ts ([], 0, refl, root an_expr [] (refl, refl), omega arith)) h

refused_with_depth : (all ts : Words) (s : RuleStop) (f : ParseFault) → FaultOf all s f → Fails (expr max_depth rule.Expr ts) s → IfBad {A = Expr} (RefusesExpr all ts) (Err f)
refused_with_depth all ts stop.NoMemory f q h = subst (λ z. IfBad {A = Expr} (RefusesExpr all ts) (Err z)) (sym q) tt
refused_with_depth all ts (stop.Refused Missing) f q h = subst (λ z. IfBad {A = Expr} (RefusesExpr all ts) (Err z)) (sym q.1) (inl (refl, q.2, starts_none ts h))
refused_with_depth all ts (stop.Refused (Bad b)) f q h = subst (λ z. IfBad {A = Expr} (RefusesExpr all ts) (Err z)) (sym q) (inr (is_blamed ts b h, may_go_on ts b h))

pub refused : (all ts : Words) (s : RuleStop) (f : ParseFault) → FaultOf all s f → Fails (read_expr ts) s → IfBad {A = Expr} (RefusesExpr all ts) (Err f)
refused all ts s f q h = refused_with_depth all ts s f q (expr_fails ts s h)

-- ---- types

pub is_type_front : (ts : Words) (t : TypeTree) (tail : Words) → read_type ts ≡ Ok (t, tail) → Fronts IsType type_words ts t tail
unfolding read_type
is_type_front ts t tail h = let s = said AnyFault (Takes IsType type_words ts) _ (t, tail) (type_takes ts) h in record { text = s.0; sound = s.1 }

type_front : (ts : Words) (y : TypeTree) (rest : Words) → Fronts IsType type_words ts y rest → ReachesType (type_at max_type_depth ts) y rest
type_front ts y rest f = subst (λ z. ReachesType (type_at max_type_depth z) y rest) (sym f.text) (type_full max_type_depth y f.sound rest)

pub is_longest_type : (ts : Words) (t : TypeTree) (tail : Words) → read_type ts ≡ Ok (t, tail) → IsLongest IsType type_words ts t tail
unfolding read_type
is_longest_type ts t tail h y rest f = go (type_front ts y rest f)
  where
    go : ReachesType (type_at max_type_depth ts) y rest → ((y ≡ t) × (rest ≡ tail)) ⊎ (length tail < length rest)
    go (inl q) = inl (same (y, rest) (t, tail) (sym q ∙ h))
    go (inr (c, o)) = let s = same o.0 (t, tail) (sym o.1 ∙ h) in inr (omega (arith, o.2, ap length s.1))

no_type : (ts : Words) (f : Refusal) → type_at max_type_depth ts ≡ Err f → StartsNone IsType type_words ts
no_type ts f h y rest k = go (type_front ts y rest k)
  where
    go : ReachesType (type_at max_type_depth ts) y rest → ⊥
    go (inl q) = let n = sym h ∙ q in cc
    go (inr (c, o)) = let n = sym h ∙ o.1 in cc

type_blamed : (ts : Words) (b : Fault) → type_at max_type_depth ts ≡ Err (Bad b) → Points (TypeCause AtFront b.code) ts b.span
type_blamed ts b h =
    let C : Fault → Type 0 = λ f. Points (TypeCause AtFront f.code) ts f.span in
    blamed C (Takes IsType type_words ts) (type_at max_type_depth ts) b (type_sound AtFront ts C (λ f p. p) max_type_depth ts ([], 0, refl, type_root [] refl, refl)) h

pub refused_type : (all ts : Words) (s : RuleStop) (f : ParseFault) → FaultOf all s f → Fails (read_type ts) s → IfBad {A = TypeTree} (RefusesType all ts) (Err f)
unfolding read_type
refused_type all ts stop.NoMemory f q h = subst (λ z. IfBad {A = TypeTree} (RefusesType all ts) (Err z)) (sym q) tt
refused_type all ts (stop.Refused Missing) f q h = subst (λ z. IfBad {A = TypeTree} (RefusesType all ts) (Err z)) (sym q.1) (inl (refl, q.2), no_type ts Missing h)
refused_type all ts (stop.Refused (Bad b)) f q h =
    subst (λ z. IfBad {A = TypeTree} (RefusesType all ts) (Err z)) (sym q) (inr (type_blamed ts b h), no_type ts (Bad b) h)
