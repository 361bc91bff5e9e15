-- One more piece of a string.
use Rattle.std.proofs.Common.{◌≡◌, ℕ, ◌+◌, ◌<◌, List, ◌∷◌, ◌++◌, drop, length, get_or, Ok, Err, append_assoc, sym, ap, ◌∙◌, subst, refl}
use Rattle.std.proofs.lemmas.List.{drop_more}
use Rattle.wdl_value.specs.declared.value.Value.{Value, out-Value}
use Rattle.wdl_typed.specs.declared.expr.TExpr.{TExpr}
use Rattle.wdl_typed.specs.declared.expr.THole.{THole}
use Rattle.wdl_typed.specs.declared.expr.TPart.{TPart}
use Rattle.wdl_typed.specs.declared.expr.TPart.TheVariants as part
use Rattle.wdl_typed.specs.Evaluation.{Met, Setting, hole_text, then_, value_met}
use Rattle.wdl_eval.specs.Nodes.{text_met}

-- a text behind another one, and what follows
abbrev behind : List ℕ → Met (List ℕ) → Met (List ℕ)
behind text rest = then_ rest (λ t. Ok (text ++ t))

text_more : (rest : Met (List ℕ)) (text more : List ℕ) → behind (text ++ more) rest ≡ behind text (behind more rest)
text_more (Ok t) text more = ap (λ z. Ok z) (append_assoc text more t)
text_more (Err e) text more = refl

hole_more : (m : Met Value) (f : Value → Met (List ℕ)) (rest : Met (List ℕ)) (x : Value) (text next : List ℕ) → m ≡ Ok x → behind text (f x) ≡ Ok next
    → behind next rest ≡ behind text (then_ m (λ y. then_ (f y) (λ t. behind t rest)))
hole_more m f rest x text next e h =
    subst (λ (r : Met Value). behind next rest ≡ behind text (then_ r (λ y. then_ (f y) (λ t. behind t rest)))) (sym e) (by_text (f x) h)
  where
    by_text : (r : Met (List ℕ)) → behind text r ≡ Ok next → behind next rest ≡ behind text (then_ r (λ t. behind t rest))
    by_text (Ok t) h = let same : next ≡ text ++ t = cc in ap (λ z. behind z rest) same ∙ text_more rest text t
    by_text (Err c) h = cc

module _ (s : Setting) (parts : List (TPart TExpr)) (i : ℕ) (p : TPart TExpr) (text next : List ℕ) (at : p ≡ get_or parts i p) (below : i < length parts)
    (before : behind text (text_met s (drop i parts)) ≡ text_met s parts) where
  cut : drop i parts ≡ p ∷ drop (i + 1) parts
  cut = drop_more parts i p below ∙ ap (λ z. z ∷ drop (i + 1) parts) (sym at)

  with_piece : (q : TPart TExpr) → p ≡ q → behind next (text_met s (drop (i + 1) parts)) ≡ behind text (text_met s (q ∷ drop (i + 1) parts)) → behind next (text_met s (drop (i + 1) parts)) ≡ text_met s parts
  with_piece q e h = h ∙ ap (λ z. behind text (text_met s (z ∷ drop (i + 1) parts))) (sym e) ∙ ap (λ z. behind text (text_met s z)) (sym cut) ∙ before

  pub chars_next : (chars : List ℕ) → p ≡ part.Chars chars → next ≡ text ++ chars → behind next (text_met s (drop (i + 1) parts)) ≡ text_met s parts
  chars_next chars e h = with_piece (part.Chars chars) e (ap (λ z. behind z (text_met s (drop (i + 1) parts))) h ∙ text_more (text_met s (drop (i + 1) parts)) text chars)

  pub hole_next : (h : THole TExpr) (x : Value) → p ≡ part.Hole h → value_met s h.expr ≡ Ok x → behind text (hole_text h.choice (out-Value x)) ≡ Ok next → behind next (text_met s (drop (i + 1) parts)) ≡ text_met s parts
  hole_next h x e v k = with_piece (part.Hole h) e (hole_more (value_met s h.expr) (λ y. hole_text h.choice (out-Value y)) (text_met s (drop (i + 1) parts)) x text next v k)
