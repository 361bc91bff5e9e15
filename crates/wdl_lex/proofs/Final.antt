-- Reading a text from its start.
use Rattle.std.proofs.Common.{◌≡◌, ℕ, suc, ◌≤◌, Bool, true, false, inr, List, [], length, Result, Ok, Err, refl, ap, sym, ◌∙◌, subst, arith}
use Rattle.std.specs.Str.{IsUtf8}
use Rattle.wdl_base.specs.declared.span.Span.{Span}
use Rattle.wdl_ast.specs.declared.token.Token.{Token}
use Rattle.wdl_ast.specs.Spelled.{Spelled}
use Rattle.wdl_ast.specs.Spelled.Classes.{Bytes}
use Rattle.std.specs.Prelude.{IfOk, IfErr}
use Rattle.wdl_lex.specs.declared.fault.LexFault.{LexFault}
use Rattle.wdl_lex.specs.declared.fault.LexFault.TheVariants as fault
use Rattle.wdl_lex.specs.Limits.{max_document, are_short, IsWithinLimits}
use Rattle.wdl_lex.specs.Faults.{IsFault, HasCause, Answers}
use Rattle.wdl_lex.specs.Reading.{Fault, lex, Gives}
use Rattle.wdl_lex.proofs.Whole.{Told, lex_tells, lex_full}

abbrev Texts : Type 0
Texts = Result (List Token) Fault

lex_told : (limited : Bool) (doc : ℕ) (z : Bytes) (r : Texts) → lex limited doc z ≡ r → Told limited doc 0 false [] z r
unfolding lex
lex_told limited doc z r h = subst (Told limited doc 0 false [] z) h (lex_tells limited doc (suc (length z)) 0 false [] z (omega arith))

pub read_spelled : (doc : ℕ) (z : Bytes) (ts : List Token) → IsUtf8 z → lex true doc z ≡ Ok ts → Spelled doc z ts × (are_short ts ≡ true)
read_spelled doc z ts u h = let t = lex_told true doc z (Ok ts) h in (record { utf8 = u; spells = t.0 }, t.1 refl)

pub spelled_read : (limited : Bool) (doc : ℕ) (z : Bytes) (ts : List Token) → Spelled doc z ts → (limited ≡ true → are_short ts ≡ true) → lex limited doc z ≡ Ok ts
unfolding lex
spelled_read limited doc z ts s short = lex_full limited doc ts (suc (length z)) 0 false [] z s.spells short (omega arith)

abbrev done : List Token → Texts
done x = Ok x

pub one_list : (doc : ℕ) (z : Bytes) (ts us : List Token) → Spelled doc z ts → Spelled doc z us → ts ≡ us
one_list doc z ts us s u = go (sym (spelled_read false doc z ts s (λ q. unlimited q)) ∙ spelled_read false doc z us u (λ q. unlimited q))
  where
    unlimited : {X : Type 0} → false ≡ true → X
    unlimited {X} q = (let n : ⊥ = cc in absurd n)

    go : done ts ≡ done us → ts ≡ us
    go e = cc

pub read_fault : (doc : ℕ) (z : Bytes) (code : ℕ) (s : Span) → lex true doc z ≡ Err (code, s) → IsFault doc z code s
read_fault doc z code s h = inr (inr (lex_told true doc z (Err (code, s)) h))

-- ---- the clauses of the call

module _ (doc : ℕ) (z y : Bytes) where
  pub found_by : (r : Result (List Token) LexFault) → y ≡ z → IsUtf8 z → length z ≤ max_document → Gives (lex true doc y) r → IfOk r (λ ts. Spelled doc z ts × IsWithinLimits z ts)
  found_by (Ok ts) e u fits h = let t = read_spelled doc z ts u (ap (lex true doc) (sym e) ∙ h) in (t.0, record { document = fits; words = t.1 })
  found_by (Err f) e u fits h = tt

  pub only_by : (ts : List Token) (r : Result (List Token) LexFault) → y ≡ z → Spelled doc z ts → IsWithinLimits z ts → Gives (lex true doc y) r → Answers ts r
  only_by ts r e s w h = go r (sym (spelled_read true doc z ts s (λ q. w.words)) ∙ ap (lex true doc) (sym e)) h
    where
      go : (r : Result (List Token) LexFault) → done ts ≡ lex true doc y → Gives (lex true doc y) r → Answers ts r
      go (Ok us) e h = (let f = e ∙ h in cc)
      go (Err fault.NoMemory) e h = tt
      go (Err (fault.Bad code s)) e h = (let f = e ∙ h in let n : ⊥ = cc in n)

  pub cause_by : (r : Result (List Token) LexFault) → y ≡ z → Gives (lex true doc y) r → IfErr r (HasCause doc z)
  cause_by (Ok us) e h = tt
  cause_by (Err fault.NoMemory) e h = tt
  cause_by (Err (fault.Bad code s)) e h = read_fault doc z code s (ap (lex true doc) (sym e) ∙ h)
