-- What a step along an expression says of what stood there.
use Rattle.std.proofs.Common.{◌≡◌, Bool, true, false, Some, None, Ok, Err, ap, sym, ◌∙◌}
use Rattle.wdl_ast.specs.Words.{Words}
use Rattle.token_reading.specs.declared.tall.Chain.{Chain}
use Rattle.token_reading.specs.declared.fault.RuleStop.{RuleStop}
use Rattle.token_reading.specs.declared.fault.RuleStop.TheVariants.{NoMemory, Refused}
use Rattle.token_reading.specs.Outcome.{Outcome, Fails}
use Rattle.wdl_parse_expr.specs.Reading.{Step, step, told}
use Rattle.token_reading.proofs.Steps.{same, done}

pub told_none : (left y : Chain) (b : Bool) (o : Step) (r : Words) → told left o ≡ done ((y, b), r) → b ≡ false → (o ≡ Ok (None, r)) × (y ≡ left)
told_none left y b (Ok (None, t)) r h q = let s = same ((left, false), t) ((y, b), r) h in (ap (λ z. Ok (None, z)) s.1, ap (λ (z : Chain × Bool). z.0) (sym s.0))
told_none left y b (Ok (Some x, t)) r h q = let s = same ((x, true), t) ((y, b), r) h in let n : true ≡ false = ap (λ (z : Chain × Bool). z.1) s.0 ∙ q in let z : ⊥ = cc in absurd z
told_none left y b (Err f) r h q = cc

pub told_some : (left y : Chain) (b : Bool) (o : Step) (r : Words) → told left o ≡ done ((y, b), r) → b ≡ true → o ≡ Ok (Some y, r)
told_some left y b (Ok (None, t)) r h q = let s = same ((left, false), t) ((y, b), r) h in let n : false ≡ true = ap (λ (z : Chain × Bool). z.1) s.0 ∙ q in let z : ⊥ = cc in absurd z
told_some left y b (Ok (Some x, t)) r h q = let s = same ((x, true), t) ((y, b), r) h in ap (λ (z : Chain × Words). Ok (Some z.0, z.1)) (let f : x ≡ y = ap (λ (z : Chain × Bool). z.0) s.0 in let g : t ≡ r = s.1 in let k : (x, t) ≡ (y, r) = cc in k)
told_some left y b (Err f) r h q = cc

pub still_fails : (left : Chain) (o : Outcome Chain) (s : RuleStop) → Fails o s → Fails (told left (step o)) s
still_fails left o NoMemory h = tt
still_fails left o (Refused f) h = ap (λ z. told left (step z)) h
