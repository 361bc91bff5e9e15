use Rattle.std.proofs.Common.{◌≡◌, ℕ, suc, ◌+◌, ◌-◌, ◌<◌, ◌≤◌, Bool, true, List, Some, length, length-drop, drop, Result, Ok, Err, ap, sym, ◌∙◌, subst, arith}
use Rattle.std.proofs.lemmas.List.{drop-drop}
use Rattle.std.specs.Str.{IsUtf8}
use Rattle.wdl_ast.specs.declared.token.Token.{Token}
use Rattle.wdl_ast.specs.Spelled.{Open, inside, after, is_command, span_at}
use Rattle.wdl_ast.specs.Spelled.Classes.{Bytes}
use Rattle.wdl_lex.specs.declared.fault.NoToken.{NoToken}
use Rattle.wdl_lex.specs.declared.fault.NoToken.TheVariants as stop
use Rattle.wdl_lex.specs.declared.fault.LexFault.{LexFault}
use Rattle.wdl_lex.specs.declared.fault.LexFault.TheVariants as lex_fault
use Rattle.wdl_lex.specs.declared.fault.Flaw.{Flaw}
use Rattle.wdl_lex.specs.Reading.Code.{Found}
use Rattle.wdl_lex.specs.Reading.{Fault, fault_at, gap, token, lex, lex_from, with_front, ended, stopped, IsNear, Fails}
use Rattle.wdl_lex.specs.Reading.Code as code
use Rattle.wdl_lex.proofs.LoopLaws.{finished, starts, at_last, failed, went, all_read, token_flaw, token_within, token_utf8, gap_utf8}
use Rattle.wdl_lex.proofs.tokens.read.Goals as goal

pub loop-turn-init : goal.loop-turn-init
loop-turn-init c = record {
  so_far = starts true c.args.doc c.args.z.now c.new-tokens.result c.new-opened.result (length c.args.z.now + 1 - 0) c.new-tokens.ensures c.new-opened.ensures (omega arith);
  within = omega arith;
  utf8 = c.requires.utf8;
}

pub returns-in-None : goal.returns-in-None
returns-in-None c =
    let gap_is : c.gap.result ≡ gap c.loop-turn.opened (drop c.loop-turn.at c.args.z.now) = c.gap.ensures.value ∙ ap (gap c.loop-turn.opened) c.behind.ensures in
    let fits : c.loop-turn.at + c.gap.result ≤ length c.args.z.now = omega (arith, c.loop-turn.invariant.within, c.gap.ensures.within, ap length c.behind.ensures, length-drop c.loop-turn.at c.args.z.now) in
    let turns : length c.args.z.now + 1 - c.loop-turn._turn ≡ suc (length c.args.z.now + 1 - (c.loop-turn._turn + 1)) = omega arith in
    at_last true c.args.doc c.args.z.now c.loop-turn.tokens c.loop-turn.awaits c.loop-turn.opened (length c.args.z.now + 1 - c.loop-turn._turn) (length c.args.z.now + 1 - (c.loop-turn._turn + 1)) c.loop-turn.at c.gap.result c.loop-turn.invariant.so_far turns gap_is fits c.if-start-z.true ∙ ap (finished c.loop-turn.tokens) (sym c.unclosed.ensures ∙ c.in-None.is)

abbrev Texts : Type 0
Texts = Result (List Token) Fault

-- a text that ends while a token is open
ends_open : (front : List Token) (t : Token) (r : Texts) (e : LexFault) → r ≡ finished front (Some t) → Fails (ended (Some t)) e → Fails r e
ends_open front t r lex_fault.NoMemory h f = tt
ends_open front t r (lex_fault.Bad code span) h f = h ∙ f

pub returns-in-Some : goal.returns-in-Some
returns-in-Some c =
    let gap_is : c.gap.result ≡ gap c.loop-turn.opened (drop c.loop-turn.at c.args.z.now) = c.gap.ensures.value ∙ ap (gap c.loop-turn.opened) c.behind.ensures in
    let fits : c.loop-turn.at + c.gap.result ≤ length c.args.z.now = omega (arith, c.loop-turn.invariant.within, c.gap.ensures.within, ap length c.behind.ensures, length-drop c.loop-turn.at c.args.z.now) in
    let turns : length c.args.z.now + 1 - c.loop-turn._turn ≡ suc (length c.args.z.now + 1 - (c.loop-turn._turn + 1)) = omega arith in
    ends_open c.loop-turn.tokens c.in-Some.token (lex true c.args.doc c.args.z.now) c.unclosed-in-Some.result (at_last true c.args.doc c.args.z.now c.loop-turn.tokens c.loop-turn.awaits c.loop-turn.opened (length c.args.z.now + 1 - c.loop-turn._turn) (length c.args.z.now + 1 - (c.loop-turn._turn + 1)) c.loop-turn.at c.gap.result c.loop-turn.invariant.so_far turns gap_is fits c.if-start-z.true ∙ ap (finished c.loop-turn.tokens) (sym c.unclosed.ensures ∙ c.in-Some.is)) c.unclosed-in-Some.ensures

start_utf8 : (z : Bytes) (opened : Open) (at g : ℕ) → g ≡ gap opened (drop at z) → IsUtf8 (drop at z) → IsUtf8 (drop (at + g) z)
start_utf8 z opened at g e u = subst IsUtf8 (ap (λ n. drop n (drop at z)) (sym e) ∙ drop-drop g at z) (gap_utf8 (inside opened) (drop at z) u)

pub token-requires : goal.token-requires
token-requires c =
    let gap_is : c.gap.result ≡ gap c.loop-turn.opened (drop c.loop-turn.at c.args.z.now) = c.gap.ensures.value ∙ ap (gap c.loop-turn.opened) c.behind.ensures in
    subst IsUtf8 (sym c.behind-in-loop-turn.ensures) (start_utf8 c.args.z.now c.loop-turn.opened c.loop-turn.at c.gap.result gap_is c.loop-turn.invariant.utf8)

near : (awaits : Bool) (opened : Open) (y : Bytes) (n : ℕ) (s : NoToken) → 0 < length y → length y ≤ n → code.Fails (token true awaits opened y) s → IsNear n s
near awaits opened y n stop.NoMemory some fits h = tt
near awaits opened y n (stop.Flaw f) some fits h = let t = token_flaw true awaits opened y some f h in (omega (arith, t.0), omega (arith, t.1))

pub stopped-requires-clause-near : goal.stopped-requires-clause-near
stopped-requires-clause-near c =
    near c.loop-turn.awaits c.loop-turn.opened c.behind-in-loop-turn.result.now 1048576 c.in-Err.stop
    (omega (arith, ap length c.behind-in-loop-turn.ensures, length-drop (c.loop-turn.at + c.gap.result) c.args.z.now, c.gap.ensures.within, ap length c.behind.ensures, length-drop c.loop-turn.at c.args.z.now))
    (omega (arith, ap length c.behind-in-loop-turn.ensures, length-drop (c.loop-turn.at + c.gap.result) c.args.z.now)) c.in-Err.ensures

fails : (doc at : ℕ) (r : Texts) (t : Result Found Flaw) (s : NoToken) (e : LexFault) → ((f : Flaw) → t ≡ Err f → r ≡ Err (fault_at doc at f)) → code.Fails t s → e ≡ stopped doc at s → Fails r e
fails doc at r t stop.NoMemory e g h q = subst (Fails r) (sym q) tt
fails doc at r t (stop.Flaw f) e g h q = subst (Fails r) (sym q) (g f h)

pub returns-in-Err : goal.returns-in-Err
returns-in-Err c =
    let gap_is : c.gap.result ≡ gap c.loop-turn.opened (drop c.loop-turn.at c.args.z.now) = c.gap.ensures.value ∙ ap (gap c.loop-turn.opened) c.behind.ensures in
    let fits : c.loop-turn.at + c.gap.result ≤ length c.args.z.now = omega (arith, c.loop-turn.invariant.within, c.gap.ensures.within, ap length c.behind.ensures, length-drop c.loop-turn.at c.args.z.now) in
    let turns : length c.args.z.now + 1 - c.loop-turn._turn ≡ suc (length c.args.z.now + 1 - (c.loop-turn._turn + 1)) = omega arith in
    let less : c.loop-turn.at + c.gap.result < length c.args.z.now = omega arith in
    fails c.args.doc (c.loop-turn.at + c.gap.result) (lex true c.args.doc c.args.z.now) (token true c.loop-turn.awaits c.loop-turn.opened (drop (c.loop-turn.at + c.gap.result) c.args.z.now)) c.in-Err.stop c.stopped.result
    (λ f h. failed true c.args.doc c.args.z.now c.loop-turn.tokens c.loop-turn.awaits c.loop-turn.opened (length c.args.z.now + 1 - c.loop-turn._turn) (length c.args.z.now + 1 - (c.loop-turn._turn + 1)) c.loop-turn.at c.gap.result c.loop-turn.invariant.so_far turns gap_is fits less f h)
    (subst (λ y. code.Fails (token true c.loop-turn.awaits c.loop-turn.opened y) c.in-Err.stop) c.behind-in-loop-turn.ensures c.in-Err.ensures) c.stopped.ensures

pub overflow_add-at : goal.overflow_add-at
overflow_add-at c =
    let fits : c.loop-turn.at + c.gap.result ≤ length c.args.z.now = omega (arith, c.loop-turn.invariant.within, c.gap.ensures.within, ap length c.behind.ensures, length-drop c.loop-turn.at c.args.z.now) in
    let some : 0 < length c.behind-in-loop-turn.result.now = omega (arith, ap length c.behind-in-loop-turn.ensures, length-drop (c.loop-turn.at + c.gap.result) c.args.z.now) in
    let most = token_within true c.loop-turn.awaits c.loop-turn.opened c.behind-in-loop-turn.result.now some c.in-Ok.found.0 c.in-Ok.found.1 c.in-Ok.ensures in
    let end : c.loop-turn.at + c.gap.result + c.in-Ok.found.1 ≤ length c.args.z.now = omega (arith, fits, most, ap length c.behind-in-loop-turn.ensures, length-drop (c.loop-turn.at + c.gap.result) c.args.z.now) in
    record { fits = omega (arith, end, c.requires.small) }

pub overflow_cast-span-in-loop-turn : goal.overflow_cast-span-in-loop-turn
overflow_cast-span-in-loop-turn c =
    let fits : c.loop-turn.at + c.gap.result ≤ length c.args.z.now = omega (arith, c.loop-turn.invariant.within, c.gap.ensures.within, ap length c.behind.ensures, length-drop c.loop-turn.at c.args.z.now) in
    let some : 0 < length c.behind-in-loop-turn.result.now = omega (arith, ap length c.behind-in-loop-turn.ensures, length-drop (c.loop-turn.at + c.gap.result) c.args.z.now) in
    let most = token_within true c.loop-turn.awaits c.loop-turn.opened c.behind-in-loop-turn.result.now some c.in-Ok.found.0 c.in-Ok.found.1 c.in-Ok.ensures in
    let end : c.loop-turn.at + c.gap.result + c.in-Ok.found.1 ≤ length c.args.z.now = omega (arith, fits, most, ap length c.behind-in-loop-turn.ensures, length-drop (c.loop-turn.at + c.gap.result) c.args.z.now) in
    record { fits = omega (arith, end, c.requires.small) }

pub loop-turn-preserved : goal.loop-turn-preserved
loop-turn-preserved c =
    let gap_is : c.gap.result ≡ gap c.loop-turn.opened (drop c.loop-turn.at c.args.z.now) = c.gap.ensures.value ∙ ap (gap c.loop-turn.opened) c.behind.ensures in
    let fits : c.loop-turn.at + c.gap.result ≤ length c.args.z.now = omega (arith, c.loop-turn.invariant.within, c.gap.ensures.within, ap length c.behind.ensures, length-drop c.loop-turn.at c.args.z.now) in
    let turns : length c.args.z.now + 1 - c.loop-turn._turn ≡ suc (length c.args.z.now + 1 - (c.loop-turn._turn + 1)) = omega arith in
    let less : c.loop-turn.at + c.gap.result < length c.args.z.now = omega arith in
    let some : 0 < length c.behind-in-loop-turn.result.now = omega (arith, ap length c.behind-in-loop-turn.ensures, length-drop (c.loop-turn.at + c.gap.result) c.args.z.now) in
    let most = token_within true c.loop-turn.awaits c.loop-turn.opened c.behind-in-loop-turn.result.now some c.in-Ok.found.0 c.in-Ok.found.1 c.in-Ok.ensures in
    let end : ℕ = c.loop-turn.at + c.gap.result + c.in-Ok.found.1 in
    let here : token true c.loop-turn.awaits c.loop-turn.opened (drop (c.loop-turn.at + c.gap.result) c.args.z.now) ≡ Ok (c.in-Ok.found.0, c.in-Ok.found.1) = ap (token true c.loop-turn.awaits c.loop-turn.opened) (sym c.behind-in-loop-turn.ensures) ∙ c.in-Ok.ensures in
    let next = went true c.args.doc c.args.z.now c.loop-turn.tokens c.loop-turn.awaits c.loop-turn.opened (length c.args.z.now + 1 - c.loop-turn._turn) (length c.args.z.now + 1 - (c.loop-turn._turn + 1)) c.loop-turn.at c.gap.result c.loop-turn.invariant.so_far turns gap_is fits less c.in-Ok.found.0 c.in-Ok.found.1 here in
    let starts_at = start_utf8 c.args.z.now c.loop-turn.opened c.loop-turn.at c.gap.result gap_is c.loop-turn.invariant.utf8 in
    record {
      so_far =
          next ∙ ap (λ ts. with_front ts (lex_from true c.args.doc (length c.args.z.now + 1 - (c.loop-turn._turn + 1)) end (is_command c.in-Ok.found.0) (after c.loop-turn.opened (span_at c.args.doc (c.loop-turn.at + c.gap.result) end) c.in-Ok.found.0) (drop end c.args.z.now))) (sym c.in_ok-push.ensures.ok)
          ∙ ap (λ o. with_front c.push.new.self (lex_from true c.args.doc (length c.args.z.now + 1 - (c.loop-turn._turn + 1)) end (is_command c.in-Ok.found.0) o (drop end c.args.z.now))) (sym c.in_ok-pass.ensures)
          ∙ ap (λ a. with_front c.push.new.self (lex_from true c.args.doc (length c.args.z.now + 1 - (c.loop-turn._turn + 1)) end a c.pass.new.self (drop end c.args.z.now))) (sym c.is_command-awaits.ensures);
      within = omega (arith, fits, most, ap length c.behind-in-loop-turn.ensures, length-drop (c.loop-turn.at + c.gap.result) c.args.z.now);
      utf8 = subst IsUtf8 (drop-drop c.in-Ok.found.1 (c.loop-turn.at + c.gap.result) c.args.z.now)
          (token_utf8 true c.loop-turn.awaits c.loop-turn.opened (drop (c.loop-turn.at + c.gap.result) c.args.z.now) (omega (arith, length-drop (c.loop-turn.at + c.gap.result) c.args.z.now, less)) c.in-Ok.found.0 c.in-Ok.found.1 here starts_at);
    }

pub returns : goal.returns
returns c = all_read true c.args.doc c.args.z.now c.loop-turn.tokens c.loop-turn.awaits c.loop-turn.opened (length c.args.z.now + 1 - c.loop-turn._turn) c.loop-turn.at c.loop-turn.invariant.so_far (omega arith)
