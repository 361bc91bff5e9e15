use Rattle.std.proofs.Common.{◌≡◌, ◌++◌, ◌∷◌, [], Err, codes, rules, arith, sym, ap, ◌∙◌, append-nil, drop}
use Rattle.std.proofs.lemmas.Str.Pattern.{split_parts, split_text_parts}
use Rattle.cwl_model.specs.Fields.{field_text}
use Rattle.library_calls.proofs.FieldLoops.{plain_chars, lacks_of, unclosed, no_reference, opens_stray, field_fault, stray_at, refused_at, pieces_more, pieces_end}
use Rattle.library_calls.proofs.fields.pieces_of.Goals as goal

pub returns-in_err-push_chars : goal.returns-in_err-push_chars
returns-in_err-push_chars c =
    let l = c.references in
    let chars = c.in-Some.chars.now in
    let more = c.in-Some.more.now in
    let fault = c.in_err-push_chars.field-0.0 in
    let gone : c.from_residual.result ≡ Err fault = grind arith in
    let at = rw c.in-Some.is at (split_text_parts (codes "$(") l.rest.now c.split_once.result c.split_once.ensures.cases) in
    record { value = rw gone (field_fault c.args.field.now fault (λ e. refused_at c.args.field.now (field_text l.pieces) l.rest.now chars (codes "$(" ++ more) l.invariant.2 at (c.in_err-push_chars.ensures.refused (ap Err e)))) }

pub returns-in_default-split_once : goal.returns-in_default-split_once
returns-in_default-split_once c =
    let l = c.references in
    let chars = c.in-Some.chars.now in
    let more = c.in-Some.more.now in
    let at = rw c.in-Some.is at (split_text_parts (codes "$(") l.rest.now c.split_once.result c.split_once.ensures.cases) in
    let none = rw c.in_default-split_once.is at (split_parts 41 more c.split_once-in-Some.result c.split_once-in-Some.ensures.cases (omega arith)) in
    record { value = stray_at c.args.field.now (field_text l.pieces) l.rest.now chars more l.invariant.2 at (opens_stray more (unclosed more none)) }

pub returns-in_err-reference_of : goal.returns-in_err-reference_of
returns-in_err-reference_of c =
    let l = c.references in
    let chars = c.in-Some.chars.now in
    let more = c.in-Some.more.now in
    let word = c.in-Some-split_once.word.now in
    let behind = c.in-Some-split_once.behind.now in
    let fault = c.in_err-reference_of.field-0.0 in
    let gone : c.from_residual-in_err-reference_of.result ≡ Err fault = grind arith in
    let at = rw c.in-Some.is at (split_text_parts (codes "$(") l.rest.now c.split_once.result c.split_once.ensures.cases) in
    let closing = rw c.in-Some-split_once.is at (split_parts 41 more c.split_once-in-Some.result c.split_once-in-Some.ensures.cases (omega arith)) in
    record {
      value = rw gone (field_fault c.args.field.now fault (λ e.
          let none = rw e at c.in_err-reference_of.ensures in
          stray_at c.args.field.now (field_text l.pieces) l.rest.now chars more l.invariant.2 at (opens_stray more (no_reference more word behind closing.0 (lacks_of 41 word closing.1) none))));
    }

pub references-preserved : goal.references-preserved
references-preserved c =
    let l = c.references in
    let chars = c.in-Some.chars.now in
    let more = c.in-Some.more.now in
    let word = c.in-Some-split_once.word.now in
    let behind = c.in-Some-split_once.behind.now in
    let p = c.in_ok-reference_of.field-0 in
    let at = rw c.in-Some.is at (split_text_parts (codes "$(") l.rest.now c.split_once.result c.split_once.ensures.cases) in
    let closing = rw c.in-Some-split_once.is at (split_parts 41 more c.split_once-in-Some.result c.split_once-in-Some.ensures.cases (omega arith)) in
    let x = c.in-Some.ensures.cases in
    let plain = plain_chars chars (codes "$(" ++ more) (λ k below r e. x.2.0 k (omega (arith, x.6)) r (ap (drop k) at ∙ e)) c.in_ok-push_chars.ensures.plain in
    let grown = c.in_ok-push.ensures.ok ∙ ap (λ ps. ps ++ p ∷ []) c.in_ok-push_chars.ensures.ok in
    let done = pieces_more l.pieces c.push.new.self p c.args.field.now l.rest.now chars more word behind l.invariant.0 l.invariant.1 l.invariant.2 at closing.0 plain c.in_ok-reference_of.ensures grown in
    (done.0, done.1, done.2, search rules)

pub returns-in_err-push_chars-2 : goal.returns-in_err-push_chars-2
returns-in_err-push_chars-2 c =
    let l = c.references in
    let fault = c.in_err-push_chars-2.field-0.0 in
    let gone : c.from_residual-in_err-push_chars-2.result ≡ Err fault = grind arith in
    record { value = rw gone (field_fault c.args.field.now fault (λ e. refused_at c.args.field.now (field_text l.pieces) l.rest.now l.rest.now [] l.invariant.2 (sym (append-nil l.rest.now)) (c.in_err-push_chars-2.ensures.refused (ap Err e)))) }

pub returns : goal.returns
returns c =
    let l = c.references in
    let rest = l.rest.now in
    let none = rw c.in_default.is at c.split_once.ensures.cases in
    let plain = plain_chars rest [] (λ k below r e. none k (omega arith) r (ap (drop k) (sym (append-nil rest)) ∙ e)) c.in_ok-push_chars-2.ensures.plain in
    record { value = pieces_end l.pieces c.push_chars-2.new.pieces c.args.field.now rest l.invariant.0 l.invariant.1 l.invariant.2 plain c.in_ok-push_chars-2.ensures.ok }
