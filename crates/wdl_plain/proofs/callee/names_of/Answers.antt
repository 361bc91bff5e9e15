use Rattle.std.proofs.Common.{◌≡◌, ℕ, ◌+◌, ◌<◌, List, [], ◌∷◌, ◌++◌, drop, get_or, length, append_assoc, sym, ap, ◌∙◌}
use Rattle.std.proofs.lemmas.List.{map-append}
use Rattle.wdl_value.specs.declared.env.Bind.{Bind}
use Rattle.wdl_typed.specs.Flow.{env_of}
use Rattle.wdl_plain.specs.declared.known.Known.{Known}
use Rattle.wdl_plain.specs.Views.{env_in, known_of, knowns_of}
use Rattle.flow_soundness.proofs.Fitting.{env_both}
use Rattle.wdl_plain.proofs.Loops.{cut}
use Rattle.wdl_plain.proofs.callee.names_of.Goals as goal

one_more : (ks ks' : List Known) (k : Known) (env : List Bind) (i : ℕ) (b : Bind) → ks' ≡ ks ++ k ∷ [] → env_of (known_of k ∷ []) ≡ b ∷ [] → i < length env → b ≡ get_or env i b
    → env_in ks ++ drop i env ≡ env → env_in ks' ++ drop (i + 1) env ≡ env
one_more ks ks' k env i b more bound below at h =
    ap (λ (zs : List Known). env_in zs ++ drop (i + 1) env) more
    ∙ ap (λ z. z ++ drop (i + 1) env) (ap env_of (map-append known_of ks (k ∷ [])) ∙ env_both (knowns_of ks) (known_of k ∷ []) ∙ ap (λ z. env_in ks ++ z) bound)
    ∙ append_assoc (env_in ks) (b ∷ []) (drop (i + 1) env)
    ∙ sym (ap (λ z. env_in ks ++ z) (cut env i b below at))
    ∙ h

pub loop-bind-preserved : goal.loop-bind-preserved
loop-bind-preserved c =
    one_more c.loop-bind.names c.enter.new.self c.in_ok-known_bind.field-0 c.args.env.now c.loop-bind.bind-index c.bind-item.result c.in_ok-enter.ensures.ok c.in_ok-known_bind.ensures
    c.loop-bind-test.true c.bind-item.is c.loop-bind.invariant
