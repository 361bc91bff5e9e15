-- The documents that a document imports, or what is wrong with its imports.
use Rattle.std.specs.Prelude.{◌≡◌, ◌≢◌, ℕ, List, [], ◌∷◌, ◌++◌, Option, Some, None, Result, Ok, Err, if◌then◌else◌}
use Rattle.wdl_base.specs.declared.span.Span.{Span}
use Rattle.wdl_base.specs.Names.{is_name}
use Rattle.wdl_typed.specs.Lists.{has_name}
use Rattle.wdl_ast.specs.declared.document.Import.{Import}
use Rattle.wdl_paths.specs.Resolve.{resolve}
use Rattle.wdl_links.specs.declared.fault.LinkFault.{LinkFault}
use Rattle.wdl_links.specs.declared.fault.LinkFault.TheVariants as fault
use Rattle.wdl_library.specs.Imports.{uri_of, namespace_of}
use Rattle.wdl_links.specs.declared.want.Want.{Want}

-- a value, or a code with its place
abbrev pub Outcome : Type 0 → Type 0
Outcome A = Result A LinkFault

abbrev pub and_then : {A B : Type 0} → Outcome A → (A → Outcome B) → Outcome B
and_then (Ok a) f = f a
and_then (Err e) f = Err e

-- the answer is that outcome, unless memory runs out
abbrev pub Gives : {A : Type 0} → Outcome A → Outcome A → Type 0
Gives outcome (Ok a) = outcome ≡ Ok a
Gives outcome (Err e) = e ≢ fault.NoMemory → outcome ≡ Err e

-- from the word `import` to the end of the uri
abbrev pub span_of : Import → Span
span_of i = record { doc = i.keyword.doc; start = i.keyword.start; end = i.uri.closing.end }

abbrev pub bad : {A : Type 0} → ℕ → Import → Outcome A
bad code i = Err (fault.Bad code (span_of i))

abbrev pub path_or : Import → Option (List ℕ) → Outcome (List ℕ)
path_or i None = bad 201 i
path_or i (Some p) = Ok p

-- the path that an import names in the document at `base`; 201 where its uri has a scheme
abbrev pub path_of : List ℕ → Import → Outcome (List ℕ)
path_of base i = path_or i (resolve base (uri_of i))

-- the namespace of an import; 207 where it is no name
abbrev pub name_of : Import → Outcome (List ℕ)
name_of i = if is_name (namespace_of i) then Ok (namespace_of i) else bad 207 i

-- the namespaces with one more; 203 where it is taken
abbrev pub taken_with : List (List ℕ) → List ℕ → Import → Outcome (List (List ℕ))
taken_with taken name i = if has_name name taken then bad 203 i else Ok (taken ++ name ∷ [])

abbrev pub want_from : List (List ℕ) → Import → List ℕ → List ℕ → Outcome Want
want_from taken i path name =
    and_then (taken_with taken name i) (λ more. Ok (record { path = path; namespace = name; span = span_of i }))

abbrev pub want_of : List ℕ → List (List ℕ) → Import → Outcome Want
want_of base taken i = and_then (path_of base i) (λ path. and_then (name_of i) (want_from taken i path))

-- the imports in their order, where these namespaces are taken
abbrev pub wants_of : List ℕ → List (List ℕ) → List Import → Outcome (List Want)
wants_of base taken [] = Ok []
wants_of base taken (i ∷ is) =
    and_then (want_of base taken i) (λ w. and_then (wants_of base (taken ++ w.namespace ∷ []) is) (λ ws. Ok (w ∷ ws)))

-- what an answer says, and which namespaces are taken then
abbrev pub Takes : Outcome (List (List ℕ)) → List (List ℕ) → Result (Unit {0}) LinkFault → Type 0
Takes outcome new (Ok u) = outcome ≡ Ok new
Takes outcome new (Err e) = e ≢ fault.NoMemory → outcome ≡ Err e

abbrev pub Wanted : Outcome Want → List (List ℕ) → List (List ℕ) → Outcome Want → Type 0
Wanted outcome old new (Ok w) = (outcome ≡ Ok w) × (new ≡ old ++ w.namespace ∷ [])
Wanted outcome old new (Err e) = e ≢ fault.NoMemory → outcome ≡ Err e
