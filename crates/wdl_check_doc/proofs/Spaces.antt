-- What an import gives to its document.
use Rattle.std.proofs.Common.{◌≡◌, ℕ, List, [], ◌∷◌, ◌++◌, Option, Some, None, append-nil, map, option_map, slice_get, sym, ap, ◌∙◌}
use Rattle.std.proofs.lemmas.Option.{slice_get-map}
use Rattle.wdl_check_flow.specs.Targets.{Space}
use Rattle.wdl_check_doc.specs.declared.table.Reaching.{Reaching}
use Rattle.wdl_check_doc.specs.Offers.{Table, space_at}
use Rattle.wdl_check_doc.specs.Tables.{reaching_of}

table_is : (ts : List Reaching) (k : ℕ) (o : Option Reaching) → slice_get ts k ≡ o → slice_get (map reaching_of ts) k ≡ option_map reaching_of o
table_is ts k o e = slice_get-map reaching_of ts k ∙ ap (option_map reaching_of) e

pub space_left : (done : List Space) (name : List ℕ) (ts : List Reaching) (k : ℕ) → slice_get ts k ≡ None → done ≡ done ++ space_at name (slice_get (map reaching_of ts) k)
space_left done name ts k e = sym (ap (λ (o : Option Table). done ++ space_at name o) (table_is ts k None e) ∙ append-nil done)

pub space_put : (done : List Space) (name : List ℕ) (ts : List Reaching) (k : ℕ) (t : Reaching) → slice_get ts k ≡ Some t
    → done ++ record { name = name; offers = (reaching_of t).all } ∷ [] ≡ done ++ space_at name (slice_get (map reaching_of ts) k)
space_put done name ts k t e = sym (ap (λ (o : Option Table). done ++ space_at name o) (table_is ts k (Some t) e))
