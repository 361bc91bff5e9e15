-- The checked form of a library that stands for a document.
use Rattle.std.proofs.Common.{◌≡◌, inl, inr, ℕ, List, Some, Result, Ok, Err}
use Rattle.report_text.specs.declared.status.Status.{Status}
use Rattle.report_text.specs.declared.status.Status.TheVariants as status
use Rattle.wdl_library.specs.declared.library.Library.{Library}
use Rattle.wdl_typed.specs.declared.checked.Checked.{Checked}
use Rattle.wdl_imports.specs.Libraries.{HasLibrary}
use Rattle.workflow_stages.specs.declared.checking.Located.{Located}
use Rattle.workflow_stages.specs.declared.ended.CommandStop.{CommandStop}
use Rattle.workflow_stages.specs.Documents.{Checks, CheckStops, HasLocated, HasMain, HasMainIn, LocatesMain, LocatesMainIn, MainInStops, MainStops, Tells, Types, TypeStops}
use Rattle.workflow_stages.proofs.Started.{has_number}

module _ (tells : Tells) (root : List ℕ) (refused : List ℕ → Type 0) (rose : Type 0) (lib : Library) (h : HasLibrary tells root lib) where
  stops : (s : Status) (paths : List (List ℕ)) → TypeStops lib s paths → CheckStops tells root refused rose s paths
  stops (status.Document code span) paths t = inr (record { lib = lib; has = h; none = t.0; named = t.1 })
  stops status.NoMemory paths t = tt
  stops status.Ok paths t = absurd t
  stops (status.Failed fault) paths t = absurd t
  stops status.Usage paths t = absurd t
  stops (status.Inputs code name) paths t = absurd t
  stops (status.Read path) paths t = absurd t
  stops status.Write paths t = absurd t
  stops (status.NotInSubset rule span) paths t = absurd t
  stops (status.Launch place) paths t = absurd t
  stops status.Keep paths t = absurd t
  stops status.TooMany paths t = absurd t

  pub checks : (r : Result Checked CommandStop) → Types lib r → Checks tells root refused rose r
  checks (Ok c) t = record { lib = lib; has = h; is_typed = t }
  checks (Err stop) t = stops stop.status stop.paths t

  pub main_stops : (s : Status) (paths : List (List ℕ)) → MainInStops lib root s paths → MainStops tells root refused rose s paths
  main_stops (status.Document code span) paths (inl t) = inl (inr (record { lib = lib; has = h; none = t.0; named = t.1 }))
  main_stops (status.Document code span) paths (inr t) = inr (record {
    checked = t.checked;
    has = record { lib = lib; has = h; is_typed = t.is_typed };
    none = t.none;
    is_code = t.is_code;
    is_span = t.is_span;
    named = t.named;
  })
  main_stops status.NoMemory paths t = tt
  main_stops status.Ok paths t = absurd t
  main_stops (status.Failed fault) paths t = absurd t
  main_stops status.Usage paths t = absurd t
  main_stops (status.Inputs code name) paths t = absurd t
  main_stops (status.Read path) paths t = absurd t
  main_stops status.Write paths t = absurd t
  main_stops (status.NotInSubset rule span) paths t = absurd t
  main_stops (status.Launch place) paths t = absurd t
  main_stops status.Keep paths t = absurd t
  main_stops status.TooMany paths t = absurd t

  -- a main workflow that the rules give, by its number
  module _ (c : Checked) (paths : List (List ℕ)) (t : HasMainIn lib c paths) where
    pub number_of : (k : ℕ) × (c.main ≡ Some k)
    number_of = has_number c.flows c.main t.flow t.main

    abbrev located : HasLocated tells root c paths
    located = record { lib = lib; has = h; is_typed = t.is_typed; named = t.named }

    abbrev pub has_main : HasMain tells root c number_of.0 t.flow paths
    has_main = record { located = located; numbered = number_of.1; main = t.main }

  pub mains : (r : Result Located CommandStop) → LocatesMainIn lib root r → LocatesMain tells root refused rose r
  mains (Ok l) t = ((number_of l.checked l.paths t).0, t.flow, has_main l.checked l.paths t)
  mains (Err stop) t = main_stops stop.status stop.paths t
