-- Jobs that differ: no two have one place and attempt.
use Rattle.std.specs.Prelude.{ℕ, Bool, true, false, not, ◌&&◌, ◌||◌, ◌==◌, List, [], ◌∷◌}
use Rattle.wdl_base.specs.declared.place.Segment.{Segment}
use Rattle.wdl_base.specs.declared.request.Request.{Request}
use Rattle.wdl_base.specs.Same.{same_place}

abbrev pub is_job_at : List Segment → ℕ → Request → Bool
is_job_at place attempt r = same_place r.place place && r.attempt == attempt

abbrev pub has_job : List Request → List Segment → ℕ → Bool
has_job [] place attempt = false
has_job (r ∷ rs) place attempt = is_job_at place attempt r || has_job rs place attempt

abbrev pub jobs_differ : List Request → Bool
jobs_differ [] = true
jobs_differ (r ∷ rs) = not (has_job rs r.place r.attempt) && jobs_differ rs
