-- Where a row belongs.
use Rattle.std.specs.Prelude.{◌≡◌, ◌<◌, ◌≤◌, List, length, slice_set}
use Rattle.std.specs.List.{insert}
use Rattle.wdl_base.specs.declared.entry.Entry.{Entry}
use Rattle.wdl_port.specs.Rows.{put_row}
use Rattle.wdl_port.specs.declared.row.Spot.{Spot}
use Rattle.wdl_port.specs.declared.row.Spot.TheVariants.{At, Before}

abbrev pub IsSpot : Entry → List Entry → Spot → Type 0
IsSpot row rows (At i) = (i < length rows) × (put_row row rows ≡ slice_set rows i row)
IsSpot row rows (Before i) = (i ≤ length rows) × (put_row row rows ≡ insert rows i row)
