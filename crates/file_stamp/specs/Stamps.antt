-- The stamp of what was found, and the text of a stamp.
use Rattle.std.specs.Prelude.{◌≡◌, ℕ, List, ◌∷◌, ◌++◌, codes}
use Rattle.std.specs.Fmt.{decimal, signed_decimal}
use Rattle.std.specs.Fs.{IsFile}
use Rattle.std.specs.declared.fs.attrs.FileType.{FileType}
use Rattle.file_stamp.specs.declared.stamp.Stamp.{Stamp}
use Rattle.file_stamp.specs.declared.stamp.Stamp.TheVariants.{Missing, File, Other}

-- only a file has the stamp of a file, which tells its length
abbrev pub IsOf : FileType → ℕ → Stamp → Type 0
IsOf kind bytes Missing = ⊥
IsOf kind bytes (File size seconds nanoseconds) = IsFile kind × (size ≡ bytes)
IsOf kind bytes Other = IsFile kind → ⊥

-- the decimals of the three numbers, with a blank between two of them
abbrev pub stamp_text : Stamp → List ℕ
stamp_text Missing = codes "-"
stamp_text (File bytes seconds nanoseconds) = decimal bytes ++ 32 ∷ (signed_decimal seconds ++ 32 ∷ signed_decimal nanoseconds)
stamp_text Other = codes "*"
