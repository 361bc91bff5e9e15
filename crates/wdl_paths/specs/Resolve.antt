-- The path that a uri stands for in a document of another path. (OpenWDL 1.1, "Import statements"; RFC 3986, "Relative resolution".)
use Rattle.std.specs.Prelude.{◌≡◌, ℕ, Bool, false, ◌==◌, ◌&&◌, ◌||◌, not, List, [], ◌∷◌, ◌++◌, take, drop, Option, Some, None, Result, Ok, Err, if◌then◌else◌, codes}
use Rattle.std.specs.List.{slice_split}
use Rattle.std.specs.Str.{bytes_eq}
use Rattle.wdl_paths.specs.declared.fault.ResolveFault.{ResolveFault}
use Rattle.wdl_paths.specs.declared.fault.ResolveFault.TheVariants.{Scheme, NoMemory as OutOfMemory}

abbrev pub is_slash : ℕ → Bool
is_slash b = b == 47

abbrev pub has_slash : List ℕ → Bool
has_slash [] = false
has_slash (b ∷ bs) = is_slash b || has_slash bs

-- ---- schemes

-- `://` stands here
abbrev pub is_scheme_mark : List ℕ → Bool
is_scheme_mark s = bytes_eq (take 3 s) (codes "://")

-- `://` stands somewhere
abbrev pub has_scheme : List ℕ → Bool
has_scheme [] = false
has_scheme (b ∷ bs) = is_scheme_mark (b ∷ bs) || has_scheme bs

-- ---- segments

-- what stands between the slashes
abbrev pub segments : List ℕ → List (List ℕ)
segments = slice_split is_slash

abbrev pub is_here : List ℕ → Bool
is_here s = bytes_eq s (codes ".")

abbrev pub is_up : List ℕ → Bool
is_up s = bytes_eq s (codes "..")

-- a segment that goes with a `..` behind it
abbrev pub is_folder : List ℕ → Bool
is_folder [] = false
is_folder (b ∷ bs) = not (is_up (b ∷ bs))

abbrev pub begins_up : List (List ℕ) → Bool
begins_up [] = false
begins_up (s ∷ ss) = is_up s

-- a segment before others of which no more go
abbrev pub settle : List ℕ → List (List ℕ) → List (List ℕ)
settle s ss =
    if is_here s then ss
    else (if is_folder s && begins_up ss then drop 1 ss else s ∷ ss)

-- The segments `.` go; and as long as there is one, a segment that is neither empty nor `..` and that `..` follows goes with it.
abbrev pub settled : List (List ℕ) → List (List ℕ)
settled [] = []
settled (s ∷ ss) = settle s (settled ss)

-- the segments with a slash before each
abbrev pub behind : List (List ℕ) → List ℕ
behind [] = []
behind (s ∷ ss) = 47 ∷ (s ++ behind ss)

-- the segments with slashes between them
abbrev pub joined : List (List ℕ) → List ℕ
joined [] = []
joined (s ∷ ss) = s ++ behind ss

-- ---- paths

-- a path up to its last slash
abbrev pub folder : List ℕ → List ℕ
folder [] = []
folder (b ∷ bs) = if has_slash (b ∷ bs) then b ∷ folder bs else []

-- what stands behind the last slash, or all where there is none
abbrev pub file_name : List ℕ → List ℕ
file_name [] = []
file_name (b ∷ bs) = if has_slash (b ∷ bs) then file_name bs else b ∷ bs

abbrev pub is_absolute : List ℕ → Bool
is_absolute [] = false
is_absolute (b ∷ bs) = is_slash b

abbrev pub path_from : List ℕ → List ℕ → List ℕ
path_from base uri = joined (settled (segments (folder base ++ uri)))

abbrev pub path_of : List ℕ → List ℕ → List ℕ
path_of base uri = if is_absolute uri then uri else path_from base uri

-- the path of a uri in the document at `base`; a uri with a scheme has none
abbrev pub resolve : List ℕ → List ℕ → Option (List ℕ)
resolve base uri = if has_scheme uri then None else Some (path_of base uri)

-- the path, or that there is none
abbrev pub Gives : Option (List ℕ) → Result (List ℕ) ResolveFault → Type 0
Gives found (Ok path) = found ≡ Some path
Gives found (Err Scheme) = found ≡ None
Gives found (Err OutOfMemory) = Unit {0}
