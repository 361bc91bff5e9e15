-- What an answer keeps.
use Rattle.std.specs.Prelude.{ℕ, ◌+◌, Bool, true, false, ◌==◌, ◌&&◌, not, nat_le, List, [], ◌∷◌, length, codes}
use Rattle.std.specs.Cmp.Lexicographic.{slice_cmp}
use Rattle.std.specs.List.{list_any}
use Rattle.std.specs.Ordering.{is_lt, nat_cmp}
use Rattle.std.specs.Str.{bytes_eq}
use Rattle.wdl_base.specs.declared.body.Body.{Body}
use Rattle.wdl_base.specs.declared.body.Body.TheVariants.{Bytes, Long}
use Rattle.wdl_base.specs.declared.body.Seen.{Seen}
use Rattle.wdl_base.specs.Bodies.{is_short}

-- relative, of 1 to 1,024 bytes, and not the name of a kept stream
abbrev pub is_relative : List ℕ → Bool
is_relative [] = false
is_relative (b ∷ bs) = not (b == 47)

abbrev pub is_file_name : List ℕ → Bool
is_file_name name =
    is_relative name
    && nat_le (length name) 1024
    && not (bytes_eq name (codes "_stdout"))
    && not (bytes_eq name (codes "_stderr"))

abbrev pub is_file : Seen → Bool
is_file file = is_file_name file.name && is_short 1048576 file.body

abbrev pub are_files : List Seen → Bool
are_files [] = true
are_files (file ∷ files) = is_file file && are_files files

-- each name is before the next by its bytes, so that no name stands twice
abbrev pub is_below : List ℕ → List Seen → Bool
is_below name [] = true
is_below name (file ∷ files) = is_lt (slice_cmp nat_cmp name file.name) && is_below file.name files

abbrev pub ascend : List Seen → Bool
ascend [] = true
ascend (file ∷ files) = is_below file.name files

abbrev pub body_size : Body → ℕ
body_size (Bytes bytes) = length bytes
body_size Long = 0

abbrev pub names_size : List Seen → ℕ
names_size [] = 0
names_size (file ∷ files) = length file.name + names_size files

-- the bytes of the names and bodies
abbrev pub files_size : List Seen → ℕ
files_size [] = 0
files_size (file ∷ files) = length file.name + body_size file.body + files_size files

-- Not all names were kept. A file named by a point, which no file can be, says so.
abbrev pub is_cut : List Seen → Bool
is_cut files = list_any (λ (f : Seen). bytes_eq f.name (codes ".")) files

abbrev pub is_answer : Body → Body → List Seen → Bool
is_answer out err files =
    is_short 65536 out
    && is_short 4096 err
    && nat_le (length files) 65536
    && are_files files
    && ascend files
    && nat_le (names_size files) 1048576
    && nat_le (files_size files) 2097152
