-- What a path says of a recording.
-- Source: docs/irig.1, judge; IEEE C37.111-2013, 4.2: .cfg and .dat are the endings of a record's files, and
-- .cff that of a single one.
use Rattle.std.specs.Prelude.{ℕ, ◌-◌, Bool, ◌&&◌, ◌||◌, if◌then◌else◌, List, [], ◌∷◌, length, drop, codes, nat_eq}
use Rattle.std.specs.Str.{str_eq_ignore_ascii_case}
use Rattle.irig_main.specs.declared.path.Ending.{Ending}
use Rattle.irig_main.specs.declared.path.Ending.TheVariants.{Configuration, Samples, Single, Other}

-- a path ends so by its last four bytes, in letters of either case
abbrev pub ending_of : (path : List ℕ) → Ending
ending_of path =
    if str_eq_ignore_ascii_case (drop (length path - 4) path) (codes ".cfg") then Configuration
    else (if str_eq_ignore_ascii_case (drop (length path - 4) path) (codes ".dat") then Samples
    else (if str_eq_ignore_ascii_case (drop (length path - 4) path) (codes ".cff") then Single else Other))
