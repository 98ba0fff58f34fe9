-- What is seen of a watched device.
-- Source: this project's profile: a device notes its first failure.
use Rattle.std.specs.Prelude.{◌≡◌, ◌++◌, Bool, List, Option, ℕ}
use Rattle.std.specs.Io.KnownBytes.{Appends}
use Rattle.irig_device.specs.declared.watched.Watched.{Watched}

-- the device itself
abbrev pub device_of : {T : Type 0} → Watched T → T
device_of w = w.inner

-- whether the note says that one of its calls failed
abbrev pub has_failed : {T : Type 0} → Watched T → Bool
has_failed w = w.is_noted

-- known bytes grow by a prefix of these
pub record AppendsPart (old new : Option (List ℕ)) (bytes : List ℕ) : Type 0 where
  pub front : List ℕ
  pub rest : List ℕ
  pub whole : bytes ≡ front ++ rest
  pub wrote : Appends old new front
