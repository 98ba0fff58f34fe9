-- What lines mean, with another value in place of each scene.
-- Source: this project's profile.
use Rattle.std.specs.Prelude.{Result, Ok, Err}
use Rattle.std.specs.Option.{option_map}
use Rattle.report_run.specs.Meanings.{Next, Meaning, meaning}

-- what is given, as another value; an error stays
abbrev pub given_as : {A B E : Type 0} → (A → B) → Result A E → Result B E
given_as f (Ok x) = Ok (f x)
given_as f (Err e) = Err e

-- what a line leaves
abbrev pub next_as : {S T : Type 0} → (S → T) → Next S → Next T
next_as f next = record { scene = f next.scene; refusal = next.refusal }

-- what lines mean: the refusal stays
abbrev pub meaning_as : {S T : Type 0} → (S → T) → Meaning S → Meaning T
meaning_as f m = meaning (option_map f m.scene) m.refused
