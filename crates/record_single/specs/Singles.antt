-- The parts of a single file.
-- Source: IEEE C37.111-2013, 8: a configuration, and samples as the last section. Lines end with LF, and maybe a CR
-- before it; what stands in other sections is passed over.
use Rattle.std.specs.Prelude.{ℕ, Bool, true, false, if◌then◌else◌, List, [], ◌∷◌, ◌++◌, take, Option, Some, None, nat_eq}
use Rattle.record_single.specs.declared.section.Section.{Section}
use Rattle.record_single.specs.declared.section.Section.TheVariants.{Config, Samples, Other}
use Rattle.record_single.specs.Sections.{section_of}

-- the parts: the bytes of the configuration, how many bytes of samples there are, if that is said, and all that stands
-- behind their first line; or there are no samples
pub data Parts : Type 0 where
  Whole : (config : List ℕ) → (count : Option ℕ) → (rest : List ℕ) → Parts
  NoSamples : Parts

-- the parts with more of the configuration before it
abbrev pub with_front : (front : List ℕ) → Parts → Parts
with_front front (Whole config count rest) = Whole (front ++ config) count rest
with_front front NoSamples = NoSamples

-- a line is of the configuration if that is the section
abbrev pub of_config : (is_config : Bool) → (line : List ℕ) → List ℕ
of_config is_config line = if is_config then line else []

-- what a whole line comes to, with the rest of the file; the others are the parts from there on, in a configuration or
-- not
abbrev pub cut_by : Option Section → (is_config : Bool) → (line rest : List ℕ) → (others : Bool → Parts) → Parts
cut_by None is_config line rest others = with_front (of_config is_config line) (others is_config)
cut_by (Some Config) is_config line rest others = others true
cut_by (Some (Samples count)) is_config line rest others = Whole [] count rest
cut_by (Some Other) is_config line rest others = others false

-- the parts of bytes that go on after the beginning of a line, in a configuration or not. A last line without an end
-- begins no samples
abbrev pub cut_from : (is_config : Bool) → (line : List ℕ) → (bytes : List ℕ) → Parts
cut_from is_config line [] = NoSamples
cut_from is_config line (b ∷ bs) =
    if nat_eq b 10 then cut_by (section_of (line ++ b ∷ [])) is_config (line ++ b ∷ []) bs (λ next. cut_from next [] bs)
    else cut_from is_config (line ++ b ∷ []) bs

-- the parts of a file
abbrev pub parts_of : (file : List ℕ) → Parts
parts_of file = cut_from false [] file

-- the samples, if that many bytes are said, up to there
abbrev pub limited : (count : Option ℕ) → (bytes : List ℕ) → List ℕ
limited None bytes = bytes
limited (Some n) bytes = take n bytes
