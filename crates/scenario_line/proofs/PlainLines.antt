-- Known lines by their bytes, and what they say: a plant of one reader, and two whole seconds.
use Rattle.std.proofs.Common.{◌≡◌, ℕ, ℤ, ◌*◌, ◌+◌, true, false, List, [], ◌∷◌, Option, Some, None, Ok, inl, pos, refl, sym, ap, subst, ◌∙◌, arith, codes}
use Rattle.std.specs.Str.{is_utf8, chars}
use Rattle.std.specs.Float.Numeral.{scan_numeral}
use Rattle.json.specs.Lex.{lex, punctuate}
use Rattle.json.specs.Text.{content, short_escape}
use Rattle.json.specs.Word.{word, after_number}
use Rattle.json.specs.Json as json
use Rattle.serde_json.specs.Data.{Data}
use Rattle.serde_json.specs.Data as value
use Rattle.serde_json.specs.Read.{number_of}
use Rattle.irig_control.specs.declared.parity.Parity.TheVariants.{Even}
use Rattle.irig_time.specs.declared.second.UtcSecond.{UtcSecond}
use Rattle.irig_time.specs.declared.rules.Rules.{Rules}
use Rattle.irig_time.specs.declared.rules.Sense.TheVariants.{Add}
use Rattle.irig_time.specs.declared.rules.SbsUse.TheVariants.{Check}
use Rattle.irig_time.specs.Days.{IsDateOf}
use Rattle.irig_time.specs.Seconds.{IsValid}
use Rattle.irig_time.specs.Texts.{IsText}
use Rattle.irig_time.specs.TextValues.{second_read}
use Rattle.irig_time.specs.Timelines.{times}
use Rattle.irig_time.specs.Tables.{table}
use Rattle.irig_time.proofs.StandardFacts.{known_dates}
use Rattle.irig_time.proofs.TextLaws.{day_first, date_read, time_read}
use Rattle.irig_time.proofs.TextValueLaws.{second_read_is}
use Rattle.irig_gen.specs.Frames.{gen}
use Rattle.irig_plant.specs.Schedule.{setup}
use Rattle.text_faults.specs.declared.refusal.Refusal.TheVariants as refusal
use Rattle.scenario_json.specs.Json.{json_of, text_at, whole_at, items_at, all_of, has_only}
use Rattle.text_faults.specs.Refusals.{◌>>=◌, or_else}
use Rattle.scenario_json.specs.Fields.{has_form, each_item}
use Rattle.scenario_json.specs.Keywords.{parity_of, sense_of, sbs_use_of}
use Rattle.scenario_line.specs.declared.event_line.Command.TheVariants as command
use Rattle.scenario_values.specs.declared.plant_shape.Version.TheVariants.{One}
use Rattle.scenario_line.specs.EventLine.{command_in_object, command_in_line}
use Rattle.scenario_values.specs.Forms.{action_of}
use Rattle.scenario_values.specs.Names.{is_name, name_in, are_names, names_in}
use Rattle.scenario_values.specs.PlantShape.{is_generator, is_reader, is_plant}
use Rattle.scenario_values.specs.PlantValues.{GeneratorValues, ReaderValues, PlantValues, start_of, rules_of, zone_of, changes_of, generator_of, generators_of, reader_rules_of, reader_of, readers_in, leaps_of, plant_values}
use Rattle.scenario_line.specs.PlantLine.{Plan, plan_in_object, plan_in_line}

-- ---- two seconds

abbrev pub seconds_line : List ℕ
seconds_line = codes "{\"do\":\"seconds\",\"n\":2}"

abbrev seconds_data : Data
seconds_data = value.object (value.member (codes "do") (value.string (codes "seconds")) (value.member (codes "n") (value.number (value.unsigned 2)) value.no_members))

pub seconds_json : json_of seconds_line ≡ Some seconds_data
unfolding json_of is_utf8 chars lex punctuate content short_escape word after_number json.value json.items json.members number_of scan_numeral lib.Utf8.encode
seconds_json = refl

pub asks_two : command_in_line (codes "r1" ∷ []) seconds_line ≡ Ok (command.Seconds 2)
unfolding command_in_line command_in_object action_of text_at whole_at has_form has_only
asks_two = ap (λ o. or_else refusal.Json o >>= command_in_object (codes "r1" ∷ [])) seconds_json

-- ---- the plant

abbrev pub start : UtcSecond
start = record { day = 6209; sod = 43200 }

abbrev pub start_text : List ℕ
start_text = codes "2016-12-31T12:00:00Z"

start_valid : IsValid start
start_valid = record { day = (omega arith, omega arith); sod = inl (omega arith) }

start_spelled : IsText start start_text
start_spelled = record { year = 2016; month = 12; day_of_month = 31; date = (((omega arith, omega arith), (omega arith, omega arith), (omega arith, omega arith)), known_dates.1); text = refl }

same_number : (a b : ℕ) → ◌≡◌ {A = ℤ} (pos a) (pos b) → a ≡ b
same_number a b e = cc

same_start : (u : UtcSecond) → u.day ≡ 6209 → u.sod ≡ 43200 → ◌≡◌ {A = Option UtcSecond} (Some start) (Some u)
same_start u day sod = rw (day, sod) refl

one_start : (u : UtcSecond) → IsValid u → IsText u start_text → ◌≡◌ {A = Option UtcSecond} (Some start) (Some u)
one_start u valid h =
    let date : IsDateOf u.day (pos 2016) 12 31 =
    date_read u.day (codes "2016-12-31") 20 16 12 31 (day_first u start_text h) (λ n few tens units. omega (arith, few, tens, units)) (λ n few tens units. omega (arith, few, tens, units))
    (λ n few tens units. omega (arith, few, tens, units)) (λ n few tens units. omega (arith, few, tens, units)) in
    let time : 12 * 3600 + 0 * 60 + 0 ≡ u.sod =
    time_read u start_text 12 0 0 valid h (λ n few tens units. omega (arith, few, tens, units)) (λ n few tens units. omega (arith, few, tens, units)) (λ n few tens units. omega (arith, few, tens, units)) in
    same_start u (omega (arith, same_number (u.day + 10957) (6209 + 10957) (sym date.1 ∙ known_dates.1))) (omega (arith, time))

pub start_read : second_read start_text ≡ Some start
start_read = sym (second_read_is start_text (Some start) (λ u. (
  λ e. let same : start ≡ u = cc in (subst IsValid same start_valid, subst (λ u. IsText u start_text) same start_spelled),
  λ h. one_start u h.0 h.1,
)))

abbrev pub plant_line : List ℕ
plant_line = codes "{\"version\":1,\"start\":\"2016-12-31T12:00:00Z\",\"leaps\":[],\"parity\":\"even\",\"sense\":\"add\",\"sbs\":\"check\",\"generators\":[{\"local\":0},{\"local\":0},{\"local\":0}],\"readers\":[{\"name\":\"r1\",\"lock_after\":2,\"holdover\":60}]}"

abbrev pub number : ℕ → Data
number n = value.number (value.unsigned n)

abbrev pub generator_data : Data
generator_data = value.object (value.member (codes "local") (number 0) value.no_members)

abbrev reader_data : Data
reader_data = value.object (value.member (codes "holdover") (number 60) (value.member (codes "lock_after") (number 2) (value.member (codes "name") (value.string (codes "r1")) value.no_members)))

abbrev plant_data : Data
plant_data =
    value.object (value.member (codes "generators") (value.array (value.item generator_data (value.item generator_data (value.item generator_data value.no_items))))
    (value.member (codes "leaps") (value.array value.no_items)
    (value.member (codes "parity") (value.string (codes "even"))
    (value.member (codes "readers") (value.array (value.item reader_data value.no_items))
    (value.member (codes "sbs") (value.string (codes "check"))
    (value.member (codes "sense") (value.string (codes "add"))
    (value.member (codes "start") (value.string start_text)
    (value.member (codes "version") (number 1) value.no_members))))))))

plant_json : json_of plant_line ≡ Some plant_data
unfolding json_of is_utf8 chars lex punctuate content short_escape word after_number json.value json.items json.members number_of scan_numeral lib.Utf8.encode
plant_json = refl

abbrev pub rules : Rules
rules = record { parity = Even; sense = Add; sbs = Check }

abbrev pub generator : GeneratorValues
generator = record { zone = record { half_hours = pos 0; dst = false }; changes = [] }

abbrev reader : ReaderValues
reader = record { rules = record { lock_after = 2; holdover = 60 }; until = 0; leaps = [] }

abbrev values : PlantValues
values = record { start = start; leaps = []; rules = rules; generators = generator ∷ generator ∷ generator ∷ []; readers = reader ∷ [] }

has_start : start_of plant_data ≡ Some start
unfolding start_of text_at
has_start = start_read

has_leaps : leaps_of plant_data ≡ Some []
unfolding leaps_of items_at
has_leaps = refl

has_rules : rules_of plant_data ≡ Some rules
unfolding rules_of text_at parity_of sense_of sbs_use_of
has_rules = refl

has_generators : generators_of One plant_data ≡ Some values.generators
unfolding generators_of items_at generator_of zone_of changes_of whole_at
has_generators = refl

has_readers : all_of reader_of (readers_in plant_data) ≡ Some values.readers
unfolding readers_in items_at reader_of reader_rules_of whole_at
has_readers = refl

has_values : plant_values One plant_data ≡ Some values
unfolding plant_values
has_values = rw (has_start, has_leaps, has_rules, has_generators, has_readers) refl

has_version : whole_at (codes "version") plant_data ≡ Some (pos 1)
unfolding whole_at
has_version = refl

has_shape : is_plant One plant_data ≡ true
unfolding is_plant is_generator is_reader has_form has_only each_item items_at
has_shape = refl

has_names : names_in (readers_in plant_data) ≡ Ok (codes "r1" ∷ [])
unfolding names_in readers_in items_at name_in text_at are_names is_name
has_names = refl

-- its generators by the same rules, without fault, and its reader with an empty table
abbrev pub plan : Plan
plan = record {
  setup = setup (times start []) (gen generator.zone [] rules 0 None 0 ∷ gen generator.zone [] rules 0 None 0 ∷ gen generator.zone [] rules 0 None 0 ∷ []) rules
      (record { rules = reader.rules; table = table 0 [] } ∷ []);
  names = codes "r1" ∷ [];
}

has_plan : plan_in_object plant_data ≡ Ok plan
unfolding plan_in_object
has_plan = rw (has_version, has_shape, has_values, has_names) refl

pub makes_plan : plan_in_line plant_line ≡ Ok plan
unfolding plan_in_line
makes_plan = ap (λ o. or_else refusal.Json o >>= plan_in_object) plant_json ∙ has_plan
