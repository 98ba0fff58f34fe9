-- How many names the readers have.
use Rattle.std.proofs.Common.{◌≡◌, ℕ, ◌≤◌, Bool, true, false, ◌&&◌, cond, List, length, map, Result, Ok, Err, IfOk, refl, sym, rules}
use Rattle.std.proofs.lemmas.List.{length-map}
use Rattle.serde_json.specs.Data.{Data}
use Rattle.text_faults.specs.declared.refusal.Refusal.TheVariants.{Names}
use Rattle.text_faults.specs.declared.refusal.LineFault.{LineFault}
use Rattle.text_faults.specs.Refusals.{IsUnlessMemory}
use Rattle.scenario_values.specs.Names.{one_to_sixteen, are_names, name_in, names_in}

pub record AreCounted (ds : List Data) (names : List (List ℕ)) : Type 0 where
  pub least : 1 ≤ length names
  pub most : length names ≤ 16
  pub same : length names ≡ length ds

first : (a b : Bool) → (a && b) ≡ true → a ≡ true
first true b e = refl
first false b e = e

within : (n : ℕ) → one_to_sixteen n ≡ true → (1 ≤ n) × (n ≤ 16)
within n e = search rules

-- 1 to 16 names
pub counted : (names : List (List ℕ)) → are_names names ≡ true → (1 ≤ length names) × (length names ≤ 16)
unfolding are_names
counted names e = within (length names) (first (one_to_sixteen (length names)) _ e)

chosen : (names said : List (List ℕ)) (b : Bool) → cond b (Ok names) (Err Names) ≡ Ok said → (b ≡ true) × (names ≡ said)
chosen names said true e = (refl, cc)
chosen names said false e = absurd cc

pub named_count : (ds : List Data) (names : List (List ℕ)) → names_in ds ≡ Ok names → AreCounted ds names
unfolding names_in
named_count ds names e =
    let found = chosen (map name_in ds) names (are_names (map name_in ds)) e in
    let count = counted (map name_in ds) found.0 in
    rw (sym found.1) (record { least = count.0; most = count.1; same = length-map ds name_in })

-- what follows of their number, if they are kept in a set
pub if_counted : {S : Type 0} → (r : Result S LineFault) (names_of : S → List (List ℕ)) (ds : List Data) (Q : S → Type 0)
    → ((s : S) → AreCounted ds (names_of s) → Q s) → IsUnlessMemory names_of (names_in ds) r → IfOk r Q
if_counted (Ok s) names_of ds Q f e = f s (named_count ds (names_of s) e)
if_counted (Err fault) names_of ds Q f e = tt
