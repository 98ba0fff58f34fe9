-- What is written of lines, in a language that has another within it.
use Rattle.std.proofs.Common.{◌≡◌, ℕ, List, [], ◌++◌, All, Option, Some, None, refl, ap, sym, ◌∙◌, append-nil}
use Rattle.std.specs.Prelude.{unwrap_or}
use Rattle.std.specs.Option.{option_map}
use Rattle.irig_device.specs.Lines.{HasNoNewline}
use Rattle.report_log.specs.Text.{refusal_text}
use Rattle.report_run.specs.Lines.{lines, unlines}
use Rattle.report_run.specs.Meanings.{Language, Refused, Meaning, meaning_from}
use Rattle.report_run.specs.Texts.{Texts, first_of, text_of, ending_of, meaning_text, whole_text}
use Rattle.report_run.specs.Runs.{text_so_far}
use Rattle.report_run.proofs.LineLaws.{no_line, lines_after}
use Rattle.report_run.specs.Sides.{meaning_as}
use Rattle.report_run.proofs.FirstLaws.{first_full, BeginBy, none_begun}
use Rattle.report_run.proofs.WithinLaws.{IsWithin, means_within, meaning_within}

-- u says of the scenes f x what t says of x, after first lines of which P holds
pub record AreWithin {S T : Type 0} (f : S → T) (P : List ℕ → Type 0) (t : Texts S) (u : Texts T) : Type 0 where
  pub first : (line : List ℕ) → P line → u.first line ≡ t.first line
  pub said : (x : S) → u.said (f x) ≡ t.said x
  pub closing : (x : S) → u.closing (f x) ≡ t.closing x
  pub end : (x : S) → u.end (f x) ≡ t.end x

-- whole lines are those of their bytes
pub lines_of_unlines : (ls : List (List ℕ)) → All HasNoNewline ls → lines (unlines ls) ≡ ls
lines_of_unlines ls h =
    ap lines (sym (append-nil (unlines ls))) ∙ lines_after ls [] h ∙ ap (λ more. ls ++ more) no_line ∙ append-nil ls

module _ {S T : Type 0} (f : S → T) (P : List ℕ → Type 0) (t : Texts S) (u : Texts T) (texts : AreWithin f P t u) where
  same_said : (line : List ℕ) (at : Option S) → P line → text_of u line (option_map f at) ≡ text_of t line at
  same_said line None h = refl
  same_said line (Some x) h = ap (λ s. u.first line ++ s) (texts.said x) ∙ ap (λ s. s ++ t.said x) (texts.first line h)

  same_ending : (k : Option Refused) (at : Option S) → ending_of u k (option_map f at) ≡ ending_of t k at
  same_ending None None = refl
  same_ending None (Some x) = texts.end x
  same_ending (Some k) None = refl
  same_ending (Some k) (Some x) = ap (λ s. s ++ refusal_text k.line k.refusal) (texts.closing x)

module _ {S T : Type 0} (f : S → T) (P : List ℕ → Type 0) (a : Language S) (b : Language T) (within : IsWithin f P a b) (t : Texts S) (u : Texts T) (texts : AreWithin f P t u) where
  -- by the first line, if there is one, and else nothing is begun
  said_by : (ls : List (List ℕ)) (n : ℕ) → BeginBy P ls → (found : Option (List ℕ)) → first_full ls ≡ found
      → text_of u (unwrap_or found []) (option_map f (meaning_from a ls n None).scene) ≡ text_of t (unwrap_or found []) (meaning_from a ls n None).scene
  said_by ls n h (Some line) is = same_said f P t u texts line (meaning_from a ls n None).scene (h line is)
  said_by ls n h None is =
      let none = none_begun a ls n is in
      ap (λ (at : Option S). text_of u [] (option_map f at)) none ∙ ap (text_of t []) (sym none)

  pub said_within : (ls : List (List ℕ)) (n : ℕ) → BeginBy P ls → text_of u (first_of ls) (option_map f (meaning_from a ls n None).scene) ≡ text_of t (first_of ls) (meaning_from a ls n None).scene
  said_within ls n h = said_by ls n h (first_full ls) refl

  text_within : (ls : List (List ℕ)) (n : ℕ) → BeginBy P ls → meaning_text u (first_of ls) (meaning_as f (meaning_from a ls n None)) ≡ meaning_text t (first_of ls) (meaning_from a ls n None)
  text_within ls n h =
      let m = meaning_from a ls n None in
      ap (λ s. s ++ ending_of u m.refused (option_map f m.scene)) (said_within ls n h)
      ∙ ap (λ s. text_of t (first_of ls) m.scene ++ s) (same_ending f P t u texts m.refused m.scene)

  -- all that is written of bytes is the same
  pub whole_within : (x : List ℕ) → BeginBy P (lines x) → whole_text b u x ≡ whole_text a t x
  whole_within x h = ap (meaning_text u (first_of (lines x))) (meaning_within f P a b within x h) ∙ text_within (lines x) 1 h

  so_far_of : (ls : List (List ℕ)) → BeginBy P ls → text_of u (first_of ls) (meaning_from b ls 1 None).scene ≡ text_of t (first_of ls) (meaning_from a ls 1 None).scene
  so_far_of ls h = ap (λ (m : Meaning T). text_of u (first_of ls) m.scene) (means_within f P a b within ls 1 None (λ none. h)) ∙ said_within ls 1 h

  -- and so is what is written of whole lines so far
  pub so_far_within : (ls : List (List ℕ)) → All HasNoNewline ls → BeginBy P ls → text_so_far b u ls ≡ text_so_far a t ls
  so_far_within ls whole h =
      let same = lines_of_unlines ls whole in
      ap (λ ks. text_of u (first_of ls) (meaning_from b ks 1 None).scene) same ∙ so_far_of ls h
      ∙ ap (λ ks. text_of t (first_of ls) (meaning_from a ks 1 None).scene) (sym same)
