-- What is left to be said at the end.
use Rattle.std.proofs.Common.{◌≡◌, ℕ, List, [], ◌++◌, length, Some, None, ap, ◌∙◌}
use Rattle.std.specs.Prelude.{slice_index_or, vec_len}
use Rattle.irig_port.specs.declared.port.Port.{Ghosts}
use Rattle.report_log.specs.Text.{name_at, audit_text}
use Rattle.irig_plant.specs.declared.audit.Audit.{Audit}
use Rattle.irig_plant.specs.declared.plant.Plant.{Plant}
use Rattle.irig_plant.specs.Audits.{audit_of}
use Rattle.irig_plant.specs.History.{ForHistory}
use Rattle.irig_plant.specs.Schedule.{Setup}
use Rattle.irig_scene.specs.Listening.{Names}
use Rattle.irig_scene.specs.Scene.{Scene, audit_in, verdict_text}
use Rattle.report_found.specs.declared.book.Book.{Book}
use Rattle.report_found.specs.declared.finding.Finding.{Finding}
use Rattle.report_found.specs.Accounts.{account_of}
use Rattle.report_found.specs.Books.{account_at}
use Rattle.report_found.specs.Findings.{lists_below, open_found}
use Rattle.report_found.specs.Runs.{IsBookAt}
use Rattle.report_found.specs.Scenes.{all_open}
use Rattle.report_found.proofs.EventLaws.{lists_are, open_is}
use Rattle.report_found.proofs.GrowLaws.{list_then}
use Rattle.report_blame.specs.BlameText.{totals_in, closing_in}
use Rattle.report_blame.specs.Text.{findings_text, total_lines}

-- the totals
totals_are : (lines : List ℕ) (b : Book) (names : List (List ℕ)) (x : Scene) → IsBookAt b x → names ≡ x.plan.names
    → lists_below (λ r. total_lines lines (name_at names r) None b.ports (slice_index_or b.accounts.items r (account_of []))) (vec_len b.accounts) ≡ totals_in lines x
totals_are lines b names x at named =
    lists_are (λ r. total_lines lines (name_at names r) None) b x at
    ∙ ap (λ names. lists_below (λ r. total_lines lines (name_at names r) None (length x.plan.setup.generators) (account_at x.plan.setup x.events r)) (length x.plan.setup.readers)) named

pub closing_is : (lines : List ℕ) (b : Book) (names : List (List ℕ)) (x : Scene) (left : List Finding) (b0 b1 b2 : List ℕ) → IsBookAt b x → names ≡ x.plan.names
    → left ≡ lists_below (λ r. open_found r b.ports (slice_index_or b.accounts.items r (account_of []))) (vec_len b.accounts)
    → b1 ≡ b0 ++ findings_text lines names left
    → b2 ≡ b1 ++ lists_below (λ r. total_lines lines (name_at names r) None b.ports (slice_index_or b.accounts.items r (account_of []))) (vec_len b.accounts)
    → b2 ≡ b0 ++ closing_in lines x
closing_is lines b names x left b0 b1 b2 at named is opened counted =
    let text = ap (findings_text lines names) (is ∙ open_is b x at) ∙ ap (λ names. findings_text lines names (all_open x.plan.setup x.events)) named in
    list_then b0 b1 b2 _ _ (opened ∙ ap (λ t. b0 ++ t) text) (counted ∙ ap (λ t. b1 ++ t) (totals_are lines b names x at named))

-- the audit of the plant is that of the scene
audit_is : {P : Type 0} {g : Ghosts P} (plant : Plant P g) (names : List (List ℕ)) (x : Scene) (audit : Audit) → ForHistory plant (λ h. audit ≡ audit_of h.setup h.events) → Names plant names x → audit ≡ audit_in x
audit_is plant names x audit told stands =
    told stands.history stands.stands ∙ ap (λ (s : Setup). audit_of s stands.history.events) stands.of_setup ∙ ap (λ ev. audit_of x.plan.setup ev) stands.of_events

pub end_is : {P : Type 0} {g : Ghosts P} (plant : Plant P g) (names : List (List ℕ)) (x : Scene) (lines b0 b2 b3 : List ℕ) (audit : Audit) → b2 ≡ b0 ++ closing_in lines x
    → b3 ≡ b2 ++ audit_text names audit → ForHistory plant (λ h. audit ≡ audit_of h.setup h.events) → Names plant names x → b3 ≡ b0 ++ (closing_in lines x ++ verdict_text (Some x))
end_is plant names x lines b0 b2 b3 audit closed ended told stands =
    list_then b0 b2 b3 _ _ closed (ended ∙ ap (λ a. b2 ++ audit_text names a) (audit_is plant names x audit told stands) ∙ ap (λ names. b2 ++ audit_text names (audit_in x)) stands.named)
