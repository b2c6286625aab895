-- Which entries a case file admits.
use Rattle.std.specs.Prelude.{ℕ, Bool, true, false, ◌&&◌, not, List, [], ◌∷◌, nat_le}
use Rattle.pt_base_values.specs.declared.policy.Policy.{Policy}
use Rattle.pt_base_values.specs.declared.rider.Rider.{Rider}
use Rattle.pt_base_values.specs.declared.rider.Residence.{Residence}
use Rattle.pt_base_values.specs.declared.rider.Residence.TheVariants.{Resident, Visitor}
use Rattle.pt_base_values.specs.declared.rule.Rule.{Rule}
use Rattle.pt_base_values.specs.declared.rule.Rule.TheVariants as rule
use Rattle.pt_rights_files.specs.declared.entry.Entry.{Entry}
use Rattle.pt_rights_files.specs.declared.entry.Entry.TheVariants as kind
use Rattle.pt_rights_files.specs.declared.entry.Entered.{Entered}
use Rattle.pt_rights_files.specs.declared.tally.Tally.{Tally}
use Rattle.pt_rights_files.specs.Appeals.{may_appeal, awaits_hearing, may_decide}
use Rattle.pt_rights_files.specs.Notices.{is_pattern, awaits_notice_hearing, may_suspend, is_term}
use Rattle.pt_rights_files.specs.Standing.{is_waiting}

-- the rider has a case file (37.127: visitors have none)
abbrev pub is_resident : Residence → Bool
is_resident Resident = true
is_resident Visitor = false

-- The rules of an entry of each kind, by an author on a day, each with whether it holds. They are tried in this order.
abbrev pub rules_of : List Entered → Entry → ℕ → ℕ → List Tally → Policy → List (Rule × Bool)
-- an application waits for its decision before the next one comes (37.125(c))
rules_of file kind.Complete today author tallies policy = (rule.Application, not (is_waiting file)) ∷ []
-- a decision answers an application (37.125(c)), and a grant's last day has not passed (37.125(e))
rules_of file (kind.Grant grant) today author tallies policy =
    (rule.Application, is_waiting file) ∷ (rule.LastDay, nat_le today grant.until) ∷ []
rules_of file (kind.Refuse reasons) today author tallies policy = (rule.Application, is_waiting file) ∷ []
-- an appeal comes in time, once, and one at a time (37.125(g))
rules_of file (kind.Appeal against) today author tallies policy = (rule.Appeal, may_appeal file today against) ∷ []
-- an appeal is heard once (37.125(g))
rules_of file kind.Heard today author tallies policy = (rule.Appeal, awaits_hearing file) ∷ []
-- the appeal is decided by somebody other than the author of the disputed entry (37.125(g))
rules_of file (kind.AppealGranted grant) today author tallies policy =
    (rule.Appeal, may_decide file (kind.AppealGranted grant) author) ∷ (rule.LastDay, nat_le today grant.until) ∷ []
rules_of file (kind.AppealDenied reasons) today author tallies policy =
    (rule.Appeal, may_decide file (kind.AppealDenied reasons) author) ∷ []
rules_of file kind.Overturn today author tallies policy = (rule.Appeal, may_decide file kind.Overturn author) ∷ []
-- the rider has missed trips in a pattern (37.125(h))
rules_of file (kind.Notice basis) today author tallies policy = (rule.Suspension, is_pattern tallies policy today) ∷ []
-- the rider is heard on a notice, and suspended only then (37.125(h))
rules_of file kind.NoticeHeard today author tallies policy = (rule.Suspension, awaits_notice_hearing file) ∷ []
rules_of file (kind.Suspend starts ends reasons) today author tallies policy =
    (rule.Suspension, may_suspend file && is_term today starts ends) ∷ []

-- the rules that a rider's entry has to meet, in order
abbrev pub admission_rules : List Entered → Rider → Entry → ℕ → ℕ → List Tally → Policy → List (Rule × Bool)
admission_rules file rider entry today author tallies policy =
    (rule.Residents, is_resident rider.kind) ∷ rules_of file entry today author tallies policy
