use Rattle.std.proofs.Common.{◌≡◌, ◌∙◌, sym, rules}
use Rattle.pt_desk_spelling.specs.Requests.{spelling}
use Rattle.pt_desk_spelling.proofs.RequestLemmas.{spelling-injective}
use Rattle.pt_desk_spelling.proofs.requests.spell.Goals as goal

pub returns-clause-only : goal.returns-clause-only
returns-clause-only c = λ other fits same.
    let spelled : c.push_fields.new.out.items ≡ spelling c.args.asked.now = search rules in
    spelling-injective other c.args.asked.now fits c.in_ok-push_fields.ensures.ranges (sym same ∙ c.of.ensures.value ∙ spelled)
