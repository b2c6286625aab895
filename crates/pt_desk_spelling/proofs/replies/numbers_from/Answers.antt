use Rattle.pt_desk_spelling.proofs.ReplyLemmas.{six_numbers}
use Rattle.pt_desk_spelling.proofs.replies.numbers_from.Goals as goal

pub returns-clause-spelled : goal.returns-clause-spelled
returns-clause-spelled c = six_numbers c.args.bytes.now _ _ _ _ _ _ c.requires c.number_at.ensures
    c.number_at-2.ensures c.number_at-3.ensures c.number_at-4.ensures c.number_at-5.ensures c.number_at-6.ensures
