use Rattle.pt_app_commands.proofs.asking.ask.Goals as goal

-- the outcome is by the desk's reply
pub returns : goal.returns
returns g c = record
    { asked = (c.answer-reply.result, c.answer-reply.ensures.goes, c.print_reply.ensures.ends, c.print_reply.ensures.printed) }
