use Rattle.pt_connection_trials.proofs.clients.ClientConnection.answer_by.Goals as goal

pub returns-clause-answered : goal.returns-clause-answered
returns-clause-answered g c = rw c.replace-bytes.ensures.value at c.answer-writer.ensures.replied
