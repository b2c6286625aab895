use Rattle.std.specs.Io.KnownBytes.{Appends}
use Rattle.pt_audit.specs.Text.{closing}
use Rattle.pt_insertion_log.specs.Written.{WritesRightLog}
use Rattle.pt_insertion_log.proofs.WrittenLemmas.{log_written, on_ok}
use Rattle.pt_insertion_log.proofs.explaining.explain.Goals as goal

pub returns-clause-log : goal.returns-clause-log
returns-clause-log g c =
    let minutes = g.T.Times.minutes c.args.times.now in
    let contents = g.W.Write.contents in
    on_ok c.write_bytes-2.result (Appends (contents c.explain_day.new.out) (contents c.write_bytes-2.new.out) closing)
    (WritesRightLog minutes c.args.duties.now c.args.asked.now (contents c.args.out.now) (contents c.write_bytes-2.new.out))
    (λ last. log_written minutes c.args.duties.now c.args.asked.now (contents c.args.out.now) (contents c.write_bytes.new.out) (contents c.explain_day.new.out) (contents c.write_bytes-2.new.out)
    c.in_ok-write_bytes.ensures.bytes c.in_ok-explain_day.ensures.written last)
    c.write_bytes-2.ensures.bytes
