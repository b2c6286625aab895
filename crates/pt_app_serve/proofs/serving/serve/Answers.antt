use Rattle.std.proofs.Common.{◌≡◌, ◌∙◌, ◌+◌, ℕ, List, [], ◌∷◌, Err, IfErr, Option, ap, arith, inl, inr, is_some, length, refl, subst, suc, sym}
use Rattle.pt_base_values.specs.Fault.{fault}
use Rattle.pt_base_values.specs.declared.fault.Fault.{Fault}
use Rattle.pt_base_values.specs.declared.fault.Cause.TheVariants as cause
use Rattle.pt_base_clock.specs.LocalTime.{IsZoneRule}
use Rattle.pt_http_exchange.proofs.AnsweringLemmas.{goes_further, goes_nowhere, handed}
use Rattle.pt_app_serve.proofs.ServingLemmas.{broken_off, count_of, fits_still, goes_on_clean, has_served_all, same_progress, so_of_error}
use Rattle.pt_app_serve.specs.Serving.{EndsServing, Progress, ServesATurn, ServesInTurn, Turn, failures_in, progress_of}
use Rattle.pt_app_serve.proofs.serving.serve.Goals as goal

pub loop-connection-init : goal.loop-connection-init
loop-connection-init g c = record {
  goes = goes_nowhere (g.K.Keeper.store c.args.keeper.now);
  fits = inl refl;
  few = omega arith;
  served = λ clean. ([], [], refl, refl, refl);
}

pub overflow_add-failed : goal.overflow_add-failed
overflow_add-failed g c =
    let before = c.loop-connection.invariant in
    let comes = g.A.Accepts.comes in
    let next = c.in-Some.ensures.next in
    let fits = fits_still (length (comes c.loop-connection.port)) (length (comes c.args.port.now)) before.fits
    c.in-Some.ensures.fits in
    let more : length (comes c.loop-connection.port) ≡ suc (length (comes c.accept.new.self)) = ap length next.1 in
    omega (arith, before.few, fits, more)

pub loop-connection-preserved-in-Some-2 : goal.loop-connection-preserved-in-Some-2
loop-connection-preserved-in-Some-2 g c =
    let store = g.K.Keeper.store in
    let comes = g.A.Accepts.comes in
    let replied = g.A.Accepts.replied in
    let ending = g.A.Accepts.ending in
    let shows = g.A.Stream.Connection.shows in
    let fails = g.A.Stream.Connection.fails in
    let before = c.loop-connection.invariant in
    let taken = c.in-Some.ensures.next in
    let next : Option Fault = c.in_ok-fault.field-0 in
    let counts : count_of (is_some next) ≡ 1 = ap (λ (o : Option Fault). count_of (is_some o)) c.in-Some-2.is in
    let one : comes c.loop-connection.port ≡ taken.0 ∷ comes c.serve_next.new.port =
    taken.1 ∙ ap (λ (it : List _). taken.0 ∷ it) (sym c.serve_next.ensures.others) in
    let more : length (comes c.loop-connection.port) ≡ suc (length (comes c.serve_next.new.port)) = ap length one in
    record {
      goes = goes_further (store c.args.keeper.now) (store c.loop-connection.keeper) (store c.serve_next.new.keeper)
          before.goes c.serve_next.ensures.goes;
      fits = inr (fits_still (length (comes c.loop-connection.port)) (length (comes c.args.port.now)) before.fits
          c.in-Some.ensures.fits);
      few = omega (arith, before.few, more);
      served = goes_on_clean shows fails c.args.zone.now (comes c.args.port.now) (comes c.loop-connection.port)
          (comes c.serve_next.new.port) taken.0 c.loop-connection.failed (c.loop-connection.failed + 1) next
          (store c.loop-connection.keeper) (store c.serve_next.new.keeper)
          (progress_of (store c.args.keeper.now) (replied c.args.port.now) (ending c.args.port.now))
          (progress_of (store c.loop-connection.keeper) (replied c.loop-connection.port) (ending c.loop-connection.port))
          (progress_of (store c.serve_next.new.keeper) (replied c.serve_next.new.port) (ending c.serve_next.new.port))
          before.served
          c.serve_next.ensures.goes.clean one (omega (arith, counts))
          (λ clean. subst (λ (it : Progress). ServesATurn shows fails c.args.zone.now taken.0 next it
          (progress_of (store c.serve_next.new.keeper) (replied c.serve_next.new.port) (ending c.serve_next.new.port)))
          (sym (same_progress (store c.loop-connection.keeper) (store c.loop-connection.keeper)
          (replied c.loop-connection.port) (replied c.accept.new.self) (ending c.loop-connection.port)
          (ending c.accept.new.self) refl (c.in-Some.ensures.kept refl)))
          (c.in_ok-fault.ensures.turn clean taken.0 taken.2));
    }

pub loop-connection-preserved : goal.loop-connection-preserved
loop-connection-preserved g c =
    let store = g.K.Keeper.store in
    let comes = g.A.Accepts.comes in
    let replied = g.A.Accepts.replied in
    let ending = g.A.Accepts.ending in
    let shows = g.A.Stream.Connection.shows in
    let fails = g.A.Stream.Connection.fails in
    let before = c.loop-connection.invariant in
    let taken = c.in-Some.ensures.next in
    let next : Option Fault = c.in_ok-fault.field-0 in
    let counts : count_of (is_some next) ≡ 0 = ap (λ (o : Option Fault). count_of (is_some o)) c.in_default-2.is in
    let one : comes c.loop-connection.port ≡ taken.0 ∷ comes c.serve_next.new.port =
    taken.1 ∙ ap (λ (it : List _). taken.0 ∷ it) (sym c.serve_next.ensures.others) in
    let more : length (comes c.loop-connection.port) ≡ suc (length (comes c.serve_next.new.port)) = ap length one in
    record {
      goes = goes_further (store c.args.keeper.now) (store c.loop-connection.keeper) (store c.serve_next.new.keeper)
          before.goes c.serve_next.ensures.goes;
      fits = inr (fits_still (length (comes c.loop-connection.port)) (length (comes c.args.port.now)) before.fits
          c.in-Some.ensures.fits);
      few = omega (arith, before.few, more);
      served = goes_on_clean shows fails c.args.zone.now (comes c.args.port.now) (comes c.loop-connection.port)
          (comes c.serve_next.new.port) taken.0 c.loop-connection.failed c.loop-connection.failed next
          (store c.loop-connection.keeper) (store c.serve_next.new.keeper)
          (progress_of (store c.args.keeper.now) (replied c.args.port.now) (ending c.args.port.now))
          (progress_of (store c.loop-connection.keeper) (replied c.loop-connection.port) (ending c.loop-connection.port))
          (progress_of (store c.serve_next.new.keeper) (replied c.serve_next.new.port) (ending c.serve_next.new.port))
          before.served
          c.serve_next.ensures.goes.clean one (omega (arith, counts))
          (λ clean. subst (λ (it : Progress). ServesATurn shows fails c.args.zone.now taken.0 next it
          (progress_of (store c.serve_next.new.keeper) (replied c.serve_next.new.port) (ending c.serve_next.new.port)))
          (sym (same_progress (store c.loop-connection.keeper) (store c.loop-connection.keeper)
          (replied c.loop-connection.port) (replied c.accept.new.self) (ending c.loop-connection.port)
          (ending c.accept.new.self) refl (c.in-Some.ensures.kept refl)))
          (c.in_ok-fault.ensures.turn clean taken.0 taken.2));
    }

pub returns-in_err-fault-clause-goes : goal.returns-in_err-fault-clause-goes
returns-in_err-fault-clause-goes g c =
    goes_further (g.K.Keeper.store c.args.keeper.now) (g.K.Keeper.store c.loop-connection.keeper)
    (g.K.Keeper.store c.serve_next.new.keeper) c.loop-connection.invariant.goes c.serve_next.ensures.goes

pub returns-in_err-fault-clause-fault : goal.returns-in_err-fault-clause-fault
returns-in_err-fault-clause-fault g c =
    handed (λ result. IfErr result EndsServing) c.in_err-fault.field-0.0 c.from_residual.result c.from_residual.ensures.1
    c.in_err-fault.ensures.ends.error

pub returns-in_err-fault-clause-zone : goal.returns-in_err-fault-clause-zone
returns-in_err-fault-clause-zone g c =
    let error = c.in_err-fault.field-0.0 in
    handed (λ result. result ≡ Err (fault cause.NoSuchZone) → ¬ (IsZoneRule c.args.zone.now)) error c.from_residual.result c.from_residual.ensures.1
    (λ is. (let unruled : error ≡ fault cause.NoSuchZone = cc in c.in_err-fault.ensures.ends.no_rule (ap Err unruled)))

pub returns-in_err-fault-clause-broken_off : goal.returns-in_err-fault-clause-broken_off
returns-in_err-fault-clause-broken_off g c = λ clean.
    let store = g.K.Keeper.store in
    let comes = g.A.Accepts.comes in
    let replied = g.A.Accepts.replied in
    let ending = g.A.Accepts.ending in
    let shows = g.A.Stream.Connection.shows in
    let fails = g.A.Stream.Connection.fails in
    let taken = c.in-Some.ensures.next in
    let same = c.in_err-fault.ensures.ends.ended in
    let one : comes c.loop-connection.port ≡ taken.0 ∷ comes c.serve_next.new.port =
    taken.1 ∙ ap (λ (it : List _). taken.0 ∷ it) (sym c.serve_next.ensures.others) in
    let was_clean : (store c.loop-connection.keeper).doubt ≡ 0 =
    ap (λ keeper. (store keeper).doubt) (sym same.0) ∙ clean in
    let kept = c.in-Some.ensures.kept refl in
    let still = same_progress (store c.loop-connection.keeper) (store c.serve_next.new.keeper)
    (replied c.loop-connection.port) (replied c.serve_next.new.port) (ending c.loop-connection.port)
    (ending c.serve_next.new.port) (ap store same.0)
    (ap replied same.1 ∙ kept.0, ap ending same.1 ∙ kept.1) in
    let old = progress_of (store c.args.keeper.now) (replied c.args.port.now) (ending c.args.port.now) in
    let has = broken_off shows fails c.args.zone.now (comes c.args.port.now) (comes c.loop-connection.port)
    (comes c.serve_next.new.port) taken.0 c.loop-connection.failed old
    (progress_of (store c.loop-connection.keeper) (replied c.loop-connection.port) (ending c.loop-connection.port))
    (c.loop-connection.invariant.served was_clean) one in
    so_of_error c.from_residual.result _ (
      has.0,
      has.1,
      has.2,
      has.3,
      subst (λ (it : Progress). ServesInTurn shows fails c.args.zone.now has.0 has.2 old it) still has.4,
    )

pub returns-clause-served : goal.returns-clause-served
returns-clause-served g c = λ clean.
    let store = g.K.Keeper.store in
    let comes = g.A.Accepts.comes in
    let replied = g.A.Accepts.replied in
    let ending = g.A.Accepts.ending in
    let shows = g.A.Stream.Connection.shows in
    let fails = g.A.Stream.Connection.fails in
    let same = sym (c.in_default.ensures.same refl) in
    let old = progress_of (store c.args.keeper.now) (replied c.args.port.now) (ending c.args.port.now) in
    subst (λ (it : Progress). (turns : List Turn) × (failures_in turns ≡ c.loop-connection.failed)
    × ServesInTurn shows fails c.args.zone.now (comes c.args.port.now) turns old it)
    (ap (λ port. progress_of (store c.loop-connection.keeper) (replied port) (ending port)) same)
    (has_served_all shows fails c.args.zone.now (comes c.args.port.now) (comes c.loop-connection.port)
    c.loop-connection.failed old
    (progress_of (store c.loop-connection.keeper) (replied c.loop-connection.port) (ending c.loop-connection.port))
    (c.loop-connection.invariant.served clean) (c.in_default.ensures.none.0 refl))
