use Rattle.std.proofs.Common.{◌≡◌, Err, Some, length, refl, sym, ap, subst, ◌∙◌, rules}
use Rattle.pt_desk_store.specs.Store.{Goes, IsByRules}
use Rattle.pt_desk_rules.specs.State.{State, applied}
use Rattle.pt_tables_keeper.proofs.CommitLemmas.{commit_refused, commits_then, fits_after}
use Rattle.pt_tables_keeper.proofs.ReadLemmas.{goes_not}
use Rattle.pt_tables_keeper.proofs.RuleLemmas.{writable_by_rules}
use Rattle.pt_tables_keeper.specs.Keeper.{KeptTables, store_of}
use Rattle.pt_tables_keeper.specs.Writable.{IsWritable}
use Rattle.pt_tables_keeper.proofs.keeper.SqlKeeperKeeper.commit.Goals as goal

pub returns-in_err-rider_count-clause-commits : goal.returns-in_err-rider_count-clause-commits
returns-in_err-rider_count-clause-commits g c =
    let old = store_of g.S.Store c.args.self.now in
    let new = store_of g.S.Store c.rider_count_after.new.self in
    let made = applied c.args.change c.args.self.now.content in
    let e = c.in_err-rider_count.field-0.0 in
    let passed : c.from_residual-in_err-rider_count.result ≡ Err e = search rules in
    subst (λ r. Goes {X = Unit {0}} old new tt (Some made) r) (sym passed)
    (goes_not old new (length made.riders) tt (Some made) e c.in_err-rider_count.ensures.reads)

pub returns-clause-commits : goal.returns-clause-commits
returns-clause-commits g c =
    commits_then (store_of g.S.Store c.args.self.now) (store_of g.S.Store c.rider_count_after.new.self) (store_of g.S.Store c.make.new.self)
    c.in_ok-rider_count.rider_count (length (applied c.args.change c.args.self.now.content).riders) c.args.change c.make.result c.in_ok-rider_count.ensures.reads c.make.ensures.commits

pub make-requires-clause-writable : goal.make-requires-clause-writable
make-requires-clause-writable g c =
    let known : c.as_slice.result.now ≡ c.self.inside.known.content.vehicles = search rules in
    let is = c.is_writable.ensures.writable.0 c.if-not-is_writable.false in
    let same : c.self.inside.known.content.vehicles ≡ c.rider_count_after.new.self.content.vehicles =
    ap (λ (k : KeptTables _). k.content.vehicles) c.self.view_is ∙ ap (λ (s : State). s.vehicles) (sym c.in_ok-rider_count.ensures.content) in
    subst (λ vs. IsWritable vs c.args.change) (known ∙ same) is

pub returns-then-not-is_writable-clause-commits : goal.returns-then-not-is_writable-clause-commits
returns-then-not-is_writable-clause-commits g c =
    commit_refused (store_of g.S.Store c.args.self.now) _ (applied c.args.change c.args.self.now.content) (search rules) (search rules) (search rules) (search rules) (search rules)

pub returns-in_err-rider_count-clause-fits : goal.returns-in_err-rider_count-clause-fits
returns-in_err-rider_count-clause-fits g c clean is = (c.in_err-rider_count.ensures.reads.holds clean).fits refl

pub returns-clause-fits : goal.returns-clause-fits
returns-clause-fits g c =
    fits_after (store_of g.S.Store c.args.self.now) (store_of g.S.Store c.rider_count_after.new.self) (store_of g.S.Store c.make.new.self)
    (length (applied c.args.change c.args.self.now.content).riders) c.in_ok-rider_count.rider_count (IsByRules c.args.change) c.in_ok-rider_count.ensures.reads
    c.make.ensures.commits.clean c.make.ensures.unfit

pub returns-in_err-rider_count-clause-spares : goal.returns-in_err-rider_count-clause-spares
returns-in_err-rider_count-clause-spares g c may = c.in_err-rider_count.ensures.unfit

pub returns-in_err-rider_count-clause-keeps : goal.returns-in_err-rider_count-clause-keeps
returns-in_err-rider_count-clause-keeps g c some = c.in_err-rider_count.ensures.unfit

pub returns-in_err-rider_count-clause-marks : goal.returns-in_err-rider_count-clause-marks
returns-in_err-rider_count-clause-marks g c none never =
    let known : c.self.inside.known.content.vehicles ≡ c.as_slice.result.now = search rules in
    let same : c.args.self.now.content.vehicles ≡ c.self.inside.known.content.vehicles = sym (ap (λ (k : KeptTables _). k.content.vehicles) c.self.view_is) in
    let passes = c.is_writable.ensures.writable.0 c.if-not-is_writable.false in
    absurd (never (subst (λ vs. IsWritable vs c.args.change) (sym (same ∙ known)) passes))

pub returns-clause-spares : goal.returns-clause-spares
returns-clause-spares g c may = c.make.ensures.unfit ∙ c.in_ok-rider_count.ensures.unfit

pub returns-clause-keeps : goal.returns-clause-keeps
returns-clause-keeps g c some = c.make.ensures.unfit ∙ c.in_ok-rider_count.ensures.unfit

pub returns-clause-marks : goal.returns-clause-marks
returns-clause-marks g c none never =
    let known : c.self.inside.known.content.vehicles ≡ c.as_slice.result.now = search rules in
    let same : c.args.self.now.content.vehicles ≡ c.self.inside.known.content.vehicles = sym (ap (λ (k : KeptTables _). k.content.vehicles) c.self.view_is) in
    let passes = c.is_writable.ensures.writable.0 c.if-not-is_writable.false in
    absurd (never (subst (λ vs. IsWritable vs c.args.change) (sym (same ∙ known)) passes))

pub returns-then-not-is_writable-clause-spares : goal.returns-then-not-is_writable-clause-spares
returns-then-not-is_writable-clause-spares g c is =
    let known : c.self.inside.known.content.vehicles ≡ c.as_slice.result.now = search rules in
    let same : c.args.self.now.content.vehicles ≡ c.self.inside.known.content.vehicles = sym (ap (λ (k : KeptTables _). k.content.vehicles) c.self.view_is) in
    let may = subst (λ vs. IsWritable vs c.args.change) (same ∙ known) is in
    absurd (let passes = c.is_writable.ensures.writable.1 may in let fails = c.if-not-is_writable.true in cc)

pub returns-then-not-is_writable-clause-fits : goal.returns-then-not-is_writable-clause-fits
returns-then-not-is_writable-clause-fits g c clean is =
    let known : c.self.inside.known.content.vehicles ≡ c.as_slice.result.now = search rules in
    let same : c.args.self.now.content.vehicles ≡ c.self.inside.known.content.vehicles = sym (ap (λ (k : KeptTables _). k.content.vehicles) c.self.view_is) in
    let may = subst (λ vs. IsWritable vs c.args.change) (same ∙ known) (writable_by_rules c.args.change c.args.self.now.content is) in
    absurd (let passes = c.is_writable.ensures.writable.1 may in let fails = c.if-not-is_writable.true in cc)
