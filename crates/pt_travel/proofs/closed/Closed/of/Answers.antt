use Rattle.std.proofs.Common.{◌≡◌, ℕ, length, subst, arith}
use Rattle.pt_travel.specs.Closure.{IsClosedOver}
use Rattle.pt_travel.specs.Places.{list_of}
use Rattle.pt_travel.proofs.ClosureLemmas.{closed-more, triangles-all, times-all}
use Rattle.pt_travel.proofs.closed.Closed.of.Goals as goal
use Rattle.pt_travel.proofs.closed.Closed.of.Goals.{After-loop-k}

pub loop-k-preserved : goal.loop-k-preserved
loop-k-preserved c =
    closed-more c.args.raw.now (list_of c.places-places.result) c.loop-k.k c.loop-k.lines.items
    c.shorten.new.lines.items (omega arith) (omega arith) c.loop-k.invariant c.shorten.ensures.size
    c.shorten.ensures.entries

closed-over : (c : After-loop-k)
    → IsClosedOver c.args.raw.now (list_of c.places-places.result) (length (list_of c.places-places.result))
    c.loop-k.lines.items
closed-over c =
    let end : c.loop-k.k ≡ length (list_of c.places-places.result) = omega arith in
    subst (λ (k : ℕ). IsClosedOver c.args.raw.now (list_of c.places-places.result) k c.loop-k.lines.items) end
    c.loop-k.invariant

pub invariant_of-result : goal.invariant_of-result
invariant_of-result c =
    let names = c.places-places.ensures in
    record {
      size = omega (arith, (closed-over c).size);
      triangles = triangles-all c.args.raw.now (list_of c.places-places.result) c.loop-k.lines.items names
          (closed-over c) (omega arith);
    }

pub returns : goal.returns
returns c = record {
  least = times-all c.args.raw.now (list_of c.places-places.result) c.loop-k.lines.items c.places-places.ensures
      (closed-over ((goal.at.returns c).After-loop-k)) (omega arith);
  memory = tt;
}
