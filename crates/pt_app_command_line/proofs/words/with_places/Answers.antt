use Rattle.std.proofs.Common.{◌≡◌, ◌∙◌, ◌+◌, ◌<◌, ℕ, List, add-one, ap, drop, drop-cons, get_or, length, map, refl}
use Rattle.clap.specs.Words.{App, Text, with_rule}
use Rattle.pt_app_command_line.specs.CommandLine.{place, with_places}
use Rattle.pt_app_command_line.proofs.words.with_places.Goals as goal

-- the places from here on are this one and the rest
one_more : {X : Type 0} (name : X → Text) (app : App) (places : List X) (at : ℕ) (d : X) → at < length places
    → with_places (with_rule app (place (name (get_or places at d)))) (map name (drop (at + 1) places))
    ≡ with_places app (map name (drop at places))
one_more name app places at d before = rw (add-one, drop-cons places at d before) refl

pub loop-name-preserved : goal.loop-name-preserved
loop-name-preserved c =
    let rest = drop (c.loop-name.name-index + 1) c.args.places.now in
    record {
      app = ap (λ app. with_places app (map (λ place. place.0.now) rest)) c.in_ok-command.ensures.app
          ∙ one_more _ _ _ _ _ c.loop-name-test.true
          ∙ c.loop-name.invariant.app;
      local = λ none. c.in_ok-command.ensures.local (c.loop-name.invariant.local none);
    }
