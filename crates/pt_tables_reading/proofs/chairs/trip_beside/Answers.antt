use Rattle.std.proofs.Common.{◌≡◌, ◌∙◌, ℕ, [], ◌∷◌, length, refl, ap, arith}
use Rattle.pt_tables_rows.specs.Rows.{number_value}
use Rattle.pt_tables_reading.proofs.ReadingLemmas.{row-whole}
use Rattle.pt_tables_reading.proofs.chairs.trip_beside.Goals as goal

pub returns : goal.returns
returns c =
    let fits = c.requires.fits in
    let row = c.args.row.now in
    let size : length row ≡ 1 = omega arith in
    let same : c.args.trip.now.id ≡ c.in_ok-number_in.field-0 = let least = c.in_ok-number_in.ensures.1.0 in let most = c.in_ok-number_in.ensures.1.1 in omega arith in (
      refl,
      ap (λ r. r ∷ []) (ap (λ (n : ℕ). number_value n ∷ []) same ∙ ap (λ v. v ∷ []) c.in_ok-number_in.ensures.0 ∙ row-whole 1 row size),
      record {
        id = fits.id;
        rider = fits.rider;
        wish = fits.wish;
        vehicle = fits.vehicle;
        window_from = fits.window_from;
        window_to = fits.window_to;
      },
    )
