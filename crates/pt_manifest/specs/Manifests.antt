-- The texts for drivers. Every line ends with a newline.
use Rattle.std.specs.Prelude.{ℕ, ◌/◌, ◌%◌, ◌==◌, if◌then◌else◌, List, [], ◌++◌, Option, None, Some, codes, decimal}
use Rattle.std.specs.List.{flat_map}
use Rattle.jiff_fmt.specs.Text.{pad2}
use Rattle.pt_base_values.specs.declared.load.Load.{Load}
use Rattle.pt_base_values.specs.declared.window.Window.{Window}
use Rattle.pt_desk_requests.specs.declared.sheets.DaySheet.{DaySheet}
use Rattle.pt_desk_requests.specs.declared.sheets.Tour.{Tour}
use Rattle.pt_desk_requests.specs.declared.sheets.TourStop.{TourStop}
use Rattle.pt_desk_requests.specs.declared.sheets.VehicleSheet.{VehicleSheet}
use Rattle.pt_manifest.specs.Days.{day_text}

-- a minute of the day as `HH:MM`, two digits each
abbrev pub minute_text : ℕ → List ℕ
minute_text minute = pad2 (minute / 60) ++ codes ":" ++ pad2 (minute % 60)

-- a pickup has a promised window, a drop has none
abbrev pub stop_word : Option Window → List ℕ
stop_word (Some window) = codes " PICK"
stop_word None = codes " DROP"

abbrev pub window_text : Option Window → List ℕ
window_text (Some window) = codes " window " ++ minute_text window.from ++ codes "-" ++ minute_text window.to
window_text None = []

-- the load aboard: the number on seats and, if the vehicle has wheelchair places, the number on these
abbrev pub load_text : ℕ → Load → List ℕ
load_text chairs load =
    codes " load " ++ decimal load.seats ++ (if chairs == 0 then [] else codes " chairs " ++ decimal load.chairs)

-- a stop of a vehicle with this number of wheelchair places, with the load aboard afterwards
abbrev pub stop_line : ℕ → TourStop → List ℕ
stop_line chairs stop =
    minute_text stop.minute ++ stop_word stop.window
    ++ codes " trip " ++ decimal stop.trip ++ codes " rider " ++ decimal stop.rider
    ++ codes " place " ++ decimal stop.place ++ load_text chairs stop.aboard
    ++ window_text stop.window ++ codes "\n"

-- the depot, with the minute when the vehicle leaves it or is back
abbrev pub depot_line : ℕ → ℕ → List ℕ
depot_line minute depot = minute_text minute ++ codes " DEPOT " ++ decimal depot ++ codes "\n"

-- a tour from the depot and back, or the line for no tour
abbrev pub tour_text : Option Tour → List ℕ
tour_text None = codes "NO STOPS\n"
tour_text (Some tour) =
    depot_line tour.leaves tour.depot ++ flat_map (stop_line tour.chairs) tour.stops.items
    ++ depot_line tour.returns tour.depot

-- the manifest of a vehicle on a day
abbrev pub manifest_text : ℕ → VehicleSheet → List ℕ
manifest_text day sheet =
    codes "VEHICLE " ++ decimal sheet.vehicle ++ codes " DAY " ++ day_text day ++ codes "\n" ++ tour_text sheet.tour

-- the manifests of the vehicles, one after the other, and the number of trips
abbrev pub day_sheet_text : DaySheet → List ℕ
day_sheet_text sheet =
    flat_map (manifest_text sheet.day) sheet.vehicles.items ++ codes "TRIPS " ++ decimal sheet.trips ++ codes "\n"
