-- What came of the lines of a connection.
use Rattle.std.specs.Prelude.{Bool, true, false}
use Rattle.ssi_hub.specs.declared.outcome.Outcome.{Outcome}
use Rattle.ssi_hub.specs.declared.outcome.Outcome.TheVariants.{GoesOn, Stops, Lost}

-- whether the last step stopped the run
abbrev pub stops_by : Outcome → Bool
stops_by GoesOn = false
stops_by Stops = true
stops_by (Lost stops) = stops

-- whether its reply is lost
abbrev pub lost_by : Outcome → Bool
lost_by GoesOn = false
lost_by Stops = false
lost_by (Lost stops) = true
