use Rattle.std.proofs.Common.{length, ap, ◌∙◌}
use Rattle.std.proofs.lemmas.List.Elements.{filter_agree}
use Rattle.std.specs.List.{filter}
use Rattle.ssi_conflict.specs.Meaning.Calls.{begun, is_open as open_told}
use Rattle.ssi_store.specs.Meaning.Acts.{is_open}
use Rattle.ssi_store.specs.Meaning.Tracked.{tracked}
use Rattle.ssi_store.proofs.TrackedCalls.{begun_are, is_open_told}
use Rattle.ssi_store.proofs.laws.open_are_counted.Goals as goal

pub returns : goal.returns
returns c log = ap length
    (filter_agree (λ t. open_told t (tracked log)) (λ t. is_open t log) (λ t. is_open_told t log) (begun (tracked log))
    ∙ ap (filter (λ t. is_open t log)) (begun_are log))
