use Rattle.std.proofs.Common.{◌≡◌, Option, Some, None, option_and_then, ap, refl}
use Rattle.adya_terms.specs.declared.tables.Ended.{Ended}
use Rattle.std.specs.HashMap.{get}
use Rattle.adya_values.specs.Mirror.Numbers.{keys_of}
use Rattle.adya_keys.specs.Mirror.{number_in}
use Rattle.adya_terms.specs.Machinery.Telling.{numbered_eq, with_number}
use Rattle.adya_terms.proofs.Tells.{tell_none}
use Rattle.adya_terms.proofs.tables.Tables.new.Goals as goal

none_then : {X Y : Type 0} (f : X → Option Y) → ((x : X) → f x ≡ None) → (o : Option X) → option_and_then f o ≡ None
none_then f none None = refl
none_then f none (Some x) = none x

pub returns-clause-means : goal.returns-clause-means
returns-clause-means c =
    tell_none _ _ _ _ _ (λ t. ap (λ (e : Ended). e.committed) (c.in_ok-ended.ensures t)) (λ t. ap (λ (e : Ended). e.aborted) (c.in_ok-ended.ensures t))
    c.in_ok-writes.ensures.none (λ r. none_then (λ n. get numbered_eq c.new-3.result (with_number r n)) (λ n. rw c.new-3.ensures.empty refl) (number_in (keys_of c.in_ok-writes.writes.events.now) r.key))
